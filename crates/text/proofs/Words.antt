-- The words of a list of rings make a line for each.
use Rattle.std.proofs.Common.{◌≡◌, refl, sym, ◌∙◌, ap, List, [], ◌∷◌, ◌++◌, append_assoc, append-nil, ℕ, suc, ◌<◌, arith, ne_eqb, length}
use mathlib.Core.List.Memᴰ
use Rattle.graph.specs.Lists.{◌∈◌, gather}
use Rattle.page.specs.Numbers.{number}
use Rattle.text.specs.Lines.{space, newline, ring_name, ring_text, left_after, end_text, word_text, words_text}

-- a word in a ring of which m more atoms are to come after it
after_word : (m w : ℕ) → left_after (suc m) w ≡ m
unfolding left_after
after_word m w = let z : suc m ≡ 0 → ⊥ = omega arith in rw (ne_eqb (suc m) 0 z) (omega arith)

no_end : (m : ℕ) → end_text (suc m) ≡ []
unfolding end_text
no_end m = let z : suc m ≡ 0 → ⊥ = omega arith in rw (ne_eqb (suc m) 0 z) refl

in_ring : (m w : ℕ) → word_text (suc m) w ≡ (space ++ number w) ++ end_text m
unfolding word_text
in_ring m w = let z : suc m ≡ 0 → ⊥ = omega arith in rw (ne_eqb (suc m) 0 z, after_word m w) refl

-- the atoms of a ring, and the end of its line
atoms_text : (a : ℕ) (r ws : List ℕ) → words_text (suc (length r)) (a ∷ (r ++ ws)) ≡ gather (λ b. space ++ number b) (a ∷ r) ++ (newline ++ words_text 0 ws)
unfolding words_text end_text
atoms_text a [] ws =
    ap (λ (x : List ℕ). x ++ words_text (left_after 1 a) ws) (in_ring 0 a)
    ∙ ap (λ (m : ℕ). ((space ++ number a) ++ newline) ++ words_text m ws) (after_word 0 a)
    ∙ append_assoc (space ++ number a) newline (words_text 0 ws)
    ∙ ap (λ (x : List ℕ). x ++ (newline ++ words_text 0 ws)) (sym (append-nil (space ++ number a)))
atoms_text a (b ∷ r) ws =
    ap (λ (x : List ℕ). x ++ words_text (left_after (suc (suc (length r))) a) (b ∷ (r ++ ws))) (in_ring (suc (length r)) a ∙ ap (λ (e : List ℕ). (space ++ number a) ++ e) (no_end (length r)) ∙ append-nil (space ++ number a))
    ∙ ap (λ (m : ℕ). (space ++ number a) ++ words_text m (b ∷ (r ++ ws))) (after_word (suc (length r)) a)
    ∙ ap (λ (x : List ℕ). (space ++ number a) ++ x) (atoms_text b r ws)
    ∙ sym (append_assoc (space ++ number a) (gather (λ b. space ++ number b) (b ∷ r)) (newline ++ words_text 0 ws))

ring_line : (r ws : List ℕ) → 0 < length r → words_text 0 (length r ∷ (r ++ ws)) ≡ ring_text r ++ words_text 0 ws
unfolding words_text word_text ring_text left_after
ring_line [] ws h = absurd (omega arith)
ring_line (a ∷ r) ws h =
    ap (λ (x : List ℕ). x ++ words_text (suc (length r)) (a ∷ (r ++ ws))) (ap (λ (e : List ℕ). (ring_name ++ number (suc (length r))) ++ e) (no_end (length r)) ∙ append-nil (ring_name ++ number (suc (length r))))
    ∙ ap (λ (x : List ℕ). (ring_name ++ number (suc (length r))) ++ x) (atoms_text a r ws ∙ sym (append_assoc (gather (λ b. space ++ number b) (a ∷ r)) newline (words_text 0 ws)))
    ∙ sym (append_assoc (ring_name ++ number (suc (length r))) (gather (λ b. space ++ number b) (a ∷ r) ++ newline) (words_text 0 ws))

-- the words of a list of rings: a line for each
pub rings_text_lem : (xs : List (List ℕ)) → ((r : List ℕ) → r ∈ xs → 0 < length r) → words_text 0 (gather (λ r. length r ∷ r) xs) ≡ gather ring_text xs
unfolding words_text
rings_text_lem [] some = refl
rings_text_lem (r ∷ xs) some =
    ring_line r (gather (λ r. length r ∷ r) xs) (some r (Memᴰ.head refl))
    ∙ ap (λ (x : List ℕ). ring_text r ++ x) (rings_text_lem xs (λ s m. some s (Memᴰ.tail m)))
