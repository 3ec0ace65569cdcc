-- What noting many rings comes to, in closed form.
use Rattle.std.proofs.Common.{◌≡◌, refl, sym, ap, ◌∙◌, subst, Bool, true, false, true≢false, List, [], ◌∷◌, ◌++◌, ℕ, suc, ◌+◌, ◌<◌, ◌≤◌, zero-le, add-zero, zero-add, le_refl, le_trans, arith, length, set, length-append, ltb, ltb-true, ltb-false}
use Rattle.std.proofs.Math.Seq.{sets, length-sets}
use Rattle.census.specs.Census.{encode_by}
use Rattle.notes.specs.Noting.{State, state, note, wrote, note_all, none}
use Rattle.notes.specs.declared.Found.{Found}
use Rattle.notes.proofs.Notes.{note_fits}

-- what noting one ring, told by the words w, does to the count: a case for each of its three tests
data Noted (w : List ℕ) (a : ℕ) (s s' : State) : Type 0 where
  was_over : s.found.over ≡ true → s' ≡ s → Noted w a s s'
  counted : s.found.over ≡ false → s.found.rings < a → s'.found.over ≡ false → s'.found.rings ≡ s.found.rings + 1 → s'.found.at ≡ s.found.at + (length w + 1) → Noted w a s s'
  full : s.found.over ≡ false → a ≤ s.found.rings → s'.found.over ≡ true → s'.found.rings ≡ s.found.rings → Noted w a s s'

pub sets_append : (l : List ℕ) (at : ℕ) (xs ys : List ℕ) → sets l at (xs ++ ys) ≡ sets (sets l at xs) (at + length xs) ys
sets_append l at [] ys = rw add-zero
sets_append l at (x ∷ xs) ys =
    let e : at + suc (length xs) ≡ suc at + length xs = omega arith in
    rw e (sets_append (set l at x) (suc at) xs ys)

-- over any form of network
module _ {Ring : Type 0} (size : Ring → ℕ) (told : Ring → List ℕ) where
  noted : (a : ℕ) (x : Ring) (s : State) → Noted (told x) a s (note size told a x s)
  unfolding note wrote
  noted a x s = go s.found.over (ltb s.found.rings a) refl refl
    where
      go : (b₁ b₂ : Bool) → s.found.over ≡ b₁ → ltb s.found.rings a ≡ b₂ → Noted (told x) a s (note size told a x s)
      go true b₂ e₁ e₂ = was_over e₁ (rw e₁)
      go false true e₁ e₂ = counted e₁ (ltb-true _ _ e₂) (rw (e₁, e₂)) (rw (e₁, e₂)) (rw (e₁, e₂))
      go false false e₁ e₂ = full e₁ (ltb-false _ _ e₂) (rw (e₁, e₂)) (rw (e₁, e₂))

  -- the count only grows
  pub rings_mono : (a : ℕ) (xs : List Ring) (s : State) → s.found.rings ≤ (note_all size told a xs s).found.rings
  unfolding note_all
  rings_mono a [] s = le_refl _
  rings_mono a (x ∷ xs) s = le_trans (one (noted a x s)) (rings_mono a xs (note size told a x s))
    where
      one : {s' : State} → Noted (told x) a s s' → s.found.rings ≤ s'.found.rings
      one (was_over h e) = rw e (le_refl _)
      one (counted o l o' e w) = omega arith
      one (full o l o' e) = omega arith

  -- and stays within the allowance
  pub rings_within_lem : (a : ℕ) (xs : List Ring) (s : State) → s.found.rings ≤ a → (note_all size told a xs s).found.rings ≤ a
  unfolding note_all
  rings_within_lem a [] s h = h
  rings_within_lem a (x ∷ xs) s h = rings_within_lem a xs (note size told a x s) (one (noted a x s))
    where
      one : {s' : State} → Noted (told x) a s s' → s'.found.rings ≤ a
      one (was_over q e) = rw e h
      one (counted o l o' e w) = omega arith
      one (full o l o' e) = omega arith

  -- a search that did not go over had not gone over before
  pub over_back : (a : ℕ) (xs : List Ring) (s : State) → (note_all size told a xs s).found.over ≡ false → s.found.over ≡ false
  unfolding note_all
  over_back a [] s h = h
  over_back a (x ∷ xs) s h = one (noted a x s) (over_back a xs (note size told a x s) h)
    where
      one : {s' : State} → Noted (told x) a s s' → s'.found.over ≡ false → s.found.over ≡ false
      one (was_over q e) h' = subst (λ (z : State). z.found.over ≡ false) e h'
      one (counted o l o' e w) h' = o
      one (full o l o' e) h' = o

  -- and has counted every ring
  pub count : (a : ℕ) (xs : List Ring) (s : State) → (note_all size told a xs s).found.over ≡ false → (note_all size told a xs s).found.rings ≡ s.found.rings + length xs
  unfolding note_all
  count a [] s h = sym (add-zero _)
  count a (x ∷ xs) s h =
      let o = over_back a xs (note size told a x s) h in
      count a xs (note size told a x s) h ∙ one (noted a x s) o
    where
      one : {s' : State} → Noted (told x) a s s' → s'.found.over ≡ false → s'.found.rings + length xs ≡ s.found.rings + suc (length xs)
      one (was_over q e) h' = absurd (true≢false (sym q ∙ subst (λ (z : State). z.found.over ≡ false) e h'))
      one (counted o l o' e w) h' = omega arith
      one (full o l o' e) h' = absurd (true≢false (sym o' ∙ h'))

  -- and the words that they take
  pub words : (a : ℕ) (xs : List Ring) (s : State) → (note_all size told a xs s).found.over ≡ false → (note_all size told a xs s).found.at ≡ s.found.at + length (encode_by size told xs)
  unfolding note_all encode_by
  words a [] s h = sym (add-zero _)
  words a (x ∷ xs) s h = words a xs (note size told a x s) h ∙ one (noted a x s) (over_back a xs (note size told a x s) h)
    where
      one : {s' : State} → Noted (told x) a s s' → s'.found.over ≡ false → s'.found.at + length (encode_by size told xs) ≡ s.found.at + suc (length (told x ++ encode_by size told xs))
      one (was_over q e) h' = absurd (true≢false (sym q ∙ subst (λ (z : State). z.found.over ≡ false) e h'))
      one (counted o l o' e w) h' = omega (arith, length-append (told x) (encode_by size told xs))
      one (full o l o' e) h' = absurd (true≢false (sym o' ∙ h'))

  -- a search goes over exactly where there are more rings than the allowance
  pub within_allowance : (a : ℕ) (xs : List Ring) (s : State) → s.found.over ≡ false → s.found.rings + length xs ≤ a → (note_all size told a xs s).found.over ≡ false
  unfolding note_all
  within_allowance a [] s o h = o
  within_allowance a (x ∷ xs) s o h =
      let r = one (noted a x s) in within_allowance a xs (note size told a x s) r.0 r.1
    where
      one : {s' : State} → Noted (told x) a s s' → (s'.found.over ≡ false) × (s'.found.rings + length xs ≤ a)
      one (was_over q e) = absurd (true≢false (sym q ∙ o))
      one (counted o₁ l o' e w) = (o', omega arith)
      one (full o₁ l o' e) = absurd (omega arith)

  -- a list with room holds the rings one after another
  pub listed : (a : ℕ) (xs : List Ring) (f : Found) (l : List ℕ) → f.over ≡ false → f.rings + length xs ≤ a → f.at + length (encode_by size told xs) ≤ length l
      → note_all size told a xs (state f l) ≡ state (record { rings = f.rings + length xs; at = f.at + length (encode_by size told xs); over = false }) (sets l f.at (encode_by size told xs))
  unfolding note_all encode_by
  listed a [] f l o h room = rw (add-zero, add-zero, ← o)
  listed a (x ∷ xs) f l o h room =
      let f' : Found = record { rings = f.rings + 1; at = f.at + (length (told x) + 1); over = false } in
      let l' : List ℕ = sets l f.at (size x ∷ told x) in
      let e = length-append (told x) (encode_by size told xs) in
      let el : length l' ≡ length l = length-sets l f.at (size x ∷ told x) in
      let e₁ : f.rings + 1 + length xs ≡ f.rings + suc (length xs) = omega arith in
      let e₂ : f.at + (length (told x) + 1) + length (encode_by size told xs) ≡ f.at + suc (length (told x ++ encode_by size told xs)) = omega arith in
      let e₃ : suc f.at + length (told x) ≡ f.at + (length (told x) + 1) = omega arith in
      rw (← note_fits size told a x f l o (omega arith) (omega arith))
      (listed a xs f' l' refl (omega arith) (omega arith)
      ∙ rw (e₁, e₂, sets_append (set l f.at (size x)) (suc f.at) (told x) (encode_by size told xs), e₃))

  pub rings_grew : (a : ℕ) (xs : List Ring) (s s' : State) → s' ≡ note_all size told a xs s → s.found.rings ≤ s'.found.rings
  rings_grew a xs s s' e = rw e (rings_mono a xs s)

-- from nothing

module _ {Ring : Type 0} (size : Ring → ℕ) (told : Ring → List ℕ) (a : ℕ) (xs : List Ring) (l : List ℕ) (r : Found) (l' : List ℕ) (e : state r l' ≡ note_all size told a xs (state none l)) where
  -- more rings than the allowance
  pub too_many : r.over ≡ true → a < length xs
  too_many o = go (ltb a (length xs)) refl
    where
      go : (b : Bool) → ltb a (length xs) ≡ b → a < length xs
      go true q = ltb-true _ _ q
      go false q = absurd (true≢false (sym o ∙ ap (λ (s : State). s.found.over) e ∙ within_allowance size told a xs (state none l) refl (let h : length xs ≤ a = ltb-false _ _ q in omega arith)))

  pub total : r.over ≡ false → r.rings ≡ length xs
  total o = ap (λ (s : State). s.found.rings) e ∙ count size told a xs (state none l) (sym (ap (λ (s : State). s.found.over) e) ∙ o) ∙ zero-add _

  pub needed : r.over ≡ false → r.at ≡ length (encode_by size told xs)
  needed o = ap (λ (s : State). s.found.at) e ∙ words size told a xs (state none l) (sym (ap (λ (s : State). s.found.over) e) ∙ o) ∙ zero-add _

  pub not_many : r.over ≡ false → length xs ≤ a
  not_many o = let q = total o in let w : r.rings ≤ a = subst (λ (s : State). s.found.rings ≤ a) (sym e) (rings_within_lem size told a xs (state none l) zero-le) in omega arith

  pub holds : length xs ≤ a → length (encode_by size told xs) ≤ length l → (r.over ≡ false) × (l' ≡ sets l 0 (encode_by size told xs))
  holds h room =
      let q = e ∙ listed size told a xs none l refl (omega arith) (omega arith) in
      (ap (λ (s : State). s.found.over) q, ap (λ (s : State). s.words) q)
