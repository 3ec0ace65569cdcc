-- Writing on a page: one text after another, and what stands there in the end.
use Rattle.std.proofs.Common.{◌≡◌, refl, ◌∙◌, ap, ap₂, ℕ, suc, ◌+◌, ◌≤◌, ◌<◌, List, [], ◌∷◌, ◌++◌, length, drop, set, Some, None, arith, add-one, length-set, lt-ltb, le-ltb}
use Rattle.std.proofs.lemmas.List.Edits.{sets, sets-eq}
use native.Mathlib.Decide.{dec_le}
use Rattle.page.specs.declared.Page.{Page}
use Rattle.page.specs.Page.{Sheet, page, first_pen, put, put_all, sheet, Puts}

put_room : (b at : ℕ) (l : List ℕ) → at < length l → put b (page (Some at) l) ≡ page (Some (at + 1)) (set l at b)
unfolding put
put_room b at l h = rw (lt-ltb _ _ h) refl

put_none : (b at : ℕ) (l : List ℕ) → length l ≤ at → put b (page (Some at) l) ≡ page None l
unfolding put
put_none b at l h = rw (le-ltb _ _ h) refl

put_over : (b : ℕ) (l : List ℕ) → put b (page None l) ≡ page None l
unfolding put
put_over b l = refl

put_all_join : (xs ys : List ℕ) (s : Sheet) → put_all ys (put_all xs s) ≡ put_all (xs ++ ys) s
unfolding put_all
put_all_join [] ys s = refl
put_all_join (x ∷ xs) ys s = put_all_join xs ys (put x s)

pub puts_nothing : (a : Page) → Puts [] a a
unfolding put_all
puts_nothing a = record { sheet_after = refl; same_buffer = refl }

-- one text, and then another
pub then : {xs ys : List ℕ} {a b c : Page} → Puts xs a b → Puts ys b c → Puts (xs ++ ys) a c
then {xs = xs} {ys = ys} {a = a} h k = record {
  sheet_after = k.sheet_after ∙ ap (put_all ys) h.sheet_after ∙ put_all_join xs ys (sheet a);
  same_buffer = k.same_buffer ∙ h.same_buffer;
}

-- what is written stands at the front, and the rest of the buffer is as it was
written : (xs l : List ℕ) (i : ℕ) → i + length xs ≤ length l → put_all xs (page (Some i) l) ≡ page (Some (i + length xs)) (sets l i xs)
unfolding put_all
written [] l i h = ap (λ (n : ℕ). page (Some n) l) (let e : i ≡ i + 0 = omega arith in e)
written (x ∷ xs) l i h =
    ap (put_all xs) (put_room x i l (omega arith))
    ∙ written xs (set l i x) (i + 1) (omega (arith, length-set l i x))
    ∙ ap₂ (λ (n : ℕ) (m : List ℕ). page (Some n) m) (let e : i + 1 + length xs ≡ i + suc (length xs) = omega arith in e) (ap (λ (n : ℕ). sets (set l i x) n xs) (add-one i))

-- a text that has room is written whole, from the first byte on
pub text_fits : (xs l : List ℕ) → length xs ≤ length l → put_all xs (page first_pen l) ≡ page (Some (length xs)) (xs ++ drop (length xs) l)
text_fits xs l h =
    written xs l 0 (omega arith)
    ∙ ap₂ (λ (n : ℕ) (m : List ℕ). page (Some n) m) (let e : 0 + length xs ≡ length xs = omega arith in e)
    (sets-eq xs l 0 (omega arith) ∙ ap (λ (n : ℕ). xs ++ drop n l) (let e : 0 + length xs ≡ length xs = omega arith in e))

over : (xs l : List ℕ) → put_all xs (page None l) ≡ page None l
unfolding put_all
over [] l = refl
over (x ∷ xs) l = ap (put_all xs) (put_over x l) ∙ over xs l

cut : (xs l : List ℕ) (i : ℕ) → i ≤ length l → length l < i + length xs → (put_all xs (page (Some i) l)).pen ≡ None
unfolding put_all
cut [] l i h k = absurd (omega arith)
cut (x ∷ xs) l i h k =
    elim (dec_le (i + 1) (length l)) [
      | yes m ↦ ap (λ (s : Sheet). (put_all xs s).pen) (put_room x i l (omega arith))
          ∙ cut xs (set l i x) (i + 1) (omega (arith, length-set l i x)) (omega (arith, length-set l i x))
      | no m ↦ ap (λ (s : Sheet). (put_all xs s).pen) (put_none x i l (omega arith)) ∙ ap (λ (s : Sheet). s.pen) (over xs l)
    ]

-- and one that has none is said not to be whole
pub text_cut : (xs l : List ℕ) → length l < length xs → (put_all xs (page first_pen l)).pen ≡ None
text_cut xs l h = cut xs l 0 (omega arith) (omega arith)
