-- Lists with as many members of each mark have the same sum of the marks.
use mathlib.Core.Path.{◌≡◌, refl, sym, ◌∙◌, ap}
use mathlib.Core.List.Memᴰ
use mathlib.Core.List.{List, [], ◌∷◌}
use mathlib.Core.Logic.{◌⊎◌, inl, inr}
use Prim.Native.Nat.{ℕ, zero, suc, ◌+◌, ◌*◌, ◌≤◌, ◌<◌}
use native.Mathlib.Nat.{suc-mul, zero-mul}
use native.Mathlib.Omega.{arith}
use native.Mathlib.Decide.{ℕ_discrete}
use lib.ListN.{length}
use borrow.Author.Tests.{eq-eqb, ne_eqb}
use Rattle.graph.specs.Lists.{◌∈◌}
use Rattle.graph.specs.Counts.{having, sum_of}

-- the sum of g over the numbers below m
abbrev pub sum_to : (ℕ → ℕ) → ℕ → ℕ
sum_to g zero = 0
sum_to g (suc m) = sum_to g m + g m

pub sum_same : (g h : ℕ → ℕ) (m : ℕ) → ((k : ℕ) → k < m → g k ≡ h k) → sum_to g m ≡ sum_to h m
sum_same g h zero e = refl
sum_same g h (suc m) e = omega (arith, sum_same g h m (λ k l. e k (omega arith)), e m (omega arith))

-- v more at one number is v more in the sum
sum_more : (g h : ℕ → ℕ) (a v m : ℕ) → a < m → g a ≡ v + h a → ((k : ℕ) → (k ≡ a → ⊥) → g k ≡ h k) → sum_to g m ≡ v + sum_to h m
sum_more g h a v zero l e f = absurd (omega arith)
sum_more g h a v (suc m) l e f = go (ℕ_discrete m a) (sum_more g h a v m)
  where
    go : Dec (m ≡ a) → (a < m → g a ≡ v + h a → ((k : ℕ) → (k ≡ a → ⊥) → g k ≡ h k) → sum_to g m ≡ v + sum_to h m) → sum_to g m + g m ≡ v + (sum_to h m + h m)
    go (yes d) _ =
        let here : g m ≡ v + h m = rw d e in
        omega (arith, here, sum_same g h m (λ k j. f k (omega arith)))
    go (no d) more = omega (arith, more (omega arith) e f, f m d)

module _ {A : Type 0} (mark : A → ℕ) where
  one_more : (x : A) (xs : List A) → having mark (mark x) (x ∷ xs) ≡ suc (having mark (mark x) xs)
  one_more x xs = rw (eq-eqb (mark x) (mark x) refl)

  as_many : (x : A) (xs : List A) (k : ℕ) → (k ≡ mark x → ⊥) → having mark k (x ∷ xs) ≡ having mark k xs
  as_many x xs k h = rw (ne_eqb (mark x) k (λ e. h (sym e)))

  -- the sum of the marks of a list, mark by mark
  by_mark : (m : ℕ) (xs : List A) → ((x : A) → x ∈ xs → mark x < m) → sum_of mark xs ≡ sum_to (λ k. having mark k xs * k) m
  by_mark m [] h = none m
    where
      none : (m : ℕ) → 0 ≡ sum_to (λ k. 0 * k) m
      none zero = refl
      none (suc m) = omega (arith, none m, zero-mul m)
  by_mark m (x ∷ xs) h =
      ap (λ (s : ℕ). mark x + s) (by_mark m xs (λ s n. h s (Memᴰ.tail n)))
      ∙ sym (sum_more (λ k. having mark k (x ∷ xs) * k) (λ k. having mark k xs * k) (mark x) (mark x) m (h x (Memᴰ.head refl))
      (rw (one_more x xs) (omega (arith, suc-mul (having mark (mark x) xs) (mark x))))
      (λ k d. ap (λ (c : ℕ). c * k) (as_many x xs k d)))

  -- no mark is above the sum
  in_sum : (xs : List A) (x : A) → x ∈ xs → mark x ≤ sum_of mark xs
  in_sum [] x m = absurd (Memᴰ.not-nil m)
  in_sum (y ∷ xs) x m = go (in_sum xs x) (Memᴰ.cases_cons m)
    where
      go : (x ∈ xs → mark x ≤ sum_of mark xs) → (x ≡ y) ⊎ (x ∈ xs) → mark x ≤ mark y + sum_of mark xs
      go later (inl e) = omega (arith, ap mark e)
      go later (inr n) = omega (arith, later n)

pub same_sums : {A B : Type 0} (mark : A → ℕ) (mark' : B → ℕ) (xs : List A) (ys : List B) → ((k : ℕ) → having mark k xs ≡ having mark' k ys) → sum_of mark xs ≡ sum_of mark' ys
same_sums mark mark' xs ys e = go (suc (sum_of mark xs + sum_of mark' ys)) (omega arith) (omega arith)
  where
    go : (most : ℕ) → sum_of mark xs < most → sum_of mark' ys < most → sum_of mark xs ≡ sum_of mark' ys
    go most l k =
        by_mark mark most xs (λ x m. omega (arith, in_sum mark xs x m))
        ∙ sum_same (λ k. having mark k xs * k) (λ k. having mark' k ys * k) most (λ k l. ap (λ (c : ℕ). c * k) (e k))
        ∙ sym (by_mark mark' most ys (λ y m. omega (arith, in_sum mark' ys y m)))

pub sum_of_ones : {A : Type 0} (xs : List A) → sum_of (λ _. 1) xs ≡ length xs
sum_of_ones [] = refl
sum_of_ones (x ∷ xs) = omega (arith, sum_of_ones xs)
