-- A sum over the vertices of a ring is the same in each of its readings.
use mathlib.Core.Path.{◌≡◌, refl, sym, ◌∙◌, ap}
use mathlib.Core.Logic.{◌⊎◌, inl, inr}
use mathlib.Core.List.{List, [], ◌∷◌}
use Prim.Native.Nat.{ℕ, zero, suc, ◌+◌, ◌-◌, ◌%◌, ◌<◌}
use native.Mathlib.Omega.{arith}
use lib.ListN.{length, get_or}
use Rattle.graph.specs.Writing.{Onwards, Backwards, RingReading}
use Rattle.graph.specs.Counts.{sum_of}
use Rattle.graph.proofs.Counts.{sum_to, sum_same}
use Rattle.graph.proofs.Readings.{wrap, wrapped}

-- the first of a sum, and its parts
sum_first : (g : ℕ → ℕ) (n : ℕ) → sum_to g (suc n) ≡ g 0 + sum_to (λ i. g (suc i)) n
sum_first g zero = omega arith
sum_first g (suc n) = omega (arith, sum_first g n)

sum_parts : (g : ℕ → ℕ) (a b n : ℕ) → a + b ≡ n → sum_to g n ≡ sum_to g a + sum_to (λ i. g (a + i)) b
sum_parts g a zero n e = let h : n ≡ a = omega arith in rw h (let z : sum_to g a ≡ sum_to g a + 0 = omega arith in z)
sum_parts g a (suc b) zero e = absurd (omega arith)
sum_parts g a (suc b) (suc n) e = let h : a + b ≡ n = omega arith in omega (arith, sum_parts g a b n h, ap g h)

-- and backwards
sum_turned : (g : ℕ → ℕ) (n : ℕ) → sum_to (λ i. g (n - suc i)) n ≡ sum_to g n
sum_turned g zero = refl
sum_turned g (suc n) =
    sum_first (λ i. g (suc n - suc i)) n
    ∙ omega (arith, sum_turned g n, ap g (let e : suc n - 1 ≡ n = omega arith in e), sum_same (λ i. g (suc n - suc (suc i))) (λ i. g (n - suc i)) n (λ k l. ap g (let e : suc n - suc (suc k) ≡ n - suc k = omega arith in e)))

module _ {A : Type 0} (f : A → ℕ) (o : A) where
  by_places : (r : List A) → sum_of f r ≡ sum_to (λ i. f (get_or r i o)) (length r)
  by_places [] = refl
  by_places (x ∷ r) = ap (λ (n : ℕ). f x + n) (by_places r) ∙ sym (sum_first (λ i. f (get_or (x ∷ r) i o)) (length r))

-- round a ring of k from m on
round_onwards : (g : ℕ → ℕ) (k m : ℕ) → m < k → sum_to (λ i. g ((m + i) % k)) k ≡ sum_to g k
round_onwards g k m l =
    sum_parts (λ i. g ((m + i) % k)) (k - m) m k (omega arith)
    ∙ omega (
      arith,
      sum_parts g m (k - m) k (omega arith),
      sum_same (λ i. g ((m + i) % k)) (λ i. g (m + i)) (k - m) (λ i h. ap g (wrapped k (m + i) ((m + i) % k) (m + i) (wrap k (m + i) (omega arith)) (inl (omega arith)))),
      sum_same (λ i. g ((m + (k - m + i)) % k)) g m (λ i h. ap g (wrapped k (m + (k - m + i)) ((m + (k - m + i)) % k) i (wrap k (m + (k - m + i)) (omega arith)) (inr (omega arith)))),
    )

round_backwards : (g : ℕ → ℕ) (k m : ℕ) → m < k → sum_to (λ i. g ((m + (k - i)) % k)) k ≡ sum_to g k
round_backwards g k m l =
    sum_parts (λ i. g ((m + (k - i)) % k)) (suc m) (k - suc m) k (omega arith)
    ∙ omega (arith, sum_parts g (suc m) (k - suc m) k (omega arith), sum_turned g (suc m), sum_turned (λ i. g (suc m + i)) (k - suc m), first, second)
  where
    first : sum_to (λ i. g ((m + (k - i)) % k)) (suc m) ≡ sum_to (λ i. g (suc m - suc i)) (suc m)
    first = sum_same (λ i. g ((m + (k - i)) % k)) (λ i. g (suc m - suc i)) (suc m)
        (λ i h. ap g (wrapped k (m + (k - i)) ((m + (k - i)) % k) (suc m - suc i) (wrap k (m + (k - i)) (at i)) (inr (omega arith))))
      where
        at : (i : ℕ) → m + (k - i) < k + k
        at i = omega arith

    second : sum_to (λ i. g ((m + (k - (suc m + i))) % k)) (k - suc m) ≡ sum_to (λ i. g (suc m + (k - suc m - suc i))) (k - suc m)
    second = sum_same (λ i. g ((m + (k - (suc m + i))) % k)) (λ i. g (suc m + (k - suc m - suc i))) (k - suc m)
        (λ i h. ap g (wrapped k (m + (k - (suc m + i))) ((m + (k - (suc m + i))) % k) (suc m + (k - suc m - suc i)) (wrap k (m + (k - (suc m + i))) (omega arith)) (inl (omega arith))))

pub reading_sum : {A : Type 0} (f : A → ℕ) (o : A) (r s : List A) → RingReading o r s → sum_of f s ≡ sum_of f r
reading_sum f o r s R =
    by_places f o s ∙ ap (sum_to (λ i. f (get_or s i o))) R.alike ∙ go R.reads ∙ sym (by_places f o r)
  where
    go : Onwards o r s R.start ⊎ Backwards o r s R.start → sum_to (λ i. f (get_or s i o)) (length r) ≡ sum_to (λ i. f (get_or r i o)) (length r)
    go (inl h) = sum_same (λ i. f (get_or s i o)) (λ i. f (get_or r ((R.start + i) % length r) o)) (length r) (λ i l. ap f (h i l)) ∙ round_onwards (λ i. f (get_or r i o)) (length r) R.start R.starts
    go (inr h) = sum_same (λ i. f (get_or s i o)) (λ i. f (get_or r ((R.start + (length r - i)) % length r) o)) (length r) (λ i l. ap f (h i l)) ∙ round_backwards (λ i. f (get_or r i o)) (length r) R.start R.starts
