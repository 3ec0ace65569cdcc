-- Numbers that agree up to the limit give the same pairs of length and number.
use mathlib.Core.Path.{◌≡◌, refl, ap, ap₂}
use mathlib.Core.List.{◌∷◌, map}
use Prim.Native.Nat.{ℕ, zero, suc, ◌+◌, ◌≤◌, ◌<◌}
use native.Mathlib.Omega.{arith}
use lib.Dec.{ltb}
use Rattle.graph.specs.Lists.{keep, numbers_from}
use Rattle.examples.specs.Examples.{by_length}

module _ (f g : ℕ → ℕ) where
  numbered : (n a : ℕ) → ((k : ℕ) → a ≤ k → k < a + n → f k ≡ g k) → map {B = ℕ × ℕ} (λ k. (k, f k)) (numbers_from n a) ≡ map (λ k. (k, g k)) (numbers_from n a)
  numbered zero a h = refl
  numbered (suc n) a h = ap₂ ◌∷◌ (ap (λ (m : ℕ). (a, m)) (h a (omega arith) (omega arith))) (numbered n (suc a) (λ k l m. h k (omega arith) (omega arith)))

  pub by_length_same : (limit : ℕ) → ((k : ℕ) → k ≤ limit → f k ≡ g k) → by_length limit f ≡ by_length limit g
  by_length_same limit h = ap (keep (λ c. ltb 0 c.1)) (numbered (suc limit) 0 (λ k l m. h k (omega arith)))
