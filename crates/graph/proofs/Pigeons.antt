-- At most n different numbers are below n.
use mathlib.Core.Path.{◌≡◌, sym, ◌∙◌}
use mathlib.Core.Logic.{◌≢◌}
use Prim.Native.Nat.{ℕ, zero, suc, ◌≤◌, ◌<◌}
use native.Mathlib.Decide.{ℕ_discrete}
use native.Mathlib.Omega.{arith}

abbrev swap : {P : Type 0} → Dec P → ℕ → ℕ → ℕ
swap (yes p) a b = a
swap (no p) a b = b

pub pigeons : (n m : ℕ) (f : ℕ → ℕ) → ((i : ℕ) → i < m → f i < n) → ((i j : ℕ) → i < j → j < m → f i ≢ f j) → m ≤ n
pigeons zero zero f below apart = omega arith
pigeons zero (suc m) f below apart = absurd (omega (arith, below 0 (omega arith)))
pigeons (suc n) zero f below apart = omega arith
pigeons (suc n) (suc m) f below apart =
    omega (
      arith,
      pigeons n m (λ i. swap (ℕ_discrete (f i) n) (f m) (f i))
          (λ i l. low i l (ℕ_discrete (f i) n)) (λ i j l k. far i j l k (ℕ_discrete (f i) n) (ℕ_discrete (f j) n)),
    )
  where
    low : (i : ℕ) → i < m → (d : Dec (f i ≡ n)) → swap d (f m) (f i) < n
    low i l (yes e) = omega (arith, below m (omega arith), apart i m l (omega arith))
    low i l (no e) = omega (arith, below i (omega arith))

    far : (i j : ℕ) → i < j → j < m → (d : Dec (f i ≡ n)) (e : Dec (f j ≡ n)) → swap d (f m) (f i) ≢ swap e (f m) (f j)
    far i j l k (yes d) (yes e) q = apart i j l (omega arith) (d ∙ sym e)
    far i j l k (yes d) (no e) q = apart j m k (omega arith) (sym q)
    far i j l k (no d) (yes e) q = apart i m (omega arith) (omega arith) q
    far i j l k (no d) (no e) q = apart i j l (omega arith) q
