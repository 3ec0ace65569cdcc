-- One-to-one names: equal names are of the same atom, and every number below n is a name.
use Rattle.std.proofs.Common.{◌≡◌, sym, ◌≢◌, ◌⊎◌, inl, inr, List, ℕ, zero, suc, ◌<◌, arith}
use native.Mathlib.Decide.{dec_lt, ℕ_discrete}
use Rattle.graph.proofs.Pigeons.{pigeons}
use Rattle.names.specs.Names.{name, OneToOne}

-- a name is found, or it is none
sought : (names : List ℕ) (w k : ℕ) → ((x : ℕ) × (x < k) × (name names x ≡ w)) ⊎ ((x : ℕ) → x < k → name names x ≢ w)
sought names w zero = inr (λ x l. absurd (omega arith))
sought names w (suc k) = go (sought names w k) (ℕ_discrete (name names k) w)
  where
    go : ((x : ℕ) × (x < k) × (name names x ≡ w)) ⊎ ((x : ℕ) → x < k → name names x ≢ w) → Dec (name names k ≡ w)
        → ((x : ℕ) × (x < suc k) × (name names x ≡ w)) ⊎ ((x : ℕ) → x < suc k → name names x ≢ w)
    go (inl f) _ = inl (f.0, omega (arith, f.1), f.2)
    go (inr f) (yes e) = inl (k, omega arith, e)
    go (inr f) (no e) = inr (λ x l. elim (ℕ_discrete x k) [ yes d ↦ rw d e | no d ↦ f x (omega arith) ])

module _ (n : ℕ) (names : List ℕ) (O : OneToOne n names) where
  pub same_name : (x y : ℕ) → x < n → y < n → name names x ≡ name names y → x ≡ y
  same_name x y l m e =
      elim (ℕ_discrete x y) [
        | yes d ↦ d
        | no d ↦ elim (dec_lt x y) [ yes k ↦ absurd (O.apart x y k m e) | no k ↦ absurd (O.apart y x (omega arith) l (sym e)) ]
      ]

  pub named : (w : ℕ) → w < n → (x : ℕ) × (x < n) × (name names x ≡ w)
  named w l = go (sought names w n)
    where
      one_more : {P : Type 0} → Dec P → ℕ → ℕ
      one_more (yes _) a = a
      one_more (no _) a = w

      go : ((x : ℕ) × (x < n) × (name names x ≡ w)) ⊎ ((x : ℕ) → x < n → name names x ≢ w) → (x : ℕ) × (x < n) × (name names x ≡ w)
      go (inl f) = f
      go (inr f) =
          absurd (omega (arith, pigeons n (suc n) (λ i. one_more (dec_lt i n) (name names i)) (λ i k. low i (dec_lt i n)) (λ i j k m. far i j k m (dec_lt i n) (dec_lt j n))))
        where
          low : (i : ℕ) (c : Dec (i < n)) → one_more c (name names i) < n
          low i (yes c) = O.below i c
          low i (no c) = l

          far : (i j : ℕ) → i < j → j < suc n → (c : Dec (i < n)) (e : Dec (j < n)) → one_more c (name names i) ≢ one_more e (name names j)
          far i j k m (yes c) (yes e) = O.apart i j k e
          far i j k m (yes c) (no e) = f i c
          far i j k m (no c) _ = absurd (omega arith)
