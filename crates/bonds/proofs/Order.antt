-- The order of bonds, and those of number below k.
use Rattle.std.proofs.Common.{◌≡◌, ◌∙◌, inl, inr, ℕ, ◌<◌, arith, length}
use lib.ListN.{length-map}
use Rattle.graph.specs.Lists.{◌∈◌, numbers_from}
use Rattle.graph.proofs.Lists.{map_of, count_of, length_count}
use Rattle.bonds.specs.Bonds.{Bond, EarlierBond, bonds_below}

pub earlier_not : (a : Bond) → EarlierBond a a → ⊥
earlier_not a (inl h) = omega arith
earlier_not a (inr h) = omega (arith, h.1)

pub earlier_on : (a b c : Bond) → EarlierBond a b → EarlierBond b c → EarlierBond a c
earlier_on a b c (inl h) (inl k) = inl (omega arith)
earlier_on a b c (inl h) (inr k) = inl (omega (arith, k.0))
earlier_on a b c (inr h) (inl k) = inl (omega (arith, h.0))
earlier_on a b c (inr h) (inr k) = inr (h.0 ∙ k.0, omega (arith, h.1, k.1))

-- the bonds of number below k
pub length_below : (bond : ℕ → Bond) (k : ℕ) → length (bonds_below bond k) ≡ k
length_below bond k = length-map (numbers_from k 0) bond ∙ length_count k 0

pub numbered : (bond : ℕ → Bond) (k : ℕ) {b : Bond} → b ∈ bonds_below bond k → (j : ℕ) × (j < k) × (b ≡ bond j)
numbered bond k h = let r = map_of bond (numbers_from k 0) h in (r.0, omega (arith, (count_of k 0 r.1).1), r.2)
