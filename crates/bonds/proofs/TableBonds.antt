-- The bonds of a table, word by word.
use Rattle.std.proofs.Common.{◌≡◌, sym, ap, List, [], ◌∷◌, ℕ, ◌+◌, ◌/◌, ◌≤◌, ◌<◌, arith, length, get_or, eq-eqb, ne_eqb, lt-ltb, le-ltb}
use native.Mathlib.Decide.{ℕ_discrete, dec_lt}
use Rattle.graph.specs.Lists.{gather, numbers_from}
use Rattle.network.specs.Maxima.{places, free}
use Rattle.bonds.specs.Bonds.{bond, bond_at, bonds_of}
use Rattle.bonds.proofs.Runs.{length_more, gather_fits}

-- `bond_at` at each way through its tests
module _ (t : List ℕ) (i : ℕ) where
  pub bond_free : get_or t i 0 ≡ free → bond_at t i ≡ []
  unfolding bond_at
  bond_free h = rw (eq-eqb _ _ h)

  pub no_bond_free : get_or t i 0 ≡ free → 0 ≡ length (bond_at t i)
  no_bond_free h = sym (ap length (bond_free h))

  module _ (h : get_or t i 0 ≡ free → ⊥) where
    pub bond_above : i / places < get_or t i 0 → bond_at t i ≡ bond (i / places) (get_or t i 0) ∷ []
    unfolding bond_at
    bond_above l = rw (ne_eqb _ _ h, lt-ltb _ _ l)

    pub one_bond : i / places < get_or t i 0 → 1 ≡ length (bond_at t i)
    one_bond l = sym (ap length (bond_above l))

    pub bond_below : get_or t i 0 ≤ i / places → bond_at t i ≡ []
    unfolding bond_at
    bond_below l = rw (ne_eqb _ _ h, le-ltb _ _ l)

    pub no_bond_below : get_or t i 0 ≤ i / places → 0 ≡ length (bond_at t i)
    no_bond_below l = sym (ap length (bond_below l))

    pub above_bond : (bond_at t i ≡ [] → ⊥) → i / places < get_or t i 0
    above_bond z = elim (dec_lt (i / places) (get_or t i 0)) [ yes l ↦ l | no l ↦ absurd (z (bond_below (omega arith))) ]

  -- where a word is a bond, it is one to a greater atom
  pub bond_is : (bond_at t i ≡ [] → ⊥) → bond_at t i ≡ bond (i / places) (get_or t i 0) ∷ []
  bond_is z = elim (ℕ_discrete (get_or t i 0) free) [ yes h ↦ absurd (z (bond_free h)) | no h ↦ bond_above h (above_bond h z) ]

-- one word more
module _ (t : List ℕ) where
  pub counted_more : (i many r : ℕ) → many ≡ length (gather (bond_at t) (numbers_from i 0)) → r ≡ length (bond_at t i) → many + r ≡ length (gather (bond_at t) (numbers_from (i + 1) 0))
  counted_more i many r e d = omega (arith, length_more (bond_at t) i)

  pub counted_done : (i many : ℕ) → i ≤ length t → length t ≤ i → many ≡ length (gather (bond_at t) (numbers_from i 0)) → many ≡ length (bonds_of t)
  unfolding bonds_of
  counted_done i many l h e = let d : length t ≡ i = omega arith in rw d e

  pub bonds_fit : (i : ℕ) → i < length t → length (gather (bond_at t) (numbers_from i 0)) + length (bond_at t i) ≤ length (bonds_of t)
  unfolding bonds_of
  bonds_fit i h = gather_fits (bond_at t) i (length t) h
