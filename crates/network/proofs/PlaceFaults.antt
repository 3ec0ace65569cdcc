-- `place_fault` at each way through its tests.
use mathlib.Core.Path.{◌≡◌}
use mathlib.Core.Bool.{Bool, true, false}
use mathlib.Core.List.{List}
use Prim.Native.Nat.{ℕ, ◌-◌, ◌/◌, ◌%◌, ◌≤◌, ◌<◌}
use lib.ListN.{get_or}
use borrow.Author.Tests.{eq-eqb, ne_eqb, le-leb, lt-leb}
use Rattle.network.specs.Maxima.{places, free}
use Rattle.network.specs.Verdict.{place_fault, bond_fault, stands}

module _ (n : ℕ) (t : List ℕ) (i : ℕ) where
  pub fault_free : get_or t i 0 ≡ free → 0 ≡ place_fault n t i
  unfolding place_fault
  fault_free h = simp (eq-eqb _ _ h)

  module _ (h : get_or t i 0 ≡ free → ⊥) where
    pub fault_7 : n ≤ get_or t i 0 → 7 ≡ place_fault n t i
    unfolding place_fault
    fault_7 k = simp (ne_eqb _ _ h, le-leb _ _ k)

    module _ (l : get_or t i 0 < n) where
      pub fault_9_first : i % places ≡ 0 → get_or t i 0 ≡ i / places → 9 ≡ place_fault n t i
      unfolding place_fault
      fault_9_first z e = simp (ne_eqb _ _ h, lt-leb _ _ l, eq-eqb _ _ z, eq-eqb _ _ e)

      pub fault_none_first : i % places ≡ 0 → (get_or t i 0 ≡ i / places → ⊥) → 0 ≡ place_fault n t i
      unfolding place_fault
      fault_none_first z e = simp (ne_eqb _ _ h, lt-leb _ _ l, eq-eqb _ _ z, ne_eqb _ _ e)

      module _ (z : i % places ≡ 0 → ⊥) where
        pub fault_8 : get_or t (i - 1) 0 ≡ free → 8 ≡ place_fault n t i
        unfolding place_fault
        fault_8 b = simp (ne_eqb _ _ h, lt-leb _ _ l, ne_eqb _ _ z, eq-eqb _ _ b)

        module _ (b : get_or t (i - 1) 0 ≡ free → ⊥) where
          pub fault_9 : get_or t i 0 ≡ i / places → 9 ≡ place_fault n t i
          unfolding place_fault
          fault_9 e = simp (ne_eqb _ _ h, lt-leb _ _ l, ne_eqb _ _ z, ne_eqb _ _ b, eq-eqb _ _ e)

          pub fault_10 : (get_or t i 0 ≡ i / places → ⊥) → get_or t i 0 ≤ get_or t (i - 1) 0 → 10 ≡ place_fault n t i
          unfolding place_fault
          fault_10 e k = simp (ne_eqb _ _ h, lt-leb _ _ l, ne_eqb _ _ z, ne_eqb _ _ b, ne_eqb _ _ e, le-leb _ _ k)

          pub fault_none : (get_or t i 0 ≡ i / places → ⊥) → get_or t (i - 1) 0 < get_or t i 0 → 0 ≡ place_fault n t i
          unfolding place_fault
          fault_none e k = simp (ne_eqb _ _ h, lt-leb _ _ l, ne_eqb _ _ z, ne_eqb _ _ b, ne_eqb _ _ e, lt-leb _ _ k)

module _ (t : List ℕ) (i : ℕ) where
  pub bond_free : get_or t i 0 ≡ free → 0 ≡ bond_fault t i
  unfolding bond_fault
  bond_free h = simp (eq-eqb _ _ h)

  module _ (h : get_or t i 0 ≡ free → ⊥) (b : Bool) (s : b ≡ stands t (i / places) (get_or t i 0) places 0) where
    pub bond_answered : b ≡ true → 0 ≡ bond_fault t i
    unfolding bond_fault
    bond_answered e = rw (ne_eqb _ _ h, ← s, e)

    pub bond_unanswered : b ≡ false → 11 ≡ bond_fault t i
    unfolding bond_fault
    bond_unanswered e = rw (ne_eqb _ _ h, ← s, e)
