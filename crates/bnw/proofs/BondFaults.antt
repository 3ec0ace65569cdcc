-- Refusals 26 and 27 at each way through the tests of a bond.
use Rattle.std.proofs.Common.{◌≡◌, sym, ◌∙◌, Bool, true, false, not, ℕ, ◌-◌, ◌≤◌, ◌<◌, arith, ltb, length, eq-eqb, ne_eqb, lt-ltb, le-ltb, le-leb}
use Rattle.std.proofs.lemmas.Bool.{lt-leb}
use Rattle.network.specs.Maxima.{places}
use Rattle.bonds.specs.Bonds.{Bond, partners, bonds_below, full}
use Rattle.bnw.specs.Reading.{earlier_bond, inside, is_in_order, file_bond_fault}

module _ (bond : ℕ → Bond) (k : ℕ) where
  pub follows_none : k ≡ 0 → true ≡ is_in_order bond k
  unfolding is_in_order
  follows_none z = simp (eq-eqb _ _ z)

  module _ (z : k ≡ 0 → ⊥) (before first : ℕ) (eb : before ≡ (bond (k - 1)).first) (ef : first ≡ (bond k).first) where
    pub follows_above : before < first → true ≡ is_in_order bond k
    unfolding is_in_order earlier_bond
    follows_above h = let l : (bond (k - 1)).first < (bond k).first = omega arith in simp (ne_eqb _ _ z, lt-ltb _ _ l)

    module _ (h : first ≤ before) where
      pub follows_below : (before ≡ first → ⊥) → false ≡ is_in_order bond k
      unfolding is_in_order earlier_bond
      follows_below d =
          let l : (bond k).first ≤ (bond (k - 1)).first = omega arith in
          simp (ne_eqb _ _ z, le-ltb _ _ l, ne_eqb (bond (k - 1)).first (bond k).first (λ e. d (eb ∙ e ∙ sym ef)))

      pub follows_second : (s t : ℕ) → before ≡ first → s ≡ (bond (k - 1)).second → t ≡ (bond k).second → ltb s t ≡ is_in_order bond k
      unfolding is_in_order earlier_bond
      follows_second s t d es et =
          let l : (bond k).first ≤ (bond (k - 1)).first = omega arith in
          rw (es, et) (simp (ne_eqb _ _ z, le-ltb _ _ l, eq-eqb (bond (k - 1)).first (bond k).first (sym eb ∙ d ∙ ef)))

module _ (n : ℕ) (bond : ℕ → Bond) (k first second : ℕ) (ef : first ≡ (bond k).first) (es : second ≡ (bond k).second) where
  pub fault_first : n ≤ first → 26 ≡ file_bond_fault n bond k
  unfolding file_bond_fault inside
  fault_first h = rw (← ef, le-ltb _ _ h)

  module _ (lf : first < n) where
    pub fault_second : n ≤ second → 26 ≡ file_bond_fault n bond k
    unfolding file_bond_fault inside
    fault_second h = rw (← ef, ← es, lt-ltb _ _ lf, le-ltb _ _ h)

    module _ (ls : second < n) where
      pub fault_order : second ≤ first → 26 ≡ file_bond_fault n bond k
      unfolding file_bond_fault inside
      fault_order h = rw (← ef, ← es, lt-ltb _ _ lf, lt-ltb _ _ ls, le-ltb _ _ h)

      module _ (lo : first < second) (b : Bool) (eb : b ≡ is_in_order bond k) where
        pub fault_after : not b ≡ true → 26 ≡ file_bond_fault n bond k
        unfolding file_bond_fault inside
        fault_after h = rw (← ef, ← es, lt-ltb _ _ lf, lt-ltb _ _ ls, lt-ltb _ _ lo, ← eb, h)

        module _ (h : not b ≡ false) (many : ℕ) (em : many ≡ length (partners (bonds_below bond k) first)) where
          pub fault_ninth_first : places ≤ many → 27 ≡ file_bond_fault n bond k
          unfolding file_bond_fault inside full
          fault_ninth_first p = rw (← ef, ← es, lt-ltb _ _ lf, lt-ltb _ _ ls, lt-ltb _ _ lo, ← eb, h, ← em, le-leb _ _ p)

          module _ (p : many < places) (more : ℕ) (en : more ≡ length (partners (bonds_below bond k) second)) where
            pub fault_ninth_second : places ≤ more → 27 ≡ file_bond_fault n bond k
            unfolding file_bond_fault inside full
            fault_ninth_second q = rw (← ef, ← es, lt-ltb _ _ lf, lt-ltb _ _ ls, lt-ltb _ _ lo, ← eb, h, ← em, lt-leb _ _ p, ← en, le-leb _ _ q)

            pub fault_none : more < places → 0 ≡ file_bond_fault n bond k
            unfolding file_bond_fault inside full
            fault_none q = rw (← ef, ← es, lt-ltb _ _ lf, lt-ltb _ _ ls, lt-ltb _ _ lo, ← eb, h, ← em, lt-leb _ _ p, ← en, lt-leb _ _ q)
