-- Refusals 19 to 25 at each way through the tests.
use Rattle.std.proofs.Common.{◌≡◌, sym, ◌∙◌, Bool, true, false, not, cond, List, ℕ, ◌+◌, ◌*◌, ◌≤◌, ◌<◌, arith, eqb, ltb, pos, length, get_or, eq-eqb, ne_eqb, lt-ltb, le-ltb}
use Rattle.network.specs.Maxima.{atoms_most, places}
use Rattle.bnw.specs.File.{mark, version, bonds_most, head_length, bond_length}
use Rattle.bnw.specs.Reading.{field, signed, marked, head_fault, read_value}
use Rattle.bnw.proofs.Signs.{below_outside, above_outside, not_outside}

module _ (file : List ℕ) where
  pub mark_first : (get_or file 0 0 ≡ get_or mark 0 0 → ⊥) → false ≡ marked file
  unfolding marked
  mark_first h = rw (ne_eqb _ _ h)

  module _ (e : get_or file 0 0 ≡ get_or mark 0 0) where
    pub mark_second : (get_or file 1 0 ≡ get_or mark 1 0 → ⊥) → false ≡ marked file
    unfolding marked
    mark_second h = rw (eq-eqb _ _ e, ne_eqb _ _ h)

    pub mark_third : get_or file 1 0 ≡ get_or mark 1 0 → eqb (get_or file 2 0) (get_or mark 2 0) ≡ marked file
    unfolding marked
    mark_third h = rw (eq-eqb _ _ e, eq-eqb _ _ h)

module _ (file : List ℕ) (room : ℕ) where
  pub head_19 : length file < head_length → 19 ≡ head_fault file room
  unfolding head_fault
  head_19 h = rw (lt-ltb _ _ h)

  module _ (long : head_length ≤ length file) (m : Bool) (em : m ≡ marked file) where
    pub head_20 : not m ≡ true → 20 ≡ head_fault file room
    unfolding head_fault
    head_20 h = rw (le-ltb _ _ long, ← em, h)

    module _ (hm : not m ≡ false) (v : ℕ) (ev : v ≡ field file 3) where
      pub head_21 : (v ≡ version → ⊥) → 21 ≡ head_fault file room
      unfolding head_fault
      head_21 h = rw (le-ltb _ _ long, ← em, hm, ← ev, ne_eqb _ _ h)

      module _ (hv : v ≡ version) (atoms : ℕ) (ea : atoms ≡ field file 5) (la : atoms < 65536) where
        pub head_22_low : atoms < 1 → 22 ≡ head_fault file room
        unfolding head_fault
        head_22_low h = rw (le-ltb _ _ long, ← em, hm, ← ev, eq-eqb _ _ hv, ← ea, below_outside 1 atoms_most atoms h (omega arith) (omega arith))

        pub head_22_high : atoms_most < atoms → 22 ≡ head_fault file room
        unfolding head_fault
        head_22_high h = rw (le-ltb _ _ long, ← em, hm, ← ev, eq-eqb _ _ hv, ← ea, above_outside 1 atoms_most atoms la h)

        module _ (some : 1 ≤ atoms) (most : atoms ≤ atoms_most) (bonds : ℕ) (eb : bonds ≡ field file 7) (lb : bonds < 65536) where
          pub head_23 : bonds_most < bonds → 23 ≡ head_fault file room
          unfolding head_fault
          head_23 h =
              rw (le-ltb _ _ long, ← em, hm, ← ev, eq-eqb _ _ hv, ← ea, not_outside 1 atoms_most atoms (omega arith) some most, ← eb, above_outside 0 bonds_most bonds lb h)

          module _ (few : bonds ≤ bonds_most) where
            pub head_24 : (length file ≡ head_length + bond_length * bonds → ⊥) → 24 ≡ head_fault file room
            unfolding head_fault
            head_24 h =
                rw (
                  le-ltb _ _ long,
                  ← em,
                  hm,
                  ← ev,
                  eq-eqb _ _ hv,
                  ← ea,
                  not_outside 1 atoms_most atoms (omega arith) some most,
                  ← eb,
                  not_outside 0 bonds_most bonds (omega arith) (omega arith) few,
                  ne_eqb _ _ h,
                )

            module _ (whole : length file ≡ head_length + bond_length * bonds) where
              pub head_rest : head_fault file room ≡ cond (ltb room (places * atoms)) 25 0
              unfolding head_fault
              head_rest =
                  rw (
                    le-ltb _ _ long,
                    ← em,
                    hm,
                    ← ev,
                    eq-eqb _ _ hv,
                    ← ea,
                    not_outside 1 atoms_most atoms (omega arith) some most,
                    ← eb,
                    not_outside 0 bonds_most bonds (omega arith) (omega arith) few,
                    eq-eqb _ _ whole,
                  )

              pub head_25 : room < places * atoms → 25 ≡ head_fault file room
              head_25 h = sym (head_rest ∙ rw (lt-ltb _ _ h))

              pub head_none : places * atoms ≤ room → 0 ≡ head_fault file room
              head_none h = sym (head_rest ∙ rw (le-ltb _ _ h))

-- the value that goes with an answer
module _ (file : List ℕ) (code : ℕ) where
  pub value_22 : code ≡ 22 → (v : ℕ) → v ≡ field file 5 → signed v ≡ read_value file code
  unfolding read_value
  value_22 h v e = rw (eq-eqb _ _ h, e)

  pub value_23 : (code ≡ 22 → ⊥) → code ≡ 23 → (v : ℕ) → v ≡ field file 7 → signed v ≡ read_value file code
  unfolding read_value
  value_23 g h v e = rw (ne_eqb _ _ g, eq-eqb _ _ h, e)

  pub value_else : (code ≡ 22 → ⊥) → (code ≡ 23 → ⊥) → pos 0 ≡ read_value file code
  unfolding read_value
  value_else g h = rw (ne_eqb _ _ g, ne_eqb _ _ h)
