-- What comes of reading, at each way through the checks.
use Rattle.std.proofs.Common.{◌≡◌, refl, sym, ◌∙◌, ap, Bool, true, false, cond, ◌||◌, ◌&&◌, not, List, ◌++◌, ℕ, ◌+◌, ◌*◌, ◌≤◌, ◌<◌, arith, ℤ, pos, length, drop}
use native.Mathlib.Decide.{dec_lt, ℕ_discrete}
use Rattle.std.proofs.lemmas.List.Edits.{sets}
use Rattle.graph.proofs.Lists.{sets_front}
use Rattle.network.specs.declared.Answer.{Answer}
use Rattle.network.specs.Maxima.{atoms_most, places}
use Rattle.network.specs.Network.{Counted}
use Rattle.network.specs.Verdict.{refusal}
use Rattle.bonds.specs.Bonds.{Bond, partners, ValidBonds, table_of, bonds_below, full}
use Rattle.bonds.specs.Scan.{first_bond, or_at}
use Rattle.bonds.proofs.Order.{length_below}
use Rattle.bonds.proofs.Scan.{given, scan_clean, scan_never}
use Rattle.bonds.proofs.Partners.{table_length}
use Rattle.bnw.specs.File.{version, bonds_most, head_length, bond_length}
use Rattle.bnw.specs.Reading.{field, Bytes, marked, inside, is_in_order, bond_in, file_bond_fault, head_fault, read_verdict, read_value, ReadOutcome}
use Rattle.bnw.proofs.HeadFaults.{head_19, head_20, head_21, head_22_low, head_22_high, head_23, head_24, head_25, value_else}
use Rattle.bnw.proofs.Valid.{valid, right_of}
use Rattle.bnw.proofs.Decoded.{file_is}

-- what no fault of the head says
pub record HeadRight (file : List ℕ) (room : ℕ) : Type 0 where
  pub long : head_length ≤ length file
  pub marks : marked file ≡ true
  pub first : field file 3 ≡ version
  pub counted : Counted (field file 5)
  pub few : field file 7 ≤ bonds_most
  pub whole : length file ≡ head_length + bond_length * field file 7
  pub fits : places * field file 5 ≤ room

module _ (file : List ℕ) (room : ℕ) where
  pub head_long : (head_fault file room ≡ 19 → ⊥) → head_length ≤ length file
  head_long h = elim (dec_lt (length file) head_length) [ yes l ↦ absurd (h (sym (head_19 file room l))) | no l ↦ omega arith ]

  field_small : Bytes file → (i : ℕ) → field file i < 65536
  unfolding Bytes
  field_small b i = omega (arith, b i, b (i + 1))

  pub head_right : Bytes file → head_fault file room ≡ 0 → HeadRight file room
  head_right B z =
      let long : head_length ≤ length file = head_long (λ h. omega arith) in
      let marks : marked file ≡ true = mark long (marked file) refl in
      let first : field file 3 ≡ version =
      elim (ℕ_discrete (field file 3) version) [ yes e ↦ e | no e ↦ absurd (omega (arith, head_21 file room long true (sym marks) refl _ refl e)) ] in
      let some : 1 ≤ field file 5 =
      elim (dec_lt (field file 5) 1) [ yes l ↦ absurd (omega (arith, head_22_low file room long true (sym marks) refl _ refl first _ refl (field_small B 5) l)) | no l ↦ omega arith ] in
      let most : field file 5 ≤ atoms_most =
      elim (dec_lt atoms_most (field file 5)) [ yes l ↦ absurd (omega (arith, head_22_high file room long true (sym marks) refl _ refl first _ refl (field_small B 5) l)) | no l ↦ omega arith ] in
      let few : field file 7 ≤ bonds_most =
      elim (dec_lt bonds_most (field file 7)) [
        | yes l ↦ absurd (omega (arith, head_23 file room long true (sym marks) refl _ refl first _ refl (field_small B 5) some most _ refl (field_small B 7) l))
        | no l ↦ omega arith
      ] in
      let whole : length file ≡ head_length + bond_length * field file 7 =
      elim (ℕ_discrete (length file) (head_length + bond_length * field file 7)) [
        | yes e ↦ e
        | no e ↦ absurd (omega (arith, head_24 file room long true (sym marks) refl _ refl first _ refl (field_small B 5) some most _ refl (field_small B 7) few e))
      ] in
      record {
        long = long;
        marks = marks;
        first = first;
        counted = record { some = some; most = most };
        few = few;
        whole = whole;
        fits = elim (dec_lt room (places * field file 5)) [
          | yes l ↦ absurd (omega (arith, head_25 file room long true (sym marks) refl _ refl first _ refl (field_small B 5) some most _ refl (field_small B 7) few whole l))
          | no l ↦ omega arith
        ];
      }
    where
      mark : head_length ≤ length file → (b : Bool) → b ≡ marked file → marked file ≡ true
      mark long true e = sym e
      mark long false e = absurd (omega (arith, head_20 file room long false e refl))

-- the numbers that a bond gives
bond_number : (n : ℕ) (bond : ℕ → Bond) (c : ℕ) → (c ≡ 0 → ⊥) → (c ≡ 26 → ⊥) → (c ≡ 27 → ⊥) → (k : ℕ) → file_bond_fault n bond k ≡ c → ⊥
unfolding file_bond_fault
bond_number n bond c z p q k e = go (not (inside n (bond k) && is_in_order bond k)) (full bond k (bond k).first || full bond k (bond k).second) e
  where
    go : (a b : Bool) → cond a 26 (cond b 27 0) ≡ c → ⊥
    go true b e = p (sym e)
    go false true e = q (sym e)
    go false false e = z (sym e)

abbrev code : Answer → ℕ
code a = a.code

module _ (file before : List ℕ) (c : ℕ) (ec : c ≡ head_fault file (length before)) where
  pub reads_head : (a : Answer) (v : ℤ) → (c ≡ 0 → ⊥) → a ≡ refusal c → v ≡ read_value file c → ReadOutcome file before before (record { answer = a; atoms = 0; bonds = 0; value = v })
  unfolding read_verdict
  reads_head a v z ea ev =
      record {
        verdict = ea ∙ sym (rw (← ec) (given c 0 _ z));
        signs = ev ∙ ap (read_value file) (sym (ap code ea));
        refused = λ _. (refl, refl, refl);
        accepts = λ h. absurd (z (sym (ap code ea) ∙ h));
      }

  module _ (z : c ≡ 0) (atoms bonds : ℕ) (en : atoms ≡ field file 5) (em : bonds ≡ field file 7) (a : Answer) (ea : a ≡ first_bond (file_bond_fault atoms (bond_in file)) bonds 0) where
    judged : a ≡ read_verdict file (length before)
    unfolding read_verdict or_at
    judged = rw (← ec, z, ← en, ← em) ea

    valued : pos 0 ≡ read_value file a.code
    valued =
        value_else file a.code
        (λ h. scan_never 22 (omega arith) (file_bond_fault atoms (bond_in file)) (bond_number atoms (bond_in file) 22 (omega arith) (omega arith) (omega arith)) bonds 0 (ap code (sym ea) ∙ h))
        (λ h. scan_never 23 (omega arith) (file_bond_fault atoms (bond_in file)) (bond_number atoms (bond_in file) 23 (omega arith) (omega arith) (omega arith)) bonds 0 (ap code (sym ea) ∙ h))

    pub reads_bond : (a.code ≡ 0 → ⊥) → ReadOutcome file before before (record { answer = a; atoms = 0; bonds = 0; value = pos 0 })
    reads_bond h = record { verdict = judged; signs = valued; refused = λ _. (refl, refl, refl); accepts = λ d. absurd (h d) }

    module _ (B : Bytes file) where
      head : HeadRight file (length before)
      head = head_right file (length before) B (sym ec ∙ z)

      pub bonds_inside : head_length + bond_length * bonds ≤ length file
      bonds_inside = omega (arith, head.whole)

      pub table_fits : places * atoms ≤ length before
      table_fits = omega (arith, head.fits)

      module _ (h : a.code ≡ 0) where
        pub bonds_valid : ValidBonds atoms (bonds_below (bond_in file) bonds)
        bonds_valid = valid atoms (bond_in file) bonds (λ k l. right_of atoms (bond_in file) k (scan_clean (file_bond_fault atoms (bond_in file)) bonds 0 (ap code (sym ea) ∙ h) k (omega arith) (omega arith)))

        pub bonds_eight : (x : ℕ) → length (partners (bonds_below (bond_in file) bonds) x) ≤ places
        bonds_eight = bonds_valid.eight

        pub reads_all : (after : List ℕ) → after ≡ sets before 0 (table_of atoms (bonds_below (bond_in file) bonds)) → ReadOutcome file before after (record { answer = a; atoms = atoms; bonds = bonds; value = pos 0 })
        reads_all after f =
            let long : length (table_of atoms (bonds_below (bond_in file) bonds)) ≡ places * atoms = table_length (bonds_below (bond_in file) bonds) bonds_eight atoms in
            record {
              verdict = judged;
              signs = valued;
              refused = λ d. absurd (d h);
              accepts = λ _. record {
                list = bonds_below (bond_in file) bonds;
                counted = rw en head.counted;
                valid = bonds_valid;
                gives = rw (en, em) (file_is file B head.long head.marks head.first head.whole);
                number = sym (length_below (bond_in file) bonds);
                filled = f ∙ sets_front before (table_of atoms (bonds_below (bond_in file) bonds)) (omega (arith, table_fits)) ∙ ap (λ (k : ℕ). table_of atoms (bonds_below (bond_in file) bonds) ++ drop k before) long;
              };
            }
