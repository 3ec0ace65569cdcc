-- What comes of reading, at each way through.
use mathlib.Core.Path.{fun_ext}
use Rattle.std.proofs.Common.{◌≡◌, refl, sym, ap, ◌∙◌, arith, ℕ, ◌*◌, ◌≤◌, List, ◌++◌, map, length, drop, take_all, get_or, ℤ, pos, Fits, w8}
use Rattle.std.proofs.lemmas.List.Edits.{sets}
use Rattle.graph.proofs.Lists.{sets_front}
use Rattle.network.specs.Maxima.{places}
use Rattle.network.specs.Refusals.{number_of, answer_of}
use Rattle.network.specs.Verdict.{answer, accepted}
use Rattle.network.specs.declared.refusals.Reason.{Reason}
use Rattle.network.specs.declared.refusals.Refusal.{Refusal}
use Rattle.network.proofs.Refused.{numbered}
use Rattle.bonds.specs.Bonds.{Bond, partners, table_of, bonds_below}
use Rattle.bonds.specs.Scan.{first_bond}
use Rattle.bonds.proofs.Partners.{table_length}
use Rattle.bnw.specs.Reading.{Bytes, bond_in, file_bond_fault, head_fault, read_value, ReadOutcome}
use Rattle.bnw.proofs.Readings.{reads_head, reads_bond, reads_all, table_fits, bonds_eight}
use Rattle.bnw_reader.specs.FileBonds.{bond_from, among, Holds}
use Rattle.bnw_reader.proofs.FileBonds.{below_taken}

module _ (file before : List ℕ) where
  pub head_refused : (reason : Reason) (value : ℤ) → number_of reason ≡ head_fault file (length before) → value ≡ read_value file (number_of reason)
      → ReadOutcome file before before (record { answer = answer (number_of reason) 0 0; atoms = 0; bonds = 0; value = value })
  head_refused reason value e d = reads_head file before (number_of reason) e (answer (number_of reason) 0 0) value (λ z. omega (arith, numbered reason)) refl d

  module _ (atoms : ℕ) (bonds : List (List ℕ)) (H : Holds file (length before) atoms bonds) where
    same_bonds : among bonds ≡ bond_in file
    same_bonds = fun_ext H.each

    all_below : map bond_from bonds ≡ bonds_below (bond_in file) (length bonds)
    all_below =
        ap (map bond_from) (sym (take_all (length bonds) bonds (omega arith))) ∙ sym (below_taken bonds (length bonds) (omega arith))
        ∙ ap (λ (bond : ℕ → Bond). bonds_below bond (length bonds)) same_bonds

    same_faults : first_bond (file_bond_fault atoms (among bonds)) (length bonds) 0 ≡ first_bond (file_bond_fault atoms (bond_in file)) (length bonds) 0
    same_faults = ap (λ (bond : ℕ → Bond). first_bond (file_bond_fault atoms bond) (length bonds) 0) same_bonds

    pub bond_refused : (refusal : Refusal) → answer_of refusal ≡ first_bond (file_bond_fault atoms (among bonds)) (length bonds) 0
        → ReadOutcome file before before (record { answer = answer_of refusal; atoms = 0; bonds = 0; value = pos 0 })
    bond_refused refusal e =
        reads_bond file before 0 H.right refl atoms (length bonds) H.counted H.number (answer_of refusal) (e ∙ same_faults) (λ z. omega (arith, numbered refusal.reason))

    module _ (fits : (i : ℕ) → Fits w8 (get_or file i 0)) (e : accepted ≡ first_bond (file_bond_fault atoms (among bonds)) (length bonds) 0) where
      bytes : Bytes file
      unfolding Bytes
      bytes i = omega (arith, fits i)

      pub rows_fit : places * atoms ≤ length before
      rows_fit = table_fits file before 0 H.right refl atoms (length bonds) H.counted H.number accepted (e ∙ same_faults) bytes

      pub few_partners : (x : ℕ) → length (partners (map bond_from bonds) x) ≤ places
      few_partners = rw all_below (bonds_eight file before 0 H.right refl atoms (length bonds) H.counted H.number accepted (e ∙ same_faults) bytes refl)

      pub all_read : (after : List ℕ) → after ≡ table_of atoms (map bond_from bonds) ++ drop (places * atoms) before
          → ReadOutcome file before after (record { answer = accepted; atoms = atoms; bonds = length bonds; value = pos 0 })
      all_read after f =
          let long : places * atoms ≡ length (table_of atoms (map bond_from bonds)) = sym (table_length (map bond_from bonds) few_partners atoms) in
          reads_all file before 0 H.right refl atoms (length bonds) H.counted H.number accepted (e ∙ same_faults) bytes refl after
          (f
          ∙ ap (λ (k : ℕ). table_of atoms (map bond_from bonds) ++ drop k before) long
          ∙ sym (sets_front before (table_of atoms (map bond_from bonds)) (omega (arith, rows_fit)))
          ∙ ap (λ (bs : List Bond). sets before 0 (table_of atoms bs)) all_below)
