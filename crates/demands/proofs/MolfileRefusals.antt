-- What reading a molfile answers.
use mathlib.Core.Path.{◌≡◌, refl, sym, ◌∙◌, ap, subst}
use mathlib.Core.Bool.{true, false, not}
use mathlib.Core.List.{List, [], ◌∷◌}
use Prim.Native.Nat.{ℕ, ◌+◌, ◌-◌, ◌*◌, ◌≤◌}
use native.Mathlib.Omega.{arith}
use native.Mathlib.Decide.{ℕ_discrete, dec_le}
use lib.ListN.{length}
use borrow.Author.Tests.{lt-ltb, le-ltb, eq-eqb, ne_eqb}
use Rattle.network.specs.Maxima.{atoms_most, places}
use Rattle.network.specs.Network.{Counted}
use Rattle.network.specs.Verdict.{not_atoms}
use Rattle.network.specs.Chain.{OneAnswer, Accepted}
use Rattle.network.proofs.Verdicts.{atoms}
use Rattle.network.proofs.Chains.{in_range, range_false, one_accepted, one_check}
use Rattle.bonds.specs.Scan.{first_bond, BondByBond}
use Rattle.bonds.proofs.Scan.{scan_says, one_bond_by_bond}
use Rattle.molfile.specs.Lines.{from_line, MissingLine}
use Rattle.molfile.specs.Molfile.{counts_line, counts_width, counts_in, atom_count, bond_count, bond_line}
use Rattle.molfile.specs.Judging.{nothing, counts_fault, pair_fault, molfile_verdict}
use Rattle.molfile.specs.Faults.{HeadThere, VersionThere, TwoNumbers, AtomsThere, PairFault}
use Rattle.molfile.proofs.Lines.{from_add, missing_later, line_missing}
use Rattle.molfile.proofs.Faults.{true_of, false_of, decided, two_decide, version_decides, pair_none, pair_some, pair_one}
use Rattle.demands.specs.MolfileRefusals.{ReadMolfileSays}
use Rattle.demands.proofs.FileRefusals.{head_says, no_fault}

module _ (file : List ℕ) where
  head_there : counts_width ≤ length (counts_in file) → HeadThere file
  head_there h = record { there = λ k l m. omega (arith, ap length (line_missing file counts_line (missing_later file k counts_line l m))); wide = h }

  counted : (n : ℕ) → Dec (Counted n)
  counted n = elim (in_range 1 atoms_most n) [ yes h ↦ yes (record { some = h.0; most = h.1 }) | no h ↦ no (λ C. h (C.some, C.most)) ]

  not_counted : (n : ℕ) → (Counted n → ⊥) → not_atoms n ≡ true
  not_counted n h = ap not (range_false 1 atoms_most n (λ k. h (record { some = k.0; most = k.1 })))

  -- the last atom line is there exactly when each is
  module _ (some : 1 ≤ atom_count file) where
    empty : (bytes : List ℕ) → length bytes ≡ 0 → bytes ≡ []
    empty [] e = refl
    empty (b ∷ bytes) e = absurd (omega arith)

    atoms_there : (length (from_line (from_line file counts_line) (atom_count file)) ≡ 0 → ⊥) → AtomsThere file
    atoms_there h k l m = h (ap length (sym (from_add file counts_line (atom_count file)) ∙ missing_later file (counts_line + 1 + k) (counts_line + atom_count file) (omega arith) m))

    atoms_gone : length (from_line (from_line file counts_line) (atom_count file)) ≡ 0 → AtomsThere file → ⊥
    atoms_gone e h =
        let d : counts_line + atom_count file ≡ counts_line + 1 + (atom_count file - 1) = omega arith in
        h (atom_count file - 1) (omega arith) (subst (MissingLine file) d (from_add file counts_line (atom_count file) ∙ empty (from_line (from_line file counts_line) (atom_count file)) e))

    atoms_decided : Dec (AtomsThere file)
    atoms_decided = elim (ℕ_discrete (length (from_line (from_line file counts_line) (atom_count file))) 0) [ yes e ↦ no (atoms_gone e) | no e ↦ yes (atoms_there e) ]

    atoms_pass : AtomsThere file → nothing (from_line (from_line file counts_line) (atom_count file)) ≡ false
    atoms_pass h = ne_eqb (length (from_line (from_line file counts_line) (atom_count file))) 0 (λ e. atoms_gone e h)

    atoms_fail : (AtomsThere file → ⊥) → nothing (from_line (from_line file counts_line) (atom_count file)) ≡ true
    atoms_fail h =
        eq-eqb (length (from_line (from_line file counts_line) (atom_count file))) 0
        (elim (ℕ_discrete (length (from_line (from_line file counts_line) (atom_count file))) 0) [ yes e ↦ e | no e ↦ absurd (h (atoms_there e)) ])

pub read_molfile_says : (file table : List ℕ) → ReadMolfileSays file table (molfile_verdict file (length table))
unfolding molfile_verdict counts_fault
read_molfile_says file table =
    head_says 29 (omega arith) _ _ _ (HeadThere file) _
    (elim (dec_le counts_width (length (counts_in file))) [ yes h ↦ yes (head_there file h) | no h ↦ no (λ H. h H.wide) ])
    (λ H. le-ltb (length (counts_in file)) counts_width H.wide)
    (λ h. elim (dec_le counts_width (length (counts_in file))) [ yes l ↦ absurd (h (head_there file l)) | no l ↦ lt-ltb (length (counts_in file)) counts_width (omega arith) ]) λ _.
    head_says 30 (omega arith) _ _ _ (VersionThere (counts_in file)) _ (decided (version_decides (counts_in file))) (λ h. ap not (true_of (version_decides (counts_in file)) h)) (λ h. ap not (false_of (version_decides (counts_in file)) h)) λ _.
    head_says 31 (omega arith) _ _ _ (TwoNumbers (counts_in file)) _ (decided (two_decide (counts_in file))) (λ h. ap not (true_of (two_decide (counts_in file)) h)) (λ h. ap not (false_of (two_decide (counts_in file)) h)) λ _.
    head_says 22 (omega arith) _ _ _ (Counted (atom_count file)) _ (counted file (atom_count file)) (λ C. atoms (atom_count file) C.some C.most) (not_counted file (atom_count file)) λ C.
    head_says 25 (omega arith) _ _ _ (places * atom_count file ≤ length table) _ (dec_le (places * atom_count file) (length table)) (le-ltb (length table) (places * atom_count file)) (λ h. lt-ltb (length table) (places * atom_count file) (omega arith)) λ _.
    head_says 29 (omega arith) _ _ _ (AtomsThere file) _ (atoms_decided file C.some) (atoms_pass file C.some) (atoms_fail file C.some) λ _.
    subst (BondByBond (PairFault (atom_count file) (bond_line file)) (bond_count file) Accepted) (no_fault (first_bond (pair_fault (atom_count file) (bond_line file)) (bond_count file) 0))
    (scan_says (pair_fault (atom_count file) (bond_line file)) (PairFault (atom_count file) (bond_line file)) (λ k c. pair_none (bond_line file) k (atom_count file) c) (λ k. pair_some (bond_line file) k (atom_count file)) (bond_count file))

pub one_molfile_answer : (file table : List ℕ) → OneAnswer (ReadMolfileSays file table)
one_molfile_answer file table =
    one_check _ _ _ (one_check _ _ _ (one_check _ _ _ (one_check _ _ _ (one_check _ _ _ (one_check _ _ _
    (one_bond_by_bond (PairFault (atom_count file) (bond_line file)) (λ k. pair_one (bond_line file) k (atom_count file)) (bond_count file) Accepted one_accepted))))))
