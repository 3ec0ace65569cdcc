-- What reading a file answers.
use mathlib.Core.Path.{◌≡◌, refl, sym, ap, subst}
use mathlib.Core.Logic.{inl, inr}
use mathlib.Core.Bool.{Bool, true, false, not, cond}
use mathlib.Core.List.{List}
use Prim.Native.Nat.{ℕ, ◌+◌, ◌*◌, ◌≤◌, ◌<◌}
use native.Mathlib.Omega.{arith}
use native.Mathlib.Decide.{ℕ_discrete, dec_le}
use lib.IntN.{ℤ, pos, negsuc}
use lib.ListN.{length, get_or}
use borrow.Author.Tests.{lt-ltb, le-ltb, eq-eqb, ne_eqb}
use Rattle.network.specs.declared.Answer.{Answer}
use Rattle.network.specs.Maxima.{atoms_most, places}
use Rattle.network.specs.Chain.{Answers, Check, Accepted}
use Rattle.network.proofs.Chains.{in_range, range_true, range_false}
use Rattle.bonds.specs.Bonds.{Bond}
use Rattle.bonds.specs.Scan.{or_at, first_bond}
use Rattle.bonds.proofs.Scan.{scan_clean, clean_scan, given}
use Rattle.bnw.specs.File.{mark, version, bonds_most, head_length, bond_length}
use Rattle.bnw.specs.Reading.{version_in, atoms_in, bonds_in, signed, out_of_range, marked, head_fault, bond_in, file_bond_fault, read_verdict}
use Rattle.bnw.proofs.FirstBonds.{fault_clean, names_first}
use Rattle.demands.specs.FileRefusals.{Marked, Within, Bonds, ReadSays}

-- one check of the head
module _ (c : ℕ) (some : c ≡ 0 → ⊥) (bad : Bool) (rest : ℕ) (later : Answer) (Right : Type 0) (Later : Answers) where
  pub head_says : Dec Right → (Right → bad ≡ false) → ((Right → ⊥) → bad ≡ true) → (Right → Later (or_at rest 0 later)) → Check c Right Later (or_at (cond bad c rest) 0 later)
  unfolding Check
  head_says (yes r) f g k = subst (λ (b : Bool). Check c Right Later (or_at (cond b c rest) 0 later)) (sym (f r)) (inr (r, k r))
  head_says (no h) f g k = subst (λ (b : Bool). Check c Right Later (or_at (cond b c rest) 0 later)) (sym (g h)) (inl (h, given c 0 later some))

mark_right : (file : List ℕ) → Dec (Marked file)
mark_right file = go (ℕ_discrete (get_or file 0 0) (get_or mark 0 0)) (ℕ_discrete (get_or file 1 0) (get_or mark 1 0)) (ℕ_discrete (get_or file 2 0) (get_or mark 2 0))
  where
    go : Dec (get_or file 0 0 ≡ get_or mark 0 0) → Dec (get_or file 1 0 ≡ get_or mark 1 0) → Dec (get_or file 2 0 ≡ get_or mark 2 0) → Dec (Marked file)
    go (yes a) (yes b) (yes c) = yes (a, b, c)
    go (no a) _ _ = no (λ h. a h.0)
    go (yes a) (no b) _ = no (λ h. b h.1)
    go (yes a) (yes b) (no c) = no (λ h. c h.2)

mark_found : (file : List ℕ) → Marked file → not (marked file) ≡ false
unfolding marked
mark_found file h = rw (eq-eqb _ _ h.0, eq-eqb _ _ h.1, eq-eqb _ _ h.2) refl

mark_missing : (file : List ℕ) → (Marked file → ⊥) → not (marked file) ≡ true
unfolding marked
mark_missing file h = go (ℕ_discrete (get_or file 0 0) (get_or mark 0 0)) (ℕ_discrete (get_or file 1 0) (get_or mark 1 0)) (ℕ_discrete (get_or file 2 0) (get_or mark 2 0))
  where
    go : Dec (get_or file 0 0 ≡ get_or mark 0 0) → Dec (get_or file 1 0 ≡ get_or mark 1 0) → Dec (get_or file 2 0 ≡ get_or mark 2 0) → not (marked file) ≡ true
    go (yes a) (yes b) (yes c) = absurd (h (a, b, c))
    go (no a) _ _ = rw (ne_eqb _ _ a) refl
    go (yes a) (no b) _ = rw (eq-eqb _ _ a, ne_eqb _ _ b) refl
    go (yes a) (yes b) (no c) = rw (eq-eqb _ _ a, eq-eqb _ _ b, ne_eqb _ _ c) refl

module _ (low high : ℕ) where
  within : (k : ℤ) → Dec (Within low high k)
  within (pos v) = in_range low high v
  within (negsuc v) = no (λ h. h)

  within_passes : (k : ℤ) → Within low high k → out_of_range low high k ≡ false
  unfolding out_of_range
  within_passes (pos v) h = ap not (range_true low high v h)
  within_passes (negsuc v) h = absurd h

  within_fails : (k : ℤ) → (Within low high k → ⊥) → out_of_range low high k ≡ true
  unfolding out_of_range
  within_fails (pos v) h = ap not (range_false low high v h)
  within_fails (negsuc v) h = refl

-- the bonds
bonds_say : (n : ℕ) (bond : ℕ → Bond) (m : ℕ) → Bonds n bond m Accepted (first_bond (file_bond_fault n bond) m 0)
unfolding Bonds
bonds_say n bond m = go (ℕ_discrete (first_bond (file_bond_fault n bond) m 0).code 0)
  where
    go : Dec ((first_bond (file_bond_fault n bond) m 0).code ≡ 0) → Bonds n bond m Accepted (first_bond (file_bond_fault n bond) m 0)
    go (no z) = inl (names_first n bond m z)
    go (yes z) =
        let clean : (k : ℕ) → 0 ≤ k → k < 0 + m → file_bond_fault n bond k ≡ 0 = scan_clean (file_bond_fault n bond) m 0 z in
        inr (λ k l. fault_clean n bond k (clean k (omega arith) (omega arith)), clean_scan (file_bond_fault n bond) m 0 clean)

-- no fault in the head
pub no_fault : (a : Answer) → a ≡ or_at 0 0 a
unfolding or_at
no_fault a = refl

pub read_says : (file table : List ℕ) → ReadSays file table (read_verdict file (length table))
unfolding read_verdict head_fault
read_says file table =
    head_says 19 (omega arith) _ _ _ (head_length ≤ length file) _ (dec_le head_length (length file)) (le-ltb (length file) head_length) (λ h. lt-ltb (length file) head_length (omega arith)) λ _.
    head_says 20 (omega arith) _ _ _ (Marked file) _ (mark_right file) (mark_found file) (mark_missing file) λ _.
    head_says 21 (omega arith) _ _ _ (version_in file ≡ version) _ (ℕ_discrete (version_in file) version) (λ e. ap not (eq-eqb (version_in file) version e)) (λ e. ap not (ne_eqb (version_in file) version e)) λ _.
    head_says 22 (omega arith) _ _ _ (Within 1 atoms_most (signed (atoms_in file))) _ (within 1 atoms_most (signed (atoms_in file))) (within_passes 1 atoms_most (signed (atoms_in file))) (within_fails 1 atoms_most (signed (atoms_in file))) λ _.
    head_says 23 (omega arith) _ _ _ (Within 0 bonds_most (signed (bonds_in file))) _ (within 0 bonds_most (signed (bonds_in file))) (within_passes 0 bonds_most (signed (bonds_in file))) (within_fails 0 bonds_most (signed (bonds_in file))) λ _.
    head_says 24 (omega arith) _ _ _ (length file ≡ head_length + bond_length * bonds_in file) _ (ℕ_discrete (length file) (head_length + bond_length * bonds_in file)) (λ e. ap not (eq-eqb (length file) (head_length + bond_length * bonds_in file) e)) (λ e. ap not (ne_eqb (length file) (head_length + bond_length * bonds_in file) e)) λ _.
    head_says 25 (omega arith) _ _ _ (places * atoms_in file ≤ length table) _ (dec_le (places * atoms_in file) (length table)) (le-ltb (length table) (places * atoms_in file)) (λ h. lt-ltb (length table) (places * atoms_in file) (omega arith)) λ _.
    subst (Bonds (atoms_in file) (bond_in file) (bonds_in file) Accepted) (no_fault (first_bond (file_bond_fault (atoms_in file) (bond_in file)) (bonds_in file) 0)) (bonds_say (atoms_in file) (bond_in file) (bonds_in file))
