-- Laws of reading molfiles.
--
--   molfile_gives_one     a molfile gives one network
--   molfile_one           two outcomes of reading a molfile into a table are the same
--   bonded_exactly        accepted, y is bonded to x exactly when some bond line has the pair
--   verdict_alike         files with the same lines, as far as they are read, have the same verdict
--   lines_alike           they have the same outcomes
--   same_back             it does not matter which of the two files comes first
--   returns_alike         with LF for CR LF a file has the same outcomes
use Rattle.std.proofs.Common.{◌≡◌, refl, sym, ◌∙◌, ap, ap₂, subst, ◌↔◌, Bool, cond, not, ◌||◌, List, [], ◌∷◌, map, ℕ, zero, suc, ◌+◌, ◌-◌, ◌*◌, ◌≤◌, ◌<◌, arith, eqb, leb, ltb, pos, length, take, eq-eqb, ne_eqb}
use Rattle.std.proofs.Math.Decide.{ℕ_discrete}
use Rattle.graph.specs.Lists.{numbers_from}
use Rattle.graph.specs.Levels.{elem}
use Rattle.network.specs.declared.Answer.{Answer}
use Rattle.network.specs.Maxima.{places}
use Rattle.network.specs.Network.{Bonded}
use Rattle.network.specs.Verdict.{not_atoms}
use Rattle.bonds.specs.declared.Reading.{Reading}
use Rattle.bonds.specs.Bonds.{Bond, bond, partners, full, ValidBonds}
use Rattle.bonds.specs.Scan.{or_at, first_bond}
use Rattle.bonds.specs.Outcome.{GivesOne}
use Rattle.bonds.proofs.Tables.{joined_bonded, bonded_joined}
use Rattle.bonds.proofs.Returns.{valid_unique}
use Rattle.bonds.proofs.Readings.{table_is, readings_one}
use Rattle.molfile.specs.Lines.{line_of, from_line, line_at}
use Rattle.molfile.specs.LineEnds.{without_returns, NoTwoReturns}
use Rattle.molfile.specs.Columns.{value_at}
use Rattle.molfile.specs.Molfile.{counts_line, counts_width, bond_width, first_at, second_at, atom_count, bond_count, bond_line, HasPair, Paired, MolfileOf}
use Rattle.molfile.specs.Judging.{has_version, nothing, two_numbers, counts_fault, pair_of, outside, pair_seen, pair_fault, molfile_verdict, molfile_value, MolfileOutcome}
use Rattle.molfile.specs.Same.{lines_read, SameLines}
use Rattle.molfile.proofs.Lines.{from_add}
use Rattle.molfile.proofs.LineEnds.{lines_without, missing_without}

pub molfile_gives_one : (file : List ℕ) → GivesOne (MolfileOf file)
molfile_gives_one file n m bonds more B C F G =
    let e : n ≡ m = F.atoms ∙ sym G.atoms in
    (e, valid_unique n bonds more B (subst (λ (k : ℕ). ValidBonds k more) (sym e) C) (λ x y. (λ j. (G.pairs x y).1 ((F.pairs x y).0 j), λ j. (F.pairs x y).1 ((G.pairs x y).0 j))))

pub molfile_one : (file before one other : List ℕ) (r s : Reading) → MolfileOutcome file before one r → MolfileOutcome file before other s → (r ≡ s) × (one ≡ other)
molfile_one file before one other r s = readings_one (molfile_gives_one file)

pub bonded_exactly : (file before after : List ℕ) (r : Reading) → MolfileOutcome file before after r → r.answer.code ≡ 0
    → (x y : ℕ) → Bonded (take (places * r.atoms) after) x y ↔ Paired file x y
bonded_exactly file before after r R z x y =
    let A = R.accepts z in
    let e = table_is R z in (
      λ b. (A.gives.pairs x y).0 (bonded_joined r.atoms A.list A.counted A.valid x y (subst (λ (t : List ℕ). Bonded t x y) e b)),
      λ p. subst (λ (t : List ℕ). Bonded t x y) (sym e) (joined_bonded r.atoms A.list A.counted A.valid x y ((A.gives.pairs x y).1 p)),
    )

-- the faults of a bond line, where one knows the line and the bonds before it
abbrev of_pair : ℕ → List ℕ → List Bond → ℕ
of_pair n line earlier =
    let x = value_at line first_at - 1 in
    let y = value_at line second_at - 1 in
    cond (ltb (length line) bond_width) 29
    (cond (not (two_numbers line)) 31
    (cond (outside n (value_at line first_at) || outside n (value_at line second_at)) 32
    (cond (eqb x y || elem eqb y (partners earlier x)) 32
    (cond (leb places (length (partners earlier x)) || leb places (length (partners earlier y))) 27
    0))))

-- the bonds and the first fault, among bonds of which each is the same
same_below : (pair more : ℕ → Bond) (m a : ℕ) → ((j : ℕ) → j < a + m → more j ≡ pair j) → map more (numbers_from m a) ≡ map pair (numbers_from m a)
same_below pair more zero a same = refl
same_below pair more (suc m) a same = ap₂ ◌∷◌ (same a (omega arith)) (same_below pair more m (suc a) (λ j l. same j (omega arith)))

same_scan : (fault more : ℕ → ℕ) (m a : ℕ) → ((j : ℕ) → j < a + m → more j ≡ fault j) → first_bond more m a ≡ first_bond fault m a
unfolding first_bond
same_scan fault more zero a same = refl
same_scan fault more (suc m) a same =
    ap₂ (λ (c : ℕ) (later : Answer). or_at c a later) (same a (omega arith)) (same_scan fault more m (a + 1) (λ j l. same j (omega arith)))

-- the first fault, among bond lines of which each is the same
module _ (n : ℕ) (line other : ℕ → List ℕ) (m : ℕ) (same : (k : ℕ) → k < m → other k ≡ line k) where
  has_same_pair : (k : ℕ) → k < m → pair_of other k ≡ pair_of line k
  has_same_pair k l = ap (λ (one : List ℕ). bond (value_at one first_at - 1) (value_at one second_at - 1)) (same k l)

  same_fault : (k : ℕ) → k < m → pair_fault n other k ≡ pair_fault n line k
  unfolding pair_fault pair_seen full
  same_fault k l = ap₂ (of_pair n) (same k l) (same_below (pair_of line) (pair_of other) k 0 (λ j h. has_same_pair j (omega arith)))

  same_faults : first_bond (pair_fault n other) m 0 ≡ first_bond (pair_fault n line) m 0
  same_faults = same_scan (pair_fault n line) (pair_fault n other) m 0 (λ j l. same_fault j (omega arith))

-- files with the same lines
module _ (file other : List ℕ) (S : SameLines file other) where
  same_counts : line_of (from_line other counts_line) ≡ line_of (from_line file counts_line)
  same_counts = S.lines counts_line (omega arith)

  same_atoms : atom_count other ≡ atom_count file
  same_atoms = ap (λ (line : List ℕ). value_at line first_at) same_counts

  empty : (bytes : List ℕ) → length bytes ≡ 0 → bytes ≡ []
  empty [] e = refl
  empty (b ∷ bytes) e = absurd (omega arith)

  same_nothing : (k : ℕ) → k ≤ atom_count file → nothing (from_line (from_line other counts_line) k) ≡ nothing (from_line (from_line file counts_line) k)
  same_nothing k l = go (ℕ_discrete (length (from_line (from_line other counts_line) k)) 0)
    where
      there : length (from_line (from_line other counts_line) k) ≡ 0 → length (from_line (from_line file counts_line) k) ≡ 0
      there e = ap length (sym (from_add file counts_line k) ∙ (S.missing (counts_line + k) (omega arith)).0 (from_add other counts_line k ∙ empty (from_line (from_line other counts_line) k) e))

      back : length (from_line (from_line file counts_line) k) ≡ 0 → length (from_line (from_line other counts_line) k) ≡ 0
      back e = ap length (sym (from_add other counts_line k) ∙ (S.missing (counts_line + k) (omega arith)).1 (from_add file counts_line k ∙ empty (from_line (from_line file counts_line) k) e))

      go : Dec (length (from_line (from_line other counts_line) k) ≡ 0) → nothing (from_line (from_line other counts_line) k) ≡ nothing (from_line (from_line file counts_line) k)
      go (yes e) = rw (eq-eqb (length (from_line (from_line other counts_line) k)) 0 e, eq-eqb (length (from_line (from_line file counts_line) k)) 0 (there e)) refl
      go (no e) = rw (ne_eqb (length (from_line (from_line other counts_line) k)) 0 e, ne_eqb (length (from_line (from_line file counts_line) k)) 0 (λ d. e (back d))) refl

  -- the faults of header and counts line, where one knows the line and whether the last atom line is there
  abbrev of_line : List ℕ → ℕ → Bool → ℕ
  of_line line room gone =
      cond (ltb (length line) counts_width) 29
      (cond (not (has_version line)) 30
      (cond (not (two_numbers line)) 31
      (cond (not_atoms (value_at line first_at)) 22
      (cond (ltb room (places * value_at line first_at)) 25
      (cond gone 29
      0)))))

  same_head : (room : ℕ) → counts_fault (from_line other counts_line) room ≡ counts_fault (from_line file counts_line) room
  unfolding counts_fault
  same_head room =
      ap₂ (λ (line : List ℕ) (gone : Bool). of_line line room gone) same_counts (same_nothing (atom_count other) (omega (arith, same_atoms)) ∙ ap (λ (k : ℕ). nothing (from_line (from_line file counts_line) k)) same_atoms)

  same_number : bond_count other ≡ bond_count file
  same_number = ap (λ (line : List ℕ). value_at line second_at) same_counts

  same_bonds : (k : ℕ) → k < bond_count file → bond_line other k ≡ bond_line file k
  same_bonds k l =
      ap line_of (sym (from_add other (counts_line + 1 + atom_count other) k)) ∙ S.lines (counts_line + 1 + atom_count other + k) (omega (arith, same_atoms))
      ∙ ap (λ (n : ℕ). line_at file (counts_line + 1 + n + k)) same_atoms ∙ ap line_of (from_add file (counts_line + 1 + atom_count file) k)

  pub verdict_alike : (room : ℕ) → molfile_verdict other room ≡ molfile_verdict file room
  unfolding molfile_verdict
  verdict_alike room =
      ap₂ (λ (c : ℕ) (later : Answer). or_at c 0 later) (same_head room)
      (ap₂ (λ (n m : ℕ). first_bond (pair_fault n (bond_line other)) m 0) same_atoms same_number
      ∙ same_faults (atom_count file) (bond_line file) (bond_line other) (bond_count file) same_bonds)

  value_alike : (c : ℕ) → molfile_value other c ≡ molfile_value file c
  unfolding molfile_value
  value_alike c = ap (λ (n : ℕ). cond (eqb c 22) (pos n) (pos 0)) same_atoms

  paired_alike : (x y : ℕ) → Paired file x y ↔ Paired other x y
  paired_alike x y = (
    λ p. (p.0, omega (arith, p.1, same_number), subst (λ (line : List ℕ). HasPair line x y) (sym (same_bonds p.0 p.1)) p.2),
    λ p. (let l : p.0 < bond_count file = omega (arith, p.1, same_number) in (p.0, l, subst (λ (line : List ℕ). HasPair line x y) (same_bonds p.0 l) p.2)),
  )

  gives_alike : (n : ℕ) (bonds : List Bond) → MolfileOf file n bonds → MolfileOf other n bonds
  gives_alike n bonds F = record {
    atoms = F.atoms ∙ sym same_atoms;
    number = F.number ∙ sym same_number;
    pairs = λ x y. (λ j. (paired_alike x y).0 ((F.pairs x y).0 j), λ p. (F.pairs x y).1 ((paired_alike x y).1 p));
  }

  pub lines_alike : (before after : List ℕ) (r : Reading) → MolfileOutcome file before after r → MolfileOutcome other before after r
  lines_alike before after r R = record {
    verdict = R.verdict ∙ sym (verdict_alike (length before));
    signs = R.signs ∙ sym (value_alike r.answer.code);
    refused = R.refused;
    accepts = λ z. (let A = R.accepts z in
        record { list = A.list; counted = A.counted; valid = A.valid; gives = gives_alike r.atoms A.list A.gives; number = A.number; filled = A.filled });
  }

  same_read : lines_read other ≡ lines_read file
  same_read = ap₂ (λ (n m : ℕ). counts_line + 1 + n + m) same_atoms same_number

  pub same_back : SameLines other file
  same_back = record {
    lines = λ k l. sym (S.lines k (omega (arith, same_read)));
    missing = λ k l. (let same = S.missing k (omega (arith, same_read)) in (same.1, same.0));
  }

-- LF for CR LF
same_without : (file : List ℕ) → NoTwoReturns file → SameLines file (without_returns file)
same_without file none = record { lines = λ k _. lines_without file none k; missing = λ k _. missing_without file k }

pub returns_alike : (file before after : List ℕ) (r : Reading) → NoTwoReturns file
    → MolfileOutcome file before after r ↔ MolfileOutcome (without_returns file) before after r
returns_alike file before after r none =
    let S = same_without file none in
    (lines_alike file (without_returns file) S before after r, lines_alike (without_returns file) file (same_back file (without_returns file) S) before after r)
