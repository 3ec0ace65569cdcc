-- How a molfile is judged (document 02, request 1): 29, 30, 31 for header and counts line, 22, 25, 29 for a missing atom line; then bond by bond
-- 29, 31, 32, 27. A line that is missing has no columns.
--
--   has_version line            whether "V2000" stands in its columns
--   nothing bytes               whether there are none
--   two_numbers line            whether both number columns of a line are numbers
--   counts_fault rest room      the first of 29, 30, 31, 22, 25 and 29, or 0, where `rest` stands from the counts line on and the table lent has
--                               `room` words. Where a header line is missing, so is the counts line; where an atom line is, so is the last.
--   pair_of line k              the bond of bond line k, where `line` gives the bond lines: its atoms, numbered from 0
--   outside n v                 whether v, numbered from 1, is no atom of a model of n
--   pair_seen bond k            whether a bond of number below k has the pair of bond k, either way round
--   pair_fault n line k         29, 31, 32 or 27 at bond k, or 0
--   molfile_verdict file room   the answer
--   counts_value rest code      the count that a refusal names, where `rest` stands from the counts line on: the atom count at 22, otherwise 0
--   molfile_value file code     the value that goes with the answer
--   MolfileOutcome file before after r    what comes of reading a molfile
use Rattle.std.specs.Prelude.{Bool, cond, not, ◌&&◌, ◌||◌, List, ℕ, ◌+◌, ◌-◌, ◌*◌, eqb, leb, ltb, ℤ, pos, length, get_or}
use Rattle.graph.specs.Levels.{elem}
use Rattle.network.specs.declared.Answer.{Answer}
use Rattle.network.specs.Maxima.{places}
use Rattle.network.specs.Verdict.{not_atoms}
use Rattle.bonds.specs.Bonds.{Bond, partners, bonds_below, full}
use Rattle.bonds.specs.declared.Reading.{Reading}
use Rattle.bonds.specs.Scan.{or_at, first_bond}
use Rattle.bonds.specs.Outcome.{ReadingOutcome}
use Rattle.molfile.specs.Lines.{line_of, from_line}
use Rattle.molfile.specs.Columns.{number_at, value_at}
use Rattle.molfile.specs.Molfile.{counts_line, counts_width, bond_width, first_at, second_at, version_mark, version_at, atom_count, bond_count, bond_line, MolfileOf}

unfoldable pub has_version : List ℕ → Bool
has_version line =
    eqb (get_or line version_at 0) (get_or version_mark 0 0)
    && eqb (get_or line (version_at + 1) 0) (get_or version_mark 1 0)
    && eqb (get_or line (version_at + 2) 0) (get_or version_mark 2 0)
    && eqb (get_or line (version_at + 3) 0) (get_or version_mark 3 0)
    && eqb (get_or line (version_at + 4) 0) (get_or version_mark 4 0)

abbrev pub nothing : List ℕ → Bool
nothing bytes = eqb (length bytes) 0

unfoldable pub two_numbers : List ℕ → Bool
two_numbers line = number_at line first_at && number_at line second_at

unfoldable pub counts_fault : List ℕ → ℕ → ℕ
counts_fault rest room =
    cond (ltb (length (line_of rest)) counts_width) 29
    (cond (not (has_version (line_of rest))) 30
    (cond (not (two_numbers (line_of rest))) 31
    (cond (not_atoms (value_at (line_of rest) first_at)) 22
    (cond (ltb room (places * value_at (line_of rest) first_at)) 25
    (cond (nothing (from_line rest (value_at (line_of rest) first_at))) 29
    0)))))

abbrev pub pair_of : (ℕ → List ℕ) → ℕ → Bond
pair_of line k = record { first = value_at (line k) first_at - 1; second = value_at (line k) second_at - 1 }

abbrev pub outside : ℕ → ℕ → Bool
outside n v = not (leb 1 v && leb v n)

unfoldable pub pair_seen : (ℕ → Bond) → ℕ → Bool
pair_seen bond k = elem eqb (bond k).second (partners (bonds_below bond k) (bond k).first)

unfoldable pub pair_fault : ℕ → (ℕ → List ℕ) → ℕ → ℕ
pair_fault n line k =
    cond (ltb (length (line k)) bond_width) 29
    (cond (not (two_numbers (line k))) 31
    (cond (outside n (value_at (line k) first_at) || outside n (value_at (line k) second_at)) 32
    (cond (eqb (pair_of line k).first (pair_of line k).second || pair_seen (pair_of line) k) 32
    (cond (full (pair_of line) k (pair_of line k).first || full (pair_of line) k (pair_of line k).second) 27
    0))))

unfoldable pub molfile_verdict : List ℕ → ℕ → Answer
molfile_verdict file room = or_at (counts_fault (from_line file counts_line) room) 0 (first_bond (pair_fault (atom_count file) (bond_line file)) (bond_count file) 0)

abbrev pub counts_value : List ℕ → ℕ → ℤ
counts_value rest code = cond (eqb code 22) (pos (value_at (line_of rest) first_at)) (pos 0)

unfoldable pub molfile_value : List ℕ → ℕ → ℤ
molfile_value file code = counts_value (from_line file counts_line) code

abbrev pub MolfileOutcome : List ℕ → List ℕ → List ℕ → Reading → Type 0
MolfileOutcome file before after r = ReadingOutcome (molfile_verdict file (length before)) (molfile_value file) (MolfileOf file) before after r
