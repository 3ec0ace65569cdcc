-- What comes of reading a file: the answer, and the lent table before and after.
--
--   of_bytes low high               the number of two bytes, little-endian, unsigned
--   field file i                    the number of the two bytes from i on
--   version_in, atoms_in, bonds_in  the fields of the head: bytes 3 and 4, 5 and 6, 7 and 8
--   Bytes file                      every element is a byte
--   signed v                        a 16-bit field in two's complement
--   out_of_range low high k         whether k is not from low to high
--   marked file                     whether the file begins with the mark
--   head_fault file room            the first of 19 to 25, or 0, where the table lent has `room` words
--   bond_in file k                  bond k of a file
--   earlier_bond a b                whether bond a comes before bond b
--   inside n b                      whether both atoms are below n, and the first is below the second
--   is_in_order bond k              whether bond k comes after the previous one, if there is one
--   file_bond_fault n bond k        26 or 27 at bond k, or 0
--   read_verdict file room          19 to 25, then 26 and 27 bond by bond
--   read_value file code            the signed value that goes with an answer: the count field at 22 and 23, otherwise 0
--   IsFile file n bonds             the file is that of n atoms and these bonds
--   ReadsAs file before after r     the file is that of r's atoms and some valid bonds, of r's number, and their table stands
--                                   first in the table lent, of which the rest stays
--   ReadOutcome file before after r    what comes of reading: refused, nothing is changed and the counts are 0
use Rattle.std.specs.Prelude.{◌≡◌, Bool, true, cond, not, ◌&&◌, ◌||◌, List, ℕ, ◌+◌, ◌-◌, ◌*◌, ◌<◌, eqb, leb, ltb, ℤ, pos, negsuc, ◌-ℤ◌, length, get_or}
use Rattle.network.specs.declared.Answer.{Answer}
use Rattle.network.specs.Maxima.{atoms_most, places}
use Rattle.bonds.specs.declared.Reading.{Reading}
use Rattle.bonds.specs.Bonds.{Bond, full}
use Rattle.bonds.specs.Scan.{or_at, first_bond}
use Rattle.bonds.specs.Outcome.{Filled, ReadingOutcome}
use Rattle.bnw.specs.File.{mark, version, bonds_most, head_length, bond_length, file_of}

abbrev pub of_bytes : ℕ → ℕ → ℕ
of_bytes low high = low + 256 * high

abbrev pub field : List ℕ → ℕ → ℕ
field file i = of_bytes (get_or file i 0) (get_or file (i + 1) 0)

abbrev pub version_in : List ℕ → ℕ
version_in file = field file 3

abbrev pub atoms_in : List ℕ → ℕ
atoms_in file = field file 5

abbrev pub bonds_in : List ℕ → ℕ
bonds_in file = field file 7

unfoldable pub Bytes : List ℕ → Type 0
Bytes file = (i : ℕ) → get_or file i 0 < 256

unfoldable pub signed : ℕ → ℤ
signed v = cond (ltb v 32768) (pos v) (pos v -ℤ pos 65536)

unfoldable pub out_of_range : ℕ → ℕ → ℤ → Bool
out_of_range low high (pos v) = not (leb low v && leb v high)
out_of_range low high (negsuc v) = true

unfoldable pub marked : List ℕ → Bool
marked file = eqb (get_or file 0 0) (get_or mark 0 0) && eqb (get_or file 1 0) (get_or mark 1 0) && eqb (get_or file 2 0) (get_or mark 2 0)

unfoldable pub head_fault : List ℕ → ℕ → ℕ
head_fault file room =
    cond (ltb (length file) head_length) 19
    (cond (not (marked file)) 20
    (cond (not (eqb (version_in file) version)) 21
    (cond (out_of_range 1 atoms_most (signed (atoms_in file))) 22
    (cond (out_of_range 0 bonds_most (signed (bonds_in file))) 23
    (cond (not (eqb (length file) (head_length + bond_length * bonds_in file))) 24
    (cond (ltb room (places * atoms_in file)) 25
    0))))))

abbrev pub bond_in : List ℕ → ℕ → Bond
bond_in file k = record { first = field file (head_length + bond_length * k); second = field file (head_length + bond_length * k + 2) }

unfoldable pub earlier_bond : Bond → Bond → Bool
earlier_bond a b = ltb a.first b.first || (eqb a.first b.first && ltb a.second b.second)

unfoldable pub inside : ℕ → Bond → Bool
inside n b = ltb b.first n && ltb b.second n && ltb b.first b.second

unfoldable pub is_in_order : (ℕ → Bond) → ℕ → Bool
is_in_order bond k = eqb k 0 || earlier_bond (bond (k - 1)) (bond k)

unfoldable pub file_bond_fault : ℕ → (ℕ → Bond) → ℕ → ℕ
file_bond_fault n bond k =
    cond (not (inside n (bond k) && is_in_order bond k)) 26
    (cond (full bond k (bond k).first || full bond k (bond k).second) 27
    0)

unfoldable pub read_verdict : List ℕ → ℕ → Answer
read_verdict file room = or_at (head_fault file room) 0 (first_bond (file_bond_fault (atoms_in file) (bond_in file)) (bonds_in file) 0)

unfoldable pub read_value : List ℕ → ℕ → ℤ
read_value file code = cond (eqb code 22) (signed (atoms_in file)) (cond (eqb code 23) (signed (bonds_in file)) (pos 0))

abbrev pub IsFile : List ℕ → ℕ → List Bond → Type 0
IsFile file n bonds = file ≡ file_of n bonds

abbrev pub ReadsAs : List ℕ → List ℕ → List ℕ → Reading → Type 0
ReadsAs file = Filled (IsFile file)

abbrev pub ReadOutcome : List ℕ → List ℕ → List ℕ → Reading → Type 0
ReadOutcome file before after r = ReadingOutcome (read_verdict file (length before)) (read_value file) (IsFile file) before after r
