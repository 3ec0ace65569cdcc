-- The V2000 connection table (document 02, request 1): three header lines, a counts line, a line for each atom, a line for each bond. Coordinates,
-- bond types and all after the bond lines are skipped.
--
--   counts_line               the number of the counts line: it comes after three header lines
--   counts_width, bond_width  the columns that a counts line has, and a bond line
--   first_at, second_at       where the two numbers of a line stand: atoms and bonds in the counts line, a bond's two atoms in a bond line
--   version_mark, version_at  "V2000", and where it stands
--   counts_in file            the counts line
--   atom_count, bond_count    its numbers of atoms and of bonds
--   after_atoms file          what stands after the atom lines
--   bond_line file k          the line of bond k
--   HasPair line x y          a bond line has the pair of the atoms x and y, either way round: atoms are numbered from 1 there
--   Paired file x y           some bond line has the pair
--   MolfileOf file n bonds    the file is one of n atoms and these bonds: as many as its counts line says, and x and y are two atoms of a bond
--                             exactly when some bond line has the pair
use Rattle.std.specs.Prelude.{◌≡◌, ◌⊎◌, ◌↔◌, List, [], ◌∷◌, ℕ, suc, ◌+◌, ◌<◌, length}
use Rattle.bonds.specs.Bonds.{Bond, Joined}
use Rattle.molfile.specs.Lines.{from_line, line_at}
use Rattle.molfile.specs.Columns.{value_at}

abbrev pub counts_line : ℕ
counts_line = 3

abbrev pub counts_width : ℕ
counts_width = 39

abbrev pub bond_width : ℕ
bond_width = 6

abbrev pub first_at : ℕ
first_at = 0

abbrev pub second_at : ℕ
second_at = 3

abbrev pub version_mark : List ℕ
version_mark = 86 ∷ 50 ∷ 48 ∷ 48 ∷ 48 ∷ []

abbrev pub version_at : ℕ
version_at = 34

abbrev pub counts_in : List ℕ → List ℕ
counts_in file = line_at file counts_line

abbrev pub atom_count : List ℕ → ℕ
atom_count file = value_at (counts_in file) first_at

abbrev pub bond_count : List ℕ → ℕ
bond_count file = value_at (counts_in file) second_at

abbrev pub after_atoms : List ℕ → List ℕ
after_atoms file = from_line file (counts_line + 1 + atom_count file)

abbrev pub bond_line : List ℕ → ℕ → List ℕ
bond_line file k = line_at (after_atoms file) k

abbrev pub HasPair : List ℕ → ℕ → ℕ → Type 0
HasPair line x y =
    ((value_at line first_at ≡ suc x) × (value_at line second_at ≡ suc y))
    ⊎ ((value_at line first_at ≡ suc y) × (value_at line second_at ≡ suc x))

abbrev pub Paired : List ℕ → ℕ → ℕ → Type 0
Paired file x y = (k : ℕ) × (k < bond_count file) × HasPair (bond_line file k) x y

pub record MolfileOf (file : List ℕ) (n : ℕ) (bonds : List Bond) : Type 0 where
  pub atoms : n ≡ atom_count file
  pub number : length bonds ≡ bond_count file
  pub pairs : (x y : ℕ) → Joined bonds x y ↔ Paired file x y
