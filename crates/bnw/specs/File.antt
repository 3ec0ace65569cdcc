-- The network file (document 01, "The network file"): what its bytes are; what table its bonds define is in crate `bonds`.
--
--   mark, version             "BNW", 1
--   bonds_most                the most bonds: each of the most atoms has a bond at every place, and each bond has two atoms
--   head_length, bond_length  the bytes before the bonds, and those of a bond
--   two_bytes v               v, little-endian
--   bond_bytes b              a bond: two unsigned 16-bit atoms
--   head_of n bonds           the head: mark, version, atom count, bond count
--   file_of n bonds           the file: the head, then the bonds
use Rattle.std.specs.Prelude.{List, [], ◌∷◌, ◌++◌, ℕ, ◌*◌, ◌/◌, ◌%◌, length}
use Rattle.graph.specs.Lists.{gather}
use Rattle.network.specs.Maxima.{atoms_most, places}
use Rattle.bonds.specs.Bonds.{Bond}

abbrev pub mark : List ℕ
mark = 66 ∷ 78 ∷ 87 ∷ []

abbrev pub version : ℕ
version = 1

abbrev pub bonds_most : ℕ
bonds_most = atoms_most * places / 2

abbrev pub head_length : ℕ
head_length = 9

abbrev pub bond_length : ℕ
bond_length = 4

abbrev pub two_bytes : ℕ → List ℕ
two_bytes v = v % 256 ∷ v / 256 ∷ []

abbrev pub bond_bytes : Bond → List ℕ
bond_bytes b = two_bytes b.first ++ two_bytes b.second

abbrev pub head_of : ℕ → ℕ → List ℕ
head_of n bonds = mark ++ two_bytes version ++ two_bytes n ++ two_bytes bonds

unfoldable pub file_of : ℕ → List Bond → List ℕ
file_of n bonds = head_of n (length bonds) ++ gather bond_bytes bonds
