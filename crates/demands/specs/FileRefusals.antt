-- Demand 1, the answers of reading a file: 19 to 25, then 26 and 27 bond by bond.
--
--   Marked file                 the file begins with the mark
--   Within low high k           the signed number k is from low to high
--   Bonds n bond m Later a      26 or 27 at the first of m bonds at fault; else none is, and what comes later says
--   ReadSays file table         the answers of reading the file into the table lent
use Rattle.std.specs.Prelude.{◌≡◌, ◌⊎◌, List, ℕ, ◌+◌, ◌*◌, ◌≤◌, ◌<◌, ℤ, pos, negsuc, length, get_or}
use Rattle.network.specs.Maxima.{atoms_most, places}
use Rattle.network.specs.Chain.{Answers, Check, Accepted}
use Rattle.bonds.specs.Bonds.{Bond, Ninth}
use Rattle.bnw.specs.File.{mark, version, bonds_most, head_length, bond_length}
use Rattle.bnw.specs.FirstBond.{Misplaced, NamesFirstBond}
use Rattle.bnw.specs.Reading.{version_in, atoms_in, bonds_in, signed, bond_in}

abbrev pub Marked : List ℕ → Type 0
Marked file = (get_or file 0 0 ≡ get_or mark 0 0) × (get_or file 1 0 ≡ get_or mark 1 0) × (get_or file 2 0 ≡ get_or mark 2 0)

abbrev pub Within : ℕ → ℕ → ℤ → Type 0
Within low high (pos v) = (low ≤ v) × (v ≤ high)
Within low high (negsuc v) = ⊥

unfoldable pub Bonds : ℕ → (ℕ → Bond) → ℕ → Answers → Answers
Bonds n bond m Later a = NamesFirstBond n bond m a ⊎ (((k : ℕ) → k < m → (Misplaced n bond k → ⊥) × (Ninth bond k → ⊥)) × Later a)

abbrev pub ReadSays : List ℕ → List ℕ → Answers
ReadSays file table =
    Check 19 (head_length ≤ length file)
    (Check 20 (Marked file)
    (Check 21 (version_in file ≡ version)
    (Check 22 (Within 1 atoms_most (signed (atoms_in file)))
    (Check 23 (Within 0 bonds_most (signed (bonds_in file)))
    (Check 24 (length file ≡ head_length + bond_length * bonds_in file)
    (Check 25 (places * atoms_in file ≤ length table)
    (Bonds (atoms_in file) (bond_in file) (bonds_in file)
    Accepted)))))))
