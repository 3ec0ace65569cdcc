-- Document 01's own file, computed by the checker: Fig. 1 in 45 bytes, and the same with an atom count of FF FF.
use mathlib.Core.Path.{◌≡◌, refl}
use mathlib.Core.List.{List, [], ◌∷◌}
use Prim.Native.Nat.{ℕ, ◌*◌}
use lib.IntN.{negsuc}
use Rattle.network.specs.Maxima.{places}
use Rattle.network.specs.Verdict.{accepted, refusal}
use Rattle.examples.specs.Examples.{rows_table, P2}
use Rattle.bonds.specs.Bonds.{partner, partners, row_of, table_of, bond_at, bonds_of, bonds_below, full}
use Rattle.bonds.specs.Scan.{or_at, first_bond}
use Rattle.bnw.specs.File.{file_of}
use Rattle.bnw.specs.Reading.{signed, out_of_range, marked, head_fault, earlier_bond, inside, is_in_order, file_bond_fault, bond_in, read_verdict, read_value}

-- "BNW", version 1, so many atoms, nine bonds
abbrev pub file : ℕ → ℕ → List ℕ
file low high = 66 ∷ 78 ∷ 87 ∷ 1 ∷ 0 ∷ low ∷ high ∷ 9 ∷ 0 ∷ 0 ∷ 0 ∷ 1 ∷ 0 ∷ 0 ∷ 0 ∷ 4 ∷ 0 ∷ 1 ∷ 0 ∷ 2 ∷ 0 ∷ 1 ∷ 0 ∷ 3 ∷ 0 ∷ 2 ∷ 0 ∷ 5 ∷ 0 ∷ 3 ∷ 0 ∷ 5 ∷ 0 ∷ 3 ∷ 0 ∷ 6 ∷ 0 ∷ 4 ∷ 0 ∷ 5 ∷ 0 ∷ 5 ∷ 0 ∷ 6 ∷ 0 ∷ []

pub figure_1_written : file_of 7 (bonds_of (rows_table P2.rows)) ≡ file 7 0
unfolding file_of bonds_of bond_at
figure_1_written = refl

pub figure_1_accepted : read_verdict (file 7 0) (places * 7) ≡ accepted
unfolding read_verdict head_fault marked out_of_range signed file_bond_fault inside is_in_order earlier_bond full partners partner or_at first_bond
figure_1_accepted = refl

pub figure_1_read : table_of 7 (bonds_below (bond_in (file 7 0)) 9) ≡ rows_table P2.rows
unfolding table_of row_of partners partner
figure_1_read = refl

pub count_negative : (read_verdict (file 255 255) (places * 7) ≡ refusal 22) × (read_value (file 255 255) 22 ≡ negsuc 0)
unfolding read_verdict head_fault marked out_of_range signed or_at read_value
count_negative = (refl, refl)
