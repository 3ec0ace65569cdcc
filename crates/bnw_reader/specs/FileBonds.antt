-- The bonds of a file, as a slice of the bytes of each.
--
--   bond_from bytes    the bond of four bytes
--   among bonds k      bond k of such a slice
--   partner_if x b     the other atom of a bond, where it is one of x
--   partners_in bonds x    the atoms bonded to x, in the order of such a slice
--   Holds file room atoms bonds    a file with a right head, where the table lent has `room` words, is of so many atoms and these bonds
use Rattle.std.specs.Prelude.{◌≡◌, length, List, [], ℕ, cond, eqb, get_or, Option, None, Some, filter_map}
use Rattle.bonds.specs.Bonds.{Bond}
use Rattle.bnw.specs.Reading.{field, atoms_in, bonds_in, bond_in, head_fault}

abbrev pub bond_from : List ℕ → Bond
bond_from bytes = record { first = field bytes 0; second = field bytes 2 }

abbrev pub among : List (List ℕ) → ℕ → Bond
among bonds k = bond_from (get_or bonds k [])

unfoldable pub partner_if : ℕ → Bond → Option ℕ
partner_if x b = cond (eqb b.first x) (Some b.second) (cond (eqb b.second x) (Some b.first) None)

abbrev pub partners_in : List (List ℕ) → ℕ → List ℕ
partners_in bonds x = filter_map (λ bytes. partner_if x (bond_from bytes)) bonds

pub record Holds (file : List ℕ) (room atoms : ℕ) (bonds : List (List ℕ)) : Type 0 where
  pub right : 0 ≡ head_fault file room
  pub counted : atoms ≡ atoms_in file
  pub number : length bonds ≡ bonds_in file
  pub each : (k : ℕ) → among bonds k ≡ bond_in file k
