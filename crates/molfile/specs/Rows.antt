-- The bonds read so far, held as rows while a molfile is read: the atoms bonded to each atom, ascending, then free places.
--
--   inserted y ws           y put in its order into an ascending list: at each member the lesser stays, and the greater is carried on
--   risen_on ws ys          the members of ys, one after the other, put into ws
--   held_row ys             the row of an atom with these partners: they ascend, then come free places
--   Held rows bonds         the rows hold these bonds
--   inserted_at rows i k y     the rows with y put in its order into the k words from i on
--   with_bond rows x y      the rows with a bond of x and y more
--   full_row rows x         whether row x has no free place
--   held_fault n v w rows   32 or 27 of a bond of the atoms v and w, numbered from 1, or 0, where the rows hold the bonds before it
--   rows_fault n line rows  29, 31, 32 or 27 of a bond line, or 0, where they do
--   PairsHeld n rest m rows    the m bond lines that `rest` begins with have no fault, and the rows hold their bonds
use Rattle.std.specs.Prelude.{◌≡◌, Bool, cond, not, ◌||◌, List, [], ◌∷◌, ◌++◌, ℕ, zero, suc, ◌+◌, ◌-◌, ◌*◌, ◌<◌, eqb, ltb, min, max, length, get_or, set, replicate}
use Rattle.network.specs.Maxima.{atoms_most, places, free}
use Rattle.network.specs.Network.{word}
use Rattle.network.specs.Verdict.{accepted, in_row}
use Rattle.bonds.specs.Bonds.{Bond, partners, bonds_below}
use Rattle.bonds.specs.Scan.{first_bond}
use Rattle.molfile.specs.Lines.{line_at}
use Rattle.molfile.specs.Columns.{value_at}
use Rattle.molfile.specs.Molfile.{bond_width, first_at, second_at}
use Rattle.molfile.specs.Judging.{two_numbers, pair_of, outside, pair_fault}

unfoldable pub inserted : ℕ → List ℕ → List ℕ
inserted y [] = y ∷ []
inserted y (w ∷ ws) = min w y ∷ inserted (max w y) ws

abbrev pub risen_on : List ℕ → List ℕ → List ℕ
risen_on ws [] = ws
risen_on ws (y ∷ ys) = risen_on (inserted y ws) ys

unfoldable pub held_row : List ℕ → List ℕ
held_row ys = risen_on [] ys ++ replicate (places - length ys) free

pub record Held (rows : List ℕ) (bonds : List Bond) : Type 0 where
  pub long : length rows ≡ places * atoms_most
  pub row : (x p : ℕ) → x < atoms_most → p < places → word rows x p ≡ get_or (held_row (partners bonds x)) p 0

unfoldable pub inserted_at : List ℕ → ℕ → ℕ → ℕ → List ℕ
inserted_at rows i zero y = rows
inserted_at rows i (suc k) y = inserted_at (set rows i (min (get_or rows i 0) y)) (i + 1) k (max (get_or rows i 0) y)

abbrev pub with_bond : List ℕ → ℕ → ℕ → List ℕ
with_bond rows x y = inserted_at (inserted_at rows (x * places) places y) (y * places) places x

unfoldable pub full_row : List ℕ → ℕ → Bool
full_row rows x = not (eqb (word rows x (places - 1)) free)

unfoldable pub held_fault : ℕ → ℕ → ℕ → List ℕ → ℕ
held_fault n v w rows =
    cond (outside n v || outside n w) 32
    (cond (eqb (v - 1) (w - 1) || in_row rows (w - 1) (v - 1)) 32
    (cond (full_row rows (v - 1) || full_row rows (w - 1)) 27
    0))

unfoldable pub rows_fault : ℕ → List ℕ → List ℕ → ℕ
rows_fault n line rows =
    cond (ltb (length line) bond_width) 29
    (cond (not (two_numbers line)) 31
    (held_fault n (value_at line first_at) (value_at line second_at) rows))

pub record PairsHeld (n : ℕ) (rest : List ℕ) (m : ℕ) (rows : List ℕ) : Type 0 where
  pub none : first_bond (pair_fault n (line_at rest)) m 0 ≡ accepted
  pub holds : Held rows (bonds_below (pair_of (line_at rest)) m)
