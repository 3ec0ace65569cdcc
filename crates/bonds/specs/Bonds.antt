-- Bonds, and the table that they define (document 01, "The network file").
--
--   Bond                      two bonded atoms
--   bond x y                  the bond of x and y, x first
--   EarlierBond a b           a comes before b: by the first atom and then the second
--   Joins b x y               x and y are the two atoms of bond b, either way round
--   Joined bonds x y          x and y are the two atoms of a bond
--   partner x b               the other atom of a bond of x; none where x is not in the bond
--   partners bonds x          the atoms bonded to x, in the order of the bonds
--   ValidBonds n bonds        bonds as a network has them: smaller atom first, atoms below n, strictly ascending, at most 8 on an atom
--   row_of bonds x            row x of the table: its partners, then free places
--   table_of n bonds          the table that the bonds define
--   bond_at t i               word i as a bond of its row: where it is a neighbour above the row's own number
--   bonds_of t                the bonds of a table, word by word: smaller atom first, ascending
--   bonds_below bond k        the bonds of number below k
--   full bond k x             whether x has, among the bonds of number below k, as many as a row has places
--   Ninth bond k              27: one of the atoms of bond k has as many
use Rattle.bonds.specs.declared.Bond.{Bond as BondFields}
use Rattle.std.specs.Prelude.{◌≡◌, ◌⊎◌, Bool, cond, not, ◌&&◌, List, [], ◌∷◌, ◌++◌, map, ℕ, ◌-◌, ◌/◌, ◌≤◌, ◌<◌, eqb, leb, ltb, length, get_or, replicate}
use Rattle.graph.specs.Lists.{◌∈◌, Ascending, gather, numbers_from}
use Rattle.network.specs.Maxima.{places, free}

abbrev pub Bond : Type 0
Bond = BondFields

abbrev pub bond : ℕ → ℕ → Bond
bond x y = record { first = x; second = y }

abbrev pub EarlierBond : Bond → Bond → Type 0
EarlierBond a b = (a.first < b.first) ⊎ ((a.first ≡ b.first) × (a.second < b.second))

abbrev pub Joins : Bond → ℕ → ℕ → Type 0
Joins b x y = ((b.first ≡ x) × (b.second ≡ y)) ⊎ ((b.second ≡ x) × (b.first ≡ y))

abbrev pub Joined : List Bond → ℕ → ℕ → Type 0
Joined bonds x y = (bond x y ∈ bonds) ⊎ (bond y x ∈ bonds)

unfoldable pub partner : ℕ → Bond → List ℕ
partner x b = cond (eqb b.first x) (b.second ∷ []) (cond (eqb b.second x) (b.first ∷ []) [])

unfoldable pub partners : List Bond → ℕ → List ℕ
partners bonds x = gather (partner x) bonds

pub record ValidBonds (n : ℕ) (bonds : List Bond) : Type 0 where
  pub ordered : (b : Bond) → b ∈ bonds → b.first < b.second
  pub below : (b : Bond) → b ∈ bonds → b.second < n
  pub ascends : Ascending EarlierBond bonds
  pub eight : (x : ℕ) → length (partners bonds x) ≤ places

unfoldable pub row_of : List Bond → ℕ → List ℕ
row_of bonds x = partners bonds x ++ replicate (places - length (partners bonds x)) free

unfoldable pub table_of : ℕ → List Bond → List ℕ
table_of n bonds = gather (row_of bonds) (numbers_from n 0)

unfoldable pub bond_at : List ℕ → ℕ → List Bond
bond_at t i = cond (not (eqb (get_or t i 0) free) && ltb (i / places) (get_or t i 0)) (bond (i / places) (get_or t i 0) ∷ []) []

unfoldable pub bonds_of : List ℕ → List Bond
bonds_of t = gather (bond_at t) (numbers_from (length t) 0)

abbrev pub bonds_below : (ℕ → Bond) → ℕ → List Bond
bonds_below bond k = map bond (numbers_from k 0)

unfoldable pub full : (ℕ → Bond) → ℕ → ℕ → Bool
full bond k x = leb places (length (partners (bonds_below bond k) x))

abbrev pub Ninth : (ℕ → Bond) → ℕ → Type 0
Ninth bond k =
    (places ≤ length (partners (bonds_below bond k) (bond k).first))
    ⊎ (places ≤ length (partners (bonds_below bond k) (bond k).second))
