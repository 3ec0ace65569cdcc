-- What a network is (document 01, "The network"). A table t is its words, row after row.
--
--   word t x p        the word at place p of row x
--   Holds t x p       that place is not free: it holds a neighbour of x
--   Bonded t x y      y stands at a place of row x, as a neighbour
--   Counted n         n is a number of atoms: 1 to 250
--   IsNetwork n t     t is the table of a network of n atoms
--   neighbours t x    the neighbours in row x, in order: what a graph of lists takes for the bonds of x
use Rattle.std.specs.Prelude.{◌≡◌, List, not, ℕ, ◌+◌, ◌*◌, ◌≤◌, ◌<◌, eqb, length, get_or, take, drop}
use Rattle.graph.specs.Lists.{keep}
use Rattle.network.specs.Maxima.{atoms_most, places, free}

abbrev pub word : List ℕ → ℕ → ℕ → ℕ
word t x p = get_or t (x * places + p) 0

abbrev pub Holds : List ℕ → ℕ → ℕ → Type 0
Holds t x p = word t x p ≡ free → ⊥

pub record Bonded (t : List ℕ) (x y : ℕ) : Type 0 where
  pub place : ℕ
  pub within_row : place < places
  pub in_table : x * places + place < length t
  pub stands : word t x place ≡ y
  pub atom : y ≡ free → ⊥

pub record Counted (n : ℕ) : Type 0 where
  pub some : 1 ≤ n
  pub most : n ≤ atoms_most

pub record IsNetwork (n : ℕ) (t : List ℕ) : Type 0 where
  -- there are n rows
  pub counted : Counted n
  pub whole : length t ≡ places * n
  -- a neighbour is an atom, and not the row's own
  pub below : (x p : ℕ) → x < n → p < places → Holds t x p → word t x p < n
  pub other : (x p : ℕ) → x < n → p < places → Holds t x p → word t x p ≡ x → ⊥
  -- neighbours stand first, strictly ascending
  pub first : (x p q : ℕ) → x < n → p < q → q < places → Holds t x q → Holds t x p
  pub ascends : (x p q : ℕ) → x < n → p < q → q < places → Holds t x q → word t x p < word t x q
  -- if y stands in row x, x stands in row y
  pub answered : (x p : ℕ) → x < n → p < places → Holds t x p → Bonded t (word t x p) x

abbrev pub neighbours : List ℕ → ℕ → List ℕ
neighbours t x = keep (λ w. not (eqb w free)) (take places (drop (x * places) t))
