-- The networks P1 to P11 of document 01, as one table: the statement that they hold is about the definitions alone.
--
--   Example              the neighbours of each atom, a limit, the rings within it, the words that they take, and how many there
--                        are of each length that has any, as pairs of a length and its number
--   rows_table rows      the bond table with these rows: each filled up with free places
--   by_length limit f    the lengths k up to the limit, each with its number f k, where that is above zero
--   ExampleHolds e       the table is accepted, the rings are its listing, and words and counts are those of the rings
--   P1 .. P11b           the networks; P11 is two examples, with the limits 5 and 4
--   examples             the table of them
--   AllHold              each of them holds
use Rattle.std.specs.Prelude.{◌≡◌, List, [], ◌∷◌, ◌++◌, map, ℕ, suc, ◌-◌, ltb, length, replicate}
use Rattle.graph.specs.Lists.{◌∈◌, gather, keep, numbers_from}
use Rattle.graph.specs.Listing.{RingListing}
use Rattle.graph.specs.Counts.{of_length, words_of}
use Rattle.network.specs.Maxima.{places, free}
use Rattle.network.specs.Network.{Bonded}
use Rattle.network.specs.Verdict.{verdict, accepted}

pub record Example : Type 0 where
  pub rows : List (List ℕ)
  pub limit : ℕ
  pub rings : List (List ℕ)
  pub words : ℕ
  pub counts : List (ℕ × ℕ)

abbrev pub rows_table : List (List ℕ) → List ℕ
rows_table rows = gather (λ r. r ++ replicate (places - length r) free) rows

abbrev pub by_length : ℕ → (ℕ → ℕ) → List (ℕ × ℕ)
by_length limit f = keep (λ c. ltb 0 c.1) (map (λ k. (k, f k)) (numbers_from (suc limit) 0))

pub record ExampleHolds (e : Example) : Type 0 where
  pub is_accepted : verdict (length e.rows) (rows_table e.rows) ≡ accepted
  pub listing : RingListing (Bonded (rows_table e.rows)) e.limit e.rings
  pub words : e.words ≡ words_of e.rings
  pub counts : e.counts ≡ by_length e.limit (λ k. of_length k e.rings)

-- one atom
abbrev pub P1 : Example
P1 = record {
  rows = [] ∷ [];
  limit = 12;
  rings = [];
  words = 0;
  counts = [];
}

-- Fig. 1
abbrev pub P2 : Example
P2 = record {
  rows = (1 ∷ 4 ∷ []) ∷ (0 ∷ 2 ∷ 3 ∷ []) ∷ (1 ∷ 5 ∷ []) ∷ (1 ∷ 5 ∷ 6 ∷ []) ∷ (0 ∷ 5 ∷ []) ∷ (2 ∷ 3 ∷ 4 ∷ 6 ∷ []) ∷ (3 ∷ 5 ∷ []) ∷ [];
  limit = 12;
  rings = (3 ∷ 5 ∷ 6 ∷ []) ∷ (1 ∷ 2 ∷ 5 ∷ 3 ∷ []) ∷ (0 ∷ 1 ∷ 2 ∷ 5 ∷ 4 ∷ []) ∷ (0 ∷ 1 ∷ 3 ∷ 5 ∷ 4 ∷ []) ∷ [];
  words = 21;
  counts = (3, 1) ∷ (4, 1) ∷ (5, 2) ∷ [];
}

-- Fig. 1 at limit 4
abbrev pub P3 : Example
P3 = record {
  rows = P2.rows;
  limit = 4;
  rings = (3 ∷ 5 ∷ 6 ∷ []) ∷ (1 ∷ 2 ∷ 5 ∷ 3 ∷ []) ∷ [];
  words = 9;
  counts = (3, 1) ∷ (4, 1) ∷ [];
}

-- a cycle of 6 with a bond across
abbrev pub P4 : Example
P4 = record {
  rows = (1 ∷ 3 ∷ 5 ∷ []) ∷ (0 ∷ 2 ∷ []) ∷ (1 ∷ 3 ∷ []) ∷ (0 ∷ 2 ∷ 4 ∷ []) ∷ (3 ∷ 5 ∷ []) ∷ (0 ∷ 4 ∷ []) ∷ [];
  limit = 12;
  rings = (0 ∷ 1 ∷ 2 ∷ 3 ∷ []) ∷ (0 ∷ 3 ∷ 4 ∷ 5 ∷ []) ∷ [];
  words = 10;
  counts = (4, 2) ∷ [];
}

-- a cycle of 8 that an outside atom cuts short
abbrev pub P5 : Example
P5 = record {
  rows = (1 ∷ 7 ∷ 8 ∷ []) ∷ (0 ∷ 2 ∷ []) ∷ (1 ∷ 3 ∷ []) ∷ (2 ∷ 4 ∷ []) ∷ (3 ∷ 5 ∷ 8 ∷ []) ∷ (4 ∷ 6 ∷ []) ∷ (5 ∷ 7 ∷ []) ∷ (0 ∷ 6 ∷ []) ∷ (0 ∷ 4 ∷ []) ∷ [];
  limit = 12;
  rings = (0 ∷ 1 ∷ 2 ∷ 3 ∷ 4 ∷ 8 ∷ []) ∷ (0 ∷ 7 ∷ 6 ∷ 5 ∷ 4 ∷ 8 ∷ []) ∷ [];
  words = 14;
  counts = (6, 2) ∷ [];
}

-- the same, with the outside atom the smallest
abbrev pub P6 : Example
P6 = record {
  rows = (1 ∷ 5 ∷ []) ∷ (0 ∷ 2 ∷ 8 ∷ []) ∷ (1 ∷ 3 ∷ []) ∷ (2 ∷ 4 ∷ []) ∷ (3 ∷ 5 ∷ []) ∷ (0 ∷ 4 ∷ 6 ∷ []) ∷ (5 ∷ 7 ∷ []) ∷ (6 ∷ 8 ∷ []) ∷ (1 ∷ 7 ∷ []) ∷ [];
  limit = 12;
  rings = (0 ∷ 1 ∷ 2 ∷ 3 ∷ 4 ∷ 5 ∷ []) ∷ (0 ∷ 1 ∷ 8 ∷ 7 ∷ 6 ∷ 5 ∷ []) ∷ [];
  words = 14;
  counts = (6, 2) ∷ [];
}

-- a cycle of 7 that an outside atom cuts short
abbrev pub P7 : Example
P7 = record {
  rows = (1 ∷ 6 ∷ []) ∷ (0 ∷ 2 ∷ []) ∷ (1 ∷ 3 ∷ []) ∷ (2 ∷ 4 ∷ 7 ∷ []) ∷ (3 ∷ 5 ∷ []) ∷ (4 ∷ 6 ∷ []) ∷ (0 ∷ 5 ∷ 7 ∷ []) ∷ (3 ∷ 6 ∷ []) ∷ [];
  limit = 12;
  rings = (3 ∷ 4 ∷ 5 ∷ 6 ∷ 7 ∷ []) ∷ (0 ∷ 1 ∷ 2 ∷ 3 ∷ 7 ∷ 6 ∷ []) ∷ [];
  words = 13;
  counts = (5, 1) ∷ (6, 1) ∷ [];
}

-- the cube: its faces and its chairs
abbrev pub P8 : Example
P8 = record {
  rows = (1 ∷ 2 ∷ 4 ∷ []) ∷ (0 ∷ 3 ∷ 5 ∷ []) ∷ (0 ∷ 3 ∷ 6 ∷ []) ∷ (1 ∷ 2 ∷ 7 ∷ []) ∷ (0 ∷ 5 ∷ 6 ∷ []) ∷ (1 ∷ 4 ∷ 7 ∷ []) ∷ (2 ∷ 4 ∷ 7 ∷ []) ∷ (3 ∷ 5 ∷ 6 ∷ []) ∷ [];
  limit = 12;
  rings = (0 ∷ 1 ∷ 3 ∷ 2 ∷ []) ∷ (0 ∷ 1 ∷ 5 ∷ 4 ∷ []) ∷ (0 ∷ 2 ∷ 6 ∷ 4 ∷ []) ∷ (1 ∷ 3 ∷ 7 ∷ 5 ∷ []) ∷ (2 ∷ 3 ∷ 7 ∷ 6 ∷ []) ∷ (4 ∷ 5 ∷ 7 ∷ 6 ∷ []) ∷ (0 ∷ 1 ∷ 3 ∷ 7 ∷ 6 ∷ 4 ∷ []) ∷ (0 ∷ 1 ∷ 5 ∷ 7 ∷ 6 ∷ 2 ∷ []) ∷ (0 ∷ 2 ∷ 3 ∷ 7 ∷ 5 ∷ 4 ∷ []) ∷ (1 ∷ 3 ∷ 2 ∷ 6 ∷ 4 ∷ 5 ∷ []) ∷ [];
  words = 58;
  counts = (4, 6) ∷ (6, 4) ∷ [];
}

-- four atoms all bonded
abbrev pub P9 : Example
P9 = record {
  rows = (1 ∷ 2 ∷ 3 ∷ []) ∷ (0 ∷ 2 ∷ 3 ∷ []) ∷ (0 ∷ 1 ∷ 3 ∷ []) ∷ (0 ∷ 1 ∷ 2 ∷ []) ∷ [];
  limit = 12;
  rings = (0 ∷ 1 ∷ 2 ∷ []) ∷ (0 ∷ 1 ∷ 3 ∷ []) ∷ (0 ∷ 2 ∷ 3 ∷ []) ∷ (1 ∷ 2 ∷ 3 ∷ []) ∷ [];
  words = 16;
  counts = (3, 4) ∷ [];
}

-- two triangles apart
abbrev pub P10 : Example
P10 = record {
  rows = (1 ∷ 2 ∷ []) ∷ (0 ∷ 2 ∷ []) ∷ (0 ∷ 1 ∷ []) ∷ (4 ∷ 5 ∷ []) ∷ (3 ∷ 5 ∷ []) ∷ (3 ∷ 4 ∷ []) ∷ [];
  limit = 12;
  rings = (0 ∷ 1 ∷ 2 ∷ []) ∷ (3 ∷ 4 ∷ 5 ∷ []) ∷ [];
  words = 8;
  counts = (3, 2) ∷ [];
}

-- a cycle of 5 at limit 5
abbrev pub P11a : Example
P11a = record {
  rows = (1 ∷ 4 ∷ []) ∷ (0 ∷ 2 ∷ []) ∷ (1 ∷ 3 ∷ []) ∷ (2 ∷ 4 ∷ []) ∷ (0 ∷ 3 ∷ []) ∷ [];
  limit = 5;
  rings = (0 ∷ 1 ∷ 2 ∷ 3 ∷ 4 ∷ []) ∷ [];
  words = 6;
  counts = (5, 1) ∷ [];
}

-- and at limit 4
abbrev pub P11b : Example
P11b = record {
  rows = P11a.rows;
  limit = 4;
  rings = [];
  words = 0;
  counts = [];
}

abbrev pub examples : List Example
examples = P1 ∷ P2 ∷ P3 ∷ P4 ∷ P5 ∷ P6 ∷ P7 ∷ P8 ∷ P9 ∷ P10 ∷ P11a ∷ P11b ∷ []

abbrev pub AllHold : Type 0
AllHold = (e : Example) → e ∈ examples → ExampleHolds e
