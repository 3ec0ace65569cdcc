-- The last near miss of document 01: counting each ring once per direction or starting atom.
--
--   smallest_first r      the smallest atom stands first
--   second_smaller r      the second atom is smaller than the last
--   once_per_direction    every pair of atoms is tested, and that the smallest stands first
--   once_per_start        every pair of atoms is tested, and that the second is smaller than the last
--   Repeat                such a test, an example, a ring of its list, and another cycle
--   TakenTwice m          the test takes the ring and the other: a reading of the ring, so a shortest-path ring too, but not its one
--                         writing. A count by this test is too great
--   repeats               the table of them: a ring of P4 turned round, and begun at each of its other atoms
--   AllTakenTwice         this holds of each
use Rattle.std.specs.Prelude.{Bool, true, ◌&&◌, List, [], ◌∷◌, ℕ, suc, ◌-◌, T, ltb, length, get_or}
use Rattle.graph.specs.Lists.{◌∈◌, numbers_from, every}
use Rattle.graph.specs.Graph.{ShortestPathRing}
use Rattle.graph.specs.Writing.{RingReading, OneWriting}
use Rattle.network.specs.Network.{Bonded, neighbours}
use Rattle.examples.specs.Examples.{Example, rows_table, P4}
use Rattle.examples.specs.NearMisses.{RingTest, distances_by, pairs_fit}

abbrev pub smallest_first : List ℕ → Bool
smallest_first r = every (λ i. ltb (get_or r 0 0) (get_or r (suc i) 0)) (numbers_from (length r - 1) 0)

abbrev pub second_smaller : List ℕ → Bool
second_smaller r = ltb (get_or r 1 0) (get_or r (length r - 1) 0)

abbrev pub once_per_direction : RingTest
once_per_direction n t r = pairs_fit (λ i j. true) (distances_by n n (neighbours t)) r && smallest_first r

abbrev pub once_per_start : RingTest
once_per_start n t r = pairs_fit (λ i j. true) (distances_by n n (neighbours t)) r && second_smaller r

pub record Repeat : Type 0 where
  pub test : RingTest
  pub example : Example
  pub ring : List ℕ
  pub other : List ℕ

pub record TakenTwice (m : Repeat) : Type 0 where
  pub listed : m.ring ∈ m.example.rings
  pub takes : T (m.test (length m.example.rows) (rows_table m.example.rows) m.ring)
  pub takes_other : T (m.test (length m.example.rows) (rows_table m.example.rows) m.other)
  pub reading : RingReading 0 m.ring m.other
  pub shortest : ShortestPathRing (Bonded (rows_table m.example.rows)) 0 m.other
  pub not_written : OneWriting m.other → ⊥

abbrev pub repeats : List Repeat
repeats =
    record { test = once_per_direction; example = P4; ring = 0 ∷ 1 ∷ 2 ∷ 3 ∷ []; other = 0 ∷ 3 ∷ 2 ∷ 1 ∷ [] }
    ∷ record { test = once_per_start; example = P4; ring = 0 ∷ 1 ∷ 2 ∷ 3 ∷ []; other = 1 ∷ 0 ∷ 3 ∷ 2 ∷ [] }
    ∷ record { test = once_per_start; example = P4; ring = 0 ∷ 1 ∷ 2 ∷ 3 ∷ []; other = 2 ∷ 1 ∷ 0 ∷ 3 ∷ [] }
    ∷ record { test = once_per_start; example = P4; ring = 0 ∷ 1 ∷ 2 ∷ 3 ∷ []; other = 3 ∷ 0 ∷ 1 ∷ 2 ∷ [] }
    ∷ []

abbrev pub AllTakenTwice : Type 0
AllTakenTwice = (m : Repeat) → m ∈ repeats → TakenTwice m
