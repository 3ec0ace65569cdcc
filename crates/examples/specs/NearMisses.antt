-- Near misses that the work rules out (document 01): tests that take a cycle which is no shortest-path ring.
--
--   RingTest                 a test of a ring r in the network of n atoms with the table t
--   distances_by most n adj  distances over the neighbours adj of n atoms, by levels: right as far as `most`, and one more beyond
--   every_pair_of p k        p holds of every pair of places i < j below k
--   pairs_fit which dist r   those pairs of places of r that are chosen are at ring distance
--   every_cycle              no test at all
--   chords_only              looking for chords only: atoms that do not follow each other round the ring are not bonded
--   antipodes_of_three       testing only the antipodal pairs that start at places 0, 1 and 2
--   first_labels             testing labels from the first atom only
--   finished_dropped         dropping finished atoms, those smaller than the ring's first, from the distances as well
--   NearMiss                 a wrong test, an example, and a cycle of its network
--   Missed m                 the test takes the cycle, which is a ring of the network and no shortest-path ring
--   near_misses              the table of them: Fig. 1's two cycles that the paper rules out, then those of document 01
--   AllMissed                this holds of each
use Rattle.std.specs.Prelude.{Bool, true, ◌&&◌, ◌||◌, not, List, [], ◌∷◌, ℕ, suc, ◌-◌, ◌/◌, T, eqb, leb, ltb, length, get_or}
use Rattle.graph.specs.Lists.{◌∈◌, keep, numbers_from, every}
use Rattle.graph.specs.Graph.{around, Ring, ShortestPathRing}
use Rattle.graph.specs.Levels.{elem}
use Rattle.graph.specs.Search.{distance_table, look}
use Rattle.network.specs.Network.{Bonded, neighbours}
use Rattle.examples.specs.Examples.{Example, rows_table, P2, P5, P6, P7}

abbrev pub RingTest : Type 0
RingTest = ℕ → List ℕ → List ℕ → Bool

abbrev pub distances_by : ℕ → ℕ → (ℕ → List ℕ) → ℕ → ℕ → ℕ
distances_by most n adj = look (suc most) (distance_table (suc most) most n adj)

abbrev pub every_pair_of : (ℕ → ℕ → Bool) → ℕ → Bool
every_pair_of p k = every (λ j. every (λ i. p i j) (numbers_from j 0)) (numbers_from k 0)

abbrev pub pairs_fit : (ℕ → ℕ → Bool) → (ℕ → ℕ → ℕ) → List ℕ → Bool
pairs_fit which dist r = every_pair_of (λ i j. not (which i j) || eqb (dist (get_or r i 0) (get_or r j 0)) (around (length r) (j - i))) (length r)

abbrev pub every_cycle : RingTest
every_cycle n t r = true

abbrev pub chords_only : RingTest
chords_only n t r = every_pair_of (λ i j. eqb (around (length r) (j - i)) 1 || not (elem eqb (get_or r j 0) (neighbours t (get_or r i 0)))) (length r)

abbrev pub antipodes_of_three : RingTest
antipodes_of_three n t r = pairs_fit (λ i j. ltb i 3 && eqb (around (length r) (j - i)) (length r / 2)) (distances_by n n (neighbours t)) r

abbrev pub first_labels : RingTest
first_labels n t r = pairs_fit (λ i j. eqb i 0) (distances_by n n (neighbours t)) r

abbrev pub finished_dropped : RingTest
finished_dropped n t r = pairs_fit (λ i j. true) (distances_by n n (λ x. keep (λ y. leb (get_or r 0 0) y) (neighbours t x))) r

pub record NearMiss : Type 0 where
  pub test : RingTest
  pub example : Example
  pub cycle : List ℕ

pub record Missed (m : NearMiss) : Type 0 where
  pub takes : T (m.test (length m.example.rows) (rows_table m.example.rows) m.cycle)
  pub ring : Ring (Bonded (rows_table m.example.rows)) 0 m.cycle
  pub not_shortest : ShortestPathRing (Bonded (rows_table m.example.rows)) 0 m.cycle → ⊥

abbrev pub near_misses : List NearMiss
near_misses =
    record { test = every_cycle; example = P2; cycle = 0 ∷ 1 ∷ 3 ∷ 6 ∷ 5 ∷ 4 ∷ [] }
    ∷ record { test = every_cycle; example = P2; cycle = 1 ∷ 2 ∷ 5 ∷ 6 ∷ 3 ∷ [] }
    ∷ record { test = chords_only; example = P5; cycle = 0 ∷ 1 ∷ 2 ∷ 3 ∷ 4 ∷ 5 ∷ 6 ∷ 7 ∷ [] }
    ∷ record { test = antipodes_of_three; example = P7; cycle = 0 ∷ 1 ∷ 2 ∷ 3 ∷ 4 ∷ 5 ∷ 6 ∷ [] }
    ∷ record { test = first_labels; example = P7; cycle = 0 ∷ 1 ∷ 2 ∷ 3 ∷ 4 ∷ 5 ∷ 6 ∷ [] }
    ∷ record { test = finished_dropped; example = P6; cycle = 1 ∷ 2 ∷ 3 ∷ 4 ∷ 5 ∷ 6 ∷ 7 ∷ 8 ∷ [] }
    ∷ []

abbrev pub AllMissed : Type 0
AllMissed = (m : NearMiss) → m ∈ near_misses → Missed m
