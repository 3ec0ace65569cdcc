-- Demand 2, of rings.
--
--   RingsStand t limit rings    the demand, of a list of rings, in the network whose bonds the table t tells: `graph: StandExactly, StandsOnce,
--                               RoundIsDistance`, where one ring is every reading of it, from any place either way, and in its one writing the
--                               smallest atom stands first, and the second is smaller than the last; in the list shorter rings stand first,
--                               equal lengths by the first atom that differs
--   Numbers n rings c           the numbers of a census c that follow from the list: counts, total, words, averages
--   AcceptedCount n t limit c   the demand, of counting: the limit used, and a list of rings of which both hold
--   AcceptedListing n t limit list list' c    the demand, of a listing: and these rings stand at the front of the list buffer, whose rest stays
use Rattle.std.specs.Prelude.{◌≡◌, List, ◌++◌, map, ℕ, ◌+◌, ◌<◌, length, drop}
use Rattle.graph.specs.Lists.{numbers_from}
use Rattle.graph.specs.Writing.{RingReading, OneWriting}
use Rattle.graph.specs.Standing.{StandExactly}
use Rattle.graph.specs.Counts.{of_length, lengths_of, words_of}
use Rattle.network.specs.Network.{Bonded}
use Rattle.ring.specs.Maxima.{ring_most}
use Rattle.census.specs.Told.{Census}
use Rattle.averages.specs.Averages.{quotient, mean_of, mean_values}
use Rattle.census.specs.Census.{limit_of, encode}

-- a cycle of at most `limit` bonds is at its distances round the ring exactly when it stands in the list, once (exactly); nothing else stands there
-- (cycles), each ring in its one writing (written), in list order (order)
abbrev pub RingsStand : List ℕ → ℕ → List (List ℕ) → Type 0
RingsStand t limit rings = StandExactly (Bonded t) 0 ◌<◌ (RingReading 0) OneWriting limit rings

pub record Numbers (n : ℕ) (rings : List (List ℕ)) (c : Census) : Type 0 where
  -- one count for each length, 0 to the greatest, in this order: how many rings have that length
  pub counts : c.counts ≡ map (λ k. of_length k rings) (numbers_from (ring_most + 1) 0)
  pub total : c.total ≡ length rings
  pub words : c.words ≡ words_of rings
  -- rings per atom, and their mean length: the sum of the lengths over the number of rings
  pub per_atom : c.averages.per_atom ≡ quotient (length rings) n
  pub mean : mean_values c.averages.mean ≡ mean_values (mean_of (length rings) (lengths_of rings))

pub record AcceptedCount (n : ℕ) (t : List ℕ) (limit : ℕ) (c : Census) : Type 0 where
  pub used : c.limit ≡ limit_of limit
  pub rings : List (List ℕ)
  pub stand : RingsStand t c.limit rings
  pub numbers : Numbers n rings c

abbrev pub AcceptedListing : ℕ → List ℕ → ℕ → List ℕ → List ℕ → Census → Type 0
AcceptedListing n t limit list list' c = (counted : AcceptedCount n t limit c) × (list' ≡ encode counted.rings ++ drop c.words list)
