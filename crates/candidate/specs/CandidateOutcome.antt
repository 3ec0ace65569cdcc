-- What comes of testing a candidate: the answer, the outcome, the 24 words, and the distance buffer before and after.
--
--   Values                      the outline's values of an outcome: a number that tells the case, and a pair of places
--   no_values                   those of a refused call, where every number is 0
--   values s                    the values of each case of the enum: 0 refused, 1 yes, 2 no with its pair of places
--   Shorter t r i j             the network distance of the atoms at i and j is shorter than their ring distance
--   FirstPair Bad k i j         i < j < k is the first bad pair of places, by i and then j
--   RightValues t r v words     yes: a shortest-path ring, and the words are its one writing;
--                               no: the first pair that is shorter, and the words are zero
--   FillOutcome n t r before after a    refused, the buffer is as before; accepted, it is the distance table
--   CandidateOutcome ..         refused: not one byte is changed, all else is zero;
--                               not refused: the buffer is the distance table, and what the values say
use Rattle.std.specs.Prelude.{◌≡◌, ◌⊎◌, List, ℕ, ◌-◌, ◌<◌, length, get_or, replicate}
use Rattle.graph.specs.Graph.{Distance, around, ShortestPathRing}
use Rattle.network.specs.Network.{Bonded}
use Rattle.distance.specs.Distances.{DistanceTable}
use Rattle.network.specs.declared.Answer.{Answer}
use Rattle.candidate.specs.Told.{Shortest, Yes, No, Refused, Tested}
use Rattle.ring.specs.Maxima.{ring_most}
use Rattle.ring.specs.Writes.{WritingPadded}
use Rattle.candidate_faults.specs.CandidateVerdict.{candidate_verdict}

pub record Values : Type 0 where
  pub number : ℕ
  pub first : ℕ
  pub second : ℕ

abbrev pub no_values : Values
no_values = record { number = 0; first = 0; second = 0 }

abbrev pub values : Shortest → Values
values Refused = no_values
values Yes = record { number = 1; first = 0; second = 0 }
values (No i j) = record { number = 2; first = i; second = j }

pub record Shorter (t r : List ℕ) (i j : ℕ) : Type 0 where
  pub bonds : ℕ
  pub least : Distance (Bonded t) (get_or r i 0) (get_or r j 0) bonds
  pub fewer : bonds < around (length r) (j - i)

pub record FirstPair (Bad : ℕ → ℕ → Type 0) (k i j : ℕ) : Type 0 where
  pub in_order : i < j
  pub inside : j < k
  pub bad : Bad i j
  pub first : (x y : ℕ) → x < y → y < k → (x < i) ⊎ ((x ≡ i) × (y < j)) → Bad x y → ⊥

abbrev pub RightValues : List ℕ → List ℕ → Values → List ℕ → Type 0
RightValues t r v words =
    ((v.number ≡ 1) × (v.first ≡ 0) × (v.second ≡ 0) × ShortestPathRing (Bonded t) 0 r × WritingPadded r words)
    ⊎ ((v.number ≡ 2) × FirstPair (Shorter t r) (length r) v.first v.second × (words ≡ replicate ring_most 0))

pub record FillOutcome (n : ℕ) (t r before after : List ℕ) (a : Answer) : Type 0 where
  pub answer : a ≡ candidate_verdict n t r before
  pub refused : (a.code ≡ 0 → ⊥) → after ≡ before
  pub filled : a.code ≡ 0 → DistanceTable n t after

pub record CandidateOutcome (n : ℕ) (t r before after : List ℕ) (c : Tested) : Type 0 where
  pub answer : c.answer ≡ candidate_verdict n t r before
  pub refused : (c.answer.code ≡ 0 → ⊥) → (after ≡ before) × (values c.shortest ≡ no_values) × (c.writing ≡ replicate ring_most 0)
  pub filled : c.answer.code ≡ 0 → DistanceTable n t after
  pub says : c.answer.code ≡ 0 → RightValues t r (values c.shortest) c.writing
