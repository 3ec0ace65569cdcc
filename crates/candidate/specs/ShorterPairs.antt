-- What is looked for among the pairs of places of a candidate, in a distance table d.
--
--   short n d r i j       the entry for the atoms at i and j is below their ring distance
--   NoneShort n d r       no pair of places is short
--   FirstShort n d r o    o is the first pair that is short, or none where none is
use Rattle.std.specs.Prelude.{◌≡◌, Bool, true, false, List, ℕ, ◌-◌, ◌<◌, Option, None, Some, ltb, length, get_or}
use Rattle.graph.specs.Graph.{around}
use Rattle.distance.specs.Distances.{distance}
use Rattle.candidate.specs.CandidateOutcome.{FirstPair}

abbrev pub short : ℕ → List ℕ → List ℕ → ℕ → ℕ → Bool
short n d r i j = ltb (distance d n (get_or r i 0) (get_or r j 0)) (around (length r) (j - i))

abbrev pub NoneShort : ℕ → List ℕ → List ℕ → Type 0
NoneShort n d r = (i j : ℕ) → i < j → j < length r → short n d r i j ≡ false

abbrev pub FirstShort : ℕ → List ℕ → List ℕ → Option (ℕ × ℕ) → Type 0
FirstShort n d r None = NoneShort n d r
FirstShort n d r (Some p) = FirstPair (λ i j. short n d r i j ≡ true) (length r) p.0 p.1
