-- What comes of filling the distance buffer: the answer, and the buffer before and after.
--
--   distance_verdict n t d       1, 4, 5, then 7 to 11
--   DistancesOutcome n t before after a    refused, not one byte is changed; accepted, the buffer is the distance table
use Rattle.std.specs.Prelude.{◌≡◌, List, ℕ, ◌*◌}
use Rattle.network.specs.declared.Answer.{Answer}
use Rattle.network.specs.Verdict.{check, not_long, sizes, faults, accepted}
use Rattle.distance.specs.Distances.{DistanceTable}

unfoldable pub distance_verdict : ℕ → List ℕ → List ℕ → Answer
distance_verdict n t d = sizes n t (λ a. a) (check 5 (not_long d (n * n)) (faults n t accepted))

pub record DistancesOutcome (n : ℕ) (t before after : List ℕ) (a : Answer) : Type 0 where
  pub answer : a ≡ distance_verdict n t before
  pub refused : (a.code ≡ 0 → ⊥) → after ≡ before
  pub filled : a.code ≡ 0 → DistanceTable n t after
