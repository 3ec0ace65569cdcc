-- What comes of the checks before the search, and of filling the distance buffer.
--
--   Prepared n t limit allowance before after a    refused, no byte is changed; otherwise the buffer is the distance table
--   Passed n t limit allowance d                   what is right where no check refuses: t is a network, d has a byte for each two atoms, and limit
--                                                  and allowance are inside their bounds
use Rattle.std.specs.Prelude.{◌≡◌, List, ℕ, ◌*◌, ◌≤◌, length}
use Rattle.network.specs.declared.Answer.{Answer}
use Rattle.network.specs.Network.{IsNetwork}
use Rattle.distance.specs.Distances.{DistanceTable}
use Rattle.ring.specs.Maxima.{ring_least, ring_most, allowance_most}
use Rattle.census.specs.Census.{limit_of, before_search}

pub record Prepared (n : ℕ) (t : List ℕ) (limit allowance : ℕ) (before after : List ℕ) (a : Answer) : Type 0 where
  pub answer : a ≡ before_search n t limit allowance before
  pub refused : (a.code ≡ 0 → ⊥) → after ≡ before
  pub filled : a.code ≡ 0 → DistanceTable n t after

pub record Passed (n : ℕ) (t : List ℕ) (limit allowance : ℕ) (d : List ℕ) : Type 0 where
  pub network : IsNetwork n t
  pub room : length d ≡ n * n
  pub least : ring_least ≤ limit_of limit
  pub most : limit_of limit ≤ ring_most
  pub some : 1 ≤ allowance
  pub bounded : allowance ≤ allowance_most
