-- What an accepted candidate is.
--
--   RightCandidate n t r d     r is a ring of at most 24 atoms in the network t, and the distance buffer d has n·n bytes
use Rattle.std.specs.Prelude.{◌≡◌, List, ℕ, ◌*◌, ◌≤◌, length}
use Rattle.graph.specs.Graph.{Ring}
use Rattle.network.specs.Network.{Bonded, IsNetwork}
use Rattle.ring.specs.Maxima.{ring_most}

pub record RightCandidate (n : ℕ) (t r d : List ℕ) : Type 0 where
  pub network : IsNetwork n t
  pub room : length d ≡ n * n
  pub ring : Ring (Bonded t) 0 r
  pub most : length r ≤ ring_most
