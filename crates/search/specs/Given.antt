-- What a step of the search is given.
--
--   Given n k path    the path's atoms are below n, one at least, and it is to be a ring of k
use Rattle.std.specs.Prelude.{ℕ, ◌<◌, ◌≤◌, List, length, get_or}
use Rattle.ring.specs.Maxima.{ring_least, ring_most}

pub record Given (n k : ℕ) (path : List ℕ) : Type 0 where
  pub least : ring_least ≤ k
  pub most : k ≤ ring_most
  pub begun : 0 < length path
  pub within : length path ≤ k
  pub below : (i : ℕ) → i < length path → get_or path i 0 < n
