-- The distance buffer (document 01, "The network"): n·n bytes, row by row; 255 means no path.
--
--   no_path                   the byte for no path
--   distance d n x y          the entry for x and y
--   DistanceTable n t d       every entry tells the distance in the network t, or that there is no path
use Rattle.std.specs.Prelude.{◌≡◌, List, ℕ, ◌+◌, ◌*◌, ◌<◌, length, get_or}
use Rattle.graph.specs.Graph.{Tells}
use Rattle.network.specs.Network.{Bonded}

abbrev pub no_path : ℕ
no_path = 255

abbrev pub distance : List ℕ → ℕ → ℕ → ℕ → ℕ
distance d n x y = get_or d (x * n + y) 0

pub record DistanceTable (n : ℕ) (t d : List ℕ) : Type 0 where
  pub full : length d ≡ n * n
  pub tells : (x y : ℕ) → x < n → y < n → Tells (Bonded t) no_path x y (distance d n x y)
