-- What the whole search tells: where the rings of the m least lengths are no more than the allowance, the counts are right, and so is the sum of the lengths.
use Rattle.std.specs.Prelude.{◌≡◌, ℕ, ◌*◌, ◌≤◌, false, List}
use Rattle.ring.specs.Maxima.{ring_most}
use Rattle.paths.specs.Search.{counts_up_to, lengths_up_to}
use Rattle.paths.specs.Turn.{may_follow}
use Rattle.notes.specs.declared.Found.{Found}
use Rattle.search.specs.declared.grow.Tally.{Tally}

pub record Tallied (n : ℕ) (table dist : List ℕ) (m : ℕ) (found : Found) (r : Tally) : Type 0 where
  pub each : found.over ≡ false → r.counts ≡ counts_up_to may_follow n table dist m
  pub bounded : r.lengths ≤ ring_most * found.rings
  pub sum : found.over ≡ false → r.lengths ≡ lengths_up_to may_follow n table dist m
