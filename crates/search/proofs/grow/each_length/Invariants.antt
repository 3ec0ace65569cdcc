use Rattle.std.proofs.Common.{◌≡◌, ◌-◌, ◌*◌, ◌≤◌, false}
use Rattle.ring.specs.Maxima.{ring_least, ring_most}
use Rattle.paths.specs.Search.{rings_up_to, counts_up_to, lengths_up_to}
use Rattle.paths.specs.Turn.{may_follow}
use Rattle.search.specs.State.{HasNoted}
use Rattle.search.proofs.grow.each_length.Given as goal

abbrev pub invariant-loop-k : goal.invariant-loop-k
invariant-loop-k l = record {
  noted : HasNoted (rings_up_to may_follow l.net.n l.net.table.now l.net.dist.now (l.k - ring_least)) l.initial.notes l.notes;
  same_list : l.notes.list.ghost_name ≡ l.initial.notes.list.ghost_name;
  each : l.notes.found.over ≡ false → l.counts ≡ counts_up_to may_follow l.net.n l.net.table.now l.net.dist.now (l.k - ring_least);
  bounded : l.lengths ≤ ring_most * l.notes.found.rings;
  sum : l.notes.found.over ≡ false → l.lengths ≡ lengths_up_to may_follow l.net.n l.net.table.now l.net.dist.now (l.k - ring_least);
}
