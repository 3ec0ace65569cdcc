-- The near misses are ruled out: each wrong test takes a ring that is no shortest-path ring, since the example's list, which has every
-- one in its one writing, does not have it.
use mathlib.Core.Bool.{not}
use lib.Dec.{T, eqb, leb, eqb→eq, eqb_refl, leb→le, T_not}
use lib.ListN.{length}
use Rattle.graph.specs.Levels.{elem}
use Rattle.graph.proofs.Lists.{and_T, every_of}
use Rattle.graph.proofs.Levels.{elem_has}
use Rattle.network.specs.Verdict.{place_fault, bond_fault, first_fault, or_else, stands, sizes, verdict, faults}
use Rattle.examples.specs.Examples.{rows_table}
use Rattle.examples.specs.NearMisses.{NearMiss, Missed, AllMissed, near_misses}
use Rattle.examples.specs.Repeats.{smallest_first, second_smaller}
use Rattle.examples.specs.Computed.{same, closed, misses}
use Rattle.examples.proofs.Tests.{same_of, same_self, closed_of, written_of}
use Rattle.examples.proofs.Examples.{holds_of}

missed_of : (m : NearMiss) → T (misses m) → Missed m
missed_of m h =
    let r = m.cycle in
    let rings = m.example.rings in
    let t = rows_table m.example.rows in
    let a = and_T (m.test (length m.example.rows) t r) _ h in
    let b = and_T (closed t r) _ a.1 in
    let c = and_T (leb (length r) m.example.limit) _ b.1 in
    let d = and_T (smallest_first r) _ c.1 in
    let e = and_T (second_smaller r) _ d.1 in
    let f = and_T (not (elem (same eqb) r rings)) _ e.1 in
    record {
      takes = a.0;
      ring = closed_of t r b.0;
      not_shortest = λ S.
          T_not (elem (same eqb) r rings) f.0
          (elem_has (same eqb) (same_of eqb eqb→eq) (same_self eqb eqb_refl) r
          ((holds_of m.example f.1).listing.complete r
          (record { within = leb→le (length r) m.example.limit c.0; shortest = S; written = written_of r d.0 e.0 })));
    }

pub near_misses_ruled_out : AllMissed
unfolding place_fault bond_fault first_fault or_else stands sizes verdict faults
near_misses_ruled_out m i = missed_of m (every_of misses near_misses tt m i)
