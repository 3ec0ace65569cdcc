-- The repeats are ruled out: each wrong test takes a ring twice, in its one writing and in another reading.
use mathlib.Core.Path.{ap, subst}
use mathlib.Core.Bool.{not}
use native.Mathlib.Omega.{arith}
use lib.Dec.{T, eqb, eqb→eq, eqb_refl, T_not}
use lib.ListN.{length}
use Rattle.graph.specs.Lists.{◌∈◌}
use Rattle.graph.specs.Listing.{Listed}
use Rattle.graph.specs.Writing.{RingReading, OneWriting}
use Rattle.graph.specs.Levels.{elem}
use Rattle.graph.proofs.Lists.{and_T, every_of}
use Rattle.graph.proofs.Levels.{elem_of}
use Rattle.graph.proofs.Readings.{reading_self, reading_shortest}
use Rattle.graph.proofs.Writings.{writing_unique}
use Rattle.network.specs.Network.{Bonded, IsNetwork}
use Rattle.network.specs.Verdict.{place_fault, bond_fault, first_fault, or_else, stands, sizes, verdict, faults}
use Rattle.network.proofs.Networks.{network_of}
use Rattle.network.proofs.Bonds.{bonded_back}
use Rattle.examples.specs.Examples.{rows_table}
use Rattle.examples.specs.Repeats.{Repeat, TakenTwice, AllTakenTwice, repeats}
use Rattle.examples.specs.Computed.{same, readings_of, takes_twice}
use Rattle.examples.proofs.Tests.{same_of, same_self, reading_of}
use Rattle.examples.proofs.Examples.{holds_of}

twice_of : (m : Repeat) → T (takes_twice m) → TakenTwice m
twice_of m h =
    let r = m.ring in
    let s = m.other in
    let rings = m.example.rings in
    let n = length m.example.rows in
    let t = rows_table m.example.rows in
    let a = and_T (m.test n t r) _ h in
    let b = and_T (m.test n t s) _ a.1 in
    let c = and_T (elem (same eqb) r rings) _ b.1 in
    let d = and_T (elem (same eqb) s (readings_of r)) _ c.1 in
    let e = and_T (not (same eqb s r)) _ d.1 in
    let H = holds_of m.example e.1 in
    let N : IsNetwork n t = network_of n t (ap (λ a. a.code) H.is_accepted) in
    let listed : r ∈ rings = elem_of (same eqb) (same_of eqb eqb→eq) (same_self eqb eqb_refl) r rings c.0 in
    let L : Listed (Bonded t) 0 OneWriting m.example.limit r = H.listing.sound r listed in
    let R : RingReading 0 r s = reading_of r s (elem_of (same eqb) (same_of eqb eqb→eq) (same_self eqb eqb_refl) s (readings_of r) d.0) in
    record {
      listed = listed;
      takes = a.0;
      takes_other = b.0;
      reading = R;
      shortest = reading_shortest 0 (Bonded t) (bonded_back n t N) r s R L.shortest;
      not_written = λ w.
          T_not (same eqb s r) e.0
          (subst (λ x. T (same eqb s x)) (writing_unique r s r R (reading_self 0 r (omega (arith, L.shortest.ring.three))) w L.written L.shortest.ring.three) (same_self eqb eqb_refl s));
    }

pub repeats_ruled_out : AllTakenTwice
unfolding place_fault bond_fault first_fault or_else stands sizes verdict faults
repeats_ruled_out m i = twice_of m (every_of takes_twice repeats tt m i)
