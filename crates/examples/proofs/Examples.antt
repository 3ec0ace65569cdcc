-- P1 to P11 hold: the checker computes the test, and the test is right.
use mathlib.Core.Path.{subst}
use mathlib.Core.List.{List}
use Prim.Native.Nat.{ℕ, ◌<◌}
use native.Mathlib.Omega.{arith}
use lib.Dec.{T, eqb, eqb→eq}
use lib.ListN.{length}
use Rattle.graph.specs.Listing.{RingListing}
use Rattle.graph.specs.Writing.{OneWriting}
use Rattle.graph.specs.Counts.{of_length, words_of}
use Rattle.graph.proofs.Lists.{and_T, every_of}
use Rattle.graph.proofs.Listed.{computed}
use Rattle.graph.proofs.Renamings.{same_listing}
use Rattle.network.specs.Network.{Bonded, IsNetwork, neighbours}
use Rattle.network.specs.Verdict.{place_fault, bond_fault, first_fault, or_else, stands, sizes, verdict, faults}
use Rattle.network.proofs.Networks.{network_of, accepted_of}
use Rattle.network.proofs.Bonds.{bonded_by, finite}
use Rattle.examples.specs.Examples.{Example, rows_table, by_length, ExampleHolds, AllHold, examples}
use Rattle.examples.specs.NearMisses.{distances_by}
use Rattle.examples.specs.Computed.{list_over, same, same_pair, lists_rings, passes}
use Rattle.examples.proofs.Tests.{same_of, pair_of}

listed : (n : ℕ) (t : List ℕ) → IsNetwork n t → (limit : ℕ) → RingListing (Bonded t) limit (list_over n t limit (distances_by limit n (neighbours t)))
listed n t N limit =
    same_listing 0 ◌<◌ OneWriting (bonded_by t) (finite n t N).back limit (list_over n t limit (distances_by limit n (neighbours t)))
    (computed n (neighbours t) (finite n t N) _ limit (omega arith) limit (omega arith))

pub holds_of : (e : Example) → T (passes e) → ExampleHolds e
holds_of e h =
    let n = length e.rows in
    let t = rows_table e.rows in
    let dist = distances_by e.limit n (neighbours t) in
    let a = and_T (eqb (verdict n t).code 0) _ h in
    let b = and_T (lists_rings n t e dist) _ a.1 in
    let c = and_T (eqb e.words (words_of e.rings)) _ b.1 in
    let N : IsNetwork n t = network_of n t (eqb→eq (verdict n t).code 0 a.0) in
    record {
      is_accepted = accepted_of n t N;
      listing = subst (λ xs. RingListing (Bonded t) e.limit xs) (same_of (same eqb) (same_of eqb eqb→eq) (list_over n t e.limit dist) e.rings b.0) (listed n t N e.limit);
      words = eqb→eq e.words (words_of e.rings) c.0;
      counts = same_of same_pair pair_of e.counts (by_length e.limit (λ k. of_length k e.rings)) c.1;
    }

pub examples_hold : AllHold
unfolding place_fault bond_fault first_fault or_else stands sizes verdict faults
examples_hold e m = holds_of e (every_of passes examples tt e m)
