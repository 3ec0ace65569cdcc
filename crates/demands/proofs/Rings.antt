-- Demand 2 holds.
use mathlib.Core.Path.{refl, sym, subst, ◌≡◌}
use mathlib.Core.List.{List}
use Prim.Native.Nat.{ℕ}
use lib.ListN.{length}
use Rattle.graph.specs.Listing.{RingListing}
use Rattle.graph.proofs.Listings.{ring_order_strict}
use Rattle.graph.proofs.Writings.{one_each}
use Rattle.graph.proofs.Standing.{stand_exactly}
use Rattle.network.specs.Network.{Bonded, IsNetwork}
use Rattle.network.proofs.Bonds.{bonded_back}
use Rattle.census.specs.Told.{Census}
use Rattle.census.specs.Census.{limit_of, encode, counts_by, census_of, after_count, after_list, CountOutcome, ListOutcome}
use Rattle.census.proofs.Settled.{reached, told_count, encode_words}
use Rattle.demands.specs.Rings.{Numbers, AcceptedCount, AcceptedListing}
use Rattle.demands.proofs.Searches.{reached_network, lists_rings_lem}

numbers : (n limit : ℕ) (rings : List (List ℕ)) → Numbers n rings (census_of n limit rings)
unfolding counts_by
numbers n limit rings = record {
  counts = refl;
  total = refl;
  words = encode_words rings;
  per_atom = refl;
  mean = refl;
}

abbrev counted : (n : ℕ) (t : List ℕ) (N : IsNetwork n t) (limit : ℕ) (rings : List (List ℕ)) (X : RingListing (Bonded t) (limit_of limit) rings) → AcceptedCount n t limit (census_of n limit rings)
counted n t N limit rings X = record { used = refl; rings = rings; stand = stand_exactly ring_order_strict (limit_of limit) rings (one_each (Bonded t) (bonded_back n t N)) X; numbers = numbers n limit rings }

pub accepted_count : (n : ℕ) (t : List ℕ) (limit allowance : ℕ) (d d' : List ℕ) (c : Census) → CountOutcome n t limit allowance d d' c → c.answer.code ≡ 0 → AcceptedCount n t limit c
accepted_count n t limit allowance d d' c O z =
    let S = reached O z in
    let N = reached_network n t limit allowance d (after_count allowance) d' c O z in
    subst (AcceptedCount n t limit) (sym (told_count encode allowance S.rings (census_of n limit S.rings) c S.says z).0) (counted n t N limit S.rings S.listing)

pub accepted_listing : (n : ℕ) (t : List ℕ) (limit allowance : ℕ) (d d' l l' : List ℕ) (c : Census) → ListOutcome n t limit allowance d d' l l' c → c.answer.code ≡ 0 → AcceptedListing n t limit l l' c
accepted_listing n t limit allowance d d' l l' c O z =
    let S = lists_rings_lem n t limit allowance d d' l l' c O z in
    let N = reached_network n t limit allowance d (after_list allowance (length l)) d' c O.census z in
    subst (AcceptedListing n t limit l l') (sym S.census) (counted n t N limit S.rings S.listing, S.words)
