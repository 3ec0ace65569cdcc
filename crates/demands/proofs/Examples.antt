-- P1 to P11 hold, and are listed as they stand in the table; the near misses are ruled out.
use mathlib.Core.Path.{◌≡◌, refl, sym, ◌∙◌, ap, subst}
use mathlib.Core.Logic.{inr}
use mathlib.Core.Bool.{Bool, ◌&&◌}
use mathlib.Core.List.{List, ◌++◌}
use Prim.Native.Nat.{ℕ, ◌≤◌}
use native.Mathlib.Omega.{arith}
use lib.Dec.{leb, leb→le}
use lib.ListN.{length, get_or, drop}
use Rattle.graph.specs.Lists.{◌∈◌}
use Rattle.graph.specs.Counts.{of_length}
use Rattle.graph.specs.Listing.{RingListing}
use Rattle.graph.proofs.Lists.{and_T, every_of}
use Rattle.network.specs.declared.Answer.{Answer}
use Rattle.network.specs.Network.{Bonded}
use Rattle.network.specs.Verdict.{accepted}
use Rattle.network.specs.Chain.{Check}
use Rattle.network.proofs.Networks.{network_of}
use Rattle.examples.specs.Examples.{Example, rows_table, by_length, examples}
use Rattle.examples.proofs.Examples.{examples_hold}
use Rattle.examples.proofs.NearMisses.{near_misses_ruled_out}
use Rattle.examples.proofs.Repeats.{repeats_ruled_out}
use Rattle.examples.proofs.Counts.{by_length_same}
use Rattle.ring.specs.Maxima.{ring_least, ring_most}
use Rattle.census.specs.Told.{Census}
use Rattle.census.specs.Census.{limit_of, encode, counts_of}
use Rattle.census.proofs.Passed.{limit_given}
use Rattle.census.proofs.Settled.{encode_words}
use Rattle.paths.proofs.Counts.{count_at}
use Rattle.demands.specs.Refusals.{ListSays}
use Rattle.demands.specs.Calls.{ListMet}
use Rattle.demands.specs.Examples.{ExamplesHold, Enough, ExampleListed, ExamplesListed}
use Rattle.demands.proofs.SearchRefusals.{reached_says}
use Rattle.demands.proofs.OneListing.{told_rings}
use Rattle.demands.proofs.OneOutcome.{list_fixed}

pub examples_all : ExamplesHold
examples_all = record { hold = examples_hold; all_missed = near_misses_ruled_out; repeats = repeats_ruled_out }

-- the limit of each is one that is used as it is
abbrev limit_kept : Example → Bool
limit_kept e = leb ring_least e.limit && leb e.limit ring_most

limit_kept_lem : (e : Example) → e ∈ examples → (ring_least ≤ e.limit) × (e.limit ≤ ring_most)
limit_kept_lem e m =
    let h = and_T (leb ring_least e.limit) (leb e.limit ring_most) (every_of limit_kept examples tt e m) in
    (leb→le ring_least e.limit h.0, leb→le e.limit ring_most h.1)

limit_used : (e : Example) → e ∈ examples → limit_of e.limit ≡ e.limit
limit_used e m = sym (limit_given e.limit (λ z. omega (arith, limit_kept_lem e m)))

module _ (e : Example) (m : e ∈ examples) (allowance : ℕ) (d d' l l' : List ℕ) (E : Enough e allowance d l) where
  abbrev n : ℕ
  n = length e.rows

  abbrev t : List ℕ
  t = rows_table e.rows

  listing : RingListing (Bonded t) (limit_of e.limit) e.rings
  listing = subst (λ k. RingListing (Bonded t) k e.rings) (sym (limit_used e m)) (examples_hold e m).listing

  words : length (encode e.rings) ≡ e.words
  words = encode_words e.rings ∙ sym (examples_hold e m).words

  -- every check is passed
  accepts : ListSays n t e.limit allowance d l accepted
  unfolding Check
  accepts =
      reached_says n t e.limit allowance d _ accepted
      (record {
        network = network_of n t (ap (λ (a : Answer). a.code) (examples_hold e m).is_accepted);
        room = E.distances;
        least = omega (arith, limit_used e m, limit_kept_lem e m);
        most = omega (arith, limit_used e m, limit_kept_lem e m);
        some = E.some;
        bounded = E.most;
      })
      (e.rings, listing, inr (E.allowed, inr (omega (arith, (examples_hold e m).words, E.room), refl)))

  pub listed : (c : Census) → ListMet n t e.limit allowance d d' l l' c → ExampleListed e l l' c
  listed c M =
      let ok : c.answer ≡ accepted = (list_fixed n t e.limit allowance d l).answer c.answer accepted M.gives accepts in
      let told = told_rings n t e.limit l l' c e.rings listing ok (M.done (ap (λ (a : Answer). a.code) ok)).1 in
      record {
        census = told.0;
        words = ap (λ (x : Census). x.words) told.0 ∙ words;
        counts =
            ap (λ (x : Census). by_length e.limit (λ k. get_or x.counts k 0)) told.0
            ∙ by_length_same (λ k. get_or (counts_of e.rings) k 0) (λ k. of_length k e.rings) e.limit (λ k h. count_at e.rings k (omega (arith, limit_kept_lem e m)))
            ∙ sym (examples_hold e m).counts;
        list = told.1 ∙ ap (λ (k : ℕ). encode e.rings ++ drop k l) words;
      }

pub examples_listed : ExamplesListed
examples_listed e m allowance d d' l l' c E = listed e m allowance d d' l l' E c
