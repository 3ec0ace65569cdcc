-- What is common to counting and listing: what comes before the search of a network, and what an accepted listing is.
use mathlib.Core.Path.{◌≡◌, ◌∙◌}
use mathlib.Core.List.{List, ◌++◌}
use Prim.Native.Nat.{ℕ, ◌*◌}
use lib.ListN.{length, drop}
use Rattle.graph.specs.Listing.{RingListing}
use Rattle.graph.proofs.Lists.{sets_front}
use Rattle.network.specs.declared.Answer.{Answer}
use Rattle.network.specs.Maxima.{places}
use Rattle.network.specs.Network.{Bonded, IsNetwork}
use Rattle.network.specs.Verdict.{check, not_long, sizes, accepted}
use Rattle.network.proofs.Verdicts.{atoms, long}
use Rattle.network.proofs.FaultlessTables.{faultless_of}
use Rattle.census.specs.Told.{Census}
use Rattle.census.specs.Census.{limit_of, not_limit, not_allowance, before_search, encode, census_of, CensusOutcome, ListOutcome}
use Rattle.census.proofs.Passed.{reached_exactly}
use Rattle.census.proofs.Settled.{code, unrefused, reached, told_list}

pub reached_network : (n : ℕ) (t : List ℕ) (limit allowance : ℕ) (before : List ℕ) (f : List (List ℕ) → Answer) (after : List ℕ) (c : Census) → CensusOutcome n t limit allowance f before after c → code c ≡ 0 → IsNetwork n t
reached_network n t limit allowance before f after c O z = ((reached_exactly n t limit allowance before).0 (unrefused O z)).network

-- of a network, only 2, 3 and 5 come before the search
pub before_network : (n : ℕ) (t : List ℕ) (limit allowance : ℕ) (d : List ℕ) → IsNetwork n t → before_search n t limit allowance d ≡ check 2 (not_limit limit) (check 3 (not_allowance allowance) (check 5 (not_long d (n * n)) accepted))
unfolding before_search sizes
before_network n t limit allowance d N = rw (atoms n N.counted.some N.counted.most, long t (places * n) N.whole, faultless_of n t N accepted)

-- an accepted listing: the rings, the census of them, and their words in the buffer
pub record ListsRings (n : ℕ) (t : List ℕ) (limit : ℕ) (l l' : List ℕ) (c : Census) : Type 0 where
  pub rings : List (List ℕ)
  pub listing : RingListing (Bonded t) (limit_of limit) rings
  pub census : c ≡ census_of n limit rings
  pub words : l' ≡ encode rings ++ drop (length (encode rings)) l

pub lists_rings_lem : (n : ℕ) (t : List ℕ) (limit allowance : ℕ) (d d' l l' : List ℕ) (c : Census) → ListOutcome n t limit allowance d d' l l' c → code c ≡ 0 → ListsRings n t limit l l' c
lists_rings_lem n t limit allowance d d' l l' c O z =
    let S = reached O.census z in
    let so = told_list encode allowance S.rings (census_of n limit S.rings) c (length l) S.says z in
    record {
      rings = S.rings;
      listing = S.listing;
      census = so.0;
      words = O.written z S.rings S.listing ∙ sets_front l (encode S.rings) so.1;
    }
