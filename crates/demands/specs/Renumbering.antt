-- Demand 3, of listing and of counting.
--
--   HereAndThereTold            what a renumbering tells, and the network's census as it was and as renumbered
--   here_and_there_told r       that of the outcomes r
--   SameRings names limit t renamed' l l' m m'     the buffer l becomes the list of the network's rings, m that of the renumbered network's,
--                               and these are those under their new names
--   RenumberThenList n t names renamed renamed' limit allowance d d' l l' e e' m m' r    the network is renumbered, then listed as it was
--                               (with the buffers d and l) and as renumbered (e and m): the calls meet what is demanded of them; after
--                               an accepted renumbering both give one census (answer, limit, counts, total, words, averages), and,
--                               accepted, the same rings
--   RenumberThenCount n t names renamed renamed' limit allowance d d' e e' r     the same of counting
use Rattle.std.specs.Prelude.{◌≡◌, List, ◌++◌, ℕ, length, drop}
use Rattle.graph.specs.Listing.{RingListing}
use Rattle.network.specs.Network.{Bonded}
use Rattle.renumber.specs.Carried.{RingsRenumbered}
use Rattle.census.specs.Census.{limit_of, encode}
use Rattle.network.specs.declared.Answer.{Answer}
use Rattle.network.specs.Refusals.{told}
use Rattle.census.specs.Told.{Census, histogram_told}
use Rattle.demands.specs.declared.HereAndThere.{HereAndThere}
use Rattle.demands.specs.Calls.{RenumberMet, CountMet, ListMet}

pub record HereAndThereTold : Type 0 where
  pub renumbering : Answer
  pub here : Census
  pub there : Census

abbrev pub here_and_there_told : HereAndThere → HereAndThereTold
here_and_there_told r = record { renumbering = told r.renumbering; here = histogram_told r.here; there = histogram_told r.there }

pub record SameRings (names : List ℕ) (limit : ℕ) (t renamed' l l' m m' : List ℕ) : Type 0 where
  pub xs : List (List ℕ)
  pub ys : List (List ℕ)
  -- the rings of the network, and of the renumbered network
  pub here : RingListing (Bonded t) (limit_of limit) xs
  pub there : RingListing (Bonded renamed') (limit_of limit) ys
  -- as they stand in the list buffers, whose rests stay
  pub list_here : l' ≡ encode xs ++ drop (length (encode xs)) l
  pub list_there : m' ≡ encode ys ++ drop (length (encode ys)) m
  -- the same set under the new names, as many of each length
  pub carried : RingsRenumbered names xs ys

pub record RenumberThenList (n : ℕ) (t names renamed renamed' : List ℕ) (limit allowance : ℕ) (d d' l l' e e' m m' : List ℕ) (r : HereAndThereTold) : Type 0 where
  pub renumbered : RenumberMet n t names renamed renamed' r.renumbering
  pub listed_here : ListMet n t limit allowance d d' l l' r.here
  pub listed_there : ListMet n renamed' limit allowance e e' m m' r.there
  pub census : r.renumbering.code ≡ 0 → length d ≡ length e → length l ≡ length m → r.here ≡ r.there
  pub rings : r.renumbering.code ≡ 0 → length d ≡ length e → length l ≡ length m → r.here.answer.code ≡ 0 → SameRings names limit t renamed' l l' m m'

pub record RenumberThenCount (n : ℕ) (t names renamed renamed' : List ℕ) (limit allowance : ℕ) (d d' e e' : List ℕ) (r : HereAndThereTold) : Type 0 where
  pub renumbered : RenumberMet n t names renamed renamed' r.renumbering
  pub counted_here : CountMet n t limit allowance d d' r.here
  pub counted_there : CountMet n renamed' limit allowance e e' r.there
  pub census : r.renumbering.code ≡ 0 → length d ≡ length e → r.here ≡ r.there
