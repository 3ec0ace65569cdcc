-- What counting and listing answer, and what they leave in the lent buffers (document 01). A ring is of any form here: its length is its
-- `size`, and `told` gives the words of its vertices.
--
--   limit_of limit               the limit used: 0 stands for the default
--   not_limit limit              limit is neither 0 nor 3 to 24
--   not_allowance allowance      allowance is not 1 to 1,000,000
--   before_search n t limit allowance d   the refusals that come before the search: 1, 2, 3, 4, 5, then 7 to 11
--   encode_by size told rings    rings as they are listed, one after another: each its length, then its words
--   counts_by size rings         a count for each length from 0 to the greatest
--   census_with n used counts total lengths words   an accepted call's numbers, with the averages of `total` rings whose lengths add up to `lengths`
--   census_by size told n used rings   what an accepted call says: every number is a function of the list of rings
--   plain r                      the words of a ring of atoms: their numbers
--   encode, counts_of, census_of n limit rings  the same of rings of atoms
--   after_count allowance rings  12: more rings than the allowance
--   after_list_by words allowance room rings  12, then 13: more words than there is room for
--   after_list allowance room rings   the same of rings of atoms
--   settle a c                   the census c, or a refusal, as the answer a has it
--   settled n limit a rings      the same of the census of rings of atoms
--   SearchReached ..             the lent buffers are Filled, and the census is that of the listing
--   SearchOutcome ..             refused before the search, what is lent is Kept; otherwise the search is reached
--   ListingOutcome ..            and, accepted, the words of the rings stand at the front of the list buffer, whose rest stays; refused, it stays
--                                as it is
--   Searched ..                  the search in a network of atoms is reached: the distance buffer holds the distance table, and the census is that
--                                of the listing of the network's shortest-path rings up to the limit
--   CensusOutcome ..             counting or listing them: refused before the search, nothing is changed; otherwise it is searched
--   CountOutcome ..              what comes of counting
--   ListOutcome ..               what comes of listing
use Rattle.std.specs.Prelude.{◌≡◌, Bool, ◌&&◌, ◌||◌, not, cond, List, [], ◌∷◌, ◌++◌, map, ℕ, ◌+◌, ◌*◌, eqb, leb, ltb, length}
use Rattle.std.proofs.lemmas.List.Edits.{sets}
use Rattle.graph.specs.Lists.{numbers_from}
use Rattle.graph.specs.Counts.{having, sum_of}
use Rattle.graph.specs.Listing.{RingListing}
use Rattle.network.specs.declared.Answer.{Answer}
use Rattle.network.specs.Network.{Bonded}
use Rattle.network.specs.Verdict.{check, not_long, sizes, faults, accepted}
use Rattle.distance.specs.Distances.{DistanceTable}
use Rattle.ring.specs.Maxima.{ring_least, ring_most, limit_default, allowance_most}
use Rattle.census.specs.Told.{Census, no_census}
use Rattle.averages.specs.Averages.{averages_of}

unfoldable pub limit_of : ℕ → ℕ
limit_of limit = cond (eqb limit 0) limit_default limit

abbrev pub not_limit : ℕ → Bool
not_limit limit = not (eqb limit 0 || (leb ring_least limit && leb limit ring_most))

abbrev pub not_allowance : ℕ → Bool
not_allowance allowance = not (leb 1 allowance && leb allowance allowance_most)

unfoldable pub before_search : ℕ → List ℕ → ℕ → ℕ → List ℕ → Answer
before_search n t limit allowance d =
    sizes n t (λ a. check 2 (not_limit limit) (check 3 (not_allowance allowance) a)) (check 5 (not_long d (n * n)) (faults n t accepted))

unfoldable pub encode_by : {AnyRing : Type 0} → (AnyRing → ℕ) → (AnyRing → List ℕ) → List AnyRing → List ℕ
encode_by size told [] = []
encode_by size told (r ∷ rs) = size r ∷ (told r ++ encode_by size told rs)

unfoldable pub counts_by : {AnyRing : Type 0} → (AnyRing → ℕ) → List AnyRing → List ℕ
counts_by size rings = map (λ k. having size k rings) (numbers_from (ring_most + 1) 0)

abbrev pub census_with : ℕ → ℕ → List ℕ → ℕ → ℕ → ℕ → Census
census_with n used counts total lengths words = record {
  answer = accepted;
  limit = used;
  counts = counts;
  total = total;
  words = words;
  averages = averages_of n total lengths;
}

abbrev pub census_by : {AnyRing : Type 0} → (AnyRing → ℕ) → (AnyRing → List ℕ) → ℕ → ℕ → List AnyRing → Census
census_by size told n used rings = census_with n used (counts_by size rings) (length rings) (sum_of size rings) (length (encode_by size told rings))

abbrev pub plain : List ℕ → List ℕ
plain r = r

abbrev pub encode : List (List ℕ) → List ℕ
encode rings = encode_by length plain rings

abbrev pub counts_of : List (List ℕ) → List ℕ
counts_of rings = counts_by length rings

abbrev pub census_of : ℕ → ℕ → List (List ℕ) → Census
census_of n limit rings = census_by length plain n (limit_of limit) rings

abbrev pub after_count : {AnyRing : Type 0} → ℕ → List AnyRing → Answer
after_count allowance rings = check 12 (ltb allowance (length rings)) accepted

abbrev pub after_list_by : {AnyRing : Type 0} → (List AnyRing → List ℕ) → ℕ → ℕ → List AnyRing → Answer
after_list_by words allowance room rings = check 12 (ltb allowance (length rings)) (check 13 (ltb room (length (words rings))) accepted)

abbrev pub after_list : ℕ → ℕ → List (List ℕ) → Answer
after_list = after_list_by encode

abbrev pub settle : Answer → Census → Census
settle a c = cond (eqb a.code 0) c (no_census a)

abbrev pub settled : ℕ → ℕ → Answer → List (List ℕ) → Census
settled n limit a rings = settle a (census_of n limit rings)

module _ {AnyRing : Type 0} (IsListing : List AnyRing → Type 0) (census : List AnyRing → Census) where
  pub record SearchReached (after_the_search : List AnyRing → Answer) (Filled : Type 0) (c : Census) : Type 0 where
    pub filled : Filled
    pub rings : List AnyRing
    pub listing : IsListing rings
    pub says : c ≡ settle (after_the_search rings) (census rings)

  pub record SearchOutcome (before_the_search : Answer) (after_the_search : List AnyRing → Answer) (Kept Filled : Type 0) (c : Census) : Type 0 where
    pub refused : (before_the_search.code ≡ 0 → ⊥) → (c ≡ no_census before_the_search) × Kept
    pub searched : before_the_search.code ≡ 0 → SearchReached after_the_search Filled c

pub record ListingOutcome {AnyRing : Type 0} (IsListing : List AnyRing → Type 0) (numbers : List AnyRing → Census) (words : List AnyRing → List ℕ) (allowance : ℕ)
    (before_the_search : Answer) (Kept Filled : Type 0) (l l' : List ℕ) (c : Census) : Type 0 where
  pub census : SearchOutcome IsListing numbers before_the_search (after_list_by words allowance (length l)) Kept Filled c
  pub kept : (c.answer.code ≡ 0 → ⊥) → l' ≡ l
  pub written : c.answer.code ≡ 0 → (rings : List AnyRing) → IsListing rings → l' ≡ sets l 0 (words rings)

-- in a network of atoms
abbrev pub Searched : ℕ → List ℕ → ℕ → (List (List ℕ) → Answer) → List ℕ → Census → Type 0
Searched n t limit after_the_search after = SearchReached (RingListing (Bonded t) (limit_of limit)) (census_of n limit) after_the_search (DistanceTable n t after)

abbrev pub CensusOutcome : ℕ → List ℕ → ℕ → ℕ → (List (List ℕ) → Answer) → List ℕ → List ℕ → Census → Type 0
CensusOutcome n t limit allowance after_the_search before after =
    SearchOutcome (RingListing (Bonded t) (limit_of limit)) (census_of n limit) (before_search n t limit allowance before) after_the_search (after ≡ before) (DistanceTable n t after)

abbrev pub CountOutcome : ℕ → List ℕ → ℕ → ℕ → List ℕ → List ℕ → Census → Type 0
CountOutcome n t limit allowance = CensusOutcome n t limit allowance (after_count allowance)

abbrev pub ListOutcome : ℕ → List ℕ → ℕ → ℕ → List ℕ → List ℕ → List ℕ → List ℕ → Census → Type 0
ListOutcome n t limit allowance before after =
    ListingOutcome (RingListing (Bonded t) (limit_of limit)) (census_of n limit) encode allowance (before_search n t limit allowance before) (after ≡ before) (DistanceTable n t after)
