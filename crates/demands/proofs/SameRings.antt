-- Demand 3 holds.
use mathlib.Core.Path.{◌≡◌, refl, sym, ◌∙◌, ap, ap₂}
use mathlib.Core.List.{List, [], ◌∷◌, map}
use Prim.Native.Nat.{ℕ, ◌+◌}
use native.Mathlib.Decide.{ℕ_discrete}
use lib.ListN.{length}
use Rattle.graph.specs.Lists.{numbers_from}
use Rattle.graph.specs.Counts.{of_length, lengths_of}
use Rattle.graph.specs.Listing.{RingListing}
use Rattle.network.specs.declared.Answer.{Answer}
use Rattle.network.specs.Network.{Bonded, IsNetwork}
use Rattle.renumber.specs.Outcome.{RenumberOutcome}
use Rattle.renumber.specs.Carried.{RingsRenumbered}
use Rattle.renumber.proofs.Outcomes.{accepts}
use Rattle.renumber.proofs.Carried.{call_carries}
use Rattle.ring.specs.Maxima.{ring_most}
use Rattle.census.specs.Told.{Census, no_census}
use Rattle.census.specs.Census.{limit_of, before_search, encode, counts_by, counts_of, settled, after_count, after_list, Searched, CensusOutcome, CountOutcome, ListOutcome}
use Rattle.census.proofs.Settled.{code, encode_words}
use Rattle.demands.specs.Renumbering.{HereAndThereTold, RenumberThenList, RenumberThenCount}
use Rattle.demands.proofs.Searches.{before_network, lists_rings_lem}
use Rattle.demands.proofs.Meets.{count_met, list_met, renumber_met}

map_alike : (f g : ℕ → ℕ) (ks : List ℕ) → ((k : ℕ) → f k ≡ g k) → map f ks ≡ map g ks
map_alike f g [] h = refl
map_alike f g (k ∷ ks) h = ap₂ (λ (x : ℕ) (xs : List ℕ). x ∷ xs) (h k) (map_alike f g ks h)

-- lists with as many rings of each length have one census
module _ (xs ys : List (List ℕ)) (each : (k : ℕ) → of_length k xs ≡ of_length k ys) (all : length xs ≡ length ys) (lengths : lengths_of xs ≡ lengths_of ys) (words : length (encode xs) ≡ length (encode ys)) where
  same_counts : counts_of xs ≡ counts_of ys
  unfolding counts_by
  same_counts = map_alike _ _ (numbers_from (ring_most + 1) 0) each

  same_settled : (n limit : ℕ) (a b : Answer) → a ≡ b → settled n limit a xs ≡ settled n limit b ys
  same_settled n limit a b e = rw (e, same_counts, all, lengths, words)

module _ (n : ℕ) (t names before after : List ℕ) (a : Answer) (R : RenumberOutcome n t names before after a) (z : a.code ≡ 0) where
  given : IsNetwork n t
  given = ((accepts n t names before).0 (ap (λ (x : Answer). x.code) (sym R.answer) ∙ z)).0

  carried : (limit : ℕ) (xs ys : List (List ℕ)) → RingListing (Bonded t) limit xs → RingListing (Bonded after) limit ys → RingsRenumbered names xs ys
  carried = call_carries n t names before after a R z

  module _ (limit allowance : ℕ) (d d' e e' : List ℕ) (c c' : Census) (same : length d ≡ length e) (f g : List (List ℕ) → Answer)
      (alike : (xs ys : List (List ℕ)) → length xs ≡ length ys → length (encode xs) ≡ length (encode ys) → f xs ≡ g ys) where
    checks : before_search n t limit allowance d ≡ before_search n after limit allowance e
    checks = before_network n t limit allowance d given ∙ rw same refl ∙ sym (before_network n after limit allowance e (R.renumbered z).network)

    searched : Searched n t limit f d' c → Searched n after limit g e' c' → c ≡ c'
    searched S Q =
        let C = carried (limit_of limit) S.rings Q.rings S.listing Q.listing in
        let words : length (encode S.rings) ≡ length (encode Q.rings) = encode_words S.rings ∙ C.words ∙ sym (encode_words Q.rings) in
        S.says ∙ same_settled S.rings Q.rings C.counts C.carried.total C.lengths words n limit (f S.rings) (g Q.rings) (alike S.rings Q.rings C.carried.total words) ∙ sym Q.says

    same_census : CensusOutcome n t limit allowance f d d' c → CensusOutcome n after limit allowance g e e' c' → c ≡ c'
    same_census O P =
        elim (ℕ_discrete (before_search n t limit allowance d).code 0) [
          | yes y ↦ searched (O.searched y) (P.searched (ap (λ (x : Answer). x.code) (sym checks) ∙ y))
          | no y ↦ (O.refused y).0 ∙ ap no_census checks ∙ sym (P.refused (λ w. y (ap (λ (x : Answer). x.code) checks ∙ w))).0
        ]

pub renumber_then_count : (n : ℕ) (t names renamed renamed' : List ℕ) (limit allowance : ℕ) (d d' e e' : List ℕ) (r : HereAndThereTold) → RenumberOutcome n t names renamed renamed' r.renumbering
    → CountOutcome n t limit allowance d d' r.here → CountOutcome n renamed' limit allowance e e' r.there → RenumberThenCount n t names renamed renamed' limit allowance d d' e e' r
renumber_then_count n t names renamed renamed' limit allowance d d' e e' r R O P = record {
  renumbered = renumber_met n t names renamed renamed' r.renumbering R;
  counted_here = count_met n t limit allowance d d' r.here O;
  counted_there = count_met n renamed' limit allowance e e' r.there P;
  census = λ z same. same_census n t names renamed renamed' r.renumbering R z limit allowance d d' e e' r.here r.there same (after_count allowance) (after_count allowance) (λ xs ys all words. rw all refl) O P;
}

pub renumber_then_list : (n : ℕ) (t names renamed renamed' : List ℕ) (limit allowance : ℕ) (d d' l l' e e' m m' : List ℕ) (r : HereAndThereTold) → RenumberOutcome n t names renamed renamed' r.renumbering
    → ListOutcome n t limit allowance d d' l l' r.here → ListOutcome n renamed' limit allowance e e' m m' r.there
    → RenumberThenList n t names renamed renamed' limit allowance d d' l l' e e' m m' r
renumber_then_list n t names renamed renamed' limit allowance d d' l l' e e' m m' r R O P = record {
  renumbered = renumber_met n t names renamed renamed' r.renumbering R;
  listed_here = list_met n t limit allowance d d' l l' r.here O;
  listed_there = list_met n renamed' limit allowance e e' m m' r.there P;
  census = one;
  rings = λ z same room y.
      let X = lists_rings_lem n t limit allowance d d' l l' r.here O y in
      let Y = lists_rings_lem n renamed' limit allowance e e' m m' r.there P (ap code (sym (one z same room)) ∙ y) in
      record {
        xs = X.rings;
        ys = Y.rings;
        here = X.listing;
        there = Y.listing;
        list_here = X.words;
        list_there = Y.words;
        carried = carried n t names renamed renamed' r.renumbering R z (limit_of limit) X.rings Y.rings X.listing Y.listing;
      };
}
  where
    one : r.renumbering.code ≡ 0 → length d ≡ length e → length l ≡ length m → r.here ≡ r.there
    one z same room =
        same_census n t names renamed renamed' r.renumbering R z limit allowance d d' e e' r.here r.there same (after_list allowance (length l)) (after_list allowance (length m))
        (λ xs ys all words. rw (all, words, room) refl) O.census P.census
