-- The checks, counting and listing have one outcome each, and counting answers what listing would.
use Rattle.std.proofs.Common.{◌≡◌, refl, sym, ◌∙◌, ap, Bool, true, false, List, ℕ, ◌≤◌, arith, ltb, length, le-ltb}
use native.Mathlib.Decide.{ℕ_discrete}
use Rattle.graph.specs.Listing.{RingListing}
use Rattle.graph.proofs.Listings.{ring_listing_unique}
use Rattle.network.specs.declared.Answer.{Answer}
use Rattle.network.specs.Network.{Bonded}
use Rattle.network.specs.Verdict.{check, accepted}
use Rattle.distance.proofs.Outcomes.{table_unique}
use Rattle.census.specs.Told.{Census}
use Rattle.census.specs.Census.{encode, limit_of, before_search, after_count, after_list, settle, settled, SearchReached, SearchOutcome, ListingOutcome, CensusOutcome, CountOutcome, ListOutcome}
use Rattle.census.specs.Prepared.{Prepared}
use Rattle.census.proofs.Settled.{code, unrefused, reached}

-- over any form of network: one listing, one outcome
module _ {Ring : Type 0} {IsListing : List Ring → Type 0} {census : List Ring → Census} (unique : (xs ys : List Ring) → IsListing xs → IsListing ys → xs ≡ ys)
    (f g : List Ring → Answer) (c e : Census) (alike : (rings : List Ring) → e ≡ settle (g rings) (census rings) → f rings ≡ g rings) {Filled Filled' : Type 0} where
  searched_once : SearchReached IsListing census f Filled c → SearchReached IsListing census g Filled' e → c ≡ e
  searched_once S R =
      let same : S.rings ≡ R.rings = unique S.rings R.rings S.listing R.listing in
      S.says ∙ rw (same, alike R.rings R.says) (sym R.says)

  pub census_once : {b : Answer} {Kept Kept' : Type 0} → SearchOutcome IsListing census b f Kept Filled c → SearchOutcome IsListing census b g Kept' Filled' e → c ≡ e
  census_once {b} O Q =
      elim (ℕ_discrete b.code 0) [
        | yes z ↦ searched_once (O.searched z) (Q.searched z)
        | no z ↦ (O.refused z).0 ∙ sym (Q.refused z).0
      ]

-- one list buffer
pub words_once : {Ring : Type 0} {IsListing : List Ring → Type 0} {census : List Ring → Census} {words : List Ring → List ℕ} {allowance : ℕ} {b : Answer}
    {Kept Kept' Filled Filled' : Type 0} (l l' l'' : List ℕ) (c e : Census) → c ≡ e
    → ListingOutcome IsListing census words allowance b Kept Filled l l' c → ListingOutcome IsListing census words allowance b Kept' Filled' l l'' e → l' ≡ l''
words_once l l' l'' c e same O Q =
    elim (ℕ_discrete (code c) 0) [
      | yes z ↦ (let S = reached O.census z in O.written z S.rings S.listing ∙ sym (Q.written (ap code (sym same) ∙ z) S.rings S.listing))
      | no z ↦ O.kept z ∙ sym (Q.kept (λ y. z (ap code same ∙ y)))
    ]

-- in a network of atoms
module _ (n : ℕ) (t : List ℕ) (limit allowance : ℕ) (before : List ℕ) where
  outcome_once : (f g : List (List ℕ) → Answer) (c e : Census) → ((rings : List (List ℕ)) → e ≡ settled n limit (g rings) rings → f rings ≡ g rings)
      → (after after' : List ℕ) → CensusOutcome n t limit allowance f before after c → CensusOutcome n t limit allowance g before after' e → (c ≡ e) × (after ≡ after')
  outcome_once f g c e alike after after' O Q = (
    census_once (ring_listing_unique (Bonded t) (limit_of limit)) f g c e alike O Q,
    elim (ℕ_discrete (before_search n t limit allowance before).code 0) [
      | yes z ↦ table_unique n t after after' (O.searched z).filled (Q.searched z).filled
      | no z ↦ (O.refused z).1 ∙ sym (Q.refused z).1
    ],
  )

  -- one outcome of the checks before the search
  pub prepared_once : (after after' : List ℕ) (a b : Answer) → Prepared n t limit allowance before after a → Prepared n t limit allowance before after' b → (a ≡ b) × (after ≡ after')
  prepared_once after after' a b P Q =
      let same : a ≡ b = P.answer ∙ sym Q.answer in
      let number = ap (λ (x : Answer). x.code) same in (
        same,
        elim (ℕ_discrete a.code 0) [
          | yes z ↦ table_unique n t after after' (P.filled z) (Q.filled (sym number ∙ z))
          | no z ↦ P.refused z ∙ sym (Q.refused (λ y. z (number ∙ y)))
        ],
      )

  -- one outcome of counting
  pub count_once : (after after' : List ℕ) (c e : Census) → CountOutcome n t limit allowance before after c → CountOutcome n t limit allowance before after' e → (c ≡ e) × (after ≡ after')
  count_once after after' c e = outcome_once (after_count allowance) (after_count allowance) c e (λ _ _. refl) after after'

  module _ (l : List ℕ) where
    -- one outcome of listing
    pub list_once : (after after' l' l'' : List ℕ) (c e : Census) → ListOutcome n t limit allowance before after l l' c → ListOutcome n t limit allowance before after' l l'' e → (c ≡ e) × (after ≡ after') × (l' ≡ l'')
    list_once after after' l' l'' c e O Q =
        let both = outcome_once (after_list allowance (length l)) (after_list allowance (length l)) c e (λ _ _. refl) after after' O.census Q.census in
        (both.0, both.1, words_once l l' l'' c e both.0 O Q)

    alike : (e : Census) → (code e ≡ 13 → ⊥) → (rings : List (List ℕ)) → e ≡ settled n limit (after_list allowance (length l) rings) rings → after_count allowance rings ≡ after_list allowance (length l) rings
    alike e z rings h = go (ltb allowance (length rings)) (ltb (length l) (length (encode rings))) h
      where
        go : (many long : Bool) → e ≡ settled n limit (check 12 many (check 13 long accepted)) rings → check 12 many accepted ≡ check 12 many (check 13 long accepted)
        go true long h = refl
        go false false h = refl
        go false true h = absurd (z (ap code h))

    -- counting answers what listing would, unless listing has too little room
    pub count_like_list : (after after' l' : List ℕ) (c e : Census) → CountOutcome n t limit allowance before after c → ListOutcome n t limit allowance before after' l l' e
        → (code e ≡ 13 → ⊥) → (c ≡ e) × (after ≡ after')
    count_like_list after after' l' c e O Q z = outcome_once (after_count allowance) (after_list allowance (length l)) c e (alike e z) after after' O Q.census

    -- and where counting is accepted, a list buffer of the words that it tells has room
    pub room_told : (after after' l' : List ℕ) (c e : Census) → CountOutcome n t limit allowance before after c → ListOutcome n t limit allowance before after' l l' e
        → code c ≡ 0 → c.words ≤ length l → c ≡ e
    room_told after after' l' c e O Q z room =
        let S = reached O z in
        (count_like_list after after' l' c e O Q (settles S.rings (ltb allowance (length S.rings)) S.says (found S.rings S.listing))).0
      where
        found : (rings : List (List ℕ)) → RingListing (Bonded t) (limit_of limit) rings → e ≡ settled n limit (after_list allowance (length l) rings) rings
        found rings h =
            let R = Q.census.searched (unrefused O z) in
            rw (ring_listing_unique (Bonded t) (limit_of limit) rings R.rings h R.listing) R.says

        settles : (rings : List (List ℕ)) (many : Bool) → c ≡ settled n limit (check 12 many accepted) rings → e ≡ settled n limit (check 12 many (check 13 (ltb (length l) (length (encode rings))) accepted)) rings → code e ≡ 13 → ⊥
        settles rings true h g k = omega (arith, k, ap code g)
        settles rings false h g k =
            let enough : length (encode rings) ≤ length l = omega (arith, ap (λ (x : Census). x.words) h, room) in
            omega (arith, k, ap code (rw (le-ltb (length l) (length (encode rings)) enough) at g))
