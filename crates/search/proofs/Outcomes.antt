-- The outcome of counting and of listing at each way through them.
use mathlib.Core.Path.{◌≡◌, refl, sym, ◌∙◌, ap, subst}
use mathlib.Core.Bool.{Bool, true, false}
use mathlib.Core.List.{List}
use Prim.Native.Nat.{ℕ, ◌+◌, ◌-◌, ◌*◌, ◌/◌, ◌≤◌, ◌<◌}
use native.Mathlib.Omega.{arith}
use lib.ListN.{length}
use lib.Seq.{sets}
use lib.Dec.{ltb}
use borrow.Author.Tests.{lt-ltb, le-ltb}
use Rattle.graph.specs.Counts.{lengths_of}
use Rattle.graph.specs.Listing.{RingListing}
use Rattle.graph.proofs.Listings.{ring_listing_unique}
use Rattle.network.specs.declared.Answer.{Answer}
use Rattle.network.specs.Network.{Bonded, IsNetwork}
use Rattle.network.specs.Verdict.{check, refusal, accepted}
use Rattle.ring.specs.Maxima.{ring_least, ring_most, allowance_most}
use Rattle.census.specs.Told.{Census, no_census}
use Rattle.search.specs.declared.grow.Tally.{Tally}
use Rattle.census.specs.Census.{plain, encode, limit_of, before_search, after_count, after_list, counts_of, census_with, census_of, settled, Searched, CensusOutcome, CountOutcome, ListOutcome}
use Rattle.census.specs.Prepared.{Prepared, Passed}
use Rattle.paths.specs.Search.{rings_up_to}
use Rattle.paths.specs.Turn.{may_follow}
use Rattle.search.specs.Tallied.{Tallied}
use Rattle.census.proofs.Passed.{reached_exactly}
use Rattle.paths.proofs.Listed.{right_as_far, the_listing}
use Rattle.paths.proofs.Counts.{counts_all, lengths_all}
use Rattle.notes.specs.declared.Found.{Found}
use Rattle.notes.specs.Noting.{state, note_all, none}
use Rattle.notes.proofs.Noted.{too_many, not_many, total, needed, holds}
use Rattle.census.proofs.Settled.{code, unrefused, reached, told_count}

abbrev number : Answer → ℕ
number a = a.code

same_census : (n u v : ℕ) (c e : List ℕ) (a b l m w x : ℕ) → u ≡ v → c ≡ e → a ≡ b → l ≡ m → w ≡ x → census_with n u c a l w ≡ census_with n v e b m x
same_census n u v c e a b l m w x p q r o s = rw (p, q, r, o, s)

-- the census as the answer settles it
module _ (n limit allowance : ℕ) (rings : List (List ℕ)) (c : Census) where
  settled_12 : (a : Answer) → allowance < length rings → a ≡ refusal 12 → c ≡ no_census a → c ≡ settled n limit (after_count allowance rings) rings
  settled_12 a l h e = rw (lt-ltb _ _ l) (e ∙ ap no_census h)

  settled_count : length rings ≤ allowance → c ≡ census_of n limit rings → c ≡ settled n limit (after_count allowance rings) rings
  settled_count l e = rw (le-ltb _ _ l) e

  module _ (room : ℕ) where
    settled_13 : (a : Answer) → length rings ≤ allowance → room < length (encode rings) → a ≡ refusal 13 → c ≡ no_census a → c ≡ settled n limit (after_list allowance room rings) rings
    settled_13 a l m h e = rw (le-ltb _ _ l, lt-ltb _ _ m) (e ∙ ap no_census h)

    settled_list : length rings ≤ allowance → length (encode rings) ≤ room → c ≡ census_of n limit rings → c ≡ settled n limit (after_list allowance room rings) rings
    settled_list l m e = rw (le-ltb _ _ l, le-ltb _ _ m) e

    -- refused after the search, listing says what counting says
    settled_alike : (code c ≡ 0 → ⊥) → c ≡ settled n limit (after_count allowance rings) rings → c ≡ settled n limit (after_list allowance room rings) rings
    settled_alike z h = go (ltb allowance (length rings)) h
      where
        go : (many : Bool) → c ≡ settled n limit (check 12 many accepted) rings → c ≡ settled n limit (check 12 many (check 13 (ltb room (length (encode rings))) accepted)) rings
        go true h = h
        go false h = absurd (z (ap code h))

module _ (n : ℕ) (t : List ℕ) (limit allowance : ℕ) (d d' : List ℕ) (p : Answer) (P : Prepared n t limit allowance d d' p) where
  -- refused before the search
  pub out_refused : (after_the_search : List (List ℕ) → Answer) (c : Census) → (p.code ≡ 0 → ⊥) → c ≡ no_census p → CensusOutcome n t limit allowance after_the_search d d' c
  out_refused after_the_search c z e = record {
    refused = λ _. (e ∙ ap no_census P.answer, P.refused z);
    searched = λ y. absurd (z (ap number P.answer ∙ y));
  }

  module _ (z : p.code ≡ 0) where
    pub passed : Passed n t limit allowance d
    passed = (reached_exactly n t limit allowance d).0 (ap number (sym P.answer) ∙ z)

    module _ (used : ℕ) (u : used ≡ limit_of limit) where
      rings : List (List ℕ)
      rings = rings_up_to may_follow n t d' (used + 1 - ring_least)

      pub reaches : (ring_least ≤ used) × (used ≤ ring_most)
      reaches = (omega (arith, passed.least), omega (arith, passed.most))

      lists : RingListing (Bonded t) (limit_of limit) rings
      unfolding rings
      lists = subst (λ m. RingListing (Bonded t) m rings) u
          (the_listing n t d' passed.network (right_as_far (ring_most / 2) n t d' (omega arith) (P.filled z)) used reaches.1 reaches.0)

      out_searched : (after_the_search : List (List ℕ) → Answer) (c : Census) → c ≡ settled n limit (after_the_search rings) rings → CensusOutcome n t limit allowance after_the_search d d' c
      out_searched after_the_search c e = record {
        refused = λ y. absurd (y (ap number (sym P.answer) ∙ z));
        searched = λ _. record { filled = P.filled z; rings = rings; listing = lists; says = e };
      }

      -- the rings are noted, from no ring on
      module _ (s s' : List ℕ) (r : Found) (R : state r s' ≡ note_all length plain allowance (rings_up_to may_follow n t d' (used + 1 - ring_least)) (state none s)) where
        module _ (y : Tally) (T : Tallied n t d' (used + 1 - ring_least) r y) (o : r.over ≡ false) where
          few : length rings ≤ allowance
          unfolding rings
          few = not_many length plain allowance rings s r s' R o

          all : r.rings ≡ length rings
          unfolding rings
          all = total length plain allowance rings s r s' R o

          words : r.at ≡ length (encode rings)
          unfolding rings
          words = needed length plain allowance rings s r s' R o

          counts : y.counts ≡ counts_of rings
          unfolding rings
          counts = T.each o ∙ counts_all n t d' (used + 1 - ring_least) (omega (arith, reaches.1))

          lengths : y.lengths ≡ lengths_of rings
          unfolding rings
          lengths = T.sum o ∙ lengths_all n t d' (used + 1 - ring_least)

          pub small : y.lengths ≤ ring_most * allowance_most
          small = omega (arith, T.bounded, all, few, passed.bounded)

          told : (c : Census) → c ≡ census_with n used y.counts r.rings y.lengths r.at → c ≡ census_of n limit rings
          told c e = e ∙ same_census n used (limit_of limit) y.counts (counts_of rings) r.rings (length rings) y.lengths (lengths_of rings) r.at (length (encode rings)) u counts all lengths words

          pub count_0 : (c : Census) → c ≡ census_with n used y.counts r.rings y.lengths r.at → CountOutcome n t limit allowance d d' c
          count_0 c e = out_searched (after_count allowance) c (settled_count n limit allowance rings c few (told c e))

        pub count_12 : (a : Answer) (c : Census) → r.over ≡ true → a ≡ refusal 12 → c ≡ no_census a → CountOutcome n t limit allowance d d' c
        unfolding rings
        count_12 a c o h e = out_searched (after_count allowance) c (settled_12 n limit allowance rings c a (too_many length plain allowance rings s r s' R o) h e)

        -- a second search writes the rings where they have room
        pub rewritten : (xs : List (List ℕ)) → RingListing (Bonded t) (limit_of limit) xs → length xs ≤ allowance → length (encode xs) ≤ length s → s' ≡ sets s 0 (encode xs)
        unfolding rings
        rewritten xs h few room =
            let same : rings ≡ xs = ring_listing_unique (Bonded t) (limit_of limit) rings xs lists h in
            (holds length plain allowance rings s r s' R (subst (λ (x : List (List ℕ)). length x ≤ allowance) (sym same) few) (subst (λ (x : List (List ℕ)). length (encode x) ≤ length s) (sym same) room)).1
            ∙ ap (λ (x : List (List ℕ)). sets s 0 (encode x)) same

-- listing, after counting
module _ (n : ℕ) (t : List ℕ) (limit allowance : ℕ) (d d' : List ℕ) (c : Census) (C : CountOutcome n t limit allowance d d' c) where
  pub list_refused : (l : List ℕ) → (code c ≡ 0 → ⊥) → ListOutcome n t limit allowance d d' l l c
  list_refused l z = record {
    census = record {
      refused = C.refused;
      searched = λ y. let S = C.searched y in
          record { filled = S.filled; rings = S.rings; listing = S.listing; says = settled_alike n limit allowance S.rings c (length l) z S.says };
    };
    kept = λ _. refl;
    written = λ f. absurd (z f);
  }

  module _ (z : code c ≡ 0) where
    counted : Searched n t limit (after_count allowance) d' c
    counted = reached C z

    its : (c ≡ census_of n limit counted.rings) × (length counted.rings ≤ allowance)
    its = told_count encode allowance counted.rings (census_of n limit counted.rings) c counted.says z

    prepared : Prepared n t limit allowance d d' (before_search n t limit allowance d)
    prepared = record { answer = refl; refused = λ y. absurd (y (unrefused C z)); filled = λ _. counted.filled }

    used : c.limit ≡ limit_of limit
    used = ap (λ (x : Census). x.limit) its.0

    pub again_network : IsNetwork n t
    again_network = (passed n t limit allowance d d' (before_search n t limit allowance d) prepared (unrefused C z)).network

    pub again_square : length d' ≡ n * n
    again_square = counted.filled.full

    pub again_reaches : (ring_least ≤ c.limit) × (c.limit ≤ ring_most)
    again_reaches = reaches n t limit allowance d d' (before_search n t limit allowance d) prepared (unrefused C z) c.limit used

    pub again_small : allowance ≤ allowance_most
    again_small = (passed n t limit allowance d d' (before_search n t limit allowance d) prepared (unrefused C z)).bounded

    out_listed : (l : List ℕ) (e : Census) → e ≡ settled n limit (after_list allowance (length l) counted.rings) counted.rings → CensusOutcome n t limit allowance (after_list allowance (length l)) d d' e
    out_listed l e h = record {
      refused = λ y. absurd (y (unrefused C z));
      searched = λ _. record { filled = counted.filled; rings = counted.rings; listing = counted.listing; says = h };
    }

    pub list_13 : (l : List ℕ) (a : Answer) (e : Census) → length l < c.words → a ≡ refusal 13 → e ≡ no_census a → ListOutcome n t limit allowance d d' l l e
    list_13 l a e m h k = record {
      census = out_listed l e (settled_13 n limit allowance counted.rings e (length l) a its.1 (omega (arith, m, ap (λ (x : Census). x.words) its.0)) h k);
      kept = λ _. refl;
      written = λ f. absurd (omega (arith, f, ap code k, ap number h));
    }

    pub list_0 : (l l' w : List ℕ) (r : Found) → c.words ≤ length l → state r w ≡ note_all length plain allowance (rings_up_to may_follow n t d' (c.limit + 1 - ring_least)) (state none l) → l' ≡ w → ListOutcome n t limit allowance d d' l l' c
    list_0 l l' w r m R e =
        let room : length (encode counted.rings) ≤ length l = omega (arith, m, ap (λ (x : Census). x.words) its.0) in
        let all = rewritten n t limit allowance d d' (before_search n t limit allowance d) prepared (unrefused C z) c.limit used l w r R in
        record {
          census = out_listed l c (settled_list n limit allowance counted.rings c (length l) its.1 room its.0);
          kept = λ f. absurd (f z);
          written = λ _ xs h.
              let same : counted.rings ≡ xs = ring_listing_unique (Bonded t) (limit_of limit) counted.rings xs counted.listing h in
              e ∙ all counted.rings counted.listing its.1 room ∙ ap (λ (x : List (List ℕ)). sets l 0 (encode x)) same;
        }
