-- What counting and listing answer.
use mathlib.Core.Path.{◌≡◌, refl, sym, ◌∙◌, ap, subst}
use mathlib.Core.Logic.{◌⊎◌, inl, inr}
use mathlib.Core.Bool.{Bool, true, false, not}
use mathlib.Core.List.{List}
use Prim.Native.Nat.{ℕ, ◌*◌, ◌≤◌, ◌<◌}
use native.Mathlib.Omega.{arith}
use native.Mathlib.Decide.{ℕ_discrete}
use lib.Dec.{ltb}
use lib.ListN.{length}
use borrow.Author.Tests.{eq-eqb, ne_eqb}
use Rattle.graph.specs.Counts.{words_of}
use Rattle.network.specs.declared.Answer.{Answer}
use Rattle.network.specs.Maxima.{places}
use Rattle.network.specs.Verdict.{accepted, refusal, check, sizes}
use Rattle.network.specs.Chain.{Answers, Check, Table, Accepted}
use Rattle.network.proofs.Chains.{check_says, in_range, range_true, range_false, check_atoms, check_long, check_most, table_says, first_number}
use Rattle.ring.specs.Maxima.{ring_least, ring_most, allowance_most}
use Rattle.census.specs.Told.{Census, no_census}
use Rattle.census.specs.Census.{not_limit, not_allowance, before_search, encode, after_count, after_list, settled, CensusOutcome, CountOutcome, ListOutcome}
use Rattle.census.specs.Prepared.{Passed}
use Rattle.census.proofs.Passed.{limit_given, reached_exactly}
use Rattle.census.proofs.Settled.{code, encode_words}
use Rattle.demands.specs.Refusals.{OfRings, RightLimit, RightAllowance, SearchSays, CountSays, ListSays}
use Rattle.demands.specs.Calls.{AfterSearch}

module _ (limit : ℕ) where
  right_limit : Dec (RightLimit limit)
  right_limit = go (ℕ_discrete limit 0) (in_range ring_least ring_most limit)
    where
      go : Dec (limit ≡ 0) → Dec ((ring_least ≤ limit) × (limit ≤ ring_most)) → Dec (RightLimit limit)
      go (yes z) _ = yes (inl z)
      go (no z) (yes h) = yes (inr h)
      go (no z) (no h) = no (λ r. elim r [ inl e ↦ z e | inr b ↦ h b ])

  limit_passes : RightLimit limit → not_limit limit ≡ false
  limit_passes (inl e) = rw (eq-eqb limit 0 e) refl
  limit_passes (inr h) = rw (ne_eqb limit 0 (λ e. omega (arith, h.0)), range_true ring_least ring_most limit h) refl

  limit_fails : (RightLimit limit → ⊥) → not_limit limit ≡ true
  limit_fails h = rw (ne_eqb limit 0 (λ e. h (inl e)), range_false ring_least ring_most limit (λ b. h (inr b))) refl

module _ (n : ℕ) (t : List ℕ) (limit allowance : ℕ) (d : List ℕ) where
  -- before the search
  before_says : SearchSays n t limit allowance d Accepted (before_search n t limit allowance d)
  unfolding before_search sizes
  before_says =
      check_atoms n _ _ λ C.
      check_says 2 (not_limit limit) _ (RightLimit limit) _ (right_limit limit) (limit_passes limit) (limit_fails limit) λ _.
      check_says 3 (not_allowance allowance) _ (RightAllowance allowance) _ (in_range 1 allowance_most allowance) (λ h. ap not (range_true 1 allowance_most allowance h)) (λ h. ap not (range_false 1 allowance_most allowance h)) λ _.
      check_long 4 t (places * n) _ _ λ w. check_long 5 d (n * n) _ _ λ _. table_says n t accepted Accepted C w (λ _. refl)

  -- a refusal there has a number below 12, and is said whatever comes later
  early : (Later : Answers) (a : Answer) → SearchSays n t limit allowance d Accepted a → (a.code ≡ 0 → ⊥) → (a.code < 12) × SearchSays n t limit allowance d Later a
  unfolding Check Table
  early Later a S z = go S
    where
      low : (c : ℕ) → c < 12 → a ≡ refusal c → a.code < 12
      low c l e = omega (arith, l, ap (λ (x : Answer). x.code) e)

      go : SearchSays n t limit allowance d Accepted a → (a.code < 12) × SearchSays n t limit allowance d Later a
      go (inl h) = (low 1 (omega arith) h.1, inl h)
      go (inr (C, inl h)) = (low 2 (omega arith) h.1, inr (C, inl h))
      go (inr (C, inr (l, inl h))) = (low 3 (omega arith) h.1, inr (C, inr (l, inl h)))
      go (inr (C, inr (l, inr (m, inl h)))) = (low 4 (omega arith) h.1, inr (C, inr (l, inr (m, inl h))))
      go (inr (C, inr (l, inr (m, inr (w, inl h))))) = (low 5 (omega arith) h.1, inr (C, inr (l, inr (m, inr (w, inl h)))))
      go (inr (C, inr (l, inr (m, inr (w, inr (q, inl h)))))) = (omega (arith, (first_number n t a h).1), inr (C, inr (l, inr (m, inr (w, inr (q, inl h))))))
      go (inr (C, inr (l, inr (m, inr (w, inr (q, inr (N, e))))))) = absurd (z (ap (λ (x : Answer). x.code) e))

  -- past the checks
  pub reached_says : (Later : Answers) (a : Answer) → Passed n t limit allowance d → Later a → SearchSays n t limit allowance d Later a
  unfolding Check Table
  reached_says Later a P k = inr (P.network.counted, inr (given (ℕ_discrete limit 0), inr ((P.some, P.bounded), inr (P.network.whole, inr (P.room, inr (P.network, k))))))
    where
      given : Dec (limit ≡ 0) → RightLimit limit
      given (yes z) = inl z
      given (no z) = inr (omega (arith, limit_given limit z, P.least), omega (arith, limit_given limit z, P.most))

-- the answers after the search
abbrev Late : Answer → Type 0
Late a = (a ≡ accepted) ⊎ (a ≡ refusal 12) ⊎ (a ≡ refusal 13)

list_late : (allowance room : ℕ) (rings : List (List ℕ)) → Late (after_list allowance room rings)
list_late allowance room rings = go (ltb allowance (length rings)) (ltb room (length (encode rings)))
  where
    go : (many more : Bool) → Late (check 12 many (check 13 more accepted))
    go true more = inr (inl refl)
    go false true = inr (inr refl)
    go false false = inl refl

count_late : (allowance : ℕ) (rings : List (List ℕ)) → Late (after_count allowance rings)
count_late allowance rings = go (ltb allowance (length rings))
  where
    go : (many : Bool) → Late (check 12 many accepted)
    go true = inr (inl refl)
    go false = inl refl

-- the census has that answer, and refused nothing else
settled_late : (n limit : ℕ) (a : Answer) (rings : List (List ℕ)) (c : Census) → Late a → c ≡ settled n limit a rings → (c.answer ≡ a) × (code c ≡ 0 ⊎ ((code c ≡ 12) ⊎ (code c ≡ 13)) × (c ≡ no_census c.answer))
settled_late n limit a rings c (inl e) h = let k = rw e at h in (ap (λ (x : Census). x.answer) k ∙ sym e, inl (ap code k))
settled_late n limit a rings c (inr (inl e)) h = let k = rw e at h in (ap (λ (x : Census). x.answer) k ∙ sym e, inr (inl (ap code k), k ∙ ap (λ (x : Census). no_census x.answer) (sym k)))
settled_late n limit a rings c (inr (inr e)) h = let k = rw e at h in (ap (λ (x : Census). x.answer) k ∙ sym e, inr (inr (ap code k), k ∙ ap (λ (x : Census). no_census x.answer) (sym k)))

module _ (n : ℕ) (t : List ℕ) (limit allowance : ℕ) (d d' : List ℕ) (c : Census) (f : List (List ℕ) → Answer) (late : (rings : List (List ℕ)) → Late (f rings)) (O : CensusOutcome n t limit allowance f d d' c) where
  first : Answer
  first = before_search n t limit allowance d

  pub search_says : (Later : List (List ℕ) → Answers) → ((rings : List (List ℕ)) → Later rings (f rings))
      → SearchSays n t limit allowance d (OfRings t limit Later) c.answer
  unfolding first
  search_says Later k = go (ℕ_discrete first.code 0)
    where
      go : Dec (first.code ≡ 0) → SearchSays n t limit allowance d (OfRings t limit Later) c.answer
      go (yes y) =
          let S = O.searched y in
          reached_says n t limit allowance d (OfRings t limit Later) c.answer ((reached_exactly n t limit allowance d).0 y)
          (S.rings, S.listing, subst (Later S.rings) (sym (settled_late n limit (f S.rings) S.rings c (late S.rings) S.says).0) (k S.rings))
      go (no y) =
          subst (SearchSays n t limit allowance d (OfRings t limit Later)) (sym (ap (λ (x : Census). x.answer) (O.refused y).0))
          (early n t limit allowance d _ first (before_says n t limit allowance d) y).1

  pub search_leaves : (code c ≡ 0 → ⊥) → AfterSearch n t d d' c
  unfolding first
  search_leaves z = go (ℕ_discrete first.code 0)
    where
      go : Dec (first.code ≡ 0) → AfterSearch n t d d' c
      go (no y) =
          let e : c ≡ no_census first = (O.refused y).0 in
          let low : code c < 12 = omega (arith, ap code e, (early n t limit allowance d Accepted first (before_says n t limit allowance d) y).0) in
          record {
            nothing = e ∙ ap (λ (x : Census). no_census x.answer) (sym e);
            late = λ h. elim h [ inl q ↦ absurd (omega (arith, low, q)) | inr q ↦ absurd (omega (arith, low, q)) ];
            early = λ _. (O.refused y).1;
          }
      go (yes y) =
          let S = O.searched y in
          elim (settled_late n limit (f S.rings) S.rings c (late S.rings) S.says).1 [
            | inl h ↦ absurd (z h)
            | inr h ↦ record { nothing = h.1; late = λ _. S.filled; early = λ g. absurd (g h.0) }
          ]

pub count_says : (n : ℕ) (t : List ℕ) (limit allowance : ℕ) (d d' : List ℕ) (c : Census) → CountOutcome n t limit allowance d d' c → CountSays n t limit allowance d c.answer
count_says n t limit allowance d d' c O =
    search_says n t limit allowance d d' c (after_count allowance) (count_late allowance) O (λ rings. Check 12 (length rings ≤ allowance) Accepted)
    (λ rings. check_most 12 allowance (length rings) accepted Accepted (λ _. refl))

pub list_says : (n : ℕ) (t : List ℕ) (limit allowance : ℕ) (d d' l l' : List ℕ) (c : Census) → ListOutcome n t limit allowance d d' l l' c → ListSays n t limit allowance d l c.answer
list_says n t limit allowance d d' l l' c O =
    search_says n t limit allowance d d' c (after_list allowance (length l)) (list_late allowance (length l)) O.census (λ rings. Check 12 (length rings ≤ allowance) (Check 13 (words_of rings ≤ length l) Accepted))
    (λ rings. check_most 12 allowance (length rings) _ (Check 13 (words_of rings ≤ length l) Accepted) λ _.
    subst (λ (w : ℕ). Check 13 (w ≤ length l) Accepted (check 13 (ltb (length l) (length (encode rings))) accepted)) (encode_words rings) (check_most 13 (length l) (length (encode rings)) accepted Accepted (λ _. refl)))

pub count_leaves : (n : ℕ) (t : List ℕ) (limit allowance : ℕ) (d d' : List ℕ) (c : Census) → CountOutcome n t limit allowance d d' c → (code c ≡ 0 → ⊥) → AfterSearch n t d d' c
count_leaves n t limit allowance d d' c O = search_leaves n t limit allowance d d' c (after_count allowance) (count_late allowance) O

pub list_leaves : (n : ℕ) (t : List ℕ) (limit allowance : ℕ) (d d' l l' : List ℕ) (c : Census) → ListOutcome n t limit allowance d d' l l' c → (code c ≡ 0 → ⊥) → AfterSearch n t d d' c
list_leaves n t limit allowance d d' l l' c O = search_leaves n t limit allowance d d' c (after_list allowance (length l)) (list_late allowance (length l)) O.census
