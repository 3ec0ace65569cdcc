-- What a census tells: whether the search was reached; accepted, that its numbers are those of the rings, which were not too many and
-- had room; refused after the search, the search's answer.
use Rattle.std.proofs.Common.{◌≡◌, Result, Ok, Err, refl, sym, ◌∙◌, ap, Bool, true, false, List, [], ◌∷◌, ℕ, ◌≤◌, arith, ltb, length, length-append, ltb-false, eq-eqb, ne_eqb}
use native.Mathlib.Decide.{ℕ_discrete}
use Rattle.graph.specs.Counts.{words_of}
use Rattle.network.specs.declared.Answer.{Answer}
use Rattle.network.specs.Verdict.{check, accepted}
use Rattle.network.specs.declared.refusals.Refusal.{Refusal}
use Rattle.network.proofs.Refused.{numbered}
use Rattle.census.specs.declared.Histogram.{Histogram}
use Rattle.census.specs.Told.{Census, histogram_told}
use Rattle.census.specs.Census.{encode_by, encode, after_count, after_list_by, settle, SearchReached, SearchOutcome}

abbrev pub code : Census → ℕ
code c = c.answer.code

module _ {Ring : Type 0} {IsListing : List Ring → Type 0} {census : List Ring → Census} {b : Answer} {f : List Ring → Answer} {Kept Filled : Type 0} {c : Census}
    (O : SearchOutcome IsListing census b f Kept Filled c) (z : code c ≡ 0) where
  -- no check before the search refused the call
  pub unrefused : b.code ≡ 0
  unrefused =
      elim (ℕ_discrete b.code 0) [
        | yes y ↦ y
        | no y ↦ absurd (y (ap code (sym (O.refused y).0) ∙ z))
      ]

  pub reached : SearchReached IsListing census f Filled c
  reached = O.searched unrefused

-- the answer a of the search itself: accepted, the census is c; refused, it is the answer of the call
module _ (a : Answer) (c s : Census) (h : s ≡ settle a c) where
  pub told_accepted : code s ≡ 0 → (a.code ≡ 0) × (s ≡ c)
  told_accepted z =
      elim (ℕ_discrete a.code 0) [
        | yes y ↦ (y, rw (eq-eqb a.code 0 y) at h)
        | no y ↦ absurd (y (sym (ap code (rw (ne_eqb a.code 0 y) at h)) ∙ z))
      ]

  pub told_refused : c.answer ≡ accepted → (code s ≡ 0 → ⊥) → (a.code ≡ 0 → ⊥) × (s.answer ≡ a)
  told_refused k z =
      elim (ℕ_discrete a.code 0) [
        | yes y ↦ absurd (z (ap code (rw (eq-eqb a.code 0 y) at h) ∙ ap (λ (x : Answer). x.code) k))
        | no y ↦ (y, ap (λ (x : Census). x.answer) (rw (ne_eqb a.code 0 y) at h))
      ]

module _ {Ring : Type 0} (words : List Ring → List ℕ) (allowance : ℕ) (rings : List Ring) where
  -- not 12: the rings are not too many
  pub few_rings : (after_count allowance rings).code ≡ 0 → length rings ≤ allowance
  few_rings z = go (ltb allowance (length rings)) refl z
    where
      go : (many : Bool) → ltb allowance (length rings) ≡ many → (check 12 many accepted).code ≡ 0 → length rings ≤ allowance
      go true e z = absurd (omega (arith, z))
      go false e z = ltb-false allowance (length rings) e

  -- nor 13: there is room for their words
  pub room_enough : (room : ℕ) → (after_list_by words allowance room rings).code ≡ 0 → length (words rings) ≤ room
  room_enough room z = go (ltb allowance (length rings)) (ltb room (length (words rings))) refl z
    where
      go : (many more : Bool) → ltb room (length (words rings)) ≡ more → (check 12 many (check 13 more accepted)).code ≡ 0 → length (words rings) ≤ room
      go true more e z = absurd (omega (arith, z))
      go false true e z = absurd (omega (arith, z))
      go false false e z = ltb-false room (length (words rings)) e

  module _ (c s : Census) where
    pub told_count : s ≡ settle (after_count allowance rings) c → code s ≡ 0 → (s ≡ c) × (length rings ≤ allowance)
    told_count h z = let told = told_accepted (after_count allowance rings) c s h z in (told.1, few_rings told.0)

    pub told_list : (room : ℕ) → s ≡ settle (after_list_by words allowance room rings) c → code s ≡ 0 → (s ≡ c) × (length (words rings) ≤ room)
    told_list room h z = let told = told_accepted (after_list_by words allowance room rings) c s h z in (told.1, room_enough room told.0)

-- a list takes a word for each ring's length, and its atoms
pub encode_words : (rings : List (List ℕ)) → length (encode rings) ≡ words_of rings
unfolding encode_by
encode_words [] = refl
encode_words (r ∷ rings) = omega (arith, encode_words rings, length-append r (encode rings))

-- an outcome, and the code of what it tells
pub refused_code : (outcome : Result Histogram Refusal) (refusal : Refusal) → outcome ≡ Err refusal → code (histogram_told outcome) ≡ 0 → ⊥
refused_code outcome refusal e z = absurd (omega (arith, numbered refusal.reason, ap (λ (o : Result Histogram Refusal). code (histogram_told o)) e))

pub accepted_code : (outcome : Result Histogram Refusal) (h : Histogram) → outcome ≡ Ok h → code (histogram_told outcome) ≡ 0
accepted_code outcome h e = ap (λ (o : Result Histogram Refusal). code (histogram_told o)) e
