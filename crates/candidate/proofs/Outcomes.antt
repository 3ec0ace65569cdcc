-- The outcome of the candidate test at each way through it, and what it means: yes exactly for a shortest-path ring, the same
-- words for every reading of a ring, and one outcome.
use Rattle.std.proofs.Common.{◌≡◌, refl, sym, ◌∙◌, ap, ◌⊎◌, inl, inr, ◌↔◌, true, List, ℕ, ◌-◌, ◌≤◌, ◌<◌, length, get_or, replicate, arith, Err}
use Rattle.std.proofs.Math.Decide.{ℕ_discrete, dec_lt}
use Rattle.graph.specs.Graph.{around, ShortestPathRing}
use Rattle.graph.specs.Writing.{RingReading}
use Rattle.graph.proofs.Distances.{distance_unique}
use Rattle.graph.proofs.Readings.{reading_self, reading_trans, reading_ring, reading_shortest}
use Rattle.graph.proofs.Writings.{writing_unique}
use Rattle.network.specs.declared.Answer.{Answer}
use Rattle.network.specs.Network.{Bonded}
use Rattle.network.specs.Verdict.{accepted}
use Rattle.network.proofs.Bonds.{bonded_back, ring_atoms}
use Rattle.distance.specs.Distances.{DistanceTable}
use Rattle.distance.specs.Outcome.{DistancesOutcome}
use Rattle.distance.proofs.Outcomes.{accepted_of_distance, table_unique}
use Rattle.candidate.specs.Told.{Shortest, Yes, No, Tested, tested_told}
use Rattle.network.specs.declared.refusals.Refusal.{Refusal}
use Rattle.network.specs.Refusals.{answer_of}
use Rattle.network.proofs.Refused.{numbered}
use Rattle.ring.specs.Maxima.{ring_least, ring_most}
use Rattle.ring.specs.Writes.{padded, WritingPadded}
use Rattle.candidate_faults.specs.CandidateVerdict.{candidate_verdict, AtomsBelow}
use Rattle.candidate.specs.ShorterPairs.{short, NoneShort}
use Rattle.candidate.specs.CandidateOutcome.{Values, values, Shorter, FirstPair, RightValues, FillOutcome, CandidateOutcome}
use Rattle.candidate_faults.specs.RightCandidate.{RightCandidate}
use Rattle.candidate_faults.proofs.CandidateVerdicts.{accepted_exactly}
use Rattle.candidate.proofs.Values.{number, alike, values_tell}
use Rattle.candidate.proofs.ShorterPairs.{yes_shortest, no_pair}

abbrev code : Answer → ℕ
code a = a.code

-- the buffer is filled where the candidate's checks accept it
pub filled_after : (n : ℕ) (t r before after : List ℕ) (a : Answer) → accepted ≡ candidate_verdict n t r before → DistancesOutcome n t before after a → FillOutcome n t r before after a
filled_after n t r before after a e D =
    let A = (accepted_exactly n t r before).0 (ap code (sym e)) in
    record { answer = D.answer ∙ accepted_of_distance n t before A.network A.room ∙ e; refused = D.refused; filled = D.filled }

-- what that gives to the calls that test it
module _ (n : ℕ) (t r before after : List ℕ) (F : FillOutcome n t r before after accepted) where
  pub passed : RightCandidate n t r before
  passed = (accepted_exactly n t r before).0 (ap code (sym F.answer))

  pub passed_atoms : AtomsBelow n r
  unfolding AtomsBelow
  passed_atoms = ring_atoms n t passed.network r passed.ring

  pub filled_table : DistanceTable n t after
  filled_table = F.filled refl

  out_with : (c : Tested) → c.answer ≡ accepted → RightValues t r (values c.shortest) c.writing → CandidateOutcome n t r before after c
  out_with c h s = record {
    answer = h ∙ F.answer;
    refused = λ y. absurd (y (ap code h));
    filled = λ _. filled_table;
    says = λ _. s;
  }

  pub out_no : (c : Tested) (x y : ℕ) → c.answer ≡ accepted → c.shortest ≡ No x y → c.writing ≡ replicate ring_most 0 → FirstPair (λ i j. short n after r i j ≡ true) (length r) x y → CandidateOutcome n t r before after c
  out_no c x y h s w P = out_with c h (rw s (inr (refl, no_pair n t after filled_table r passed.ring passed_atoms x y P, w)))

  pub out_yes : (c : Tested) → c.answer ≡ accepted → c.shortest ≡ Yes → WritingPadded r c.writing → NoneShort n after r → CandidateOutcome n t r before after c
  out_yes c h s w none = out_with c h (rw s (inl (refl, refl, refl, yes_shortest n t after filled_table r passed.ring passed_atoms passed.network none, w)))

pub out_refused : (n : ℕ) (t r before after : List ℕ) (refusal : Refusal) → FillOutcome n t r before after (answer_of refusal) → CandidateOutcome n t r before after (tested_told (Err refusal))
out_refused n t r before after refusal F = record {
  answer = F.answer;
  refused = λ z. (F.refused z, refl, refl);
  filled = F.filled;
  says = λ z. absurd (omega (arith, numbered refusal.reason));
}

-- a shortest-path ring has no pair that is shorter
not_both : (t r : List ℕ) (i j : ℕ) → ShortestPathRing (Bonded t) 0 r → FirstPair (Shorter t r) (length r) i j → ⊥
not_both t r i j S P =
    let s = P.bad in
    omega (arith, s.fewer, distance_unique (Bonded t) (get_or r i 0) (get_or r j 0) s.bonds (around (length r) (j - i)) s.least (S.shortest i j P.in_order P.inside))

-- the first pair is unique
first_unique : (Bad : ℕ → ℕ → Type 0) (k i j x y : ℕ) → FirstPair Bad k i j → FirstPair Bad k x y → (i ≡ x) × (j ≡ y)
first_unique Bad k i j x y P Q = (same_first, same_second)
  where
    earlier : (i j x y : ℕ) → FirstPair Bad k i j → FirstPair Bad k x y → (i < x) ⊎ ((i ≡ x) × (j < y)) → ⊥
    earlier i j x y P Q h = Q.first i j P.in_order P.inside h P.bad

    same_first : i ≡ x
    same_first = elim (dec_lt i x) [ yes l ↦ absurd (earlier i j x y P Q (inl l)) | no l ↦ elim (dec_lt x i) [ yes m ↦ absurd (earlier x y i j Q P (inl m)) | no m ↦ omega arith ] ]

    same_second : j ≡ y
    same_second = elim (dec_lt j y) [ yes l ↦ absurd (earlier i j x y P Q (inr (same_first, l))) | no l ↦ elim (dec_lt y j) [ yes m ↦ absurd (earlier x y i j Q P (inr (sym same_first, m))) | no m ↦ omega arith ] ]

-- the words of a ring's one writing are unique, whichever reading of it is given
pub writes_unique : (r s v w : List ℕ) → ring_least ≤ length r → RingReading 0 r s → WritingPadded r v → WritingPadded s w → v ≡ w
writes_unique r s v w l R F G = F.filled ∙ ap padded (writing_unique r F.writing G.writing F.reading (reading_trans 0 r s G.writing R G.reading) F.one G.one l) ∙ sym G.filled

-- what a candidate is told is unique
says_unique : (t r : List ℕ) (a b : Values) (v w : List ℕ) → RightValues t r a v → RightValues t r b w → (a ≡ b) × (v ≡ w)
says_unique t r a b v w (inl x) (inl y) = (
  alike a b (x.0 ∙ sym y.0) (x.1 ∙ sym y.1) (x.2 ∙ sym y.2),
  writes_unique r r v w x.3.ring.three (reading_self 0 r (omega (arith, x.3.ring.three))) x.4 y.4,
)
says_unique t r a b v w (inl x) (inr y) = absurd (not_both t r b.first b.second x.3 y.1)
says_unique t r a b v w (inr x) (inl y) = absurd (not_both t r a.first a.second y.3 x.1)
says_unique t r a b v w (inr x) (inr y) =
    let e = first_unique (Shorter t r) (length r) a.first a.second b.first b.second x.1 y.1 in
    (alike a b (x.0 ∙ sym y.0) e.0 e.1, x.2 ∙ sym y.2)

-- one outcome
pub outcome_unique : (n : ℕ) (t r before after after' : List ℕ) (c c' : Tested) → CandidateOutcome n t r before after c → CandidateOutcome n t r before after' c' → (c ≡ c') × (after ≡ after')
outcome_unique n t r before after after' c c' C C' = go (ℕ_discrete c.answer.code 0)
  where
    same : c.answer ≡ c'.answer
    same = C.answer ∙ sym C'.answer

    tested : Answer → Shortest → List ℕ → Tested
    tested a s w = record { answer = a; shortest = s; writing = w }

    whole : values c.shortest ≡ values c'.shortest → c.writing ≡ c'.writing → c ≡ c'
    whole v w =
        ap (λ a. tested a c.shortest c.writing) same
        ∙ ap (λ x. tested c'.answer x c.writing) (values_tell c.shortest c'.shortest v)
        ∙ ap (tested c'.answer c'.shortest) w

    go : Dec (c.answer.code ≡ 0) → (c ≡ c') × (after ≡ after')
    go (yes z) =
        let z' : c'.answer.code ≡ 0 = ap code (sym same) ∙ z in
        let e = says_unique t r (values c.shortest) (values c'.shortest) c.writing c'.writing (C.says z) (C'.says z') in
        (whole e.0 e.1, table_unique n t after after' (C.filled z) (C'.filled z'))
    go (no z) =
        let x = C.refused z in
        let y = C'.refused (λ f. z (ap code same ∙ f)) in
        (whole (x.1 ∙ sym y.1) (x.2 ∙ sym y.2), x.0 ∙ sym y.0)

-- yes exactly for a shortest-path ring
module _ (n : ℕ) (t r before after : List ℕ) (c : Tested) (C : CandidateOutcome n t r before after c) where
  yes_accepted : c.shortest ≡ Yes → c.answer.code ≡ 0
  yes_accepted e =
      elim (ℕ_discrete c.answer.code 0) [
        | yes z ↦ z
        | no z ↦ absurd (omega (arith, ap number (ap values (sym e) ∙ (C.refused z).1)))
      ]

  yes_says : c.shortest ≡ Yes → ShortestPathRing (Bonded t) 0 r × WritingPadded r c.writing
  yes_says e = go (C.says (yes_accepted e))
    where
      go : RightValues t r (values c.shortest) c.writing → ShortestPathRing (Bonded t) 0 r × WritingPadded r c.writing
      go (inl h) = (h.3, h.4)
      go (inr h) = absurd (omega (arith, ap number (ap values (sym e)) ∙ h.0))

  accepted_candidate : c.answer.code ≡ 0 → RightCandidate n t r before
  accepted_candidate z = (accepted_exactly n t r before).0 (ap code (sym C.answer) ∙ z)

  candidate_accepted : RightCandidate n t r before → c.answer.code ≡ 0
  candidate_accepted A = ap code C.answer ∙ (accepted_exactly n t r before).1 A

  pub yes_exactly : (c.shortest ≡ Yes) ↔ (RightCandidate n t r before × ShortestPathRing (Bonded t) 0 r)
  yes_exactly = (λ e. (accepted_candidate (yes_accepted e), (yes_says e).0), λ h. go h.1 (C.says (candidate_accepted h.0)))
    where
      go : ShortestPathRing (Bonded t) 0 r → RightValues t r (values c.shortest) c.writing → c.shortest ≡ Yes
      go S (inl h) = values_tell c.shortest Yes (alike (values c.shortest) (values Yes) h.0 h.1 h.2)
      go S (inr h) = absurd (not_both t r _ _ S h.1)

  -- the words are the one writing: a reading of the candidate, and `OneWriting`
  pub yes_writes : c.shortest ≡ Yes → WritingPadded r c.writing
  yes_writes e = (yes_says e).1

-- the same ring, given from any place in either direction, gets the same yes and the same words
pub same_ring : (n : ℕ) (t r s before before' after after' : List ℕ) (c c' : Tested) → CandidateOutcome n t r before after c → CandidateOutcome n t s before' after' c'
    → length before' ≡ length before → RingReading 0 r s → c.shortest ≡ Yes → (c'.shortest ≡ Yes) × (c'.writing ≡ c.writing)
same_ring n t r s before before' after after' c c' C C' l R e = (also, sym (writes_unique r s c.writing c'.writing A.ring.three R (yes_writes n t r before after c C e) (yes_writes n t s before' after' c' C' also)))
  where
    h : RightCandidate n t r before × ShortestPathRing (Bonded t) 0 r
    h = (yes_exactly n t r before after c C).0 e

    A : RightCandidate n t r before
    A = h.0

    back : (x y : ℕ) → Bonded t x y → Bonded t y x
    back = bonded_back n t A.network

    also : c'.shortest ≡ Yes
    also = (yes_exactly n t s before' after' c' C').1 (
      record { network = A.network; room = l ∙ A.room; ring = reading_ring 0 (Bonded t) back r s R A.ring; most = omega (arith, R.alike, A.most) },
      reading_shortest 0 (Bonded t) back r s R h.1,
    )
