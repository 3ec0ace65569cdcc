-- A call that hands over a flat answer has one outcome, as the call that it passes on. (Those that hand over the answer itself
-- have the contract of the call, whose crate proves it.)
use Rattle.std.proofs.Common.{◌≡◌, sym, ◌∙◌, ap, List, ℕ}
use Rattle.candidate.specs.CandidateOutcome.{CandidateOutcome}
use Rattle.candidate.proofs.Outcomes.{outcome_unique}
use Rattle.census.specs.Census.{CountOutcome, ListOutcome}
use Rattle.census.proofs.OneOutcome as search
use Rattle.flat.specs.declared.FlatCensus.{FlatCensus}
use Rattle.flat.specs.declared.FlatCandidate.{FlatCandidate}
use Rattle.flat.specs.Flat.{flat_census, flat_candidate, PassedOn}

-- where a contract settles the call's own answer, the flat one is settled too
flat_once : {Own Flat : Type 0} (flat : Own → Flat) (C D : Own → Type 0) (Same : Type 0) → ((c d : Own) → C c → D d → (c ≡ d) × Same)
    → (r s : Flat) → PassedOn flat C r → PassedOn flat D s → (r ≡ s) × Same
flat_once flat C D Same once r s P Q =
    let both = once P.own Q.own P.meets Q.meets in
    (P.flattened ∙ ap flat both.0 ∙ sym Q.flattened, both.1)

module _ (n : ℕ) (t : List ℕ) where
  pub test_once : (candidate before after after' : List ℕ) (r s : FlatCandidate) → PassedOn flat_candidate (CandidateOutcome n t candidate before after) r
      → PassedOn flat_candidate (CandidateOutcome n t candidate before after') s → (r ≡ s) × (after ≡ after')
  test_once candidate before after after' = flat_once flat_candidate _ _ _ (outcome_unique n t candidate before after after')

  module _ (limit allowance : ℕ) (before after after' : List ℕ) where
    pub count_once : (r s : FlatCensus) → PassedOn flat_census (CountOutcome n t limit allowance before after) r
        → PassedOn flat_census (CountOutcome n t limit allowance before after') s → (r ≡ s) × (after ≡ after')
    count_once = flat_once flat_census _ _ _ (search.count_once n t limit allowance before after after')

    pub list_once : (l l' l'' : List ℕ) (r s : FlatCensus) → PassedOn flat_census (ListOutcome n t limit allowance before after l l') r
        → PassedOn flat_census (ListOutcome n t limit allowance before after' l l'') s → (r ≡ s) × ((after ≡ after') × (l' ≡ l''))
    list_once l l' l'' = flat_once flat_census _ _ _ (λ c d C D. let o = search.list_once n t limit allowance before l after after' l' l'' c d C D in (o.0, (o.1, o.2)))
