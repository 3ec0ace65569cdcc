-- The flat answers lose nothing: from each the answer of the call itself can be told.
use Rattle.std.proofs.Common.{◌≡◌, refl, sym, inl, inr, Bool, true, false, List, ℕ, zero, suc, arith, eqb, Float, Option, None, Some}
use Rattle.candidate.specs.Told.{Shortest, Yes, No, Refused, Tested}
use Rattle.candidate.specs.CandidateOutcome.{values, RightValues, CandidateOutcome}
use Rattle.candidate.proofs.Values.{values_tell}
use Rattle.census.specs.Told.{Census}
use Rattle.averages.specs.Averages.{mean_values}
use Rattle.flat.specs.declared.FlatCensus.{FlatCensus}
use Rattle.flat.specs.declared.FlatCandidate.{FlatCandidate}
use Rattle.flat.specs.Flat.{flat_census, flat_candidate}

abbrev pub told_mean : Bool → Float → Option Float
told_mean true x = Some x
told_mean false x = None

abbrev pub told_census : FlatCensus → Census
told_census r = record {
  answer = r.answer;
  limit = r.limit;
  counts = r.counts;
  total = r.total;
  words = r.words;
  averages = record { per_atom = r.per_atom; mean = told_mean r.has_mean r.mean };
}

mean_told : (m : Option Float) → told_mean (eqb (mean_values m).number 1) (mean_values m).value ≡ m
mean_told (Some x) = refl
mean_told None = refl

pub census_told : (c : Census) → told_census (flat_census c) ≡ c
census_told c = rw (mean_told c.averages.mean)

-- of a candidate the code tells whether it is refused
abbrev pub told_shortest : ℕ → Bool → ℕ → ℕ → Shortest
told_shortest zero true first second = Yes
told_shortest zero false first second = No first second
told_shortest (suc code) is first second = Refused

abbrev pub told_tested : FlatCandidate → Tested
told_tested r = record { answer = r.answer; shortest = told_shortest r.answer.code r.yes r.first r.second; writing = r.writing }

says_something : (t r words : List ℕ) → RightValues t r (values Refused) words → ⊥
says_something t r words (inl a) = omega (arith, a.0)
says_something t r words (inr a) = omega (arith, a.0)

shortest_told : (code : ℕ) (s : Shortest) → (code ≡ 0 → s ≡ Refused → ⊥) → ((code ≡ 0 → ⊥) → s ≡ Refused) → told_shortest code (eqb (values s).number 1) (values s).first (values s).second ≡ s
shortest_told zero Yes some none = refl
shortest_told zero (No i j) some none = refl
shortest_told zero Refused some none = absurd (some refl refl)
shortest_told (suc code) s some none = sym (none (omega arith))

pub candidate_told : (n : ℕ) (t r before after : List ℕ) (c : Tested) → CandidateOutcome n t r before after c → told_tested (flat_candidate c) ≡ c
candidate_told n t r before after c O =
    rw (shortest_told c.answer.code c.shortest (λ z e. says_something t r c.writing (rw e at (O.says z))) (λ z. values_tell c.shortest Refused (O.refused z).1))
