-- The checks before the search: what passing them says, and each way through them.
use Rattle.std.proofs.Common.{◌≡◌, refl, sym, ◌∙◌, ap, ◌↔◌, true, false, not, List, ℕ, ◌≤◌, arith, eq-eqb, ne_eqb}
use native.Mathlib.Decide.{ℕ_discrete}
use Rattle.network.specs.declared.Answer.{Answer}
use Rattle.network.specs.Network.{Counted}
use Rattle.network.specs.Verdict.{refusal, sizes, not_atoms}
use Rattle.network.proofs.Chains.{in_range, range_true, range_false}
use Rattle.network.proofs.Verdicts.{not_refused, atoms}
use Rattle.distance.specs.Outcome.{distance_verdict, DistancesOutcome}
use Rattle.distance.proofs.Outcomes.{accepted_exactly}
use Rattle.ring.specs.Maxima.{ring_least, ring_most, limit_default, allowance_most}
use Rattle.census.specs.Census.{limit_of, not_limit, not_allowance, before_search}
use Rattle.census.specs.Prepared.{Prepared, Passed}

-- the limit and the allowance

pub limit_default_lem : (limit : ℕ) → limit ≡ 0 → limit_default ≡ limit_of limit
unfolding limit_of
limit_default_lem limit e = rw (eq-eqb limit 0 e)

pub limit_given : (limit : ℕ) → (limit ≡ 0 → ⊥) → limit ≡ limit_of limit
unfolding limit_of
limit_given limit e = rw (ne_eqb limit 0 e)

limit_wrong : (limit : ℕ) → ((ring_least ≤ limit_of limit) × (limit_of limit ≤ ring_most) → ⊥) → not_limit limit ≡ true
limit_wrong limit h =
    elim (ℕ_discrete limit 0) [
      | yes e ↦ absurd (h (omega (arith, limit_default_lem limit e), omega (arith, limit_default_lem limit e)))
      | no e ↦ rw (ne_eqb _ _ e, range_false ring_least ring_most limit (rw (← limit_given limit e) at h)) refl
    ]

limit_right : (limit : ℕ) → (ring_least ≤ limit_of limit) × (limit_of limit ≤ ring_most) → not_limit limit ≡ false
limit_right limit h =
    elim (ℕ_discrete limit 0) [
      | yes e ↦ rw (eq-eqb _ _ e) refl
      | no e ↦ rw (ne_eqb _ _ e, range_true ring_least ring_most limit (rw (← limit_given limit e) at h)) refl
    ]

allowance_wrong : (allowance : ℕ) → ((1 ≤ allowance) × (allowance ≤ allowance_most) → ⊥) → not_allowance allowance ≡ true
allowance_wrong allowance h = ap not (range_false 1 allowance_most allowance h)

allowance_right : (allowance : ℕ) → (1 ≤ allowance) × (allowance ≤ allowance_most) → not_allowance allowance ≡ false
allowance_right allowance h = ap not (range_true 1 allowance_most allowance h)

-- each way through the checks

abbrev code : Answer → ℕ
code a = a.code

module _ (n : ℕ) (t : List ℕ) (limit allowance : ℕ) (d : List ℕ) where
  before_1 : not_atoms n ≡ true → before_search n t limit allowance d ≡ refusal 1
  unfolding before_search sizes
  before_1 e = rw e

  before_2 : Counted n → not_limit limit ≡ true → before_search n t limit allowance d ≡ refusal 2
  unfolding before_search sizes
  before_2 c e = rw (atoms n c.some c.most, e)

  before_3 : Counted n → not_limit limit ≡ false → not_allowance allowance ≡ true → before_search n t limit allowance d ≡ refusal 3
  unfolding before_search sizes
  before_3 c e f = rw (atoms n c.some c.most, e, f)

  before_rest : Counted n → not_limit limit ≡ false → not_allowance allowance ≡ false → before_search n t limit allowance d ≡ distance_verdict n t d
  unfolding before_search distance_verdict sizes
  before_rest c e f = rw (atoms n c.some c.most, e, f)

  refused_with : (c : ℕ) → (c ≡ 0 → ⊥) → before_search n t limit allowance d ≡ refusal c → Prepared n t limit allowance d d (refusal c)
  refused_with c z v = record { answer = sym v; refused = λ _. refl; filled = λ y. absurd (z y) }

  pub prepared_1 : not_atoms n ≡ true → Prepared n t limit allowance d d (refusal 1)
  prepared_1 h = refused_with 1 (omega arith) (before_1 h)

  module _ (C : Counted n) (used : ℕ) (u : used ≡ limit_of limit) where
    pub prepared_2 : ((ring_least ≤ used) × (used ≤ ring_most) → ⊥) → Prepared n t limit allowance d d (refusal 2)
    prepared_2 h = refused_with 2 (omega arith) (before_2 C (limit_wrong limit (rw u at h)))

    module _ (fits : (ring_least ≤ used) × (used ≤ ring_most)) where
      pub prepared_3 : ((1 ≤ allowance) × (allowance ≤ allowance_most) → ⊥) → Prepared n t limit allowance d d (refusal 3)
      prepared_3 h = refused_with 3 (omega arith) (before_3 C (limit_right limit (rw u at fits)) (allowance_wrong allowance h))

      pub prepared_rest : (1 ≤ allowance) × (allowance ≤ allowance_most) → (d' : List ℕ) (a : Answer) → DistancesOutcome n t d d' a → Prepared n t limit allowance d d' a
      prepared_rest h d' a o = record {
        answer = o.answer ∙ sym (before_rest C (limit_right limit (rw u at fits)) (allowance_right allowance h));
        refused = o.refused;
        filled = o.filled;
      }

-- what passing the checks says

module _ (n : ℕ) (t : List ℕ) (limit allowance : ℕ) (d : List ℕ) where
  passed : (before_search n t limit allowance d).code ≡ 0 → Passed n t limit allowance d
  unfolding before_search distance_verdict sizes
  passed z =
      let one = not_refused 1 (not_atoms n) _ (omega arith) z in
      let two = not_refused 2 (not_limit limit) _ (omega arith) one.1 in
      let three = not_refused 3 (not_allowance allowance) _ (omega arith) two.1 in
      let rest : (distance_verdict n t d).code ≡ 0 = rw one.0 three.1 in
      let both = (accepted_exactly n t d).0 rest in
      let fits : (ring_least ≤ limit_of limit) × (limit_of limit ≤ ring_most) =
      elim (in_range ring_least ring_most (limit_of limit)) [ yes r ↦ r | no r ↦ (let w = limit_wrong limit r in cc) ] in
      let allowed : (1 ≤ allowance) × (allowance ≤ allowance_most) =
      elim (in_range 1 allowance_most allowance) [ yes r ↦ r | no r ↦ (let w = allowance_wrong allowance r in cc) ] in
      record { network = both.0; room = both.1; least = fits.0; most = fits.1; some = allowed.0; bounded = allowed.1 }

  passes : Passed n t limit allowance d → (before_search n t limit allowance d).code ≡ 0
  passes p =
      ap code (before_rest n t limit allowance d p.network.counted (limit_right limit (p.least, p.most)) (allowance_right allowance (p.some, p.bounded)))
      ∙ (accepted_exactly n t d).1 (p.network, p.room)

  -- the search is reached exactly with a network, a whole buffer, a limit and an allowance
  pub reached_exactly : ((before_search n t limit allowance d).code ≡ 0) ↔ Passed n t limit allowance d
  reached_exactly = (passed, passes)
