use Rattle.std.proofs.Common.{arith, sym, ◌∙◌}
use Rattle.candidate_faults.proofs.CandidateVerdicts.{place_found, place_clean}
use Rattle.candidate_faults.proofs.refuse_first.Goals as goal

pub returns-then-is_bad : goal.returns-then-is_bad
returns-then-is_bad g c bad says =
    let l = c.loop-place-test.true in
    rw c.at.ensures (sym (place_found _ _ bad _ l (sym (says _ l _ c.is_bad.ensures) ∙ c.if-is_bad.true) (λ i k. sym (says i (omega arith) _ (c.loop-place.invariant i k))) _))

pub returns : goal.returns
returns g c bad says = sym (place_clean _ _ bad (λ i l. sym (says i l _ (c.loop-place.invariant i (omega arith)))) _)
