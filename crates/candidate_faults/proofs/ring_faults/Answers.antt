use Rattle.std.proofs.Common.{rules, arith, ◌≡◌, None, Some, ◌∙◌}
use Rattle.std.proofs.lemmas.Result.{err_from_is_err_and}
use Rattle.network.specs.declared.refusals.Reason.TheVariants.{CandidateLength}
use Rattle.network.proofs.Refused.{told_err, told_exit}
use Rattle.ring.proofs.Readers.{no_ring, some_ring}
use Rattle.candidate_faults.specs.CandidateVerdict.{not_atom, seen_before, not_bonded}
use Rattle.candidate_faults.proofs.CandidateVerdicts.{says_14, says_15, says_16, says_17}
use Rattle.candidate_faults.proofs.ring_faults.Goals as goal

pub returns-in_err-ok_or : goal.returns-in_err-ok_or
returns-in_err-ok_or c =
    let p = err_from_is_err_and c.from_residual.result c.from_residual.ensures.1 in
    let none : c.of.result ≡ None = grind arith in
    let reason : c.in_err-ok_or.field-0.0 ≡ CandidateLength = grind arith in
    rw (p.1, p.2, reason) (says_14 _ _ _ (no_ring _ _ c.of.ensures none))

pub returns-in_err-refuse_first : goal.returns-in_err-refuse_first
returns-in_err-refuse_first c =
    let some : c.of.result ≡ Some c.in_ok-ok_or.field-0 = grind arith in
    told_exit _ _ _ c.in_err-refuse_first.was c.from_residual-in_err-refuse_first.ensures.1
    ∙ says_15 _ _ _ (some_ring _ _ _ c.of.ensures some)
    _ (c.refuse_first.ensures (not_atom c.args.n c.args.ring.now) (λ i l b says. search rules)) (told_err _ _ c.in_err-refuse_first.was)

pub returns-in_err-refuse_first-2 : goal.returns-in_err-refuse_first-2
returns-in_err-refuse_first-2 c =
    let some : c.of.result ≡ Some c.in_ok-ok_or.field-0 = grind arith in
    told_exit _ _ _ c.in_err-refuse_first-2.was c.from_residual-in_err-refuse_first-2.ensures.1
    ∙ says_16 _ _ _ (some_ring _ _ _ c.of.ensures some)
    (c.in_ok-refuse_first.ensures (not_atom c.args.n c.args.ring.now) (λ i l b says. search rules))
    _ (c.refuse_first-2.ensures (seen_before c.args.ring.now) (λ i l b says. search rules)) (told_err _ _ c.in_err-refuse_first-2.was)

pub returns : goal.returns
returns c =
    let some : c.of.result ≡ Some c.in_ok-ok_or.field-0 = grind arith in
    says_17 _ _ _ (some_ring _ _ _ c.of.ensures some)
    (c.in_ok-refuse_first.ensures (not_atom c.args.n c.args.ring.now) (λ i l b says. search rules))
    (c.in_ok-refuse_first-2.ensures (seen_before c.args.ring.now) (λ i l b says. search rules))
    _ (c.refuse_first-3.ensures (not_bonded c.args.table.now c.args.ring.now) (λ i l b says. search rules))
