use Rattle.std.proofs.Common.{refl, sym, ap, ◌∙◌, arith, mul-le-mul}
use Rattle.network.specs.declared.Answer.{Answer}
use Rattle.network.proofs.Networks.{network_of, right_atoms}
use Rattle.network.proofs.Refused.{told_err, told_exit}
use Rattle.candidate_faults.proofs.CandidateVerdicts.{says_sizes, says_5, says_faults, says_rest}
use Rattle.candidate_faults.proofs.faults_of.Goals as goal

pub returns-in_err-sizes : goal.returns-in_err-sizes
returns-in_err-sizes c = told_exit _ _ _ c.in_err-sizes.was c.from_residual.ensures.1 ∙ says_sizes _ _ _ _ _ c.sizes.ensures (told_err _ _ c.in_err-sizes.was)

pub overflow_mul-n : goal.overflow_mul-n
overflow_mul-n c = let most = (right_atoms _ _ _ c.in_ok-sizes.ensures refl).most in omega (arith, mul-le-mul most most)

pub returns-then-dist-n : goal.returns-then-dist-n
returns-then-dist-n c = rw c.into.ensures (says_5 _ _ _ _ c.in_ok-sizes.ensures c.if-dist-n.true)

pub returns-in_err-validate : goal.returns-in_err-validate
returns-in_err-validate c =
    told_exit _ _ _ c.in_err-validate.was c.from_residual-in_err-validate.ensures.1
    ∙ says_faults _ _ _ _ c.if-dist-n.false _ c.validate.ensures (told_err _ _ c.in_err-validate.was)

pub returns : goal.returns
returns c = says_rest _ _ _ _ c.if-dist-n.false (network_of _ _ (ap (λ (a : Answer). a.code) (sym c.in_ok-validate.ensures))) _ c.ring_faults.ensures
