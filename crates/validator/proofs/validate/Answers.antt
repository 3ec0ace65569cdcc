use Rattle.std.proofs.Common.{◌∙◌}
use Rattle.network.proofs.Refused.{told_err, told_ok, told_exit}
use Rattle.network.proofs.Networks.{right_table, says_sizes, says_faults}
use Rattle.validator.proofs.validate.Goals as goal

pub returns-in_err-sizes : goal.returns-in_err-sizes
returns-in_err-sizes c = told_exit _ _ _ c.in_err-sizes.was c.from_residual.ensures.1 ∙ says_sizes _ _ _ c.sizes.ensures (told_err _ _ c.in_err-sizes.was)

pub faults_in-requires : goal.faults_in-requires
faults_in-requires c = right_table _ _ _ c.sizes.ensures (told_ok _ _ c.in_ok-sizes.was)

pub returns : goal.returns
returns c = says_faults _ _ _ c.sizes.ensures _ (told_ok _ _ c.in_ok-sizes.was) c.faults_in.ensures
