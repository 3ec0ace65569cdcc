use Rattle.std.proofs.Common.{arith}
use Rattle.network.proofs.Networks.{right_atoms}
use Rattle.network.proofs.Refused.{told_err, told_ok, told_exit}
use Rattle.distance.proofs.Outcomes.{square, out_sizes, out_long, out_faults, is_network, out_filled}
use Rattle.distance.proofs.distances.Goals as goal

pub returns-in_err-sizes : goal.returns-in_err-sizes
returns-in_err-sizes c = rw (told_exit _ _ _ c.in_err-sizes.was c.from_residual.ensures.1) (out_sizes _ _ _ _ c.sizes.ensures (told_err _ _ c.in_err-sizes.was))

pub overflow_mul-n : goal.overflow_mul-n
overflow_mul-n c = omega (arith, square _ (right_atoms _ _ _ c.sizes.ensures (told_ok _ _ c.in_ok-sizes.was)).most)

pub returns-then-dist-n : goal.returns-then-dist-n
returns-then-dist-n c = rw c.into.ensures (out_long _ _ _ _ c.sizes.ensures (told_ok _ _ c.in_ok-sizes.was) c.if-dist-n.true)

pub returns-in_err-validate : goal.returns-in_err-validate
returns-in_err-validate c =
    rw (told_exit _ _ _ c.in_err-validate.was c.from_residual-in_err-validate.ensures.1)
    (out_faults _ _ _ _ c.validate.ensures c.if-dist-n.false (told_err _ _ c.in_err-validate.was))

pub fill-requires : goal.fill-requires
fill-requires c = (c.if-dist-n.false, is_network _ _ c.args.dist.now _ c.validate.ensures (told_ok _ _ c.in_ok-validate.was))

pub returns : goal.returns
returns c = out_filled _ _ _ _ c.validate.ensures (told_ok _ _ c.in_ok-validate.was) _ c.if-dist-n.false c.fill.ensures
