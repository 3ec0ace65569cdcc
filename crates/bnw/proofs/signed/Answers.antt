use Rattle.std.proofs.Common.{arith}
use Rattle.std.proofs.lemmas.Int.{ints}
use Rattle.bnw.proofs.Signs.{signed_is}
use Rattle.bnw.proofs.signed.Goals as goal

pub returns : goal.returns
returns c = omega (arith, ints, signed_is c.args.v (omega arith))
