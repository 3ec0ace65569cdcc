use Prim.Native.Nat.{◌*◌, ◌+◌}
use mathlib.Core.Path.{refl}
use native.Mathlib.Omega.{arith}
use Rattle.std.proofs.Common.{rules}
use Rattle.network.specs.Maxima.{places}
use Rattle.network.proofs.Stands.{stands_here, stands_next, stands_none}
use Rattle.network.proofs.row_has.Goals as goal

pub loop-p-init : goal.loop-p-init
loop-p-init c = (omega arith, refl)

pub overflow_cast-table : goal.overflow_cast-table
overflow_cast-table c = omega (arith, c.type_inv.table (c.args.y * places + c.loop-p.p))

pub returns-then-table-y : goal.returns-then-table-y
returns-then-table-y c = search (stands_here, rules)

pub loop-p-preserved : goal.loop-p-preserved
loop-p-preserved c = (omega arith, search (stands_next, rules))

pub returns : goal.returns
returns c = search (stands_none, rules)
