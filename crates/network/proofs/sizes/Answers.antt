use Rattle.std.proofs.Common.{arith, ◌≡◌, None, Some}
use Rattle.std.proofs.lemmas.Result.{err_from_is_err_and}
use Rattle.network.specs.declared.refusals.Reason.TheVariants.{AtomCount}
use Rattle.network.proofs.Verdicts.{no_network, some_network, sizes_1, sizes_4, sizes_right}
use Rattle.network.proofs.sizes.Goals as goal

pub returns-in_err-ok_or : goal.returns-in_err-ok_or
returns-in_err-ok_or c =
    let p = err_from_is_err_and c.from_residual.result c.from_residual.ensures.1 in
    let none : c.of.result ≡ None = grind arith in
    let reason : c.in_err-ok_or.field-0.0 ≡ AtomCount = grind arith in
    rw (p.1, p.2, reason) (sizes_1 _ _ (no_network _ _ c.of.ensures none))

pub overflow_mul-n : goal.overflow_mul-n
overflow_mul-n c =
    let some : c.of.result ≡ Some c.in_ok-ok_or.field-0 = grind arith in
    omega (arith, some_network _ _ _ c.of.ensures some)

pub returns-then-table-n : goal.returns-then-table-n
returns-then-table-n c =
    let some : c.of.result ≡ Some c.in_ok-ok_or.field-0 = grind arith in
    rw c.into.ensures (sizes_4 _ _ (some_network _ _ _ c.of.ensures some) c.if-table-n.true)

pub returns : goal.returns
returns c =
    let some : c.of.result ≡ Some c.in_ok-ok_or.field-0 = grind arith in
    sizes_right _ _ (some_network _ _ _ c.of.ensures some) c.if-table-n.false
