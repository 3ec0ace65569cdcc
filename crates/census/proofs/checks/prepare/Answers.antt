use Rattle.std.proofs.Common.{arith, rules, ◌≡◌, ◌≤◌, None, Some}
use Rattle.std.proofs.lemmas.Result.{err_from_is_err_and}
use Rattle.ring.specs.Maxima.{ring_least, ring_most, allowance_most}
use Rattle.network.specs.declared.refusals.Reason.TheVariants.{AtomCount}
use Rattle.network.proofs.Verdicts.{no_network, some_network}
use Rattle.census.proofs.Passed.{prepared_1, prepared_2, prepared_3, prepared_rest}
use Rattle.census.proofs.checks.prepare.Goals as goal

pub returns-in_err-ok_or : goal.returns-in_err-ok_or
returns-in_err-ok_or c =
    let p = err_from_is_err_and c.from_residual.result c.from_residual.ensures.1 in
    let none : c.of.result ≡ None = grind arith in
    let reason : c.in_err-ok_or.field-0.0 ≡ AtomCount = grind arith in
    rw (p.1, p.2, reason) (prepared_1 _ _ _ _ _ (no_network _ _ c.of.ensures none))

pub returns-then-not-contains : goal.returns-then-not-contains
returns-then-not-contains c =
    let some : c.of.result ≡ Some c.in_ok-ok_or.field-0 = grind arith in
    let outside : (ring_least ≤ c.limit_used.result) × (c.limit_used.result ≤ ring_most) → ⊥ = search rules in
    rw c.into.ensures (prepared_2 _ _ _ _ _ (some_network _ _ _ c.of.ensures some) _ c.limit_used.ensures outside)

pub returns-then-not-contains-2 : goal.returns-then-not-contains-2
returns-then-not-contains-2 c =
    let some : c.of.result ≡ Some c.in_ok-ok_or.field-0 = grind arith in
    let fits : (ring_least ≤ c.limit_used.result) × (c.limit_used.result ≤ ring_most) = search rules in
    let outside : (1 ≤ c.args.allowance) × (c.args.allowance ≤ allowance_most) → ⊥ = search rules in
    rw c.into-then-not-contains-2.ensures (prepared_3 _ _ _ _ _ (some_network _ _ _ c.of.ensures some) _ c.limit_used.ensures fits outside)

pub returns : goal.returns
returns c =
    let some : c.of.result ≡ Some c.in_ok-ok_or.field-0 = grind arith in
    let fits : (ring_least ≤ c.limit_used.result) × (c.limit_used.result ≤ ring_most) = search rules in
    let allowed : (1 ≤ c.args.allowance) × (c.args.allowance ≤ allowance_most) = search rules in
    prepared_rest _ _ _ _ _ (some_network _ _ _ c.of.ensures some) _ c.limit_used.ensures fits allowed _ _ c.distances.ensures
