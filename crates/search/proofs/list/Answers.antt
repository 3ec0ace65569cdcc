use Rattle.std.proofs.Common.{◌≤◌, refl, rules, arith}
use Rattle.ring.specs.Maxima.{allowance_most}
use Rattle.network.proofs.Refused.{exit_same}
use Rattle.census.proofs.Settled.{refused_code}
use Rattle.search.proofs.Outcomes.{list_refused, again_network, again_square, again_reaches, again_small, list_13, list_0}
use Rattle.search.proofs.Rows.{ends_of}
use Rattle.search.proofs.Steps.{noted_first}
use Rattle.search.proofs.list.Goals as goal

pub returns-in_err-counted : goal.returns-in_err-counted
returns-in_err-counted c = rw (exit_same _ _ _ c.in_err-counted.was c.from_residual.ensures.1) (list_refused _ _ _ _ _ _ _ c.count.ensures _ (refused_code _ _ c.in_err-counted.was))

pub returns-then-list-counted : goal.returns-then-list-counted
returns-then-list-counted c = rw c.into.ensures (list_13 _ _ _ _ _ _ _ c.in_ok-counted.ensures refl _ _ _ c.if-list-counted.true refl refl)

pub overflow_cast-allowance : goal.overflow_cast-allowance
overflow_cast-allowance c = let small : c.args.allowance ≤ allowance_most = again_small _ _ _ _ _ _ _ c.in_ok-counted.ensures refl in omega arith

pub invariant_of-each_length : goal.invariant_of-each_length
invariant_of-each_length c = let N = again_network _ _ _ _ _ _ _ c.in_ok-counted.ensures refl in
    record { few = N.counted.most; rows = N.whole; packed = ends_of N; square = again_square _ _ _ _ _ _ _ c.in_ok-counted.ensures refl }

pub each_length-requires : goal.each_length-requires
each_length-requires c = again_reaches _ _ _ _ _ _ _ c.in_ok-counted.ensures refl

pub returns : goal.returns
returns c =
    let noted = rw c.new-notes.ensures.empty.2 at (noted_first _ _ _ _ c.new-notes.ensures.empty.0 c.new-notes.ensures.empty.1 c.each_length.ensures.noted) in
    list_0 _ _ _ _ _ _ _ c.in_ok-counted.ensures refl _ _ _ _ c.if-list-counted.false noted (search rules)
