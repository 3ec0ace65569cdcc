use Rattle.std.proofs.Common.{◌≤◌, sym, ap, refl, arith}
use Rattle.std.proofs.lemmas.Result.{err_from_is_err_and}
use Rattle.network.specs.Refusals.{told}
use Rattle.network.proofs.Refused.{told_err, told_ok}
use Rattle.census.specs.Told.{no_census}
use Rattle.ring.specs.Maxima.{allowance_most}
use Rattle.search.proofs.Outcomes.{out_refused, passed, reaches, small, count_0, count_12}
use Rattle.search.proofs.Rows.{ends_of}
use Rattle.search.proofs.Steps.{noted_first}
use Rattle.search.proofs.count.Goals as goal

pub returns-in_err-prepare : goal.returns-in_err-prepare
returns-in_err-prepare c =
    let p = err_from_is_err_and c.from_residual.result c.from_residual.ensures.1 in
    rw (p.1, p.2) (out_refused _ _ _ _ _ _ _ c.prepare.ensures _ _ (told_err _ _ c.in_err-prepare.was) (ap no_census (sym (ap told c.in_err-prepare.was))))

pub overflow_cast-allowance : goal.overflow_cast-allowance
overflow_cast-allowance c = let small : c.args.allowance ≤ allowance_most = (passed _ _ _ _ _ _ _ c.prepare.ensures (told_ok _ _ c.in_ok-prepare.was)).bounded in omega arith

pub invariant_of-each_length : goal.invariant_of-each_length
invariant_of-each_length c = let p = passed _ _ _ _ _ _ _ c.prepare.ensures (told_ok _ _ c.in_ok-prepare.was) in
    record { few = p.network.counted.most; rows = p.network.whole; packed = ends_of p.network; square = (c.prepare.ensures.filled (told_ok _ _ c.in_ok-prepare.was)).full }

pub each_length-tally-requires : goal.each_length-tally-requires
each_length-tally-requires c = reaches _ _ _ _ _ _ _ c.prepare.ensures (told_ok _ _ c.in_ok-prepare.was) _ c.limit_used-used.ensures

pub returns-then-notes : goal.returns-then-notes
returns-then-notes c = rw c.into.ensures (count_12 _ _ _ _ _ _ _ c.prepare.ensures (told_ok _ _ c.in_ok-prepare.was) _ c.limit_used-used.ensures _ _ _ (noted_first _ _ _ _ c.new-notes.ensures.empty.0 c.new-notes.ensures.empty.1 c.each_length-tally.ensures.noted) _ _ c.if-notes.true refl refl)

pub histogram-requires : goal.histogram-requires
histogram-requires c = record {
  counted = (passed _ _ _ _ _ _ _ c.prepare.ensures (told_ok _ _ c.in_ok-prepare.was)).network.counted;
  bounded = small _ _ _ _ _ _ _ c.prepare.ensures (told_ok _ _ c.in_ok-prepare.was) _ c.limit_used-used.ensures _ _ _ (noted_first _ _ _ _ c.new-notes.ensures.empty.0 c.new-notes.ensures.empty.1 c.each_length-tally.ensures.noted) _ c.each_length-tally.ensures.tallied c.if-notes.false;
}

pub returns : goal.returns
returns c = count_0 _ _ _ _ _ _ _ c.prepare.ensures (told_ok _ _ c.in_ok-prepare.was) _ c.limit_used-used.ensures _ _ _ (noted_first _ _ _ _ c.new-notes.ensures.empty.0 c.new-notes.ensures.empty.1 c.each_length-tally.ensures.noted) _ c.each_length-tally.ensures.tallied c.if-notes.false _ c.histogram.ensures
