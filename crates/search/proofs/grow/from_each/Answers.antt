use Rattle.std.proofs.Common.{◌≡◌, refl, ◌∙◌, arith}
use Rattle.paths.specs.Turn.{may_follow}
use Rattle.paths.specs.Search.{gather_below, rings_from, rings_of}
use Rattle.search.proofs.Ahead.{hint_first}
use Rattle.search.proofs.Paths.{given_first}
use Rattle.search.proofs.Steps.{noted_none, turn}
use Rattle.search.proofs.grow.from_each.Goals as goal

pub loop-first-init : goal.loop-first-init
unfolding gather_below
loop-first-init c = record { noted = noted_none _; same_list = refl }

pub grow-requires : goal.grow-requires
grow-requires c = rw c.of-path.ensures (record { given = given_first _ _ _ c.requires.0 c.requires.1 c.loop-first-test.true; hint = hint_first _ _ _ _ c.loop-first-test.true })

pub loop-first-preserved : goal.loop-first-preserved
unfolding rings_from
loop-first-preserved c = record {
  noted = turn (rings_from may_follow c.args.net.n c.args.net.table.now c.args.net.dist.now c.args.k) _ _ _ _ c.loop-first.invariant.noted (rw c.of-path.ensures at c.grow.ensures.noted);
  same_list = c.grow.ensures.same_list ∙ c.loop-first.invariant.same_list;
}

pub returns-clause-noted : goal.returns-clause-noted
unfolding rings_of
returns-clause-noted c = let e : c.loop-first.first ≡ c.args.net.n = omega arith in rw e at c.loop-first.invariant.noted
