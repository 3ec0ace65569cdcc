use Rattle.std.proofs.Common.{arith}
use Rattle.std.proofs.Math.Bool.{and-false}
use Rattle.std.proofs.lemmas.Bool.{lt-ltb, le-ltb}
use Rattle.paths.specs.Search.{follows}
use Rattle.paths.specs.Turn.{antipodes, may_follow}
use Rattle.search.proofs.Ahead.{looks_past}
use Rattle.search.proofs.state.Search.may_follow.Goals as goal
use Rattle.search.proofs.state.Search.may_follow.Goals.{else-at-a-via-then-at-a+then-pair_fits+else-closes, else-at-a-via-then-at-a+else-pair_fits, else-at-a-via-else-at-a}

pub returns-then-len-self : goal.returns-then-len-self
unfolding follows may_follow antipodes
returns-then-len-self c =
    rw (← c.at.ensures, lt-ltb _ _ c.if-at-a.true, ← c.len-len.ensures, ← c.pair_fits.ensures, c.if-pair_fits.true, le-ltb _ _ c.if-len-self.true, ← c.closes.ensures, c.if-closes.true) c.look_ahead.ensures

pub returns-then-across : goal.returns-then-across
unfolding follows may_follow
returns-then-across c =
    let past = looks_past _ _ _ _ c.args.a _ c.args.self.now.given.begun c.requires.hint (omega arith) in
    (rw (← c.at.ensures, lt-ltb _ _ c.if-at-a.true, ← c.len-len.ensures, ← c.pair_fits.ensures, c.if-pair_fits.true, ← c.across.ensures, c.if-across.true, ← c.closes.ensures, c.if-closes.true) past.0, past.1)

pub returns-else-across : goal.returns-else-across
unfolding follows may_follow
returns-else-across c = rw (← c.at.ensures, lt-ltb _ _ c.if-at-a.true, ← c.len-len.ensures, ← c.pair_fits.ensures, c.if-pair_fits.true, ← c.across.ensures, c.if-across.false)

pub returns-else-at-a : goal.returns-else-at-a
unfolding follows may_follow
returns-else-at-a c =
    elim c.else-at-a.branch [
      | else-at-a-via-then-at-a+then-pair_fits+else-closes w ↦ rw (← c.at.ensures, lt-ltb _ _ w.if-at-a.true, ← c.len-len.ensures, ← w.pair_fits.ensures, w.if-pair_fits.true, ← w.closes.ensures, w.if-closes.false) (and-false _)
      | else-at-a-via-then-at-a+else-pair_fits w ↦ rw (← c.at.ensures, lt-ltb _ _ w.if-at-a.true, ← c.len-len.ensures, ← w.pair_fits.ensures, w.if-pair_fits.false)
      | else-at-a-via-else-at-a w ↦ rw (← c.at.ensures, le-ltb _ _ w.if-at-a.false)
    ]
