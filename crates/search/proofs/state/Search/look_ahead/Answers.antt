use Rattle.std.proofs.Common.{arith}
use Rattle.search.proofs.Ahead.{looking_first, looking_next, looks_at, looks_none}
use Rattle.search.proofs.state.Search.look_ahead.Goals as goal

pub loop-next-init : goal.loop-next-init
loop-next-init c = looking_first _ _ _ _ _ _ c.args.self.now.given.begun c.requires.hint c.requires.inside.1 _ (rw (← c.len-len.ensures) (c.around-w.ensures.0 (omega arith))) _ c.next_at-next.ensures

pub returns-then-fits_before : goal.returns-then-fits_before
returns-then-fits_before c = looks_at _ _ _ _ _ _ c.args.self.now.given.begun c.requires.hint c.requires.inside.1 _ (rw (← c.len-len.ensures) (c.around-w.ensures.0 (omega arith))) _ c.loop-next.invariant _ c.in-Some.is (rw (← c.len-len.ensures, ← c.fits_before.ensures) c.if-fits_before.true)

pub loop-next-preserved : goal.loop-next-preserved
loop-next-preserved c = looking_next _ _ _ _ _ _ c.args.self.now.given.begun c.requires.hint c.requires.inside.1 _ (rw (← c.len-len.ensures) (c.around-w.ensures.0 (omega arith))) _ c.loop-next.invariant _ c.in-Some.is _ (rw (← c.len-len.ensures, ← c.fits_before.ensures) c.if-fits_before.false) c.next_at-next-in-Some.ensures

pub returns : goal.returns
returns c = looks_none _ _ _ _ _ _ c.args.self.now.given.begun c.requires.hint c.requires.inside.1 _ (rw (← c.len-len.ensures) (c.around-w.ensures.0 (omega arith))) _ c.loop-next.invariant c.in_default.is
