use Rattle.std.proofs.Common.{get_or, sym, ap, ◌∙◌, arith}
use Rattle.ring.proofs.Readers.{copied_more, copied_all, reading_at, reading_long}
use Rattle.ring.proofs.writing.read.Goals as goal

pub loop-i-preserved : goal.loop-i-preserved
loop-i-preserved c =
    let words = c.args.ring.now in
    copied_more _ _ _ _ c.loop-i.invariant (omega (arith, c.requires.1)) (ap (λ p. get_or words p 0) c.place_at.ensures.0 ∙ sym (reading_at words _ _ _ c.loop-i-test.true))

pub returns : goal.returns
returns c = copied_all _ _ _ _ c.loop-i.invariant (reading_long _ _ _) c.requires.1 (omega arith)
