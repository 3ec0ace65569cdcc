use Rattle.std.proofs.lemmas.List.{at_drop_more, at_drop_all}
use Rattle.page.proofs.Pages.{puts_nothing, then}
use Rattle.text.specs.Lines.{words_text}
use Rattle.text.proofs.lines.rings.Goals as goal

pub loop-word-preserved : goal.loop-word-preserved
unfolding words_text
loop-word-preserved c = λ whole h.
    c.loop-word.invariant whole (rw (at_drop_more (words_text c.loop-word.left) _ _ 0 c.loop-word-test.true) (then c.list_word.ensures (rw c.left_after-left.ensures at h)))

pub returns : goal.returns
unfolding words_text
returns c = c.loop-word.invariant _ (rw (at_drop_all (words_text c.loop-word.left) _ _ c.loop-word-test.false) (puts_nothing _))
