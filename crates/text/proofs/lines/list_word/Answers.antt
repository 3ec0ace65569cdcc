use Rattle.std.proofs.Common.{eq-eqb, ne_eqb}
use Rattle.page.proofs.Pages.{then}
use Rattle.text.specs.Lines.{word_text}
use Rattle.text.proofs.lines.list_word.Goals as goal
use Rattle.text.proofs.lines.list_word.Goals.{then-left-eq0, else-left-eq0}

pub returns : goal.returns
unfolding word_text
returns c =
    let ended = rw c.left_after.ensures at c.line_end.ensures in
    elim c.if-left-eq0.branch [
      | then-left-eq0 w ↦ rw (eq-eqb _ _ w.if-left-eq0.true) (then w.named.ensures (rw w.page-is at ended))
      | else-left-eq0 w ↦ rw (ne_eqb _ _ w.if-left-eq0.false) (then w.named-else-left-eq0.ensures (rw w.page-is at ended))
    ]
