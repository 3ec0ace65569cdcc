use Rattle.std.proofs.Common.{drop}
use Rattle.page.specs.declared.Page.{Page}
use Rattle.page.specs.Page.{Puts}
use Rattle.text.specs.Lines.{counts_text}
use Rattle.text.proofs.lines.counts.Given as goal

-- the counts that are left, put on the page as it is, make the whole text
abbrev pub invariant-loop-length : goal.invariant-loop-length
invariant-loop-length l = (whole : Page) → Puts (counts_text l.length (drop l.length l.counts)) l.page whole → Puts (counts_text 0 l.counts) l.initial.page whole
