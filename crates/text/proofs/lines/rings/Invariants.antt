use Rattle.std.proofs.Common.{drop}
use Rattle.page.specs.declared.Page.{Page}
use Rattle.page.specs.Page.{Puts}
use Rattle.text.specs.Lines.{words_text}
use Rattle.text.proofs.lines.rings.Given as goal

-- what is left of the list, put on the page as it is, makes the whole text
abbrev pub invariant-loop-word : goal.invariant-loop-word
invariant-loop-word l = (whole : Page) → Puts (words_text l.left (drop l.word-index l.list)) l.page whole → Puts (words_text 0 l.list) l.initial.page whole
