use Rattle.std.proofs.Common.{arith}
use Rattle.page.proofs.Pages.{then}
use Rattle.page.proofs.Numbers.{number_one, number_more}
use Rattle.page.proofs.Page.+number.Goals as goal
use Rattle.page.proofs.Page.+number.Goals.{then-n-ge10, else-n-ge10}

pub returns : goal.returns
returns t c = elim c.if-n-ge10.branch [
  | then-n-ge10 w ↦ rw (number_more c.args.n (omega arith) (omega arith)) (then w.number.ensures (rw w.self-is at c.byte.ensures))
  | else-n-ge10 w ↦ rw (number_one c.args.n (omega arith)) (rw w.self-is at c.byte.ensures)
]
