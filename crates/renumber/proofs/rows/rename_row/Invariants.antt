use Rattle.std.proofs.Common.{◌≡◌, ℕ, ◌<◌, length, get_or}
use Rattle.network.specs.Maxima.{places}
use Rattle.renumber.specs.Rows.{new_word}
use Rattle.renumber.proofs.rows.rename_row.Given as goal

abbrev pub invariant-loop-p : goal.invariant-loop-p
invariant-loop-p l = (length l.renamed ≡ places) × ((k : ℕ) → k < l.p → get_or l.renamed k 0 ≡ new_word l.names (get_or l.row k 0))
