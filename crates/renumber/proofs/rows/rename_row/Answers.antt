use Rattle.std.proofs.Common.{ℕ, arith}
use Rattle.std.proofs.lemmas.List.Sorted.{IsNonDecreasingBy-from_sort}
use Rattle.renumber.proofs.RenamedRows.{sorted_row}
use Rattle.renumber.proofs.rows.rename_row.Goals as goal

pub returns : goal.returns
returns c =
    let v = c.loop-p.invariant in
    sorted_row _ c.requires.1 _ c.requires.0 c.loop-p.renamed v.0 (λ k l. v.1 k (omega (arith, l, c.requires.0.long))) _ c.sort_unstable.ensures.permutation (IsNonDecreasingBy-from_sort (λ (x : ℕ). x) _ c.sort_unstable.ensures.sorted)
