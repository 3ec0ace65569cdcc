use Rattle.std.proofs.Common.{ℕ, ◌<◌, false}
use Rattle.candidate_faults.proofs.refuse_first.Given as goal

abbrev pub invariant-loop-place : goal.invariant-loop-place
invariant-loop-place g l = (i : ℕ) → i < l.place → goal.F-post g l.is_bad i false
