use Rattle.std.proofs.Common.{◌≡◌, ℕ, ◌≤◌, take, count_by}
use Rattle.std.specs.List.{enumerate_from}
use Rattle.bnw_writer.specs.Words.{is_bond}
use Rattle.bnw_writer.proofs.bytes.count_bonds.Given as goal

abbrev pub invariant-loop-i : goal.invariant-loop-i
invariant-loop-i l = (l.bonds ≤ l.i) × (l.bonds ≡ count_by (λ (x : ℕ × ℕ). is_bond x.0 x.1) (take l.i (enumerate_from 0 l.table)))
