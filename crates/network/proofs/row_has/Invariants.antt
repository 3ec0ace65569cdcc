use Prim.Native.Nat.{◌≤◌, ◌-◌}
use mathlib.Core.Path.{◌≡◌}
use Rattle.network.specs.Maxima.{places}
use Rattle.network.specs.Verdict.{stands}
use Rattle.network.proofs.row_has.Given as goal

abbrev pub invariant-loop-p : goal.invariant-loop-p
invariant-loop-p l = (l.p ≤ places) × (stands l.table l.x l.y places 0 ≡ stands l.table l.x l.y (places - l.p) l.p)
