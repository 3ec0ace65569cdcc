use Rattle.std.proofs.Common.{ℕ, ◌≡◌, ◌≤◌, ◌<◌, ◌-◌, Option}
use Rattle.network.specs.declared.refusals.Reason.{Reason}
use Rattle.network.specs.Verdict.{first_fault, accepted}
use Rattle.network.specs.Refusals.{number_or_0}
use Rattle.validator.proofs.faults.first_fault.Given as goal

abbrev pub invariant-loop-i : goal.invariant-loop-i
invariant-loop-i g l =
    (l.i ≤ l.words)
    × ((fault : ℕ → ℕ) → ((i : ℕ) → i < l.words → (r : Option Reason) → goal.F-post g l.fault_at i r → number_or_0 r ≡ fault i) → first_fault fault l.words 0 accepted ≡ first_fault fault (l.words - l.i) l.i accepted)
