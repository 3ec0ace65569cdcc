use Rattle.std.proofs.Common.{arith, refl}
use Rattle.network.proofs.Refused.{numbered_or_0}
use Rattle.validator.proofs.Scans.{fault_start, fault_here, fault_next, fault_never}
use Rattle.validator.proofs.faults.first_fault.Goals as goal

pub loop-i-init : goal.loop-i-init
loop-i-init g c = (omega arith, λ fault says. fault_start fault _ _)

pub returns-in-Some : goal.returns-in-Some
returns-in-Some g c fault says = fault_here fault _ _ _ (c.loop-i.invariant.1 fault says) _ (says _ c.loop-i-test.true _ c.in-Some.ensures) c.loop-i-test.true (numbered_or_0 _ _ refl)

pub loop-i-preserved : goal.loop-i-preserved
loop-i-preserved g c = (omega arith, λ fault says. fault_next fault _ _ _ (c.loop-i.invariant.1 fault says) _ (says _ c.loop-i-test.true _ c.in_default.ensures) c.loop-i-test.true refl)

pub returns : goal.returns
returns g c fault says = fault_never fault _ _ _ _ (c.loop-i.invariant.1 fault says) (omega arith) refl
