use Rattle.network.proofs.PlaceFaults.{fault_free, fault_7, fault_8, fault_9, fault_9_first, fault_10, fault_none, fault_none_first}
use Rattle.validator.proofs.faults.place_fault.Goals as goal

pub returns-then-word : goal.returns-then-word
returns-then-word c = search fault_free

pub returns-then-n-word : goal.returns-then-n-word
returns-then-n-word c = search fault_7

pub returns-then-word-i : goal.returns-then-word-i
returns-then-word-i c = search fault_9_first

pub returns-then-i-eq0 : goal.returns-then-i-eq0
returns-then-i-eq0 c = search fault_none_first

pub returns-then-before : goal.returns-then-before
returns-then-before c = search fault_8

pub returns-then-word-i-2 : goal.returns-then-word-i-2
returns-then-word-i-2 c = search fault_9

pub returns-then-word-before : goal.returns-then-word-before
returns-then-word-before c = search fault_10

pub returns : goal.returns
returns c = search fault_none
