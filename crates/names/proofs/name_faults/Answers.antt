use Rattle.std.proofs.Common.{arith, rules, true, ◌≡◌}
use Rattle.names.specs.Names.{bad_name}
use Rattle.names.proofs.NameScans.{bad_high, bad_seen, faults_here, faults_next, faults_never}
use Rattle.names.proofs.name_faults.Goals.{then-n-name-via-then-n-name, then-n-name-via-else-n-name+then-contains}
use Rattle.names.proofs.name_faults.Goals as goal

pub returns-then-n-name : goal.returns-then-n-name
returns-then-n-name c =
    let bad : bad_name c.args.n c.args.names.now c.loop-i.i ≡ true = elim c.then-n-name.branch [
      | then-n-name-via-then-n-name w ↦ bad_high _ _ _ w.if-n-name.true
      | then-n-name-via-else-n-name+then-contains w ↦ bad_seen _ _ _ _ _ w.if-n-name.false w.contains.ensures.value w.if-contains.true
    ] in
    rw c.at.ensures (faults_here _ _ _ _ _ c.loop-i.invariant.1 c.loop-i-test.true bad)

pub loop-i-preserved : goal.loop-i-preserved
loop-i-preserved c =
    (omega arith, faults_next _ _ _ _ _ c.loop-i.invariant.1 c.loop-i-test.true (bad_seen _ _ _ _ _ c.if-n-name.false c.contains.ensures.value c.if-contains.false))

pub returns : goal.returns
returns c = search (faults_never, rules)
