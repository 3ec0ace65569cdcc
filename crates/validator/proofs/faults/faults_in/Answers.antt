use Rattle.std.proofs.Common.{rules, ◌∙◌}
use Rattle.network.specs.Verdict.{place_fault, bond_fault}
use Rattle.network.proofs.Refused.{told_err, told_ok, told_exit}
use Rattle.network.proofs.Verdicts.{says_place, words_below, says_bond}
use Rattle.validator.proofs.faults.faults_in.Goals as goal

pub returns-in_err-first_fault : goal.returns-in_err-first_fault
returns-in_err-first_fault c =
    told_exit _ _ _ c.in_err-first_fault.was c.from_residual.ensures.1
    ∙ says_place _ _ _ (c.first_fault.ensures (place_fault c.args.n c.args.table.now) (λ i l r says. search rules)) (told_err _ _ c.in_err-first_fault.was)

pub first_fault-requires-2 : goal.first_fault-requires-2
first_fault-requires-2 c i l =
    let below = words_below c.args.n c.args.table.now _ (c.first_fault.ensures (place_fault c.args.n c.args.table.now) (λ j m r says. search rules)) (told_ok _ _ c.in_ok-first_fault.was) in
    λ _ _ _ _ _ _ _ _. (l, c.requires, below)

pub returns : goal.returns
returns c = says_bond _ _ _ (c.first_fault.ensures (place_fault c.args.n c.args.table.now) (λ j m r says. search rules)) _ (told_ok _ _ c.in_ok-first_fault.was) (c.first_fault-2.ensures (bond_fault c.args.table.now) (λ j m r says. search rules))
