use Rattle.network.specs.Verdict.{WordsBelow}
use native.Mathlib.Omega.{arith}
use Rattle.network.proofs.Stands.{in_row_lem}
use Rattle.network.proofs.PlaceFaults.{bond_free, bond_answered, bond_unanswered}
use Rattle.validator.proofs.faults.bond_fault.Goals as goal

pub returns-then-word : goal.returns-then-word
returns-then-word c = search (bond_free)

pub returns-then-stands_in : goal.returns-then-stands_in
unfolding WordsBelow
returns-then-stands_in c = let room = c.requires.2 c.args.i c.requires.0 c.if-word.false in
    bond_answered _ _ c.if-word.false _ (in_row_lem _ _ _ (omega (arith, room)) _ c.stands_in.ensures) c.if-stands_in.true

pub returns : goal.returns
unfolding WordsBelow
returns c = let room = c.requires.2 c.args.i c.requires.0 c.if-word.false in
    bond_unanswered _ _ c.if-word.false _ (in_row_lem _ _ _ (omega (arith, room)) _ c.stands_in.ensures) c.if-stands_in.false
