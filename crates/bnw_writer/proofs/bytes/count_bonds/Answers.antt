use mir.Val.{bool_byte}
use Rattle.std.proofs.Common.{◌≡◌, refl, sym, ◌∙◌, ap, ap₂, Bool, true, false, cond, ℕ, ◌+◌, ◌≤◌, get_or, count_by, take_all, arith}
use Rattle.std.specs.List.{enumerate_from}
use Rattle.std.proofs.lemmas.List.FromFn.{length-enumerate_from}
use Rattle.bnw_writer.specs.Words.{is_bond}
use Rattle.bnw_writer.proofs.Bonds.{counted_next}
use Rattle.bnw_writer.proofs.bytes.count_bonds.Goals as goal

as_number : (b : Bool) → (bool_byte b ≡ cond b 1 0) × (bool_byte b ≤ 1)
as_number true = (refl, omega arith)
as_number false = (refl, omega arith)

pub loop-i-preserved : goal.loop-i-preserved
loop-i-preserved c =
    let b = is_bond c.loop-i.i (get_or c.args.table.now c.loop-i.i 0) in
    let one : c.from-bonds.result ≡ bool_byte b = c.from-bonds.ensures ∙ ap bool_byte c.is_bond.ensures in
    let n = as_number b in (
      omega (arith, c.loop-i.invariant.0, one, n.1),
      ap₂ ◌+◌ c.loop-i.invariant.1 (one ∙ n.0) ∙ sym (counted_next c.args.table.now c.loop-i.i c.loop-i-test.true),
    )

pub returns : goal.returns
returns c =
    let e = length-enumerate_from 0 c.args.table.now in
    c.loop-i.invariant.1 ∙ ap (count_by (λ (x : ℕ × ℕ). is_bond x.0 x.1)) (take_all c.loop-i.i (enumerate_from 0 c.args.table.now) (omega (arith, e, c.loop-i-test.false)))
