use Rattle.std.proofs.Common.{◌∙◌, refl, arith}
use Rattle.std.proofs.lemmas.Result.{err_from_is_err_and}
use Rattle.network.proofs.Refused.{numbered}
use Rattle.bnw.proofs.Writings.{few_atoms, few_words, writes_refused, writes_short, writes_all}
use Rattle.bnw_writer.proofs.Bonds.{counted, no_more}
use Rattle.bnw_writer.proofs.write.Goals as goal

pub returns-in_err-validate : goal.returns-in_err-validate
returns-in_err-validate c =
    let p = err_from_is_err_and c.from_residual.result c.from_residual.ensures.1 in
    rw (p.1, p.2) (writes_refused _ _ _ _ c.in_err-validate.ensures (λ z. omega (arith, z, numbered c.in_err-validate.field-0.0.reason)))

pub overflow_mul-length : goal.overflow_mul-length
overflow_mul-length c = omega (arith, few_words _ _ _ c.in_ok-validate.ensures refl, no_more c.args.table.now)

pub overflow_add-length : goal.overflow_add-length
overflow_add-length c = omega (arith, few_words _ _ _ c.in_ok-validate.ensures refl, no_more c.args.table.now)

pub returns-then-file-length : goal.returns-then-file-length
returns-then-file-length c = rw c.into.ensures (writes_short _ _ _ _ c.in_ok-validate.ensures refl _ (c.count_bonds-bonds.ensures ∙ counted _) _ refl c.if-file-length.true)

pub write_head-requires : goal.write_head-requires
write_head-requires c = record {
  few = (few_atoms _ _ _ c.in_ok-validate.ensures refl, omega (arith, few_words _ _ _ c.in_ok-validate.ensures refl, no_more c.args.table.now));
  room = omega arith;
}

pub write_bonds-requires : goal.write_bonds-requires
write_bonds-requires c = record { most = few_words _ _ _ c.in_ok-validate.ensures refl; room = omega (arith, counted c.args.table.now) }

pub returns : goal.returns
returns c =
    writes_all _ _ _ _ c.in_ok-validate.ensures refl _ (c.count_bonds-bonds.ensures ∙ counted _) _ _ c.if-file-length.false c.write_head.ensures c.write_bonds.ensures
