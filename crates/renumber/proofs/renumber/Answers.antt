use Rattle.std.proofs.Common.{◌≡◌, ◌∙◌, ◌*◌, length, refl, sym, arith}
use Rattle.network.specs.Maxima.{places}
use Rattle.network.proofs.Networks.{right_atoms, right_table}
use Rattle.network.proofs.Refused.{told_err, told_exit}
use Rattle.renumber.proofs.Outcomes.{out_sizes, out_6, out_faults, out_18, is_network, is_one_to_one, out_renumbered}
use Rattle.renumber.proofs.renumber.Goals.{then-names-n-via-then-names-n, then-names-n-via-else-names-n+then-renamed-n}
use Rattle.renumber.proofs.renumber.Goals as goal

pub returns-in_err-sizes : goal.returns-in_err-sizes
returns-in_err-sizes c = rw (told_exit _ _ _ c.in_err-sizes.was c.from_residual.ensures.1) (out_sizes _ _ _ _ _ c.sizes.ensures (told_err _ _ c.in_err-sizes.was))

pub overflow_mul-n : goal.overflow_mul-n
overflow_mul-n c = omega (arith, (right_atoms _ _ _ c.in_ok-sizes.ensures refl).most)

pub returns-then-names-n : goal.returns-then-names-n
returns-then-names-n c =
    let wrong : (length c.args.names.now ≡ c.args.n) × (length c.args.renamed.now ≡ places * c.args.n) → ⊥ = λ h. elim c.then-names-n.branch [
      | then-names-n-via-then-names-n w ↦ w.if-names-n.true h.0
      | then-names-n-via-else-names-n+then-renamed-n w ↦ w.if-renamed-n.true h.1
    ] in
    rw c.into.ensures (out_6 _ _ _ _ _ _ c.in_ok-sizes.ensures refl wrong refl)

pub returns-in_err-validate : goal.returns-in_err-validate
returns-in_err-validate c =
    rw (told_exit _ _ _ c.in_err-validate.was c.from_residual-in_err-validate.ensures.1) (out_faults _ _ _ _ _ c.if-names-n.false c.if-renamed-n.false c.validate.ensures (told_err _ _ c.in_err-validate.was))

pub returns-in_err-name_faults : goal.returns-in_err-name_faults
returns-in_err-name_faults c =
    rw (told_exit _ _ _ c.in_err-name_faults.was c.from_residual-in_err-name_faults.ensures.1)
    (out_18 _ _ _ _ _ c.if-names-n.false c.if-renamed-n.false _ c.in_ok-validate.ensures refl c.name_faults.ensures (told_err _ _ c.in_err-name_faults.was))

pub rename_rows-requires : goal.rename_rows-requires
rename_rows-requires c = rw c.if-names-n.false (
  is_network _ _ _ c.in_ok-validate.ensures refl,
  is_one_to_one _ _ _ c.if-names-n.false c.in_ok-name_faults.ensures refl,
  c.if-renamed-n.false ∙ sym (right_table _ _ _ c.in_ok-sizes.ensures refl),
)

pub returns : goal.returns
returns c =
    out_renumbered _ _ _ _ _ c.if-names-n.false c.if-renamed-n.false _ c.in_ok-validate.ensures refl c.in_ok-name_faults.ensures _ refl (rw c.if-names-n.false at c.rename_rows.ensures)
