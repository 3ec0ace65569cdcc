use Rattle.std.proofs.Common.{◌∙◌, ◌≡◌, ◌+◌, ◌*◌, ◌≤◌, length, arith}
use Rattle.network.specs.Maxima.{places}
use Rattle.names.specs.Names.{name}
use Rattle.renumber.proofs.NewRows.{renumbered}
use Rattle.renumber.proofs.PutRows.{put_long, rows_next}
use Rattle.renumber.proofs.rows.rename_rows.Goals as goal

pub loop-x-preserved : goal.loop-x-preserved
loop-x-preserved c =
    let within : name c.args.names.now c.loop-x.x * places + places ≤ length c.loop-x.renamed = omega (arith, c.requires.0.whole, c.requires.1.below c.loop-x.x c.loop-x-test.true) in
    let long : length c.rename_row.new.renamed ≡ places = omega arith in
    (put_long (name c.args.names.now c.loop-x.x) _ _ within long ∙ c.loop-x.invariant.0, rows_next _ _ _ _ _ c.requires.1 c.loop-x-test.true within long c.loop-x.invariant.1 c.rename_row.ensures)

pub returns : goal.returns
returns c =
    let v = c.loop-x.invariant in
    renumbered _ _ _ _ c.requires.0 c.requires.1 (v.0 ∙ c.requires.0.whole) (λ x l. v.1 x (omega (arith, l)))
