use mir.Syntax.{w32}
use mir.Facts.{to_z-of_z}
use Rattle.std.proofs.Common.{rules, ap, ◌∙◌, List, ℕ, ◌++◌, ◌*◌, drop}
use Rattle.network.specs.Maxima.{places}
use Rattle.molfile.proofs.Reading.{reads_counts, reads_pair, reads_all}
use Rattle.molfile_reader.proofs.read.Goals as goal

pub returns-in-Err : goal.returns-in-Err
returns-in-Err c =
    let r = c.in-Err.ensures.refused in
    rw (c.refused.ensures, c.into.ensures) (reads_counts _ _ _ c.skip-rest.ensures _ _ r.0 (to_z-of_z {w = w32} {z = c.in-Err.value} (search rules) ∙ r.1))

pub returns-in-Err-hold : goal.returns-in-Err-hold
returns-in-Err-hold c =
    let r = c.in-Ok.ensures.right in
    rw c.refused-in-Err-hold.ensures (reads_pair _ _ _ c.skip-rest.ensures r.0 _ _ r.1 r.2 _ c.skip.ensures _ (rw c.free-rows.ensures.atoms at c.in-Err-hold.ensures.held))

pub returns : goal.returns
returns c =
    let r = c.in-Ok.ensures.right in
    rw c.accepted.ensures
    (reads_all _ _ _ c.skip-rest.ensures r.0 _ _ r.1 r.2 _ c.skip.ensures _ (rw c.free-rows.ensures.atoms at c.in_default.ensures.held) _
    (ap (λ (t : List ℕ). t ++ drop (places * c.in-Ok.counts.0) c.args.table.now) (c.copy_from_slice.ensures.after ∙ rw (← c.free-rows.ensures.atoms, ← c.hold.ensures.atoms) c.table.ensures)))
