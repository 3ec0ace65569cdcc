use Rattle.std.proofs.Common.{Bool, sym, ap, ◌∙◌, length}
use Rattle.census.specs.Census.{plain}
use Rattle.notes.specs.Noting.{state}
use Rattle.notes.proofs.Notes.{note_over, note_full, note_fits, note_skips}
use Rattle.notes.proofs.add.Goals.{then-found-via-then-found, then-found-via-else-found+then-allowance-found, then-found-ring, else-found-ring}
use Rattle.notes.proofs.add.Goals as goal

pub returns-then-found : goal.returns-then-found
returns-then-found c =
    let found = c.args.found in
    elim c.then-found.branch [
      | then-found-via-then-found w ↦ ap (λ (over : Bool). state (record { rings = found.rings; at = found.at; over = over }) c.args.list.now) (sym w.if-found.true) ∙ note_over length plain _ _ _ _ w.if-found.true
      | then-found-via-else-found+then-allowance-found w ↦ note_full length plain _ _ _ _ w.if-found.false w.if-allowance-found.true
    ]

pub returns : goal.returns
returns c = elim c.if-found-ring.branch [
  | then-found-ring w ↦ rw (w.list-is, w.write_ring.ensures) (note_fits length plain _ _ _ _ c.if-found.false c.if-allowance-found.false w.if-found-ring.true)
  | else-found-ring w ↦ rw w.list-is (note_skips length plain _ _ _ _ c.if-found.false c.if-allowance-found.false w.if-found-ring.false)
]
