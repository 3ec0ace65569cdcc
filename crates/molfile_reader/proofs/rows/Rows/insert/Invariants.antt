use Rattle.std.proofs.Common.{◌≡◌, ◌+◌, ◌-◌}
use Rattle.network.specs.Maxima.{places}
use Rattle.molfile.specs.Rows.{inserted_at}
use Rattle.molfile_reader.proofs.rows.Rows.insert.Given as goal

abbrev pub invariant-loop-place : goal.invariant-loop-place
invariant-loop-place l =
    (l.self.atoms ≡ l.initial.self.atoms)
    × (inserted_at l.initial.self.words l.first places l.y ≡ inserted_at l.self.words l.place (l.first + places - l.place) l.carried)
