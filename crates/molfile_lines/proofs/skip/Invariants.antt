use Rattle.std.proofs.Common.{◌≡◌}
use Rattle.molfile.specs.Lines.{from_line}
use Rattle.molfile_lines.proofs.skip.Given as goal

abbrev pub invariant-loop-k : goal.invariant-loop-k
invariant-loop-k l = l.rest ≡ from_line l.file l._k
