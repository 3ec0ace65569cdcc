use Rattle.std.proofs.Common.{◌≡◌, ◌++◌, ◌-◌, length, take, replicate}
use Rattle.network.specs.Maxima.{places, free}
use Rattle.bnw_reader.specs.FileBonds.{partners_in}
use Rattle.bnw_reader.proofs.rows.fill_row.Given as goal

abbrev pub invariant-loop-place : goal.invariant-loop-place
invariant-loop-place l = l.row ≡ take (length l.yielded) (partners_in l.bonds l.fn.x) ++ replicate (places - length l.yielded) free
