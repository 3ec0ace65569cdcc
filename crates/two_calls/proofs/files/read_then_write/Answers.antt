use Rattle.std.proofs.Common.{sym, length-take-le}
use Rattle.bonds.proofs.Readings.{rows_inside}
use Rattle.demands.proofs.FilesReturn.{read_then_write}
use Rattle.two_calls.proofs.files.read_then_write.Goals as goal

pub slice_bounds-write-end : goal.slice_bounds-write-end
slice_bounds-write-end c = rows_inside c.read-reading.ensures

pub slice_bounds-write-end-2 : goal.slice_bounds-write-end-2
slice_bounds-write-end-2 c = sym (length-take-le _ _ (rows_inside c.read-reading.ensures))

pub returns : goal.returns
returns c = rw c.into-writing.ensures (search read_then_write)
