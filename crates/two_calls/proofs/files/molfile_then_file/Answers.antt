use Rattle.std.proofs.Common.{sym, length-take-le}
use Rattle.bonds.proofs.Readings.{rows_inside}
use Rattle.demands.proofs.FilesReturn.{molfile_then_file}
use Rattle.two_calls.proofs.files.molfile_then_file.Goals as goal

pub slice_bounds-write-end : goal.slice_bounds-write-end
slice_bounds-write-end c = rows_inside c.read-reading.ensures

pub slice_bounds-write-end-2 : goal.slice_bounds-write-end-2
slice_bounds-write-end-2 c = sym (length-take-le _ _ (rows_inside c.read-reading.ensures))

pub returns : goal.returns
returns c = let W = rw (← c.into-writing.ensures) at c.write.ensures in search molfile_then_file
