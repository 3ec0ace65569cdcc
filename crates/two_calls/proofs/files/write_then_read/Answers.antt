use Rattle.demands.proofs.FilesReturn.{write_then_read}
use Rattle.two_calls.proofs.files.write_then_read.Goals as goal

pub returns : goal.returns
returns c = let W = rw (← c.into-writing.ensures) at c.write.ensures in search write_then_read
