use Rattle.ring.proofs.Readers.{writes_some, writes}
use Rattle.candidate.proofs.writing.one_writing.Goals as goal

pub unwrap-written-requires : goal.unwrap-written-requires
unwrap-written-requires c = writes_some _ c.requires.0 c.requires.1 c.requires.2 _ c.least_place-start.ensures _ c.read.ensures

pub returns : goal.returns
returns c = writes _ c.requires.0 c.requires.1 c.requires.2 _ c.least_place-start.ensures _ c.read.ensures _ c.unwrap-written.ensures
