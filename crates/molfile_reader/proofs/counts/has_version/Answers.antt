use Rattle.std.proofs.Common.{◌∙◌}
use Rattle.molfile.proofs.Counts.{version_starts}
use Rattle.molfile_reader.proofs.counts.has_version.Goals as goal

pub returns : goal.returns
returns c = c.starts_with.ensures.value ∙ version_starts _ c.requires
