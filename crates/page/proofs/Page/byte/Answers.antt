use Rattle.std.proofs.Common.{rules}
use Rattle.page.specs.Page.{put, put_all}
use Rattle.page.proofs.Page.byte.Goals as goal
use Rattle.page.proofs.Page.byte.Goals.{in-Some, in_default-2, in_default}

pub returns : goal.returns
unfolding put put_all
returns c = elim c.match-self.branch [ in-Some w ↦ search rules | in_default-2 w ↦ search rules | in_default w ↦ search rules ]
