use Rattle.std.proofs.Common.{◌≡◌, refl, rules, arith}
use Rattle.std.specs.Fn.{FnOnceReturnsAtMut}
use Rattle.report.specs.Report.{blank_table}
use Rattle.report.proofs.Fits.{reading_text_fits}
use Rattle.report.proofs.Texts.{stood}
use Rattle.report.proofs.respond_by.Given as given
use Rattle.report.proofs.respond_by.Goals as goal
use Rattle.report.proofs.respond_by.Goals.{After-read-reading}

-- what the call of the reader gave
reads : (g : given.Over) (c : After-read-reading g) → FnOnceReturnsAtMut g.F.FnOnce c.args.read blank_table c.read-reading.result c.read-reading.new.arg2
reads g c = record { shown = _; shows = refl; left = _; met = c.read-reading.ensures; leaves = refl }

pub print_reading-requires : goal.print_reading-requires
print_reading-requires g c = c.requires.networks _ _ (reads g (goal.at.print_reading-requires g c).After-read-reading)

pub returns : goal.returns
returns g c =
    let gave = reads g (goal.at.returns g c).After-read-reading in
    let printed = c.print_reading.ensures in
    let same : c.out-1.given.0 ≡ c.print_reading.new.page.out.now = search rules in
    rw same (record {
      short = λ h. absurd (omega arith);
      written = λ room. (
        printed.text,
        record { reading = _; table = _; reads = gave; says = printed.is_text },
        stood c.new-page.ensures.blank printed.puts (omega (arith, reading_text_fits _ _ _ (c.requires.networks _ _ gave) printed.is_text)) (rw c.written.ensures at c.unwrap_or.ensures),
      );
    })
