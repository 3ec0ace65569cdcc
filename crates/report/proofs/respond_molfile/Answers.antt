use Rattle.std.proofs.Common.{refl, rules}
use Rattle.bonds.proofs.Readings.{read_network}
use Rattle.molfile.specs.Judging.{molfile_verdict, MolfileOutcome}
use Rattle.report.specs.Report.{blank_table}
use Rattle.report.proofs.Texts.{read_text, responds_weaker, most_words}
use Rattle.report.proofs.respond_molfile.Goals as goal

pub respond_by-requires-clause-networks : goal.respond_by-requires-clause-networks
respond_by-requires-clause-networks c = λ r table gave.
    let outcome : MolfileOutcome c.args.file.now blank_table table r = search rules in
    read_network outcome

pub returns : goal.returns
returns c = responds_weaker (λ text T.
    let outcome : MolfileOutcome c.args.file.now blank_table T.table T.reading = search rules in
    read_text (most_words (molfile_verdict _) refl outcome) text T.says) c.respond_by.ensures
