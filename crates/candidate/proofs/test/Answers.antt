use Rattle.std.proofs.Common.{refl}
use Rattle.std.proofs.lemmas.Result.{err_from_is_err_and}
use Rattle.candidate.proofs.Outcomes.{passed, passed_atoms, filled_table, out_no, out_yes, out_refused}
use Rattle.candidate.proofs.test.Goals as goal

pub returns-in_err-fill : goal.returns-in_err-fill
returns-in_err-fill c =
    let p = err_from_is_err_and c.from_residual.result c.from_residual.ensures.1 in
    rw (p.1, p.2) (out_refused _ _ _ _ _ _ c.in_err-fill.ensures)

pub first_short-requires : goal.first_short-requires
first_short-requires c =
    let F = c.in_ok-fill.ensures in
    ((passed _ _ _ _ _ F).network.counted.most, (filled_table _ _ _ _ _ F).full, passed_atoms _ _ _ _ _ F)

pub one_writing-requires : goal.one_writing-requires
one_writing-requires c =
    let A = passed _ _ _ _ _ c.in_ok-fill.ensures in
    (A.ring.three, A.most, A.ring.different)

pub returns-in-Some : goal.returns-in-Some
returns-in-Some c = out_no _ _ _ _ _ c.in_ok-fill.ensures _ _ _ refl refl refl c.in-Some.ensures

pub returns-in-None : goal.returns-in-None
returns-in-None c = out_yes _ _ _ _ _ c.in_ok-fill.ensures _ refl refl c.one_writing.ensures c.in-None.ensures
