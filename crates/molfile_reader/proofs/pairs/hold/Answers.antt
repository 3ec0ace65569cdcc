use Rattle.std.proofs.Common.{rules, arith, refl, ◌∙◌, ◌≡◌, subst, Result, Ok, Err}
use Rattle.std.specs.Result.{MatchResult, IsErrAnd}
use Rattle.std.proofs.lemmas.Result.{err_from_is_err_and}
use Rattle.network.specs.Refusals.{refused}
use Rattle.molfile.proofs.Reading.{so_far_start, refused_here, so_far_next, all_right}
use Rattle.molfile_reader.proofs.pairs.hold.Goals as goal

pub loop-k-init : goal.loop-k-init
loop-k-init c = (refl, so_far_start _ c.args.rows.now.few _ _ _ c.requires)

-- what `map_err` made of an error
made_of : {T E F : Type 0} (found : Result T E) (made : Result T F) (Q : E → F → Type 0) (f : F) → MatchResult found (λ x. made ≡ Ok x) (λ e. IsErrAnd made (Q e)) → made ≡ Err f → (e : E) × (found ≡ Err e) × Q e f
made_of (Ok x) made Q f h m = absurd cc
made_of (Err e) made Q f h m = let p = err_from_is_err_and made h in let g : p.0 ≡ f = cc in (e, refl, subst (Q e) g p.2)

pub returns-in_err-x-clause-held : goal.returns-in_err-x-clause-held
returns-in_err-x-clause-held c =
    let p = err_from_is_err_and c.from_residual.result c.from_residual.ensures.1 in
    let m = made_of c.bond.result c.map_err.result _ _ c.map_err.ensures.cases c.in_err-x.was in
    let l : c.in_err-x.field-0.0 ≡ refused m.0 0 c.loop-k.k-counter = search rules in
    rw (p.1, p.2, l) (refused_here _ c.args.rows.now.few _ _ _ _ _ c.loop-k.invariant.1 m.0 (rw (m.1, c.loop-k.invariant.0, c.line.ensures) at c.bond.ensures.fault) c.loop-k-test.true)

pub returns-in_err-x-clause-atoms : goal.returns-in_err-x-clause-atoms
returns-in_err-x-clause-atoms c = c.loop-k.invariant.0

pub loop-k-preserved : goal.loop-k-preserved
loop-k-preserved c =
    let b : c.bond.result ≡ Ok (c.in_ok-x.x, c.in_ok-x.y) = grind arith in
    let a = rw (b, c.line.ensures) at c.bond.ensures.atoms in
    (c.join.ensures.atoms ∙ c.loop-k.invariant.0, so_far_next _ c.args.rows.now.few _ _ _ _ _ c.loop-k.invariant.1 (rw (b, c.loop-k.invariant.0, c.line.ensures) at c.bond.ensures.fault) c.loop-k-test.true _ _ _ _ c.past_line-rest.ensures a.2 a.3 c.join.ensures.words)

pub returns-clause-atoms : goal.returns-clause-atoms
returns-clause-atoms c = c.loop-k.invariant.0

pub returns-clause-held : goal.returns-clause-held
returns-clause-held c = all_right _ c.args.rows.now.few _ _ _ _ _ c.loop-k.invariant.1 c.loop-k-test.false
