use Rattle.std.proofs.Common.{◌≡◌, ◌∷◌, [], refl, sym, ◌∙◌, ap, arith, length, length-append}
use Rattle.network.specs.Maxima.{places}
use Rattle.paths.specs.Search.{gather_below}
use Rattle.search.proofs.Paths.{given_more, cut_back}
use Rattle.search.proofs.Rows.{whole_ring, whole_other, rings_row, branch_no, branch_yes, row_ends}
use Rattle.search.proofs.Steps.{noted_none, noted_over, turn}
use Rattle.search.proofs.grow.+grow.Goals as goal
use Rattle.search.proofs.grow.+grow.Goals.{in-Some, in_default}

pub returns-then-notes-clause-noted : goal.returns-then-notes-clause-noted
returns-then-notes-clause-noted t c = noted_over _ _ c.if-notes.true

pub returns-then-is_ring-clause-noted : goal.returns-then-is_ring-clause-noted
returns-then-is_ring-clause-noted t c = rw (whole_ring c.args.net c.args.k c.args.path.now (omega arith) (sym c.is_ring.ensures ∙ c.if-is_ring.true), ← c.words.ensures) c.note.ensures.noted

pub returns-else-is_ring-clause-noted : goal.returns-else-is_ring-clause-noted
returns-else-is_ring-clause-noted t c = rw (whole_other c.args.net c.args.k c.args.path.now (omega arith) (sym c.is_ring.ensures ∙ c.if-is_ring.false)) (noted_none _)

pub loop-place-init : goal.loop-place-init
unfolding gather_below
loop-place-init t c = record { kept = refl; noted = noted_none _; same_list = refl }

pub returns-then-net-atom-clause-noted : goal.returns-then-net-atom-clause-noted
returns-then-net-atom-clause-noted t c = let v = c.loop-place in
    let here = rw (c.at-last.ensures, c.len-len.ensures) at c.word-atom.ensures in
    rw (rings_row c.args.net c.args.k c.args.path.now (omega arith), ← row_ends c.args.net c.args.k c.args.path.now v.place _ here c.requires.given c.loop-place-test.true c.if-net-atom.true) v.invariant.noted

pub grow-requires : goal.grow-requires
grow-requires t c = let v = c.loop-place in
    let more = rw v.invariant.kept at c.push.ensures in (
      omega (arith, c.decreases, ap length more, length-append c.args.path.now (c.word-atom.result ∷ [])),
      (given_more _ _ _ _ _ c.requires.given (omega arith) c.if-net-atom.false more, rw c.push.ensures c.in-Some.ensures.1),
    )

pub loop-place-preserved : goal.loop-place-preserved
loop-place-preserved t c = let v = c.loop-place in
    let kept = v.invariant.kept in
    let here = rw (c.at-last.ensures, c.len-len.ensures) at c.word-atom.ensures in
    elim c.match-may_follow.branch [
      | in-Some w ↦ record {
        kept = w.path-is ∙ w.cut.ensures ∙ cut_back _ _ _ _ (w.grow.ensures.kept ∙ w.push.ensures) (rw kept c.len-len.ensures) ∙ kept;
        noted = rw w.notes-is (turn _ _ _ _ _ v.invariant.noted (rw (branch_yes c.args.net c.args.k c.args.path.now v.place _ here _ c.if-net-atom.false (rw kept at w.in-Some.ensures.0) (rw kept at w.push.ensures)) w.grow.ensures.noted));
        same_list = rw w.notes-is (w.grow.ensures.same_list ∙ v.invariant.same_list);
      }
      | in_default w ↦ record {
        kept = w.path-is ∙ kept;
        noted = rw w.notes-is (turn _ _ _ _ _ v.invariant.noted (rw (branch_no c.args.net c.args.k c.args.path.now v.place _ here (rw (w.in_default.is, kept) at c.may_follow.ensures)) (noted_none _)));
        same_list = rw w.notes-is v.invariant.same_list;
      }
    ]

pub returns-clause-noted : goal.returns-clause-noted
returns-clause-noted t c = let v = c.loop-place in
    let e : v.place ≡ places = omega arith in
    rw (rings_row c.args.net c.args.k c.args.path.now (omega arith), ← e) v.invariant.noted
