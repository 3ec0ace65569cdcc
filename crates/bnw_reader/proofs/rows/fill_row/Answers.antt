use Rattle.std.proofs.Common.{◌≡◌, ◌<◌, length, get_or, rules, tests}
use Rattle.std.specs.List.{enumerate_from}
use Rattle.std.proofs.lemmas.Iterator.{YieldsList-from_slice}
use Rattle.std.proofs.lemmas.Iterator.Consumers.{YieldsList-from_filter_map, YieldsList-from_enumerate, YieldsList-at, YieldsList-turn, YieldsList-end}
use Rattle.std.proofs.lemmas.List.{length_push}
use Rattle.bnw_reader.specs.FileBonds.{bond_from, partner_if, partners_in}
use Rattle.bnw_reader.proofs.WrittenRows.{in_row, placed, few_read, row_written}
use Rattle.bnw_reader.proofs.rows.fill_row.Goals as goal
use Rattle.bnw_reader.proofs.rows.fill_row.Goals.{In-Some}

-- the item of a turn is the next place and its partner
turn : (c : In-Some) → (length c.loop-place.yielded < length (enumerate_from 0 (partners_in c.args.bonds.now c.args.x)))
    × ((c.in-Some.place, c.in-Some.partner) ≡ get_or (enumerate_from 0 (partners_in c.args.bonds.now c.args.x)) (length c.loop-place.yielded) (c.in-Some.place, c.in-Some.partner))
turn c =
    YieldsList-turn
    (YieldsList-at c.into_iter-place-iterator.ensures.into_iter_gives
    (YieldsList-from_enumerate
    (YieldsList-at c.enumerate-place-items.ensures.source
    (YieldsList-from_filter_map _ (λ bytes. partner_if c.args.x (bond_from bytes)) (YieldsList-from_slice c.args.bonds.now cc) c.filter_map.ensures.closure (λ x r q k. search (rules, tests))))
    c.enumerate-place-items.ensures.count))
    c.loop-place.yielded _ c.loop-place.yielded_by _ _ (c.in-Some.place, c.in-Some.partner) c.in-Some.is c.next.ensures.steps

pub bounds-row-place : goal.bounds-row-place
bounds-row-place c = in_row _ (few_read _ _ c.requires.few) _ _ c.loop-place.invariant _ _ (turn (goal.at.bounds-row-place c).In-Some)

pub loop-place-preserved : goal.loop-place-preserved
loop-place-preserved c = rw length_push (placed _ (few_read _ _ c.requires.few) _ _ c.loop-place.invariant _ _ (turn (goal.at.loop-place-preserved c).In-Some))

pub returns : goal.returns
returns c =
    let end =
    YieldsList-end
    (YieldsList-at c.into_iter-place-iterator.ensures.into_iter_gives
    (YieldsList-from_enumerate
    (YieldsList-at c.enumerate-place-items.ensures.source
    (YieldsList-from_filter_map _ (λ bytes. partner_if c.args.x (bond_from bytes)) (YieldsList-from_slice c.args.bonds.now cc) c.filter_map.ensures.closure (λ x r q k. search (rules, tests))))
    c.enumerate-place-items.ensures.count))
    c.loop-place.yielded _ c.loop-place.yielded_by _ _ c.in-None.is c.next.ensures.steps in
    row_written _ _ _ _ end.1 c.loop-place.invariant
