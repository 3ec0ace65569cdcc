use Rattle.std.proofs.Common.{◌∙◌, ◌+◌, ◌<◌, length, set, length-set, arith, add-one}
use Rattle.std.proofs.lemmas.List.Edits.{paste_none}
use Rattle.std.proofs.Math.Seq.{paste-suc}
use Rattle.notes.proofs.Notes.{pasted_after}
use Rattle.notes.proofs.write_ring.Goals as goal

pub loop-i-init : goal.loop-i-init
loop-i-init c = paste_none (set c.args.list.now c.args.at (length c.args.ring.now)) (c.args.at + 1) c.args.ring.now

pub loop-i-preserved : goal.loop-i-preserved
loop-i-preserved c = let v = c.loop-i in
    let r = c.args.ring.now in
    let l = set c.args.list.now c.args.at (length r) in
    let inside : c.args.at + 1 + v.i < length l = simp length-set (omega arith) in
    rw (v.invariant, add-one v.i) (paste-suc l (c.args.at + 1) r v.i 0 inside (omega arith))

pub returns : goal.returns
returns c = let v = c.loop-i in
    let r = c.args.ring.now in
    let l = set c.args.list.now c.args.at (length r) in
    v.invariant ∙ pasted_after l r c.args.at v.i (simp length-set (omega arith)) (omega arith)
