use Rattle.std.proofs.Common.{refl, arith, length-take-le}
use Rattle.network.proofs.Refused.{numbered}
use Rattle.distance.proofs.Outcomes.{square}
use Rattle.report.proofs.Texts.{text_refused, text_listed}
use Rattle.report.proofs.list.Goals as goal

pub returns-in-Ok : goal.returns-in-Ok
returns-in-Ok c = record {
  text = _;
  is_text = text_listed _ _ _ _ _ _ _ _ c.requires c.in-Ok.ensures (length-take-le _ _ (square c.args.n c.requires.counted.most)) refl refl;
  puts = c.listing.ensures;
}

pub returns-in-Err : goal.returns-in-Err
returns-in-Err c = record {
  text = _;
  is_text = text_refused _ _ _ _ _ _ _ _ c.requires c.in-Err.ensures (length-take-le _ _ (square c.args.n c.requires.counted.most)) refl (λ z. absurd (omega (arith, numbered c.in-Err.refusal.reason)));
  puts = rw c.into.ensures at c.refusal.ensures;
}
