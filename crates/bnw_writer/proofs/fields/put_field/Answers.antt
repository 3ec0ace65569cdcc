use Rattle.std.proofs.Common.{◌≡◌, refl, sym, ◌∙◌, arith, rules}
use Rattle.std.proofs.lemmas.List.Edits.{sets-eq}
use Rattle.std.proofs.lemmas.Slice.{put_mid-paste}
use Rattle.bnw.specs.File.{two_bytes}
use Rattle.bnw_writer.proofs.fields.put_field.Goals as goal

pub returns : goal.returns
returns c =
    let bytes : c.to_le_bytes.result ≡ two_bytes c.args.v = search rules in
    put_mid-paste c.args.i _ c.args.file.now _ (two_bytes c.args.v) 2 (c.copy_from_slice.ensures.after ∙ bytes) (omega arith) refl ∙ sym (sets-eq (two_bytes c.args.v) c.args.file.now c.args.i (omega arith))
