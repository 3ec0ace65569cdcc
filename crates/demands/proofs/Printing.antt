-- What is written of a file is what reading it and listing its network say.
use mathlib.Core.Path.{◌≡◌, refl, sym, ◌∙◌, ap, ap₂}
use mathlib.Core.List.{List, ◌++◌}
use Prim.Native.Nat.{ℕ, ◌*◌}
use native.Mathlib.Omega.{arith}
use lib.IntN.{ℤ}
use lib.ListN.{length, take, drop}
use lib.Seq.{take_at}
use Rattle.network.specs.declared.Answer.{Answer}
use Rattle.network.specs.Maxima.{places}
use Rattle.network.specs.Network.{IsNetwork}
use Rattle.census.specs.Told.{Census}
use Rattle.census.specs.Census.{encode}
use Rattle.bonds.specs.declared.Reading.{Reading}
use Rattle.bonds.specs.Bonds.{Bond}
use Rattle.bonds.specs.Outcome.{GivesOne, ReadingOutcome}
use Rattle.bonds.proofs.Readings.{read_network}
use Rattle.bnw.specs.Reading.{read_verdict}
use Rattle.bnw.proofs.RoundTrips.{file_gives_one}
use Rattle.molfile.specs.Judging.{molfile_verdict}
use Rattle.molfile.proofs.Laws.{molfile_gives_one}
use Rattle.text.specs.Lines.{listing_text, refusal_text}
use Rattle.report.specs.Report.{table_words, ReadText, FileText, MolfileText, Responds}
use Rattle.report.proofs.Fits.{read_text_fits}
use Rattle.report.proofs.Texts.{listing_of_rings, text_refused, text_listed, read_refused, read_listed, most_words}
use Rattle.report.proofs.OneText.{read_text_one, file_text_one, molfile_text_one, responds_one, enough_is_read}
use Rattle.demands.specs.Program.{ReadingPrinted, ResponseMet, RespondMet, RespondMolfileMet, RespondFixed, RespondMolfileFixed}
use Rattle.demands.proofs.Searches.{lists_rings_lem}

module _ (verdict : ℕ → Answer) {value : ℕ → ℤ} {Gives : ℕ → List Bond → Type 0} (single : GivesOne Gives) (text : List ℕ) (F : ReadText (verdict table_words) Gives text)
    (table table' : List ℕ) (r : Reading) (R : ReadingOutcome (verdict (length table)) value Gives table table' r) (room_read : length table ≡ table_words) where
  -- the file's text is any that reading and listing give
  same : (other : List ℕ) → ReadText (verdict table_words) Gives other → text ≡ other
  same other G = read_text_one single text other F G

  reading_printed : ReadingPrinted table' r text
  reading_printed = record {
    refused = λ z. same (refusal_text r.answer) (read_refused (most_words verdict room_read R) z);
    listed = λ z d d' l l' c O square room.
        let n = r.atoms in
        let m = r.bonds in
        let t = take (places * n) table' in
        let N : IsNetwork n t = read_network R z in
        record {
          refused = λ y. same (refusal_text c.answer) (read_listed (most_words verdict room_read R) (refusal_text c.answer) z (text_refused n m t d d' l l' c N O square room y));
          listed = λ y.
              let L = lists_rings_lem n t 0 _ d d' l l' c O y in
              let words : c.words ≡ length (encode L.rings) = ap (λ (x : Census). x.words) L.census in
              let words_are : take c.words l' ≡ encode L.rings =
              ap₂ take words L.words ∙ take_at (encode L.rings) (drop (length (encode L.rings)) l) (length (encode L.rings)) refl in
              let text_is = listing_text n m (take c.words l') c.counts c.total in (
                L.rings,
                sym words,
                L.words ∙ ap (λ (k : ℕ). encode L.rings ++ drop k l) (sym words),
                same text_is (read_listed (most_words verdict room_read R) text_is z (text_listed n m t d d' l l' c N O square room y))
                    ∙ ap (λ (ws : List ℕ). listing_text n m ws c.counts c.total) words_are
                    ∙ listing_of_rings n m L.rings c.counts c.total (λ s i. omega (arith, (L.listing.sound s i).shortest.ring.three)),
              );
        };
  }

responded : (verdict : ℕ → Answer) {value : ℕ → ℤ} {Gives : ℕ → List Bond → Type 0} → GivesOne Gives → (out out' : List ℕ) (bytes : ℕ) → Responds (ReadText (verdict table_words) Gives) out out' bytes
    → ResponseMet (ReadText (verdict table_words) Gives) (λ table table' r. ReadingOutcome (verdict (length table)) value Gives table table' r) out out' bytes
responded verdict single out out' bytes R = record {
  short = R.short;
  printed = λ room.
      let W = R.written room in
      (W.0, record { of_file = W.1; says = reading_printed verdict single W.0 W.1; fits = read_text_fits W.0 W.1 }, W.2);
}

pub respond_met : (file out out' : List ℕ) (bytes : ℕ) → Responds (FileText file) out out' bytes → RespondMet file out out' bytes
respond_met file = responded (read_verdict file) (file_gives_one file)

pub respond_molfile_met : (file out out' : List ℕ) (bytes : ℕ) → Responds (MolfileText file) out out' bytes → RespondMolfileMet file out out' bytes
respond_molfile_met file = responded (molfile_verdict file) (molfile_gives_one file)

back : {Text : List ℕ → Type 0} {Read : List ℕ → List ℕ → Reading → Type 0} {out out' : List ℕ} {bytes : ℕ} → ResponseMet Text Read out out' bytes → Responds Text out out' bytes
back M = record { short = M.short; written = λ room. let P = M.printed room in (P.0, P.1.of_file, P.2) }

pub respond_fixed : RespondFixed
respond_fixed = record {
  outcome = λ file out out' out'' bytes more M P. responds_one (file_text_one file) (back M) (back P);
  text = file_text_one;
  enough = enough_is_read;
}

pub respond_molfile_fixed : RespondMolfileFixed
respond_molfile_fixed = record {
  outcome = λ file out out' out'' bytes more M P. responds_one (molfile_text_one file) (back M) (back P);
  text = molfile_text_one;
}
