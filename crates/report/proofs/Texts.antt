-- What stands on the page is the text of the file, at each way through the calls.
use Rattle.std.proofs.Common.{unwrap_or, ◌≡◌, refl, sym, ◌∙◌, ap, ap₂, subst, List, [], ◌∷◌, ◌++◌, ℕ, ◌*◌, ◌≤◌, ◌<◌, arith, eq-eqb, ne_eqb, ℤ, length, take, drop, take_at}
use native.Mathlib.Decide.{ℕ_discrete}
use Rattle.graph.specs.Lists.{◌∈◌, gather}
use Rattle.graph.proofs.Lists.{sets_front}
use Rattle.network.specs.declared.Answer.{Answer}
use Rattle.network.specs.Maxima.{places}
use Rattle.network.specs.Network.{IsNetwork}
use Rattle.ring.specs.Maxima.{allowance_most}
use Rattle.census.specs.Told.{Census}
use Rattle.census.specs.Census.{encode_by, encode, counts_of, census_of, after_list, Searched, ListOutcome}
use Rattle.census.proofs.Passed.{limit_default_lem, reached_exactly}
use Rattle.census.proofs.Settled.{code, told_accepted, told_refused, room_enough}
use Rattle.bonds.specs.declared.Reading.{Reading}
use Rattle.bonds.specs.Bonds.{Bond, table_of}
use Rattle.bonds.specs.Outcome.{ReadingOutcome}
use Rattle.bonds.proofs.Readings.{table_is}
use Rattle.page.specs.declared.Page.{Page}
use Rattle.page.specs.Page.{Sheet, page, first_pen, put_all, sheet, Puts}
use Rattle.page.proofs.Pages.{text_fits}
use Rattle.text.specs.Lines.{ring_text, words_text, sizes_text, counts_text, total_text, listing_text, refusal_text}
use Rattle.text.proofs.Words.{rings_text_lem}
use Rattle.report.specs.Report.{table_words, list_words, rings_text, ListingText, ReadText, TextStands, ReadingText, Responds}

-- a text that is put on a blank page stands there, where it fits
pub stood : {text before : List ℕ} {blank after : Page} {bytes : ℕ} → sheet blank ≡ page first_pen before → Puts text blank after → length text ≤ length before
    → bytes ≡ unwrap_or after.pen 0 → TextStands text before after.out.now bytes
stood {text = text} {before = before} blank puts fits told =
    let e = puts.sheet_after ∙ ap (put_all text) blank ∙ text_fits text before fits in
    record { long = told ∙ ap (λ (s : Sheet). unwrap_or s.pen 0) e; front = ap (λ (s : Sheet). s.bytes) e }

-- a ring's line for each ring of the list
encode_gathers : (rings : List (List ℕ)) → encode rings ≡ gather (λ r. length r ∷ r) rings
unfolding encode_by
encode_gathers [] = refl
encode_gathers (r ∷ rings) = ap (λ (ws : List ℕ). length r ∷ (r ++ ws)) (encode_gathers rings)

pub listing_of_rings : (n bonds : ℕ) (rings : List (List ℕ)) (counts : List ℕ) (total : ℕ) → ((r : List ℕ) → r ∈ rings → 0 < length r)
    → listing_text n bonds (encode rings) counts total ≡ sizes_text n bonds ++ (gather ring_text rings ++ (counts_text 0 counts ++ total_text total))
unfolding listing_text
listing_of_rings n bonds rings counts total some =
    ap (λ (lines : List ℕ). sizes_text n bonds ++ (lines ++ (counts_text 0 counts ++ total_text total)))
    (ap (words_text 0) (encode_gathers rings) ∙ rings_text_lem rings some)

-- listing a network, where the distances have their room and the list buffer is the program's, gives its text
module _ (n bonds : ℕ) (t d d' l l' : List ℕ) (c : Census) (N : IsNetwork n t) (O : ListOutcome n t 0 allowance_most d d' l l' c) (square : length d ≡ n * n) (words : length l ≡ list_words) where
  searched : Searched n t 0 (after_list allowance_most list_words) d' c
  searched =
      rw words at (O.census.searched ((reached_exactly n t 0 allowance_most d).1 (record {
        network = N;
        room = square;
        least = omega (arith, limit_default_lem 0 refl);
        most = omega (arith, limit_default_lem 0 refl);
        some = omega arith;
        bounded = omega arith;
      })))

  abbrev found : List (List ℕ)
  found = searched.rings

  abbrev judged : Answer
  judged = after_list allowance_most list_words found

  pub text_refused : (code c ≡ 0 → ⊥) → ListingText n bonds t (refusal_text c.answer)
  text_refused z =
      let told = told_refused judged (census_of n 0 found) c searched.says refl z in
      record {
        rings = found;
        listing = searched.listing;
        says = ap refusal_text told.1 ∙ sym (rw (ne_eqb judged.code 0 told.0) refl);
      }

  pub text_listed : code c ≡ 0 → ListingText n bonds t (listing_text n bonds (take c.words l') c.counts c.total)
  unfolding rings_text
  text_listed z =
      let told = told_accepted judged (census_of n 0 found) c searched.says z in
      let room : length (encode found) ≤ length l = omega (arith, room_enough encode allowance_most found list_words told.0, words) in
      let words_are : take c.words l' ≡ encode found =
      ap₂ take (ap (λ (x : Census). x.words) told.1) (O.written z found searched.listing ∙ sets_front l (encode found) room) ∙ take_at (encode found) (drop (length (encode found)) l) (length (encode found)) refl in
      record {
        rings = found;
        listing = searched.listing;
        says =
            ap₂ (λ (ws cs : List ℕ). listing_text n bonds ws cs c.total) words_are (ap (λ (x : Census). x.counts) told.1)
            ∙ ap (λ (x : Census). listing_text n bonds (encode found) (counts_of found) x.total) told.1
            ∙ listing_of_rings n bonds found (counts_of found) (length found) (λ r m. omega (arith, (searched.listing.sound r m).shortest.ring.three))
            ∙ sym (rw (eq-eqb judged.code 0 told.0) refl);
      }

-- reading a file into a table, and listing the network that it gives, gives the file's text
module _ {says : Answer} {value : ℕ → ℤ} {Gives : ℕ → List Bond → Type 0} {table table' : List ℕ} {r : Reading} (R : ReadingOutcome says value Gives table table' r) where
  pub read_refused : (r.answer.code ≡ 0 → ⊥) → ReadText says Gives (refusal_text r.answer)
  read_refused z = record {
    refused = λ _. ap refusal_text R.verdict;
    accepted = λ y. absurd (z (ap (λ (a : Answer). a.code) R.verdict ∙ y));
  }

  pub read_listed : (text : List ℕ) → r.answer.code ≡ 0 → ListingText r.atoms r.bonds (take (places * r.atoms) table') text → ReadText says Gives text
  read_listed text z L =
      let A = R.accepts z in
      record {
        refused = λ y. absurd (y (sym (ap (λ (a : Answer). a.code) R.verdict) ∙ z));
        accepted = λ _. record {
          atoms = r.atoms;
          bonds = A.list;
          counted = A.counted;
          valid = A.valid;
          gives = A.gives;
          lists = subst (λ (m : ℕ). ListingText r.atoms m (table_of r.atoms A.list) text) A.number (subst (λ (t : List ℕ). ListingText r.atoms r.bonds t text) (table_is R z) L);
        };
      }

  pub read_text : (text : List ℕ) → ReadingText r table' text → ReadText says Gives text
  read_text text T = elim (ℕ_discrete r.answer.code 0) [
    | yes z ↦ read_listed text z (T.listed z)
    | no z ↦ subst (ReadText says Gives) (sym (T.refused z)) (read_refused z)
  ]

pub responds_weaker : {Text Said : List ℕ → Type 0} {before after : List ℕ} {bytes : ℕ} → ((text : List ℕ) → Text text → Said text) → Responds Text before after bytes → Responds Said before after bytes
responds_weaker says R = record { short = R.short; written = λ room. let W = R.written room in (W.0, says W.0 W.1, W.2) }

-- a file that is read into a table of the most words is judged as its text has it
pub most_words : (verdict : ℕ → Answer) {value : ℕ → ℤ} {Gives : ℕ → List Bond → Type 0} {table table' : List ℕ} {r : Reading} → length table ≡ table_words
    → ReadingOutcome (verdict (length table)) value Gives table table' r → ReadingOutcome (verdict table_words) value Gives table table' r
most_words verdict {value = value} {Gives = Gives} {table = table} {table' = table'} {r = r} words R = subst (λ (k : ℕ). ReadingOutcome (verdict k) value Gives table table' r) words R
