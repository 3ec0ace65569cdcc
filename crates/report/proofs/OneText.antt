-- A file has one text, responding to it has one outcome, and the bytes that the program reads of it are enough.
--
--   listing_text_one    two texts of a network are the same
--   read_text_one       two texts of a file are the same, where it gives one network
--   file_text_one       two texts of a network file are the same
--   molfile_text_one    two texts of a molfile are the same
--   responds_one        two outcomes of responding are the same, where there is one text
--   enough_is_read      the text of a network file's first `file_bytes` bytes is the text of the file
use Rattle.std.proofs.Common.{◌≡◌, sym, ◌∙◌, ap, subst, ◌↔◌, List, ◌++◌, ℕ, ◌≤◌, arith, length, take, drop, take_all}
use native.Mathlib.Decide.{ℕ_discrete, dec_le}
use Rattle.graph.proofs.Listings.{ring_listing_unique}
use Rattle.network.specs.declared.Answer.{Answer}
use Rattle.network.specs.Network.{Bonded}
use Rattle.ring.specs.Maxima.{allowance_most}
use Rattle.census.specs.Census.{limit_of, after_list}
use Rattle.bonds.specs.Bonds.{Bond, table_of}
use Rattle.bonds.specs.Outcome.{GivesOne}
use Rattle.bnw.specs.Reading.{Bytes, read_verdict}
use Rattle.bnw.proofs.RoundTrips.{file_gives_one}
use Rattle.bnw.proofs.Longer.{longer_refused, first_judged}
use Rattle.molfile.proofs.Laws.{molfile_gives_one}
use Rattle.text.specs.Lines.{refusal_text}
use Rattle.report.specs.Report.{file_bytes, table_words, list_words, text_bytes, settled_text, ListingText, ReadText, FileText, MolfileText, Responds}

pub listing_text_one : (n bonds : ℕ) (t s u : List ℕ) → ListingText n bonds t s → ListingText n bonds t u → s ≡ u
listing_text_one n bonds t s u L M =
    L.says
    ∙ ap (λ (rings : List (List ℕ)). settled_text n bonds (after_list allowance_most list_words rings) rings) (ring_listing_unique (Bonded t) (limit_of 0) L.rings M.rings L.listing M.listing)
    ∙ sym M.says

pub read_text_one : {says : Answer} {Gives : ℕ → List Bond → Type 0} → GivesOne Gives → (s u : List ℕ) → ReadText says Gives s → ReadText says Gives u → s ≡ u
read_text_one {says = says} single s u F G =
    elim (ℕ_discrete says.code 0) [
      | yes y ↦ (let A = F.accepted y in
          let B = G.accepted y in
          let same = single B.atoms A.atoms B.bonds A.bonds B.valid A.valid B.gives A.gives in
          listing_text_one A.atoms (length A.bonds) (table_of A.atoms A.bonds) s u A.lists
          (subst (λ (bs : List Bond). ListingText A.atoms (length bs) (table_of A.atoms bs) u) same.1 (subst (λ (n : ℕ). ListingText n (length B.bonds) (table_of n B.bonds) u) same.0 B.lists)))
      | no y ↦ F.refused y ∙ sym (G.refused y)
    ]

pub file_text_one : (file s u : List ℕ) → FileText file s → FileText file u → s ≡ u
file_text_one file = read_text_one (file_gives_one file)

pub molfile_text_one : (file s u : List ℕ) → MolfileText file s → MolfileText file u → s ≡ u
molfile_text_one file = read_text_one (molfile_gives_one file)

pub responds_one : {Text : List ℕ → Type 0} {before one other : List ℕ} {m k : ℕ} → ((s u : List ℕ) → Text s → Text u → s ≡ u)
    → Responds Text before one m → Responds Text before other k → (m ≡ k) × (one ≡ other)
responds_one {before = before} text_one R S =
    elim (dec_le text_bytes (length before)) [
      | yes room ↦ (let A = R.written room in
          let B = S.written room in
          let same = text_one A.0 B.0 A.1 B.1 in
          (A.2.long ∙ ap length same ∙ sym B.2.long, A.2.front ∙ ap (λ (text : List ℕ). text ++ drop (length text) before) same ∙ sym B.2.front))
      | no room ↦ (let A = R.short (omega arith) in
          let B = S.short (omega arith) in
          (A.0 ∙ sym B.0, A.1 ∙ sym B.1))
    ]

pub enough_is_read : (file text : List ℕ) → Bytes file → FileText (take file_bytes file) text ↔ FileText file text
enough_is_read file text bytes = go (dec_le (length file) file_bytes)
  where
    same : read_verdict (take file_bytes file) table_words ≡ read_verdict file table_words
    same = first_judged file table_words bytes file_bytes (omega arith)

    refused_text : (f g : List ℕ) → read_verdict f table_words ≡ read_verdict g table_words → ((read_verdict f table_words).code ≡ 0 → ⊥) → FileText f text → FileText g text
    refused_text f g e z F = record { refused = λ _. F.refused z ∙ ap refusal_text e; accepted = λ y. absurd (z (ap (λ (a : Answer). a.code) e ∙ y)) }

    go : Dec (length file ≤ file_bytes) → FileText (take file_bytes file) text ↔ FileText file text
    go (yes l) = let e = take_all file_bytes file l in (subst (λ (f : List ℕ). FileText f text) e, subst (λ (f : List ℕ). FileText f text) (sym e))
    go (no l) =
        let z : (read_verdict file table_words).code ≡ 0 → ⊥ = longer_refused file table_words bytes (omega arith) in (
          refused_text (take file_bytes file) file same (λ y. z (ap (λ (a : Answer). a.code) (sym same) ∙ y)),
          refused_text file (take file_bytes file) (sym same) z,
        )
