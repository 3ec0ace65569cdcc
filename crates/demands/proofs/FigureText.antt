-- What the program prints, computed by the checker: document 01's nine lines for the 45 bytes of Fig. 1, and the line of a refusal.
use mathlib.Core.Path.{◌≡◌, refl, sym, ◌∙◌, ap, ap₂, subst}
use mathlib.Core.List.Memᴰ
use mathlib.Core.List.{List}
use Prim.Native.Nat.{ℕ, ◌≤◌}
use native.Mathlib.Omega.{arith}
use lib.ListN.{length, take, drop}
use lib.Seq.{take_at}
use Rattle.graph.specs.Listing.{RingListing}
use Rattle.network.specs.declared.Answer.{Answer}
use Rattle.network.specs.Network.{Bonded, IsNetwork}
use Rattle.network.specs.Verdict.{accepted, refusal}
use Rattle.network.proofs.Networks.{network_of}
use Rattle.examples.specs.Examples.{rows_table, ExampleHolds, P2}
use Rattle.examples.proofs.Examples.{examples_hold}
use Rattle.census.specs.Census.{encode_by, counts_by}
use Rattle.census.proofs.Passed.{limit_default_lem}
use Rattle.bonds.specs.Bonds.{partner, partners, bond_at, bonds_of, full}
use Rattle.bonds.specs.Scan.{or_at, first_bond}
use Rattle.bonds.proofs.Returns.{bonds_valid, table_back}
use Rattle.bnw.specs.Reading.{signed, out_of_range, marked, head_fault, earlier_bond, inside, is_in_order, file_bond_fault, read_verdict}
use Rattle.page.specs.Numbers.{digits}
use Rattle.text.specs.Letters.{letters}
use Rattle.text.specs.Lines.{sizes_text, ring_text, count_text, counts_text, total_text, refusal_text}
use Rattle.report.specs.Report.{table_words, text_bytes, rings_text, ListingText, FileText, Responds}
use Rattle.report.proofs.OneText.{file_text_one}
use Rattle.demands.proofs.FigureFile.{file, figure_1_written}

abbrev nine_lines : List ℕ
nine_lines = letters "atoms 7 bonds 9\nring 3 3 5 6\nring 4 1 2 5 3\nring 5 0 1 2 5 4\nring 5 0 1 3 5 4\ncount 3 1\ncount 4 1\ncount 5 2\ntotal 4\n"

abbrev table : List ℕ
table = rows_table P2.rows

holds : ExampleHolds P2
holds = examples_hold P2 (Memᴰ.tail (Memᴰ.head refl))

network : IsNetwork 7 table
network = network_of 7 table (ap (λ (a : Answer). a.code) holds.is_accepted)

figure_accepted : read_verdict (file 7 0) table_words ≡ accepted
unfolding read_verdict head_fault marked out_of_range signed file_bond_fault inside is_in_order earlier_bond full partners partner or_at first_bond
figure_accepted = refl

figure_listing : ListingText 7 (length (bonds_of table)) table nine_lines
unfolding bonds_of bond_at rings_text sizes_text ring_text count_text counts_text total_text digits encode_by counts_by
figure_listing = record {
  rings = P2.rings;
  listing = subst (λ (k : ℕ). RingListing (Bonded table) k P2.rings) (limit_default_lem 0 refl) holds.listing;
  says = refl;
}

pub figure_text : FileText (file 7 0) nine_lines
figure_text = record {
  refused = λ z. absurd (z (ap (λ (a : Answer). a.code) figure_accepted));
  accepted = λ _. record {
    atoms = 7;
    bonds = bonds_of table;
    counted = network.counted;
    valid = bonds_valid 7 table network;
    gives = sym figure_1_written;
    lists = subst (λ (t : List ℕ). ListingText 7 (length (bonds_of table)) t nine_lines) (sym (table_back 7 table network)) figure_listing;
  };
}

negative_refused : read_verdict (file 255 255) table_words ≡ refusal 22
unfolding read_verdict head_fault marked out_of_range signed or_at
negative_refused = refl

pub negative_text : FileText (file 255 255) (letters "refused 22 0 0\n")
unfolding refusal_text digits
negative_text = record {
  refused = λ _. sym (ap refusal_text negative_refused);
  accepted = λ z. absurd (omega (arith, z, ap (λ (a : Answer). a.code) negative_refused));
}

-- and so of the call: what stands at the front of the lent bytes is the text
prints : (f text before after : List ℕ) (bytes : ℕ) → FileText f text → text_bytes ≤ length before → Responds (FileText f) before after bytes → take bytes after ≡ text
prints f text before after bytes F room R =
    let W = R.written room in
    ap₂ take W.2.long W.2.front ∙ take_at W.0 (drop (length W.0) before) (length W.0) refl ∙ file_text_one f W.0 text W.1 F

module _ (before after : List ℕ) (bytes : ℕ) (room : text_bytes ≤ length before) where
  pub figure_printed : Responds (FileText (file 7 0)) before after bytes → take bytes after ≡ nine_lines
  figure_printed = prints (file 7 0) nine_lines before after bytes figure_text room

  pub negative_printed : Responds (FileText (file 255 255)) before after bytes → take bytes after ≡ letters "refused 22 0 0\n"
  negative_printed = prints (file 255 255) (letters "refused 22 0 0\n") before after bytes negative_text room
