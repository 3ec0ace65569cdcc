-- What a listing program prints for a file is what reading the file and listing its network say: a network file (document 01, "The network file") or a
-- molfile (document 02, request 1). A lent buffer afterwards has a prime.
--
--   ListingPrinted n bonds l l' c text    the text of listing a network into the buffer l: the refusal's line; or atoms and bonds, a line for
--                                         each of the rings that stand in the buffer, the counts by length and the total of the census
--   ReadingPrinted table' r text          the text of reading a file: the refusal's line, or that of listing the network read, at limit 0 with
--                                         the greatest allowance and the program's list buffer
--   Printed Text Read text                the text is the file's, and what reading it (Read) and listing say; it fits the bytes that the program lends
--   ResponseMet Text Read out out' bytes  the file's text stands at the front of the bytes lent, and its length is answered; where these
--                                         are too few for some text, nothing is written and 0 is answered
--   RespondMet file, RespondMolfileMet file    this, of a network file and of a molfile
--   RespondFixed                          one outcome meets this, a file has one text, and the bytes of it that the program reads are
--                                         enough to tell the text
--   RespondMolfileFixed                   one outcome meets this, and a molfile has one text
use Rattle.std.specs.Prelude.{◌≡◌, ◌↔◌, List, ◌++◌, ℕ, ◌*◌, ◌≤◌, ◌<◌, length, take, drop}
use Rattle.graph.specs.Lists.{gather}
use Rattle.ring.specs.Maxima.{allowance_most}
use Rattle.census.specs.Told.{Census}
use Rattle.census.specs.Census.{encode, ListOutcome}
use Rattle.bonds.specs.declared.Reading.{Reading}
use Rattle.bnw.specs.Reading.{Bytes, ReadOutcome}
use Rattle.molfile.specs.Judging.{MolfileOutcome}
use Rattle.text.specs.Lines.{sizes_text, ring_text, counts_text, total_text, refusal_text}
use Rattle.report.specs.Report.{file_bytes, table_words, list_words, text_bytes, FileText, MolfileText, TextStands}
use Rattle.demands.specs.Files.{rows_read}

pub record ListingPrinted (n bonds : ℕ) (l l' : List ℕ) (c : Census) (text : List ℕ) : Type 0 where
  pub refused : (c.answer.code ≡ 0 → ⊥) → text ≡ refusal_text c.answer
  pub listed : c.answer.code ≡ 0 → (rings : List (List ℕ))
      × (length (encode rings) ≡ c.words)
      × (l' ≡ encode rings ++ drop c.words l)
      × (text ≡ sizes_text n bonds ++ (gather ring_text rings ++ (counts_text 0 c.counts ++ total_text c.total)))

pub record ReadingPrinted (table' : List ℕ) (r : Reading) (text : List ℕ) : Type 0 where
  pub refused : (r.answer.code ≡ 0 → ⊥) → text ≡ refusal_text r.answer
  pub listed : r.answer.code ≡ 0 → (d d' l l' : List ℕ) (c : Census) → ListOutcome r.atoms (rows_read r table') 0 allowance_most d d' l l' c
      → length d ≡ r.atoms * r.atoms → length l ≡ list_words → ListingPrinted r.atoms r.bonds l l' c text

pub record Printed (Text : List ℕ → Type 0) (Read : List ℕ → List ℕ → Reading → Type 0) (text : List ℕ) : Type 0 where
  pub of_file : Text text
  pub says : (table table' : List ℕ) (r : Reading) → Read table table' r → length table ≡ table_words → ReadingPrinted table' r text
  pub fits : length text ≤ text_bytes

pub record ResponseMet (Text : List ℕ → Type 0) (Read : List ℕ → List ℕ → Reading → Type 0) (out out' : List ℕ) (bytes : ℕ) : Type 0 where
  pub short : length out < text_bytes → (bytes ≡ 0) × (out' ≡ out)
  pub printed : text_bytes ≤ length out → (text : List ℕ) × Printed Text Read text × TextStands text out out' bytes

abbrev pub RespondMet : List ℕ → List ℕ → List ℕ → ℕ → Type 0
RespondMet file = ResponseMet (FileText file) (ReadOutcome file)

abbrev pub RespondMolfileMet : List ℕ → List ℕ → List ℕ → ℕ → Type 0
RespondMolfileMet file = ResponseMet (MolfileText file) (MolfileOutcome file)

pub record RespondFixed : Type 0 where
  pub outcome : (file out out' out'' : List ℕ) (bytes more : ℕ) → RespondMet file out out' bytes → RespondMet file out out'' more → (bytes ≡ more) × (out' ≡ out'')
  pub text : (file s u : List ℕ) → FileText file s → FileText file u → s ≡ u
  pub enough : (file text : List ℕ) → Bytes file → FileText (take file_bytes file) text ↔ FileText file text

pub record RespondMolfileFixed : Type 0 where
  pub outcome : (file out out' out'' : List ℕ) (bytes more : ℕ) → RespondMolfileMet file out out' bytes → RespondMolfileMet file out out'' more → (bytes ≡ more) × (out' ≡ out'')
  pub text : (file s u : List ℕ) → MolfileText file s → MolfileText file u → s ≡ u
