-- What the listing programs print for a file: a network file (document 01, "The network file") or a molfile (document 02, request 1).
--
--   file_bytes                    the bytes of a network file that are read: one more than the greatest file has
--   molfile_bytes                 the bytes of a molfile that are read, at most: a longer one is judged by its first bytes
--   table_words                   the words of the table lent to the reader: enough for any network
--   list_words                    the words of the list buffer
--   text_bytes                    the bytes that hold any text: five for each word of the list, and the other lines
--   rings_text n bonds rings      the lines of a listing: atoms and bonds, each ring, the counts by length, the total
--   settled_text n bonds a rings  these lines, or the line of the refusal, as the answer a has it
--   ListingText n bonds t text    the text of a network: of its listing at limit 0 with the greatest allowance, or of refusal 12 or 13
--   NetworkText Gives text        the text of the network that a file gives
--   ReadText says Gives text      the text of a file: of the reader's refusal, or of the network
--   FileText file text            the text of a network file
--   MolfileText file text         the text of a molfile
--   TextStands text before after bytes    the text stands at the front of the lent bytes, whose rest stays, and its length is answered
--   ReadingText r table text      the text of a reading: of the refusal, or of the network whose rows stand first in the table
--   blank_table                   the table that the reader is lent
--   TextOfReading Reads text      the text of a reading and a table that a reader may give, where `Reads` says which these are
--   ReadsNetworks Reads           whatever it gives and accepts, the rows of a network stand first in the table
--   Prints Text before after      a Text is put on the page
--   Responds Text before after bytes  what comes of responding: a Text stands there; where fewer than `text_bytes` are lent, nothing
use Rattle.std.specs.Prelude.{◌≡◌, cond, List, ◌++◌, ℕ, ◌+◌, ◌*◌, ◌≤◌, ◌<◌, eqb, length, take, drop, replicate}
use Rattle.graph.specs.Lists.{gather}
use Rattle.graph.specs.Listing.{RingListing}
use Rattle.network.specs.declared.Answer.{Answer}
use Rattle.network.specs.Maxima.{atoms_most, places}
use Rattle.network.specs.Network.{Bonded, Counted, IsNetwork}
use Rattle.ring.specs.Maxima.{allowance_most}
use Rattle.census.specs.Census.{limit_of, counts_of, after_list}
use Rattle.bonds.specs.declared.Reading.{Reading}
use Rattle.bonds.specs.Bonds.{Bond, ValidBonds, table_of}
use Rattle.bnw.specs.File.{head_length, bond_length, bonds_most}
use Rattle.bnw.specs.Reading.{read_verdict, IsFile}
use Rattle.molfile.specs.Molfile.{MolfileOf}
use Rattle.molfile.specs.Judging.{molfile_verdict}
use Rattle.page.specs.declared.Page.{Page}
use Rattle.page.specs.Page.{Puts}
use Rattle.text.specs.Lines.{sizes_text, ring_text, counts_text, total_text, refusal_text}

abbrev pub file_bytes : ℕ
file_bytes = head_length + bond_length * bonds_most + 1

abbrev pub molfile_bytes : ℕ
molfile_bytes = 1048576

abbrev pub table_words : ℕ
table_words = atoms_most * places

abbrev pub list_words : ℕ
list_words = 32768

abbrev pub text_bytes : ℕ
text_bytes = 5 * list_words + 1281

unfoldable pub rings_text : ℕ → ℕ → List (List ℕ) → List ℕ
rings_text n bonds rings = sizes_text n bonds ++ (gather ring_text rings ++ (counts_text 0 (counts_of rings) ++ total_text (length rings)))

abbrev pub settled_text : ℕ → ℕ → Answer → List (List ℕ) → List ℕ
settled_text n bonds a rings = cond (eqb a.code 0) (rings_text n bonds rings) (refusal_text a)

pub record ListingText (n bonds : ℕ) (t text : List ℕ) : Type 0 where
  pub rings : List (List ℕ)
  pub listing : RingListing (Bonded t) (limit_of 0) rings
  pub says : text ≡ settled_text n bonds (after_list allowance_most list_words rings) rings

pub record NetworkText (Gives : ℕ → List Bond → Type 0) (text : List ℕ) : Type 0 where
  pub atoms : ℕ
  pub bonds : List Bond
  pub counted : Counted atoms
  pub valid : ValidBonds atoms bonds
  pub gives : Gives atoms bonds
  pub lists : ListingText atoms (length bonds) (table_of atoms bonds) text

pub record ReadText (says : Answer) (Gives : ℕ → List Bond → Type 0) (text : List ℕ) : Type 0 where
  pub refused : (says.code ≡ 0 → ⊥) → text ≡ refusal_text says
  pub accepted : says.code ≡ 0 → NetworkText Gives text

abbrev pub FileText : List ℕ → List ℕ → Type 0
FileText file = ReadText (read_verdict file table_words) (IsFile file)

abbrev pub MolfileText : List ℕ → List ℕ → Type 0
MolfileText file = ReadText (molfile_verdict file table_words) (MolfileOf file)

pub record TextStands (text before after : List ℕ) (bytes : ℕ) : Type 0 where
  pub long : bytes ≡ length text
  pub front : after ≡ text ++ drop (length text) before

pub record ReadingText (r : Reading) (table text : List ℕ) : Type 0 where
  pub refused : (r.answer.code ≡ 0 → ⊥) → text ≡ refusal_text r.answer
  pub listed : r.answer.code ≡ 0 → ListingText r.atoms r.bonds (take (places * r.atoms) table) text

abbrev pub blank_table : List ℕ
blank_table = replicate table_words 0

pub record TextOfReading (Reads : Reading → List ℕ → Type 0) (text : List ℕ) : Type 0 where
  pub reading : Reading
  pub table : List ℕ
  pub reads : Reads reading table
  pub says : ReadingText reading table text

abbrev pub ReadsNetworks : (Reading → List ℕ → Type 0) → Type 0
ReadsNetworks Reads = (r : Reading) (table : List ℕ) → Reads r table → r.answer.code ≡ 0 → IsNetwork r.atoms (take (places * r.atoms) table)

pub record Prints (Text : List ℕ → Type 0) (before after : Page) : Type 0 where
  pub text : List ℕ
  pub is_text : Text text
  pub puts : Puts text before after

pub record Responds (Text : List ℕ → Type 0) (before after : List ℕ) (bytes : ℕ) : Type 0 where
  pub short : length before < text_bytes → (bytes ≡ 0) × (after ≡ before)
  pub written : text_bytes ≤ length before → (text : List ℕ) × Text text × TextStands text before after bytes
