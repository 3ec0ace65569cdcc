-- What the refusals of a molfile mean (document 02, request 1).
--
--   NumberColumns bytes       three columns are a number: blanks, then at least one digit, to their end
--   TwoNumbers line           both number columns of a line are numbers
--   HeadThere file            the header lines and the counts line are there, and the counts line is long enough
--   VersionThere line         "V2000" stands in its columns
--   AtomsThere file           each atom has its line
--   ShortLine line            29: a bond line is too short for its columns; one that is missing has none
--   SeenBefore bond k         a bond of number below k has the pair of bond k, either way round
--   NoBond n line k           32: an atom number of bond line k is no atom of a model of n, both are the same, or the pair is seen already
--   PairFault n line k c      refusal c at bond line k: 29, else 31, else 32, else 27
use Rattle.std.specs.Prelude.{◌≡◌, ◌⊎◌, List, ◌++◌, ℕ, ◌+◌, ◌≤◌, ◌<◌, length, get_or, replicate}
use Rattle.graph.specs.Lists.{◌∈◌}
use Rattle.bonds.specs.Bonds.{Bond, Joins, Ninth}
use Rattle.molfile.specs.Lines.{MissingLine}
use Rattle.molfile.specs.Columns.{blank, zero_digit, nine_digit, columns, value_at}
use Rattle.molfile.specs.Molfile.{counts_line, counts_width, bond_width, first_at, second_at, version_mark, version_at, counts_in, atom_count}
use Rattle.molfile.specs.Judging.{pair_of}

pub record NumberColumns (bytes : List ℕ) : Type 0 where
  pub blanks : ℕ
  pub digits : List ℕ
  pub are : bytes ≡ replicate blanks blank ++ digits
  pub some : 1 ≤ length digits
  pub each : (b : ℕ) → b ∈ digits → (zero_digit ≤ b) × (b ≤ nine_digit)

abbrev pub TwoNumbers : List ℕ → Type 0
TwoNumbers line = NumberColumns (columns line first_at) × NumberColumns (columns line second_at)

pub record HeadThere (file : List ℕ) : Type 0 where
  pub there : (k : ℕ) → k ≤ counts_line → MissingLine file k → ⊥
  pub wide : counts_width ≤ length (counts_in file)

abbrev pub VersionThere : List ℕ → Type 0
VersionThere line = (i : ℕ) → i < length version_mark → get_or line (version_at + i) 0 ≡ get_or version_mark i 0

abbrev pub AtomsThere : List ℕ → Type 0
AtomsThere file = (k : ℕ) → k < atom_count file → MissingLine file (counts_line + 1 + k) → ⊥

abbrev pub ShortLine : List ℕ → Type 0
ShortLine line = length line < bond_width

abbrev pub SeenBefore : (ℕ → Bond) → ℕ → Type 0
SeenBefore bond k = (j : ℕ) × (j < k) × Joins (bond j) (bond k).first (bond k).second

abbrev pub NoBond : ℕ → (ℕ → List ℕ) → ℕ → Type 0
NoBond n line k =
    ((1 ≤ value_at (line k) first_at) × (value_at (line k) first_at ≤ n) → ⊥)
    ⊎ ((1 ≤ value_at (line k) second_at) × (value_at (line k) second_at ≤ n) → ⊥)
    ⊎ ((pair_of line k).first ≡ (pair_of line k).second)
    ⊎ SeenBefore (pair_of line) k

abbrev pub PairFault : ℕ → (ℕ → List ℕ) → ℕ → ℕ → Type 0
PairFault n line k c =
    ((c ≡ 29) × ShortLine (line k))
    ⊎ ((c ≡ 31) × (ShortLine (line k) → ⊥) × (TwoNumbers (line k) → ⊥))
    ⊎ ((c ≡ 32) × (ShortLine (line k) → ⊥) × TwoNumbers (line k) × NoBond n line k)
    ⊎ ((c ≡ 27) × (ShortLine (line k) → ⊥) × TwoNumbers (line k) × (NoBond n line k → ⊥) × Ninth (pair_of line) k)
