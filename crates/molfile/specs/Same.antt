-- Molfiles that say the same.
--
--   lines_read file            how many lines of a file are read: the header lines, the counts line, the atom lines and the bond lines
--   SameLines file other       both have the same lines, as far as the lines of `file` are read
--   WholeLines k bytes         the bytes hold k lines with their ends: from each of these on there is an LF
--   SameNumbers line more      two bond lines have the same two numbers, in this order or exchanged
--   Shuffled file other        the bond lines of `other` are those of `file` in another order, each perhaps with its atoms exchanged: line `from k` of the
--                              one comes as line k of the other, and line k of the one goes to line `to k` of the other; what comes before them has the
--                              same counts and no fault
use Rattle.std.specs.Prelude.{◌≡◌, true, ◌⊎◌, ◌↔◌, List, ℕ, ◌+◌, ◌≤◌, ◌<◌, length}
use Rattle.graph.specs.Lists.{◌∈◌}
use Rattle.molfile.specs.Lines.{line_feed, from_line, line_at, MissingLine}
use Rattle.molfile.specs.Columns.{value_at}
use Rattle.molfile.specs.Molfile.{counts_line, bond_width, first_at, second_at, atom_count, bond_count, bond_line}
use Rattle.molfile.specs.Judging.{two_numbers, counts_fault}

abbrev pub lines_read : List ℕ → ℕ
lines_read file = counts_line + 1 + atom_count file + bond_count file

pub record SameLines (file other : List ℕ) : Type 0 where
  pub lines : (k : ℕ) → k < lines_read file → line_at other k ≡ line_at file k
  pub missing : (k : ℕ) → k < lines_read file → MissingLine other k ↔ MissingLine file k

unfoldable pub WholeLines : ℕ → List ℕ → Type 0
WholeLines k bytes = (j : ℕ) → j < k → line_feed ∈ from_line bytes j

abbrev pub SameNumbers : List ℕ → List ℕ → Type 0
SameNumbers line more =
    ((value_at line first_at ≡ value_at more first_at) × (value_at line second_at ≡ value_at more second_at))
    ⊎ ((value_at line first_at ≡ value_at more second_at) × (value_at line second_at ≡ value_at more first_at))

pub record Shuffled (file other : List ℕ) (room : ℕ) : Type 0 where
  pub head : counts_fault (from_line other counts_line) room ≡ 0
  pub atoms : atom_count other ≡ atom_count file
  pub bonds : bond_count other ≡ bond_count file
  pub from : ℕ → ℕ
  pub to : ℕ → ℕ
  pub from_inside : (k : ℕ) → k < bond_count file → from k < bond_count file
  pub to_inside : (k : ℕ) → k < bond_count file → to k < bond_count file
  pub from_to : (k : ℕ) → k < bond_count file → from (to k) ≡ k
  pub to_from : (k : ℕ) → k < bond_count file → to (from k) ≡ k
  pub wide : (k : ℕ) → k < bond_count file → bond_width ≤ length (bond_line other k)
  pub numbers : (k : ℕ) → k < bond_count file → two_numbers (bond_line other k) ≡ true
  pub same : (k : ℕ) → k < bond_count file → SameNumbers (bond_line other k) (bond_line file (from k))
