-- The lines of a file (document 02, request 1): a line ends in LF or CR LF; the last may lack its end, and nothing after a line end is no line.
--
--   line_feed, carriage_return  the bytes LF and CR
--   ends_here b rest            whether a line's end begins with byte b, where `rest` comes after it: LF, or CR directly before LF
--   line_of bytes               the line that the bytes begin with, without its end
--   past_line bytes             what comes after that line and its end
--   from_line file k            what stands in a file from line k on; the first is line 0
--   line_at file k              line k
--   MissingLine file k          there is no line k: nothing stands from it on
--   Begins file from bytes r    r is the byte at which `bytes` begin that stand in the file after byte `from`; it is `from` where the file ends before
use Rattle.std.specs.Prelude.{◌≡◌, Bool, cond, ◌&&◌, ◌||◌, List, [], ◌∷◌, ℕ, zero, suc, ◌≤◌, eqb, length, get_or, drop}

abbrev pub line_feed : ℕ
line_feed = 10

abbrev pub carriage_return : ℕ
carriage_return = 13

unfoldable pub ends_here : ℕ → List ℕ → Bool
ends_here b rest = eqb b line_feed || (eqb b carriage_return && eqb (get_or rest 0 0) line_feed)

unfoldable pub line_of : List ℕ → List ℕ
line_of [] = []
line_of (b ∷ rest) = cond (ends_here b rest) [] (b ∷ line_of rest)

unfoldable pub past_line : List ℕ → List ℕ
past_line [] = []
past_line (b ∷ rest) = cond (eqb b line_feed) rest (past_line rest)

unfoldable pub from_line : List ℕ → ℕ → List ℕ
from_line file zero = file
from_line file (suc k) = past_line (from_line file k)

abbrev pub line_at : List ℕ → ℕ → List ℕ
line_at file k = line_of (from_line file k)

abbrev pub MissingLine : List ℕ → ℕ → Type 0
MissingLine file k = from_line file k ≡ []

pub record Begins (file : List ℕ) (from : ℕ) (bytes : List ℕ) (r : ℕ) : Type 0 where
  pub stands : drop r file ≡ bytes
  pub inside : from ≤ length file → r ≤ length file
  pub past : length file ≤ from → r ≡ from
