-- The columns of a line (document 02, request 1): a number is three columns, blanks followed by at least one digit, to their end.
-- Columns are bytes, and the first is column 0.
--
--   blank, zero_digit, nine_digit  the bytes of a blank and of the digits 0 and 9
--   is_digit b           whether a byte is a digit
--   all_digits bytes     whether all bytes are digits
--   is_number bytes      whether the bytes are blanks, then at least one digit, to the end
--   worth v bytes        the number that the bytes continue, where what stands before them is worth v; a blank is worth 0
--   columns line i       the three columns from i on
--   number_at line i     whether they are a number
--   value_at line i      the number
use Rattle.std.specs.Prelude.{Bool, true, false, cond, ◌&&◌, List, [], ◌∷◌, ℕ, ◌+◌, ◌-◌, ◌*◌, eqb, leb, get_or}

abbrev pub blank : ℕ
blank = 32

abbrev pub zero_digit : ℕ
zero_digit = 48

abbrev pub nine_digit : ℕ
nine_digit = 57

unfoldable pub is_digit : ℕ → Bool
is_digit b = leb zero_digit b && leb b nine_digit

abbrev pub all_digits : List ℕ → Bool
all_digits [] = true
all_digits (b ∷ bytes) = is_digit b && all_digits bytes

abbrev pub is_number : List ℕ → Bool
is_number [] = false
is_number (b ∷ bytes) = cond (eqb b blank) (is_number bytes) (is_digit b && all_digits bytes)

abbrev pub worth : ℕ → List ℕ → ℕ
worth v [] = v
worth v (b ∷ bytes) = worth (10 * v + (b - zero_digit)) bytes

abbrev pub columns : List ℕ → ℕ → List ℕ
columns line i = get_or line i 0 ∷ get_or line (i + 1) 0 ∷ get_or line (i + 2) 0 ∷ []

unfoldable pub number_at : List ℕ → ℕ → Bool
number_at line i = is_number (columns line i)

unfoldable pub value_at : List ℕ → ℕ → ℕ
value_at line i = worth 0 (columns line i)
