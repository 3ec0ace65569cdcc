-- Numbers in decimal, as bytes.
--
--   digits left n          the decimal digits of n, at most `left` of them
--   digits_most            the most digits of a number of the machine
--   number n               n in decimal
--   value_of v ds          the number that the digits ds spell after v
use Rattle.std.specs.Prelude.{cond, List, [], ◌∷◌, ◌++◌, ℕ, zero, suc, ◌+◌, ◌-◌, ◌*◌, ◌/◌, ◌%◌, ltb}

-- 48 is the digit 0
unfoldable pub digits : ℕ → ℕ → List ℕ
digits zero n = []
digits (suc left) n = cond (ltb n 10) ((48 + n % 10) ∷ []) (digits left (n / 10) ++ ((48 + n % 10) ∷ []))

abbrev pub digits_most : ℕ
digits_most = 20

abbrev pub number : ℕ → List ℕ
number n = digits digits_most n

unfoldable pub value_of : ℕ → List ℕ → ℕ
value_of v [] = v
value_of v (d ∷ ds) = value_of (v * 10 + (d - 48)) ds
