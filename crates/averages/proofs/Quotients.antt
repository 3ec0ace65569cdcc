-- The numbers of a quotient are cast without loss. Where there are no rings, rings per atom is +0.0, for every number of atoms: the
-- checker computes the quotients.
use Rattle.std.proofs.Common.{◌≡◌, refl, Bool, true, false, ℕ, zero, suc, ◌^◌, ◌<◌, arith, T, pos, negsuc, Float}
use lib.Ieee.{nan, inf, fin, binary64, div, of_int, of_bits}
use lib.Ieee.Exact.{HasValue}
use lib.Ieee.Back.{round_whole}
use Rattle.graph.specs.Lists.{numbers_from}
use Rattle.graph.proofs.Lists.{every_of, count_has}
use Rattle.network.specs.Maxima.{atoms_most}
use Rattle.network.specs.Network.{Counted}
use Rattle.averages.specs.Averages.{quotient, plus_zero}

-- a whole number of 32 bits, as a float, has its value: the number over 1
pub cast_exact : (a : ℕ) → a < 2 ^ 32 → HasValue (of_int binary64 (pos a)) false a 1
unfolding of_int
cast_exact a h = round_whole binary64 false a (omega (arith, h))

-- 0 with the sign plus
abbrev is_plus_zero : Float → Bool
is_plus_zero nan = false
is_plus_zero (inf s) = false
is_plus_zero (fin true m e) = false
is_plus_zero (fin false zero (pos zero)) = true
is_plus_zero (fin false zero (pos (suc e))) = false
is_plus_zero (fin false zero (negsuc e)) = false
is_plus_zero (fin false (suc m) e) = false

plus_zero_of : (x : Float) → T (is_plus_zero x) → x ≡ plus_zero
unfolding of_bits
plus_zero_of nan h = absurd h
plus_zero_of (inf s) h = absurd h
plus_zero_of (fin true m e) h = absurd h
plus_zero_of (fin false zero (pos zero)) h = refl
plus_zero_of (fin false zero (pos (suc e))) h = absurd h
plus_zero_of (fin false zero (negsuc e)) h = absurd h
plus_zero_of (fin false (suc m) e) h = absurd h

pub none_per_atom : (n : ℕ) → Counted n → quotient 0 n ≡ plus_zero
unfolding div of_int
none_per_atom n C =
    plus_zero_of (quotient 0 n)
    (every_of (λ n. is_plus_zero (quotient 0 n)) (numbers_from atoms_most 1) tt n (count_has atoms_most 1 n C.some (omega (arith, C.most))))
