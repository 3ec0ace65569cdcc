use Rattle.std.proofs.Common.{◌≡◌, ℕ, ◌<◌, false, length}
use Rattle.candidate.specs.ShorterPairs.{short}
use Rattle.candidate.proofs.pairs.first_short.Given as goal

abbrev pub invariant-loop-i : goal.invariant-loop-i
invariant-loop-i l = (x y : ℕ) → x < l.i → x < y → y < length l.ring → short l.n l.dist l.ring x y ≡ false

abbrev pub invariant-loop-j : goal.invariant-loop-j
invariant-loop-j l = ((x y : ℕ) → x < l.i → x < y → y < length l.ring → short l.n l.dist l.ring x y ≡ false) × ((y : ℕ) → l.i < y → y < l.j → short l.n l.dist l.ring l.i y ≡ false)
