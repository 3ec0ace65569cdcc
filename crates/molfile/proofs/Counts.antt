-- The version of a counts line, and what it says of one that it has no fault.
use Rattle.std.proofs.Common.{◌≡◌, refl, true, ◌&&◌, List, ◌∷◌, ℕ, ◌+◌, ◌-◌, ◌*◌, ◌≤◌, arith, eqb, length, get_or, take, drop, ltb-false, leb-true}
use Rattle.std.specs.List.{starts_with}
use Rattle.std.proofs.Math.Seq.{drop-cons}
use Rattle.std.proofs.lemmas.Slice.{between_to_end}
use Rattle.std.proofs.lemmas.Bool.{and_parts, eqb-false, not-false}
use Rattle.std.proofs.lemmas.Bool.Decides.{nat_tests}
use Rattle.network.specs.Maxima.{atoms_most, places}
use Rattle.network.specs.Network.{Counted}
use Rattle.molfile.specs.Lines.{line_of, from_line}
use Rattle.molfile.specs.Columns.{value_at}
use Rattle.molfile.specs.Molfile.{counts_width, first_at, version_mark, version_at}
use Rattle.molfile.specs.Judging.{has_version, two_numbers, counts_fault}
use Rattle.molfile.proofs.Judged.{nonzero, passed}

-- "V2000" stands in its columns where what stands from them on begins with it
from_mark : (line : List ℕ) → counts_width ≤ length line
    → drop version_at line ≡ get_or line version_at 0 ∷ get_or line (version_at + 1) 0 ∷ get_or line (version_at + 2) 0 ∷ get_or line (version_at + 3) 0 ∷ get_or line (version_at + 4) 0 ∷ drop (version_at + 5) line
from_mark line l = rw (drop-cons line 34 0 (omega arith), drop-cons line 35 0 (omega arith), drop-cons line 36 0 (omega arith), drop-cons line 37 0 (omega arith), drop-cons line 38 0 (omega arith)) refl

mark_tests : (a b c d e : ℕ) (rest : List ℕ) → starts_with eqb (a ∷ b ∷ c ∷ d ∷ e ∷ rest) version_mark ≡ (eqb a 86 && eqb b 50 && eqb c 48 && eqb d 48 && eqb e 48)
mark_tests a b c d e rest = grind (arith, nat_tests)

pub version_starts : (line : List ℕ) → counts_width ≤ length line → starts_with eqb (take (length line - version_at) (drop version_at line)) version_mark ≡ has_version line
unfolding has_version
version_starts line l = rw (between_to_end line version_at (length line) (omega arith), from_mark line l) (mark_tests (get_or line version_at 0) (get_or line (version_at + 1) 0) (get_or line (version_at + 2) 0) (get_or line (version_at + 3) 0) (get_or line (version_at + 4) 0) (drop (version_at + 5) line))

-- what no fault says
pub record CountsRight (rest : List ℕ) (room : ℕ) : Type 0 where
  pub wide : counts_width ≤ length (line_of rest)
  pub version : has_version (line_of rest) ≡ true
  pub numbers : two_numbers (line_of rest) ≡ true
  pub counted : Counted (value_at (line_of rest) first_at)
  pub fits : places * value_at (line_of rest) first_at ≤ room
  pub there : length (from_line rest (value_at (line_of rest) first_at)) ≡ 0 → ⊥

pub counts_right : (rest : List ℕ) (room : ℕ) → counts_fault rest room ≡ 0 → CountsRight rest room
unfolding counts_fault
counts_right rest room e =
    let w = passed _ 29 _ (nonzero 28) e in
    let v = passed _ 30 _ (nonzero 29) w.1 in
    let t = passed _ 31 _ (nonzero 30) v.1 in
    let n = passed _ 22 _ (nonzero 21) t.1 in
    let f = passed _ 25 _ (nonzero 24) n.1 in
    let a = passed _ 29 _ (nonzero 28) f.1 in
    let r = and_parts _ _ (not-false _ n.0) in
    record {
      wide = ltb-false (length (line_of rest)) counts_width w.0;
      version = not-false (has_version (line_of rest)) v.0;
      numbers = not-false (two_numbers (line_of rest)) t.0;
      counted = record { some = leb-true 1 (value_at (line_of rest) first_at) r.0; most = leb-true (value_at (line_of rest) first_at) atoms_most r.1 };
      fits = ltb-false room (places * value_at (line_of rest) first_at) f.0;
      there = eqb-false (length (from_line rest (value_at (line_of rest) first_at))) 0 a.0;
    }
