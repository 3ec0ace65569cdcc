-- A file that is longer than any network's is refused, and its first bytes, one more than the greatest file has, are judged as it is.
use Rattle.std.proofs.Common.{◌≡◌, refl, sym, ◌∙◌, ap, ap₂, Bool, true, false, not, cond, List, ℕ, ◌+◌, ◌*◌, ◌<◌, arith, ne_eqb, le-ltb, eqb, length, get_or, take, length-take-le, take_all, get_or-take}
use native.Mathlib.Decide.{dec_le}
use Rattle.network.specs.declared.Answer.{Answer}
use Rattle.network.specs.Maxima.{atoms_most}
use Rattle.network.specs.Verdict.{refusal}
use Rattle.bonds.proofs.Scan.{given}
use Rattle.bnw.specs.File.{version, bonds_most, head_length, bond_length}
use Rattle.bnw.specs.Reading.{field, version_in, atoms_in, bonds_in, Bytes, signed, out_of_range, marked, head_fault, read_verdict}
use Rattle.bnw.proofs.Signs.{above_outside}

-- the bytes of the greatest file
abbrev pub greatest : ℕ
greatest = head_length + bond_length * bonds_most

-- the first fault of a file that is longer, as the tests of 20 to 23 have it: one of these, or 24
pick_fault : Bool → Bool → Bool → Bool → ℕ
pick_fault m v a b = cond m 20 (cond v 21 (cond a 22 (cond b 23 24)))

pick_some : (m v a b : Bool) → pick_fault m v a b ≡ 0 → ⊥
unfolding pick_fault
pick_some true v a b z = omega (arith, z)
pick_some false true a b z = omega (arith, z)
pick_some false false true b z = omega (arith, z)
pick_some false false false true z = omega (arith, z)
pick_some false false false false z = omega (arith, z)

long_fault : List ℕ → ℕ
long_fault file =
    pick_fault (not (marked file)) (not (eqb (version_in file) version)) (out_of_range 1 atoms_most (signed (atoms_in file))) (out_of_range 0 bonds_most (signed (bonds_in file)))

module _ (file : List ℕ) (room : ℕ) (few : bonds_in file < 65536) (long : greatest < length file) where
  -- where the bonds are not too many, they do not fill the file
  not_whole : (later : ℕ) → cond (out_of_range 0 bonds_most (signed (bonds_in file))) 23 (cond (not (eqb (length file) (head_length + bond_length * bonds_in file))) 24 later) ≡ cond (out_of_range 0 bonds_most (signed (bonds_in file))) 23 24
  not_whole later =
      elim (dec_le (bonds_in file) bonds_most) [
        | yes l ↦ (let e : length file ≡ head_length + bond_length * bonds_in file → ⊥ = λ e. omega arith in rw (ne_eqb (length file) (head_length + bond_length * bonds_in file) e) refl)
        | no l ↦ rw (above_outside 0 bonds_most (bonds_in file) few (omega arith)) refl
      ]

  fault_is : head_fault file room ≡ long_fault file
  unfolding head_fault long_fault pick_fault
  fault_is = rw (le-ltb (length file) head_length (omega arith), not_whole) refl

  verdict_is : read_verdict file room ≡ refusal (long_fault file)
  unfolding read_verdict long_fault
  verdict_is = rw fault_is (given _ 0 _ (pick_some _ _ _ _))

module _ (file : List ℕ) (room : ℕ) (bytes : Bytes file) where
  bonds_field : bonds_in file < 65536
  unfolding Bytes
  bonds_field = omega (arith, bytes 7, bytes 8)

  pub longer_refused : greatest < length file → (read_verdict file room).code ≡ 0 → ⊥
  unfolding long_fault
  longer_refused l z = pick_some _ _ _ _ (sym (ap (λ (a : Answer). a.code) (verdict_is file room bonds_field l)) ∙ z)

  module _ (k : ℕ) (h : greatest < k) where
    first_bytes : (i : ℕ) → i < k → get_or (take k file) i 0 ≡ get_or file i 0
    first_bytes i = get_or-take k file i 0

    first_field : (i : ℕ) → i + 1 < k → field (take k file) i ≡ field file i
    first_field i l = ap₂ (λ (low high : ℕ). low + 256 * high) (first_bytes i (omega arith)) (first_bytes (i + 1) l)

    first_mark : marked (take k file) ≡ marked file
    unfolding marked
    first_mark = rw (first_bytes 0 (omega arith), first_bytes 1 (omega arith), first_bytes 2 (omega arith)) refl

    -- the first k bytes are judged as the file is
    pub first_judged : read_verdict (take k file) room ≡ read_verdict file room
    unfolding long_fault
    first_judged =
        elim (dec_le (length file) k) [
          | yes l ↦ ap (λ (f : List ℕ). read_verdict f room) (take_all k file l)
          | no l ↦ verdict_is (take k file) room (omega (arith, first_field 7 (omega arith), bonds_field)) (omega (arith, length-take-le k file (omega arith)))
              ∙ ap refusal (rw (first_mark, first_field 3 (omega arith), first_field 5 (omega arith), first_field 7 (omega arith)) refl)
              ∙ sym (verdict_is file room bonds_field (omega arith))
        ]
