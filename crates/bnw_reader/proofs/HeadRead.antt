-- The head of a file, as it is read: its mark, its counts, and the bonds after it.
use Rattle.std.proofs.Common.{◌≡◌, refl, sym, ap, ap₂, ◌∙◌, arith, ℕ, zero, suc, ◌+◌, ◌-◌, ◌*◌, ◌/◌, ◌≤◌, ◌<◌, Bool, false, not, eqb, List, [], ◌∷◌, length, get_or, take, drop, take_all, get_or-take, get_or-drop, drop-drop, drop_of_length-le, length-drop}
use Rattle.std.proofs.lemmas.Bool.Decides.{nat_tests}
use Rattle.std.specs.List.{starts_with}
use Rattle.std.specs.Simd.{first_chunks}
use native.Mathlib.Decide.{dec_lt}
use Rattle.network.specs.Maxima.{atoms_most}
use Rattle.bonds.specs.Bonds.{bond}
use Rattle.bnw.specs.File.{mark, version, head_length, bond_length}
use Rattle.bnw.specs.Reading.{of_bytes, field, marked, head_fault, bond_in}
use Rattle.bnw.proofs.HeadFaults.{head_22_low, head_22_high}
use Rattle.bnw_reader.specs.FileBonds.{among, Holds}

pub mark_read : (file : List ℕ) → starts_with eqb file mark ≡ marked file
unfolding marked
mark_read [] = refl
mark_read (a ∷ []) = grind (arith, nat_tests)
mark_read (a ∷ b ∷ []) = grind (arith, nat_tests)
mark_read (a ∷ b ∷ c ∷ rest) = grind (arith, nat_tests)

-- a count that is not from 1 to the most
module _ (file : List ℕ) (room : ℕ) (long : head_length ≤ length file) (m : Bool) (em : m ≡ marked file) (hm : not m ≡ false) (v : ℕ) (ev : v ≡ field file 3) (hv : v ≡ version) (atoms : ℕ) (ea : atoms ≡ field file 5) (la : atoms < 65536) where
  pub head_22 : ((1 ≤ atoms) × (atoms ≤ atoms_most) → ⊥) → 22 ≡ head_fault file room
  head_22 h = elim (dec_lt atoms 1) [
    | yes l ↦ head_22_low file room long m em hm v ev hv atoms ea la l
    | no l ↦ elim (dec_lt atoms_most atoms) [
      | yes k ↦ head_22_high file room long m em hm v ev hv atoms ea la k
      | no k ↦ absurd (h (omega arith, omega arith))
    ]
  ]

-- the bytes of each bond
chunk : (m k : ℕ) (xs : List ℕ) → length xs ≡ bond_length * m → get_or (first_chunks bond_length m xs) k [] ≡ take bond_length (drop (bond_length * k) xs)
chunk zero k xs h = sym (ap (take bond_length) (drop_of_length-le xs (omega arith)))
chunk (suc m) zero xs h = refl
chunk (suc m) (suc k) xs h =
    let e : bond_length + bond_length * k ≡ bond_length * suc k = omega arith in
    chunk m k (drop bond_length xs) (omega (arith, length-drop bond_length xs))
    ∙ ap (take bond_length) (drop-drop (bond_length * k) bond_length xs ∙ ap (λ (i : ℕ). drop i xs) e)

module _ (file : List ℕ) (m : ℕ) (whole : length file ≡ head_length + bond_length * m) (bonds : List (List ℕ)) (e : bonds ≡ first_chunks bond_length m (drop head_length file)) where
  bytes_of : (k : ℕ) → get_or bonds k [] ≡ take bond_length (drop (head_length + bond_length * k) file)
  bytes_of k =
      ap (λ (bs : List (List ℕ)). get_or bs k []) e ∙ chunk m k (drop head_length file) (omega (arith, length-drop head_length file, whole))
      ∙ ap (take bond_length) (drop-drop (bond_length * k) head_length file)

  byte : (k i a : ℕ) → i < bond_length → a ≡ head_length + bond_length * k + i → get_or (get_or bonds k []) i 0 ≡ get_or file a 0
  byte k i a l d = rw (bytes_of k, d) (get_or-take bond_length (drop (head_length + bond_length * k) file) i 0 l ∙ get_or-drop (head_length + bond_length * k) file i 0)

  same_bond : (k : ℕ) → among bonds k ≡ bond_in file k
  same_bond k =
      ap₂ bond
      (ap₂ of_bytes (byte k 0 (head_length + bond_length * k) (omega arith) (omega arith)) (byte k 1 (head_length + bond_length * k + 1) (omega arith) (omega arith)))
      (ap₂ of_bytes (byte k 2 (head_length + bond_length * k + 2) (omega arith) (omega arith)) (byte k 3 (head_length + bond_length * k + 2 + 1) (omega arith) (omega arith)))

-- what is after the head, as chunks
module _ (file rest : List ℕ) (m : ℕ) (whole : length file ≡ head_length + bond_length * m) (r : rest ≡ take (length file - head_length) (drop head_length file)) where
  rest_is : rest ≡ drop head_length file
  rest_is = r ∙ take_all (length file - head_length) (drop head_length file) (omega (arith, length-drop head_length file))

  counted : length rest / bond_length ≡ m
  counted = omega (arith, ap length rest_is, length-drop head_length file, whole)

  pub holds : (room atoms : ℕ) (bonds : List (List ℕ)) → 0 ≡ head_fault file room → atoms ≡ field file 5 → m ≡ field file 7
      → bonds ≡ first_chunks bond_length (length rest / bond_length) rest → length bonds ≡ length rest / bond_length → Holds file room atoms bonds
  holds room atoms bonds z ea em e l = record {
    right = z;
    counted = ea;
    number = l ∙ counted ∙ em;
    each = same_bond file m whole bonds (e ∙ ap₂ (first_chunks bond_length) counted rest_is);
  }
