-- The bytes of a file and its fields: what is read is what was written, and the other way round.
use Rattle.std.proofs.Common.{◌≡◌, refl, sym, ◌∙◌, ap, ap₂, true, List, [], ◌∷◌, ◌++◌, append_assoc, ℕ, zero, suc, ◌+◌, ◌*◌, ◌/◌, ◌%◌, ◌≤◌, ◌<◌, add-one, arith, length, get_or, take, take-suc, take_all, ext_get_or, get_or-append-add, eq-eqb, ne_eqb}
use native.Mathlib.Decide.{ℕ_discrete}
use Rattle.std.proofs.lemmas.Bool.{false≢true}
use Rattle.graph.specs.Lists.{gather, numbers_from}
use Rattle.graph.proofs.Lists.{get_or_map, get_or_count, length_count}
use Rattle.bonds.specs.Bonds.{Bond, bonds_below}
use Rattle.bonds.proofs.Runs.{gather_one, map_more}
use Rattle.bonds.proofs.Order.{length_below}
use Rattle.bnw.specs.File.{mark, version, two_bytes, bond_bytes, head_of, file_of, head_length, bond_length}
use Rattle.bnw.specs.Reading.{field, Bytes, marked, bond_in}

-- from bytes to fields
module _ (file : List ℕ) (bytes : Bytes file) where
  field_bytes : (i : ℕ) → two_bytes (field file i) ≡ get_or file i 0 ∷ get_or file (i + 1) 0 ∷ []
  unfolding Bytes
  field_bytes i =
      let low : field file i % 256 ≡ get_or file i 0 = omega (arith, bytes i) in
      let high : field file i / 256 ≡ get_or file (i + 1) 0 = omega (arith, bytes i) in
      ap₂ (λ (a b : ℕ). a ∷ b ∷ []) low high

  take_field : (i : ℕ) → i + 1 < length file → take (suc (suc i)) file ≡ take i file ++ two_bytes (field file i)
  take_field i h =
      take-suc file (suc i) 0 (omega arith) ∙ ap (λ (xs : List ℕ). xs ++ (get_or file (suc i) 0 ∷ [])) (take-suc file i 0 (omega arith))
      ∙ append_assoc (take i file) (get_or file i 0 ∷ []) (get_or file (suc i) 0 ∷ [])
      ∙ ap (λ (xs : List ℕ). take i file ++ xs) (sym (field_bytes i ∙ ap (λ (k : ℕ). get_or file i 0 ∷ get_or file k 0 ∷ []) (add-one i)))

  module _ (long : head_length ≤ length file) (m : marked file ≡ true) (v : field file 3 ≡ version) where
    marks : take 3 file ≡ mark
    unfolding marked
    marks = go (ℕ_discrete (get_or file 0 0) 66) (ℕ_discrete (get_or file 1 0) 78) (ℕ_discrete (get_or file 2 0) 87)
      where
        go : Dec (get_or file 0 0 ≡ 66) → Dec (get_or file 1 0 ≡ 78) → Dec (get_or file 2 0 ≡ 87) → take 3 file ≡ mark
        go (yes a) (yes b) (yes c) =
            take-suc file 2 0 (omega arith)
            ∙ ap (λ (xs : List ℕ). xs ++ (get_or file 2 0 ∷ [])) (take-suc file 1 0 (omega arith) ∙ ap (λ (xs : List ℕ). xs ++ (get_or file 1 0 ∷ [])) (take-suc file 0 0 (omega arith)))
            ∙ rw (a, b, c)
        go (yes a) (yes b) (no c) = absurd (false≢true (rw (eq-eqb (get_or file 0 0) 66 a, eq-eqb (get_or file 1 0) 78 b, ne_eqb (get_or file 2 0) 87 c) at m))
        go (yes a) (no b) _ = absurd (false≢true (rw (eq-eqb (get_or file 0 0) 66 a, ne_eqb (get_or file 1 0) 78 b) at m))
        go (no a) _ _ = absurd (false≢true (rw (ne_eqb (get_or file 0 0) 66 a) at m))

    head_bytes : take head_length file ≡ head_of (field file 5) (field file 7)
    head_bytes =
        take_field 7 (omega arith)
        ∙ ap (λ (xs : List ℕ). xs ++ two_bytes (field file 7))
        (take_field 5 (omega arith) ∙ ap (λ (xs : List ℕ). xs ++ two_bytes (field file 5)) (take_field 3 (omega arith) ∙ ap₂ (λ (xs : List ℕ) (k : ℕ). xs ++ two_bytes k) marks v))

    bonds_bytes : (k : ℕ) → head_length + bond_length * k ≤ length file → take (head_length + bond_length * k) file ≡ head_of (field file 5) (field file 7) ++ gather bond_bytes (bonds_below (bond_in file) k)
    bonds_bytes zero h = head_bytes
    bonds_bytes (suc k) h =
        let e : head_length + bond_length * suc k ≡ suc (suc (suc (suc (head_length + bond_length * k)))) = omega arith in
        let two : head_length + bond_length * k + 2 ≡ suc (suc (head_length + bond_length * k)) = omega arith in
        ap (λ (j : ℕ). take j file) e ∙ take_field (suc (suc (head_length + bond_length * k))) (omega arith)
        ∙ ap (λ (xs : List ℕ). xs ++ two_bytes (field file (suc (suc (head_length + bond_length * k))))) (take_field (head_length + bond_length * k) (omega arith) ∙ ap (λ (xs : List ℕ). xs ++ two_bytes (field file (head_length + bond_length * k))) (bonds_bytes k (omega arith)))
        ∙ append_assoc (head_of (field file 5) (field file 7) ++ gather bond_bytes (bonds_below (bond_in file) k)) (two_bytes (field file (head_length + bond_length * k))) (two_bytes (field file (suc (suc (head_length + bond_length * k)))))
        ∙ ap (λ (j : ℕ). (head_of (field file 5) (field file 7) ++ gather bond_bytes (bonds_below (bond_in file) k)) ++ (two_bytes (field file (head_length + bond_length * k)) ++ two_bytes (field file j))) (sym two)
        ∙ append_assoc (head_of (field file 5) (field file 7)) (gather bond_bytes (bonds_below (bond_in file) k)) (bond_bytes (bond_in file k))
        ∙ ap (λ (xs : List ℕ). head_of (field file 5) (field file 7) ++ xs) (sym (ap (gather bond_bytes) (rw add-one at (map_more (bond_in file) k)) ∙ gather_one bond_bytes (bonds_below (bond_in file) k) (bond_in file k)))

    -- a file whose head is right is the file of its own fields
    pub file_is : length file ≡ head_length + bond_length * field file 7 → file ≡ file_of (field file 5) (bonds_below (bond_in file) (field file 7))
    unfolding file_of
    file_is whole =
        sym (take_all (head_length + bond_length * field file 7) file (omega arith)) ∙ bonds_bytes (field file 7) (omega arith)
        ∙ ap (λ (k : ℕ). head_of (field file 5) k ++ gather bond_bytes (bonds_below (bond_in file) (field file 7))) (sym (length_below (bond_in file) (field file 7)))

-- from fields to bytes
whole_field : (v : ℕ) → v % 256 + 256 * (v / 256) ≡ v
whole_field v = omega arith

module _ (n : ℕ) (bonds : List Bond) where
  pub version_field : field (file_of n bonds) 3 ≡ version
  unfolding file_of
  version_field = whole_field version

  pub atoms_field : field (file_of n bonds) 5 ≡ n
  unfolding file_of
  atoms_field = whole_field n

  pub bonds_field : field (file_of n bonds) 7 ≡ length bonds
  unfolding file_of
  bonds_field = whole_field (length bonds)

  pub mark_field : marked (file_of n bonds) ≡ true
  unfolding file_of marked
  mark_field = refl

abbrev pub none : Bond
none = record { first = 0; second = 0 }

bond_bytes_lem : (bonds : List Bond) (k i : ℕ) → k < length bonds → i < bond_length → get_or (gather bond_bytes bonds) (bond_length * k + i) 0 ≡ get_or (bond_bytes (get_or bonds k none)) i 0
bond_bytes_lem [] k i h l = absurd (omega arith)
bond_bytes_lem (b ∷ bonds) zero i h l = go i l
  where
    go : (i : ℕ) → i < bond_length → get_or (gather bond_bytes (b ∷ bonds)) (bond_length * zero + i) 0 ≡ get_or (bond_bytes b) i 0
    go zero l = refl
    go (suc zero) l = refl
    go (suc (suc zero)) l = refl
    go (suc (suc (suc zero))) l = refl
    go (suc (suc (suc (suc i)))) l = absurd (omega arith)
bond_bytes_lem (b ∷ bonds) (suc k) i h l =
    let e : bond_length * suc k + i ≡ suc (suc (suc (suc (bond_length * k + i)))) = omega arith in
    rw e (bond_bytes_lem bonds k i (omega arith) l)

module _ (n : ℕ) (bonds : List Bond) where
  byte_at : (k i j : ℕ) → j ≡ head_length + (bond_length * k + i) → k < length bonds → i < bond_length → get_or (file_of n bonds) j 0 ≡ get_or (bond_bytes (get_or bonds k none)) i 0
  unfolding file_of
  byte_at k i j e h l = ap (λ (p : ℕ). get_or (head_of n (length bonds) ++ gather bond_bytes bonds) p 0) e ∙ get_or-append-add (head_of n (length bonds)) (gather bond_bytes bonds) (bond_length * k + i) 0 ∙ bond_bytes_lem bonds k i h l

  pub bond_read : (k : ℕ) → k < length bonds → bond_in (file_of n bonds) k ≡ get_or bonds k none
  bond_read k h =
      ap₂ (λ (a b : ℕ). record { first = a; second = b })
      (ap₂ (λ (a b : ℕ). a + 256 * b) (byte_at k 0 (head_length + bond_length * k) (omega arith) h (omega arith)) (byte_at k 1 (head_length + bond_length * k + 1) (omega arith) h (omega arith)) ∙ whole_field (get_or bonds k none).first)
      (ap₂ (λ (a b : ℕ). a + 256 * b) (byte_at k 2 (head_length + bond_length * k + 2) (omega arith) h (omega arith)) (byte_at k 3 (head_length + bond_length * k + 2 + 1) (omega arith) h (omega arith)) ∙ whole_field (get_or bonds k none).second)

  -- the bonds of a file are read back
  pub bonds_read : bonds_below (bond_in (file_of n bonds)) (length bonds) ≡ bonds
  bonds_read =
      ext_get_or none (bonds_below (bond_in (file_of n bonds)) (length bonds)) bonds (length_below (bond_in (file_of n bonds)) (length bonds))
      (λ k h. let l : k < length bonds = omega (arith, length_below (bond_in (file_of n bonds)) (length bonds)) in
      get_or_map (bond_in (file_of n bonds)) (numbers_from (length bonds) 0) k 0 none (omega (arith, length_count (length bonds) 0))
      ∙ ap (bond_in (file_of n bonds)) (get_or_count (length bonds) 0 k 0 l ∙ (let e : 0 + k ≡ k = omega arith in e)) ∙ bond_read k l)
