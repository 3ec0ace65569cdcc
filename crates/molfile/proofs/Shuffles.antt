-- Bond lines in another order, or with their atoms exchanged, give the same table.
use Rattle.std.proofs.Common.{◌≡◌, refl, sym, ◌∙◌, ap, ap₂, subst, ◌⊎◌, inl, inr, ◌↔◌, true, cond, List, [], ◌∷◌, ℕ, zero, suc, ◌-◌, ◌≤◌, ◌<◌, arith, eqb, pos, length}
use Rattle.std.proofs.Math.Decide.{ℕ_discrete, dec_lt}
use mathlib.Core.List.Memᴰ
use Rattle.graph.specs.Lists.{◌∈◌, Ascending}
use Rattle.network.specs.declared.Answer.{Answer}
use Rattle.network.specs.Maxima.{atoms_most, places}
use Rattle.network.specs.Verdict.{accepted}
use Rattle.bonds.specs.declared.Reading.{Reading}
use Rattle.bonds.specs.Bonds.{Joins, Bond, partners, bonds_below}
use Rattle.bonds.specs.Scan.{or_at, first_bond}
use Rattle.bonds.proofs.Scan.{or_clean, scan_clean, clean_scan}
use Rattle.molfile.specs.Lines.{from_line}
use Rattle.molfile.specs.Molfile.{counts_line, bond_width, atom_count, bond_count, bond_line, HasPair, Paired, MolfileOf}
use Rattle.molfile.specs.Judging.{two_numbers, counts_fault, pair_of, pair_fault, molfile_verdict, molfile_value, MolfileOutcome}
use Rattle.molfile.specs.Rows.{inserted, risen_on}
use Rattle.molfile.specs.Same.{SameNumbers, Shuffled}
use Rattle.molfile.proofs.Inserted.{inserted_of, inserted_length, inserted_ascends, risen_length, risen_of, risen_has}
use Rattle.molfile.proofs.Judged.{RightPair, right_of, none_of}
use Rattle.molfile.proofs.Counts.{counts_right}
use Rattle.molfile.proofs.Holding.{eight, bond_of, bond_has, ascends}

-- an ascending list is no longer than one that has all its members
no_longer : (ys : List ℕ) → Ascending ◌<◌ ys → (xs : List ℕ) → Ascending ◌<◌ xs → ((z : ℕ) → z ∈ xs → z ∈ ys) → length xs ≤ length ys
no_longer [] rise [] up inside = omega arith
no_longer [] rise (x ∷ xs) up inside = absurd (Memᴰ.not-nil (inside x (Memᴰ.head refl)))
no_longer (y ∷ ys) rise xs up inside = go xs up inside (no_longer ys rise.1)
  where
    above : (z : ℕ) → y < z → z ∈ y ∷ ys → z ∈ ys
    above z l (Memᴰ.head e) = absurd (omega (arith, e))
    above z l (Memᴰ.tail i) = i

    go : (xs : List ℕ) → Ascending ◌<◌ xs → ((z : ℕ) → z ∈ xs → z ∈ y ∷ ys)
        → ((zs : List ℕ) → Ascending ◌<◌ zs → ((z : ℕ) → z ∈ zs → z ∈ ys) → length zs ≤ length ys) → length xs ≤ suc (length ys)
    go [] up inside ih = omega arith
    go (x ∷ xs) up inside ih = first (inside x (Memᴰ.head refl))
      where
        later : x ∈ ys → (z : ℕ) → z ∈ x ∷ xs → y < z
        later i z (Memᴰ.head e) = omega (arith, e, rise.0 x i)
        later i z (Memᴰ.tail j) = omega (arith, up.0 z j, rise.0 x i)

        first : x ∈ y ∷ ys → suc (length xs) ≤ suc (length ys)
        first (Memᴰ.head e) = omega (arith, ih xs up.1 (λ z i. above z (omega (arith, e, up.0 z i)) (inside z (Memᴰ.tail i))))
        first (Memᴰ.tail i) = omega (arith, ih (x ∷ xs) up (λ z j. above z (later i z j) (inside z j)))

-- the other lines say what the lines say, each of them once
module _ (n : ℕ) (few : n ≤ atoms_most) (line other : ℕ → List ℕ) (m : ℕ) (right : (k : ℕ) → k < m → RightPair n line k)
    (from : ℕ → ℕ) (inside : (k : ℕ) → k < m → from k < m) (apart : (j k : ℕ) → j < k → k < m → from j ≡ from k → ⊥)
    (wide : (k : ℕ) → k < m → bond_width ≤ length (other k)) (numbers : (k : ℕ) → k < m → two_numbers (other k) ≡ true)
    (same : (k : ℕ) → k < m → SameNumbers (other k) (line (from k))) where
  -- no two lines have a pair
  once_below : (i j x y : ℕ) → i < j → j < m → Joins (pair_of line i) x y → Joins (pair_of line j) x y → ⊥
  once_below i j x y l h p q = (right j h).new (bond_has n few line m right j i (pair_of line j).first (pair_of line j).second (omega arith) l (meet p q))
    where
      meet : Joins (pair_of line i) x y → Joins (pair_of line j) x y → Joins (pair_of line i) (pair_of line j).first (pair_of line j).second
      meet (inl e) (inl d) = inl (e.0 ∙ sym d.0, e.1 ∙ sym d.1)
      meet (inl e) (inr d) = inr (e.1 ∙ sym d.1, e.0 ∙ sym d.0)
      meet (inr e) (inl d) = inr (e.0 ∙ sym d.0, e.1 ∙ sym d.1)
      meet (inr e) (inr d) = inl (e.1 ∙ sym d.1, e.0 ∙ sym d.0)

  once : (i j x y : ℕ) → i < m → j < m → (i ≡ j → ⊥) → Joins (pair_of line i) x y → Joins (pair_of line j) x y → ⊥
  once i j x y l h d p q = elim (dec_lt i j) [ yes k ↦ once_below i j x y k h p q | no k ↦ once_below j i x y (omega (arith, d)) l q p ]

  -- a pair of the other lines is one of the lines
  has_from : (k x y : ℕ) → k < m → Joins (pair_of other k) x y → Joins (pair_of line (from k)) x y
  has_from k x y l p = go (same k l) p
    where
      lower : {v w : ℕ} → v ≡ w → w - 1 ≡ v - 1
      lower e = ap (λ (u : ℕ). u - 1) (sym e)

      go : SameNumbers (other k) (line (from k)) → Joins (pair_of other k) x y → Joins (pair_of line (from k)) x y
      go (inl s) (inl e) = inl (lower s.0 ∙ e.0, lower s.1 ∙ e.1)
      go (inl s) (inr e) = inr (lower s.1 ∙ e.0, lower s.0 ∙ e.1)
      go (inr s) (inl e) = inr (lower s.0 ∙ e.0, lower s.1 ∙ e.1)
      go (inr s) (inr e) = inl (lower s.1 ∙ e.0, lower s.0 ∙ e.1)

  -- where the other lines below k are right, so is line k
  module _ (k : ℕ) (l : k < m) (below : (j : ℕ) → j < k → RightPair n other j) where
    abbrev bonded : ℕ → List ℕ
    bonded x = partners (bonds_below (pair_of other) k) x

    abbrev all : ℕ → List ℕ
    all x = partners (bonds_below (pair_of line) m) x

    in_all : (j x y : ℕ) → j < m → Joins (pair_of other j) x y → y ∈ all x
    in_all j x y h p = bond_has n few line m right m (from j) x y (omega arith) (inside j h) (has_from j x y h p)

    unseen : (x y : ℕ) → Joins (pair_of other k) x y → y ∈ bonded x → ⊥
    unseen x y p i =
        let g = bond_of n few other k below k x y i in
        let h : g.0 < m = omega (arith, g.1) in
        once (from g.0) (from k) x y (inside g.0 h) (inside k l) (apart g.0 k g.1 l) (has_from g.0 x y h g.2) (has_from k x y l p)

    room : (x y : ℕ) → Joins (pair_of other k) x y → length (bonded x) < places
    room x y p =
        omega (
          arith,
          no_longer (risen_on [] (all x)) (ascends n few line m right m x (omega arith)) (inserted y (risen_on [] (bonded x)))
              (inserted_ascends y (risen_on [] (bonded x)) (ascends n few other k below k x (omega arith)) (λ i. unseen x y p (member y i)))
              (λ z i. risen_has z [] (all x) (inr (held z (inserted_of y z (risen_on [] (bonded x)) i)))),
          inserted_length y (risen_on [] (bonded x)),
          risen_length [] (bonded x),
          risen_length [] (all x),
          eight n few line m right m x (omega arith),
        )
      where
        member : (z : ℕ) → z ∈ risen_on [] (bonded x) → z ∈ bonded x
        member z i = elim (risen_of z [] (bonded x) i) [ inl j ↦ absurd (Memᴰ.not-nil j) | inr j ↦ j ]

        held : (z : ℕ) → (z ≡ y) ⊎ (z ∈ risen_on [] (bonded x)) → z ∈ all x
        held z (inl e) = subst (λ (u : ℕ). u ∈ all x) (sym e) (in_all k x y l p)
        held z (inr i) = let g = bond_of n few other k below k x z (member z i) in in_all g.0 x z (omega (arith, g.1)) g.2

    right_next : RightPair n other k
    right_next =
        let a = (pair_of other k).first in
        let b = (pair_of other k).second in
        let R = right (from k) (inside k l) in
        record {
          wide = wide k l;
          numbers = numbers k l;
          first = elim (same k l) [ inl e ↦ rw e.0 R.first | inr e ↦ rw e.0 R.second ];
          second = elim (same k l) [ inl e ↦ rw e.1 R.second | inr e ↦ rw e.1 R.first ];
          apart = λ e. alone (has_from k a b l (inl (refl, refl))) e;
          new = unseen a b (inl (refl, refl));
          room_first = room a b (inl (refl, refl));
          room_second = room b a (inr (refl, refl));
        }
      where
        alone : {x y : ℕ} → Joins (pair_of line (from k)) x y → x ≡ y → ⊥
        alone (inl e) d = (right (from k) (inside k l)).apart (e.0 ∙ d ∙ sym e.1)
        alone (inr e) d = (right (from k) (inside k l)).apart (e.1 ∙ sym d ∙ sym e.0)

  rights_below : (k : ℕ) → k ≤ m → (j : ℕ) → j < k → RightPair n other j
  rights_below zero h j l = absurd (omega arith)
  rights_below (suc k) h j l = go (ℕ_discrete j k) (rights_below k (omega arith))
    where
      go : Dec (j ≡ k) → ((i : ℕ) → i < k → RightPair n other i) → RightPair n other j
      go (yes d) ih = subst (RightPair n other) (sym d) (right_next k h ih)
      go (no d) ih = ih j (omega (arith, d))

  rights_other : (k : ℕ) → k < m → RightPair n other k
  rights_other k l = rights_below m (omega arith) k l

-- lines with the same numbers have the same pairs
same_back : (line more : List ℕ) → SameNumbers line more → SameNumbers more line
same_back line more (inl e) = inl (sym e.0, sym e.1)
same_back line more (inr e) = inr (sym e.1, sym e.0)

has_same_pair : (line more : List ℕ) (x y : ℕ) → SameNumbers line more → HasPair line x y → HasPair more x y
has_same_pair line more x y (inl s) (inl e) = inl (sym s.0 ∙ e.0, sym s.1 ∙ e.1)
has_same_pair line more x y (inl s) (inr e) = inr (sym s.0 ∙ e.0, sym s.1 ∙ e.1)
has_same_pair line more x y (inr s) (inl e) = inr (sym s.1 ∙ e.1, sym s.0 ∙ e.0)
has_same_pair line more x y (inr s) (inr e) = inl (sym s.1 ∙ e.1, sym s.0 ∙ e.0)

-- a file is accepted where no line has a fault
verdict_clean : (file : List ℕ) (room n m : ℕ) → atom_count file ≡ n → bond_count file ≡ m → counts_fault (from_line file counts_line) room ≡ 0
    → ((k : ℕ) → k < m → pair_fault n (bond_line file) k ≡ 0) → molfile_verdict file room ≡ accepted
unfolding molfile_verdict or_at
verdict_clean file room n m en em head clean =
    ap (λ (c : ℕ). or_at c 0 (first_bond (pair_fault (atom_count file) (bond_line file)) (bond_count file) 0)) head
    ∙ ap₂ (λ (i j : ℕ). first_bond (pair_fault i (bond_line file)) j 0) en em ∙ clean_scan (pair_fault n (bond_line file)) m 0 (λ k l h. clean k (omega arith))

module _ (file other : List ℕ) (room : ℕ) (S : Shuffled file other room) where
  paired_shuffled : (x y : ℕ) → Paired file x y ↔ Paired other x y
  paired_shuffled x y = (there, back)
    where
      there : Paired file x y → Paired other x y
      there p =
          let k = p.0 in
          let s = subst (λ (j : ℕ). SameNumbers (bond_line other (S.to k)) (bond_line file j)) (S.from_to k p.1) (S.same (S.to k) (S.to_inside k p.1)) in
          (S.to k, omega (arith, S.to_inside k p.1, S.bonds), has_same_pair (bond_line file k) (bond_line other (S.to k)) x y (same_back (bond_line other (S.to k)) (bond_line file k) s) p.2)

      back : Paired other x y → Paired file x y
      back p =
          let k = p.0 in
          let l : k < bond_count file = omega (arith, p.1, S.bonds) in
          (S.from k, S.from_inside k l, has_same_pair (bond_line other k) (bond_line file (S.from k)) x y (S.same k l) p.2)

  gives_shuffled : (n : ℕ) (bonds : List Bond) → MolfileOf file n bonds → MolfileOf other n bonds
  gives_shuffled n bonds F = record {
    atoms = F.atoms ∙ sym S.atoms;
    number = F.number ∙ sym S.bonds;
    pairs = λ x y. (λ j. (paired_shuffled x y).0 ((F.pairs x y).0 j), λ p. (F.pairs x y).1 ((paired_shuffled x y).1 p));
  }

  value_shuffled : (c : ℕ) → molfile_value other c ≡ molfile_value file c
  unfolding molfile_value
  value_shuffled c = ap (λ (n : ℕ). cond (eqb c 22) (pos n) (pos 0)) S.atoms

  module _ (z : (molfile_verdict file room).code ≡ 0) where
    parts : (counts_fault (from_line file counts_line) room ≡ 0) × ((first_bond (pair_fault (atom_count file) (bond_line file)) (bond_count file) 0).code ≡ 0)
    unfolding molfile_verdict
    parts = or_clean (counts_fault (from_line file counts_line) room) 0 (first_bond (pair_fault (atom_count file) (bond_line file)) (bond_count file) 0) z

    clean : (k : ℕ) → k < bond_count file → pair_fault (atom_count file) (bond_line file) k ≡ 0
    clean k l = scan_clean (pair_fault (atom_count file) (bond_line file)) (bond_count file) 0 parts.1 k (omega arith) (omega arith)

    from_apart : (j k : ℕ) → j < k → k < bond_count file → S.from j ≡ S.from k → ⊥
    from_apart j k l h e = omega (arith, sym (S.to_from j (omega arith)) ∙ ap S.to e ∙ S.to_from k h)

    clean_other : (k : ℕ) → k < bond_count file → pair_fault (atom_count file) (bond_line other) k ≡ 0
    clean_other k l =
        none_of (atom_count file) (bond_line other) k
        (rights_other (atom_count file) (counts_right (from_line file counts_line) room parts.0).counted.most (bond_line file) (bond_line other) (bond_count file)
        (λ j h. right_of (atom_count file) (bond_line file) j (clean j h)) S.from S.from_inside from_apart S.wide S.numbers S.same k l)

    verdict_shuffled : molfile_verdict other room ≡ molfile_verdict file room
    verdict_shuffled =
        verdict_clean other room (atom_count file) (bond_count file) S.atoms S.bonds S.head clean_other
        ∙ sym (verdict_clean file room (atom_count file) (bond_count file) refl refl parts.0 clean)

abbrev code : Answer → ℕ
code a = a.code

pub shuffled_alike : (file other before after : List ℕ) (r : Reading) → MolfileOutcome file before after r → r.answer.code ≡ 0
    → Shuffled file other (length before) → MolfileOutcome other before after r
shuffled_alike file other before after r R z S = record {
  verdict = R.verdict ∙ sym (verdict_shuffled file other (length before) S (ap code (sym R.verdict) ∙ z));
  signs = R.signs ∙ sym (value_shuffled file other (length before) S r.answer.code);
  refused = R.refused;
  accepts = λ a. (let A = R.accepts a in
      record { list = A.list; counted = A.counted; valid = A.valid; gives = gives_shuffled file other (length before) S r.atoms A.list A.gives; number = A.number; filled = A.filled });
}
