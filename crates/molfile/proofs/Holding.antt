-- The rows hold the bonds, one after the other.
use Rattle.std.proofs.Common.{◌≡◌, refl, sym, ◌∙◌, ap, subst, ◌⊎◌, inl, inr, List, [], ◌∷◌, ◌++◌, append-nil, ℕ, zero, suc, ◌+◌, ◌*◌, ◌≤◌, ◌<◌, add-one, arith, length, get_or}
use Rattle.std.proofs.Math.Decide.{ℕ_discrete, dec_lt}
use mathlib.Core.List.Memᴰ
use Rattle.graph.specs.Lists.{◌∈◌, Ascending, numbers_from}
use Rattle.graph.proofs.Lists.{gather_of, gather_has, map_of, map_has, count_of, count_has}
use Rattle.network.specs.Maxima.{atoms_most, places, free}
use Rattle.network.specs.Network.{word}
use Rattle.bonds.specs.Bonds.{Bond, Joins, partner, partners, bonds_below}
use Rattle.bonds.proofs.Partners.{partner_first, partner_second, partner_none, partners_more, partners_start, rooms}
use Rattle.bonds.proofs.Tables.{partner_of, partner_has}
use Rattle.molfile.specs.Judging.{pair_of}
use Rattle.molfile.specs.Rows.{risen_on, held_row, Held, inserted_at, with_bond}
use Rattle.molfile.proofs.Inserted.{inserted_ascends, risen_more, risen_of, held_more, inserted_at_length, inserted_at_outside, inserted_at_inside}
use Rattle.molfile.proofs.Judged.{RightPair, held_length}

-- a partner more in row x
module _ (rows : List ℕ) (x y : ℕ) where
  row_in : (ys : List ℕ) → length ys < places → y < free → ((w : ℕ) → w ∈ ys → w < free) → x * places + places ≤ length rows
      → ((q : ℕ) → q < places → word rows x q ≡ get_or (held_row ys) q 0) → (p : ℕ) → p < places → word (inserted_at rows (x * places) places y) x p ≡ get_or (held_row (ys ++ (y ∷ []))) p 0
  row_in ys few low below room same p l =
      let long : length (held_row ys) ≡ places = held_length ys (omega arith) in
      ap (λ (k : ℕ). get_or (inserted_at rows (x * places) k y) (x * places + p) 0) (sym long)
      ∙ inserted_at_inside (x * places) y p rows (held_row ys) (λ q h. same q (omega arith)) (omega arith) (omega arith)
      ∙ ap (λ (ws : List ℕ). get_or ws p 0) (held_more y ys few low below)

  -- and no other row changes
  row_out : (z p : ℕ) → p < places → (z ≡ x → ⊥) → word (inserted_at rows (x * places) places y) z p ≡ word rows z p
  row_out z p l h = inserted_at_outside places (x * places) y (z * places + p) rows (side (dec_lt z x))
    where
      side : Dec (z < x) → (z * places + p < x * places) ⊎ (x * places + places ≤ z * places + p)
      side (yes k) = inl (omega arith)
      side (no k) = inr (omega (arith, h))

-- the partners of x, bond by bond
module _ (n : ℕ) (few : n ≤ atoms_most) (line : ℕ → List ℕ) (m : ℕ) (right : (k : ℕ) → k < m → RightPair n line k) where
  abbrev bond : ℕ → Bond
  bond = pair_of line

  abbrev bonded : ℕ → ℕ → List ℕ
  bonded k x = partners (bonds_below bond k) x

  more : (k x : ℕ) → bonded (suc k) x ≡ bonded k x ++ partner x (bond k)
  more k x = rw add-one at (partners_more bond x k)

  -- what bond k gives to x: its other atom, or nothing
  data Share (k x : ℕ) : Type 0 where
    first_has : (bond k).first ≡ x → partner x (bond k) ≡ (bond k).second ∷ [] → Share k x
    second_has : (bond k).second ≡ x → ((bond k).first ≡ x → ⊥) → partner x (bond k) ≡ (bond k).first ∷ [] → Share k x
    none_has : ((bond k).first ≡ x → ⊥) → ((bond k).second ≡ x → ⊥) → partner x (bond k) ≡ [] → Share k x

  share : (k x : ℕ) → Share k x
  share k x = go (ℕ_discrete (bond k).first x) (ℕ_discrete (bond k).second x)
    where
      go : Dec ((bond k).first ≡ x) → Dec ((bond k).second ≡ x) → Share k x
      go (yes e) _ = first_has e (partner_first x (bond k) _ refl e)
      go (no e) (yes d) = second_has d e (partner_second x (bond k) _ refl e _ refl d)
      go (no e) (no d) = none_has e d (partner_none x (bond k) _ refl e _ refl d)

  first_low : (k : ℕ) → k < m → (bond k).first < n
  first_low k l = let R = right k l in omega (arith, R.first.0, R.first.1)

  second_low : (k : ℕ) → k < m → (bond k).second < n
  second_low k l = let R = right k l in omega (arith, R.second.0, R.second.1)

  pub eight : (k x : ℕ) → k ≤ m → length (bonded k x) ≤ places
  eight k x l = rooms bond m (λ j h. ((right j h).room_first, (right j h).room_second)) x k l

  -- y is a partner of x exactly when a bond has the two, either way round
  pub bond_of : (k x y : ℕ) → y ∈ bonded k x → (j : ℕ) × (j < k) × Joins (bond j) x y
  unfolding partners
  bond_of k x y i =
      let g = gather_of (partner x) (bonds_below bond k) i in
      let f = map_of bond (numbers_from k 0) g.1 in
      (f.0, omega (arith, (count_of k 0 f.1).1), partner_of x y (bond f.0) (subst (λ (b : Bond). y ∈ partner x b) f.2 g.2))

  pub bond_has : (k j x y : ℕ) → k ≤ m → j < k → Joins (bond j) x y → y ∈ bonded k x
  unfolding partners
  bond_has k j x y l h e = gather_has (partner x) (map_has bond (count_has k 0 j (omega arith) (omega arith))) (partner_has x y (bond j) e)

  pub back : (k x y : ℕ) → k ≤ m → y ∈ bonded k x → x ∈ bonded k y
  back k x y l i = let g = bond_of k x y i in bond_has k g.0 y x l g.1 (turn g.0 g.2)
    where
      turn : (j : ℕ) → Joins (bond j) x y → Joins (bond j) y x
      turn j (inl e) = inr (e.1, e.0)
      turn j (inr e) = inl (e.1, e.0)

  pub low : (k x y : ℕ) → k ≤ m → y ∈ bonded k x → (y < n) × (x < n)
  low k x y l i = let g = bond_of k x y i in of_bond g.0 (omega (arith, g.1)) g.2
    where
      of_bond : (j : ℕ) → j < m → Joins (bond j) x y → (y < n) × (x < n)
      of_bond j h (inl e) = (omega (arith, e.1, second_low j h), omega (arith, e.0, first_low j h))
      of_bond j h (inr e) = (omega (arith, e.1, first_low j h), omega (arith, e.0, second_low j h))

  pub other : (k x : ℕ) → k ≤ m → x ∈ bonded k x → ⊥
  other k x l i = let g = bond_of k x x i in of_bond g.0 (omega (arith, g.1)) g.2
    where
      of_bond : (j : ℕ) → j < m → Joins (bond j) x x → ⊥
      of_bond j h (inl e) = (right j h).apart (e.0 ∙ sym e.1)
      of_bond j h (inr e) = (right j h).apart (e.1 ∙ sym e.0)

  low_free : (k x y : ℕ) → k ≤ m → y ∈ bonded k x → y < free
  low_free k x y l h = omega (arith, (low k x y l h).0)

  -- the rows, with the bond of line k more
  pub holds_more : (k : ℕ) → k < m → (rows : List ℕ) → Held rows (bonds_below bond k) → Held (with_bond rows (bond k).first (bond k).second) (bonds_below bond (suc k))
  holds_more k l rows H = record {
    long = inserted_at_length places (b * places) a (inserted_at rows (a * places) places b) ∙ inserted_at_length places (a * places) b rows ∙ H.long;
    row = λ x p h q. grown x p h q (share k x);
  }
    where
      a : ℕ
      a = (bond k).first

      b : ℕ
      b = (bond k).second

      next : List ℕ
      next = inserted_at rows (a * places) places b

      as_more : (x p : ℕ) (ys : List ℕ) → partner x (bond k) ≡ ys → {w : ℕ} → w ≡ get_or (held_row (bonded k x ++ ys)) p 0 → w ≡ get_or (held_row (bonded (suc k) x)) p 0
      as_more x p ys e d = d ∙ ap (λ (zs : List ℕ). get_or (held_row zs) p 0) (sym (more k x ∙ ap (λ (zs : List ℕ). bonded k x ++ zs) e))

      long_next : length next ≡ places * atoms_most
      long_next = inserted_at_length places (a * places) b rows ∙ H.long

      at_first : (p : ℕ) → p < places → word next a p ≡ get_or (held_row (bonded k a ++ (b ∷ []))) p 0
      at_first p q =
          row_in rows a b (bonded k a) (right k l).room_first (omega (arith, second_low k l)) (λ w i. low_free k a w (omega arith) i)
          (omega (arith, H.long, first_low k l)) (λ r s. H.row a r (omega (arith, first_low k l)) s) p q

      at_second : (p : ℕ) → p < places → word (inserted_at next (b * places) places a) b p ≡ get_or (held_row (bonded k b ++ (a ∷ []))) p 0
      at_second p q =
          row_in next b a (bonded k b) (right k l).room_second (omega (arith, first_low k l)) (λ w i. low_free k b w (omega arith) i)
          (omega (arith, long_next, second_low k l))
          (λ r s. row_out rows a b b r s (λ e. (right k l).apart (sym e)) ∙ H.row b r (omega (arith, second_low k l)) s) p q

      grown : (x p : ℕ) → x < atoms_most → p < places → Share k x → word (inserted_at next (b * places) places a) x p ≡ get_or (held_row (bonded (suc k) x)) p 0
      grown x p h q (first_has e d) =
          as_more x p (b ∷ []) d
          (row_out next b a x p q (λ c. (right k l).apart (e ∙ c)) ∙ subst (λ (z : ℕ). word next z p ≡ get_or (held_row (bonded k z ++ (b ∷ []))) p 0) e (at_first p q))
      grown x p h q (second_has e c d) =
          as_more x p (a ∷ []) d (subst (λ (z : ℕ). word (inserted_at next (b * places) places a) z p ≡ get_or (held_row (bonded k z ++ (a ∷ []))) p 0) e (at_second p q))
      grown x p h q (none_has c e d) =
          as_more x p [] d
          (row_out next b a x p q (λ f. e (sym f)) ∙ row_out rows a b x p q (λ f. c (sym f)) ∙ H.row x p h q ∙ ap (λ (zs : List ℕ). get_or (held_row zs) p 0) (sym (append-nil (bonded k x))))

  -- each row ascends
  pub ascends : (k x : ℕ) → k ≤ m → Ascending ◌<◌ (risen_on [] (bonded k x))
  ascends zero x l = subst (λ (ys : List ℕ). Ascending ◌<◌ (risen_on [] ys)) (sym (none (bonded zero x) (partners_start bond x))) tt
    where
      none : (ys : List ℕ) → 0 ≡ length ys → ys ≡ []
      none [] e = refl
      none (z ∷ ys) e = absurd (omega arith)
  ascends (suc k) x l = go (share k x) (ascends k x (omega arith))
    where
      with_one : (y : ℕ) → partner x (bond k) ≡ y ∷ [] → (y ∈ bonded k x → ⊥) → Ascending ◌<◌ (risen_on [] (bonded k x)) → Ascending ◌<◌ (risen_on [] (bonded (suc k) x))
      with_one y e new ih =
          subst (Ascending ◌<◌) (sym (ap (risen_on []) (more k x ∙ ap (λ (zs : List ℕ). bonded k x ++ zs) e) ∙ risen_more [] (bonded k x) y))
          (inserted_ascends y (risen_on [] (bonded k x)) ih (λ i. old (risen_of y [] (bonded k x) i)))
        where
          old : (y ∈ []) ⊎ (y ∈ bonded k x) → ⊥
          old (inl i) = Memᴰ.not-nil i
          old (inr i) = new i

      go : Share k x → Ascending ◌<◌ (risen_on [] (bonded k x)) → Ascending ◌<◌ (risen_on [] (bonded (suc k) x))
      go (first_has e d) ih = with_one (bond k).second d (subst (λ (z : ℕ). (bond k).second ∈ bonded k z → ⊥) e (right k l).new) ih
      go (second_has e c d) ih = with_one (bond k).first d (λ i. (right k l).new (subst (λ (z : ℕ). z ∈ bonded k (bond k).first) (sym e) (back k x (bond k).first (omega arith) i))) ih
      go (none_has c e d) ih = subst (λ (ys : List ℕ). Ascending ◌<◌ (risen_on [] ys)) (sym (more k x ∙ ap (λ (zs : List ℕ). bonded k x ++ zs) d ∙ append-nil (bonded k x))) ih
