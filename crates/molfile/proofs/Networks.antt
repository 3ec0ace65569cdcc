-- The rows that hold the bonds of a molfile are those of a network with these bonds and no others.
use Rattle.std.proofs.Common.{◌≡◌, refl, sym, ◌∙◌, ap, subst, ◌⊎◌, inl, inr, List, [], ◌∷◌, ℕ, ◌+◌, ◌*◌, ◌≤◌, ◌<◌, arith, length, get_or, take, length-append, get_or-take, length-take-le}
use Rattle.std.proofs.Math.Decide.{dec_lt}
use mathlib.Core.List.Memᴰ
use Rattle.graph.specs.Lists.{◌∈◌, gather, numbers_from}
use Rattle.graph.proofs.Lists.{at_place, ascending_unique, length_made}
use Rattle.network.specs.Maxima.{places}
use Rattle.network.specs.Network.{word, Holds, Bonded, Counted, IsNetwork}
use Rattle.bonds.specs.Bonds.{Bond, partners, bonds_of, bonds_below}
use Rattle.bonds.proofs.Order.{numbered}
use Rattle.bonds.proofs.Twice.{twice}
use Rattle.bonds.proofs.Tables.{partners_of, partners_has, partners_ascend, ascending_places}
use Rattle.bonds.proofs.Returns.{bonds_bonded, bonds_ascend, joined_bond, bond_joined, bonds_valid}
use Rattle.molfile.specs.Judging.{pair_of}
use Rattle.molfile.specs.Rows.{risen_on, held_row, Held}
use Rattle.molfile.proofs.Inserted.{risen_length, risen_of, risen_has}
use Rattle.molfile.proofs.Judged.{RightPair, held_here, held_free, held_of, held_has}
use Rattle.molfile.proofs.Holding.{eight, low, back, other, ascends}

module _ (n : ℕ) (C : Counted n) (line : ℕ → List ℕ) (m : ℕ) (right : (k : ℕ) → k < m → RightPair n line k) (rows : List ℕ) (H : Held rows (bonds_below (pair_of line) m)) where
  abbrev bonded : ℕ → List ℕ
  bonded x = partners (bonds_below (pair_of line) m) x

  abbrev few : (x : ℕ) → length (bonded x) ≤ places
  few x = eight n C.most line m right m x (omega arith)

  abbrev table : List ℕ
  table = take (places * n) rows

  pub whole : length table ≡ places * n
  whole = length-take-le (places * n) rows (omega (arith, H.long, C.most))

  word_is : (x p : ℕ) → x < n → p < places → word table x p ≡ get_or (held_row (bonded x)) p 0
  word_is x p l k = get_or-take (places * n) rows (x * places + p) 0 (omega arith) ∙ H.row x p (omega (arith, C.most)) k

  -- the place of a neighbour comes before the free ones
  held_in : (x p : ℕ) → x < n → p < places → Holds table x p → p < length (bonded x)
  held_in x p l k h = elim (dec_lt p (length (bonded x))) [ yes i ↦ i | no i ↦ absurd (h (word_is x p l k ∙ held_free (bonded x) (few x) p (omega arith) k)) ]

  word_held : (x p : ℕ) → x < n → p < places → p < length (bonded x) → word table x p ≡ get_or (risen_on [] (bonded x)) p 0
  word_held x p l k h = word_is x p l k ∙ held_here (bonded x) (few x) p h

  in_list : (x y : ℕ) → (y ∈ []) ⊎ (y ∈ bonded x) → y ∈ bonded x
  in_list x y (inl i) = absurd (Memᴰ.not-nil i)
  in_list x y (inr i) = i

  risen_at : (x p : ℕ) → p < length (bonded x) → get_or (risen_on [] (bonded x)) p 0 ∈ bonded x
  risen_at x p h = in_list x _ (risen_of _ [] (bonded x) (at_place 0 (risen_on [] (bonded x)) p (omega (arith, risen_length [] (bonded x)))))

  held : (x p : ℕ) → x < n → p < places → Holds table x p → word table x p ∈ bonded x
  held x p l k h = held_of (bonded x) (few x) (word table x p) p k (sym (word_is x p l k)) h

  low_one : (x y : ℕ) → y ∈ bonded x → (y < n) × (x < n)
  low_one x y i = low n C.most line m right m x y (omega arith) i

  pub stands : (x y : ℕ) → y ∈ bonded x → Bonded table x y
  stands x y i =
      let q = held_has (bonded x) (few x) y i in
      let l = low_one x y i in
      record {
        place = q.0;
        within_row = q.1;
        in_table = omega (arith, whole, l.1, q.1);
        stands = word_is x q.0 l.1 q.1 ∙ q.2;
        atom = λ e. omega (arith, l.0, C.most);
      }

  pub stood : (x y : ℕ) → Bonded table x y → y ∈ bonded x
  stood x y b =
      let l : x < n = omega (arith, b.in_table, whole) in
      held_of (bonded x) (few x) y b.place b.within_row (sym (word_is x b.place l b.within_row) ∙ b.stands) b.atom

  pub network : IsNetwork n table
  network = record {
    counted = C;
    whole = whole;
    below = λ x p l k h. (low_one x (word table x p) (held x p l k h)).0;
    other = λ x p l k h e. other n C.most line m right m x (omega arith) (subst (λ (y : ℕ). y ∈ bonded x) e (held x p l k h));
    first = λ x p q l s k h e. (let i = held_in x q l k h in
        omega (arith, sym (word_held x p l (omega arith) (omega arith)) ∙ e, (low_one x (get_or (risen_on [] (bonded x)) p 0) (risen_at x p (omega arith))).0, C.most));
    ascends = λ x p q l s k h. (let i = held_in x q l k h in
        omega (
          arith,
          word_held x p l (omega arith) (omega arith),
          word_held x q l k i,
          ascending_places ◌<◌ 0 (risen_on [] (bonded x)) (ascends n C.most line m right m x (omega arith)) p q s (omega (arith, risen_length [] (bonded x))),
        ));
    answered = λ x p l k h. stands (word table x p) x (back n C.most line m right m x (word table x p) (omega arith) (held x p l k h));
  }

  -- its bonds are as many as the lines
  same_partners : (x : ℕ) → partners (bonds_of table) x ≡ risen_on [] (bonded x)
  same_partners x =
      ascending_unique ◌<◌ (λ a h. omega arith) (λ a b c h k. omega arith) (partners (bonds_of table) x) (risen_on [] (bonded x))
      (partners_ascend (bonds_of table) (λ b i. (bonds_bonded table b i).0) (bonds_ascend n table network) x)
      (ascends n C.most line m right m x (omega arith))
      (λ y i. risen_has y [] (bonded x) (inr (stood x y (joined_bond n table network x y (partners_of (bonds_of table) x y i)))))
      (λ y i. partners_has (bonds_of table) x y (bond_joined n table network x y (stands x y (in_list x y (risen_of y [] (bonded x) i)))))

  same_lengths : (f g : ℕ → List ℕ) → ((x : ℕ) → length (f x) ≡ length (g x)) → (xs : List ℕ) → length (gather f xs) ≡ length (gather g xs)
  same_lengths f g e [] = refl
  same_lengths f g e (x ∷ xs) = length-append (f x) (gather f xs) ∙ omega (arith, e x, same_lengths f g e xs, length-append (g x) (gather g xs))

  pub number : length (bonds_of table) ≡ m
  number =
      omega (
        arith,
        twice n (bonds_of table) (λ b i. let v = bonds_valid n table network in (λ e. omega (arith, v.ordered b i), omega (arith, v.ordered b i, v.below b i), v.below b i)),
        same_lengths (partners (bonds_of table)) bonded (λ x. omega (arith, ap length (same_partners x), risen_length [] (bonded x))) (numbers_from n 0),
        twice n (bonds_below (pair_of line) m) pairs,
        length_made (pair_of line) m,
      )
    where
      pairs : (b : Bond) → b ∈ bonds_below (pair_of line) m → (b.first ≡ b.second → ⊥) × (b.first < n) × (b.second < n)
      pairs b i =
          let j = numbered (pair_of line) m i in
          let R = right j.0 j.1 in
          subst (λ (c : Bond). (c.first ≡ c.second → ⊥) × (c.first < n) × (c.second < n)) (sym j.2) (R.apart, omega (arith, R.first.0, R.first.1), omega (arith, R.second.0, R.second.1))
