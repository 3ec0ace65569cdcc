-- The table that valid bonds define is a network, with these bonds and no others.
use Rattle.std.proofs.Common.{◌≡◌, refl, sym, ◌∙◌, ap, ap₂, subst, inl, inr, List, [], ◌∷◌, ℕ, zero, suc, ◌+◌, ◌-◌, ◌*◌, ◌≤◌, ◌<◌, arith, length, get_or, replicate, get_or-append-add}
use mathlib.Core.List.Memᴰ
use native.Mathlib.Decide.{dec_lt, ℕ_discrete}
use lib.ListN.{get_or-replicate, get_or-append}
use Rattle.graph.specs.Lists.{◌∈◌, Ascending, gather, numbers_from}
use Rattle.graph.proofs.Lists.{gather_of, gather_has, gather_ascending, place_of, at_place}
use Rattle.network.specs.Maxima.{places, free}
use Rattle.network.specs.Network.{word, Holds, Bonded, Counted, IsNetwork}
use Rattle.bonds.specs.Bonds.{Bond, bond, EarlierBond, Joins, Joined, partner, partners, ValidBonds, row_of, table_of}
use Rattle.bonds.proofs.Partners.{partner_first, partner_second, partner_none, row_length, table_length}

-- the partner in a bond
pub partner_of : (x y : ℕ) (b : Bond) → y ∈ partner x b → Joins b x y
partner_of x y b m = go (ℕ_discrete b.first x) (ℕ_discrete b.second x)
  where
    go : Dec (b.first ≡ x) → Dec (b.second ≡ x) → Joins b x y
    go (yes e) _ = inl (e, sym (Memᴰ.eq_of_singleton (subst (λ (xs : List ℕ). y ∈ xs) (partner_first x b _ refl e) m)))
    go (no e) (yes d) = inr (d, sym (Memᴰ.eq_of_singleton (subst (λ (xs : List ℕ). y ∈ xs) (partner_second x b _ refl e _ refl d) m)))
    go (no e) (no d) = absurd (Memᴰ.not-nil (subst (λ (xs : List ℕ). y ∈ xs) (partner_none x b _ refl e _ refl d) m))

pub partner_has : (x y : ℕ) (b : Bond) → Joins b x y → y ∈ partner x b
partner_has x y b (inl e) = subst (λ (xs : List ℕ). y ∈ xs) (sym (partner_first x b _ refl e.0)) (Memᴰ.head (sym e.1))
partner_has x y b (inr e) = go (ℕ_discrete b.first x)
  where
    go : Dec (b.first ≡ x) → y ∈ partner x b
    go (yes d) = subst (λ (xs : List ℕ). y ∈ xs) (sym (partner_first x b _ refl d)) (Memᴰ.head (sym e.1 ∙ d ∙ sym e.0))
    go (no d) = subst (λ (xs : List ℕ). y ∈ xs) (sym (partner_second x b _ refl d _ refl e.0)) (Memᴰ.head (sym e.1))

pub partners_of : (bonds : List Bond) (x y : ℕ) → y ∈ partners bonds x → Joined bonds x y
unfolding partners
partners_of bonds x y m =
    let r = gather_of (partner x) bonds m in
    go r.0 r.1 (partner_of x y r.0 r.2)
  where
    go : (b : Bond) → b ∈ bonds → Joins b x y → Joined bonds x y
    go b h (inl e) = inl (subst (λ (c : Bond). c ∈ bonds) (ap₂ bond e.0 e.1) h)
    go b h (inr e) = inr (subst (λ (c : Bond). c ∈ bonds) (ap₂ bond e.1 e.0) h)

pub partners_has : (bonds : List Bond) (x y : ℕ) → Joined bonds x y → y ∈ partners bonds x
unfolding partners
partners_has bonds x y (inl h) = gather_has (partner x) h (partner_has x y (bond x y) (inl (refl, refl)))
partners_has bonds x y (inr h) = gather_has (partner x) h (partner_has x y (bond y x) (inr (refl, refl)))

module _ (bonds : List Bond) (ordered : (b : Bond) → b ∈ bonds → b.first < b.second) where
  -- partners ascend where the bonds do
  ascending_with : (xs : List Bond) → ((b : Bond) → b ∈ xs → b.first < b.second) → Ascending EarlierBond xs → Ascending (λ a b. EarlierBond a b × (a.first < a.second) × (b.first < b.second)) xs
  ascending_with [] o h = tt
  ascending_with (x ∷ xs) o h = (λ b m. (h.0 b m, o x (Memᴰ.head refl), o b (Memᴰ.tail m)), ascending_with xs (λ b m. o b (Memᴰ.tail m)) h.1)

  pub partners_ascend : Ascending EarlierBond bonds → (x : ℕ) → Ascending ◌<◌ (partners bonds x)
  unfolding partners
  partners_ascend h x =
      gather_ascending (λ a b. EarlierBond a b × (a.first < a.second) × (b.first < b.second)) ◌<◌ (partner x) bonds (ascending_with bonds ordered h) own
      (λ a b u v e p q. across a b u v e.0 e.1 e.2 (partner_of x u a p) (partner_of x v b q))
    where
      alone : (xs : List ℕ) → length xs ≤ 1 → Ascending ◌<◌ xs
      alone [] l = tt
      alone (a ∷ []) l = (λ b m. absurd (Memᴰ.not-nil m), tt)
      alone (a ∷ b ∷ xs) l = absurd (omega arith)

      own : (b : Bond) → Ascending ◌<◌ (partner x b)
      own b = alone (partner x b) (short (ℕ_discrete b.first x) (ℕ_discrete b.second x))
        where
          short : Dec (b.first ≡ x) → Dec (b.second ≡ x) → length (partner x b) ≤ 1
          short (yes e) _ = omega (arith, ap length (partner_first x b _ refl e))
          short (no e) (yes d) = omega (arith, ap length (partner_second x b _ refl e _ refl d))
          short (no e) (no d) = omega (arith, ap length (partner_none x b _ refl e _ refl d))

      across : (a b : Bond) (u v : ℕ) → EarlierBond a b → a.first < a.second → b.first < b.second
          → Joins a x u → Joins b x v → u < v
      across a b u v (inl e) i j (inl p) (inl q) = absurd (omega (arith, p.0, q.0))
      across a b u v (inr e) i j (inl p) (inl q) = omega (arith, e.1, p.1, q.1)
      across a b u v (inl e) i j (inl p) (inr q) = absurd (omega (arith, p.0, q.0))
      across a b u v (inr e) i j (inl p) (inr q) = absurd (omega (arith, e.0, p.0, q.0))
      across a b u v e i j (inr p) (inl q) = omega (arith, p.0, p.1, q.0, q.1)
      across a b u v (inl e) i j (inr p) (inr q) = omega (arith, p.1, q.1)
      across a b u v (inr e) i j (inr p) (inr q) = absurd (omega (arith, e.1, p.0, q.0))

-- members of an ascending list by their places
pub ascending_places : {A : Type 0} (R : A → A → Type 0) (d : A) (xs : List A) → Ascending R xs → (i j : ℕ) → i < j → j < length xs → R (get_or xs i d) (get_or xs j d)
ascending_places R d [] h i j l k = absurd (omega arith)
ascending_places R d (x ∷ xs) h i zero l k = absurd (omega arith)
ascending_places R d (x ∷ xs) h zero (suc j) l k = h.0 (get_or xs j d) (at_place d xs j (omega arith))
ascending_places R d (x ∷ xs) h (suc i) (suc j) l k = ascending_places R d xs h.1 i j (omega arith) (omega arith)

-- rows of one length, one after another
rows_at : (f : ℕ → List ℕ) → ((x : ℕ) → length (f x) ≡ places) → (n a x p : ℕ) → x < n → p < places → get_or (gather f (numbers_from n a)) (x * places + p) 0 ≡ get_or (f (a + x)) p 0
rows_at f long zero a x p h l = absurd (omega arith)
rows_at f long (suc n) a zero p h l =
    let e : zero * places + p ≡ p = omega arith in
    let d : a + zero ≡ a = omega arith in
    rw (e, d) (get_or-append (f a) (gather f (numbers_from n (suc a))) 0 p (omega (arith, long a)))
rows_at f long (suc n) a (suc x) p h l =
    let e : suc x * places + p ≡ length (f a) + (x * places + p) = omega (arith, long a) in
    let d : a + suc x ≡ suc a + x = omega arith in
    rw (e, d) (get_or-append-add (f a) (gather f (numbers_from n (suc a))) (x * places + p) 0 ∙ rows_at f long n (suc a) x p (omega arith) l)

module _ (n : ℕ) (bonds : List Bond) (eight : (x : ℕ) → length (partners bonds x) ≤ places) (x p : ℕ) (l : x < n) (k : p < places) where
  word_of : word (table_of n bonds) x p ≡ get_or (row_of bonds x) p 0
  unfolding table_of
  word_of = rows_at (row_of bonds) (λ y. row_length bonds y (eight y)) n 0 x p l k ∙ (let e : 0 + x ≡ x = omega arith in ap (λ (y : ℕ). get_or (row_of bonds y) p 0) e)

  -- a place of a row holds a partner, or is free
  pub word_held : p < length (partners bonds x) → word (table_of n bonds) x p ≡ get_or (partners bonds x) p 0
  unfolding row_of
  word_held h = word_of ∙ get_or-append (partners bonds x) (replicate (places - length (partners bonds x)) free) 0 p h

  pub word_free : length (partners bonds x) ≤ p → word (table_of n bonds) x p ≡ free
  unfolding row_of
  word_free h =
      let e : p ≡ length (partners bonds x) + (p - length (partners bonds x)) = omega arith in
      word_of ∙ ap (λ (q : ℕ). get_or (row_of bonds x) q 0) e
      ∙ get_or-append-add (partners bonds x) (replicate (places - length (partners bonds x)) free) (p - length (partners bonds x)) 0
      ∙ get_or-replicate (places - length (partners bonds x)) (p - length (partners bonds x)) free 0 (omega arith)

  held_in : Holds (table_of n bonds) x p → p < length (partners bonds x)
  held_in h = elim (dec_lt p (length (partners bonds x))) [ yes m ↦ m | no m ↦ absurd (h (word_free (omega arith))) ]

module _ (n : ℕ) (bonds : List Bond) (C : Counted n) (B : ValidBonds n bonds) where
  -- a bond's atoms
  pub joined_below : (x y : ℕ) → Joined bonds x y → (x < n) × (y < n)
  joined_below x y (inl h) = omega (arith, B.ordered (bond x y) h, B.below (bond x y) h)
  joined_below x y (inr h) = omega (arith, B.ordered (bond y x) h, B.below (bond y x) h)

  joined_other : (x y : ℕ) → Joined bonds x y → y ≡ x → ⊥
  joined_other x y (inl h) e = omega (arith, B.ordered (bond x y) h)
  joined_other x y (inr h) e = omega (arith, B.ordered (bond y x) h)

  joined_back : (x y : ℕ) → Joined bonds x y → Joined bonds y x
  joined_back x y (inl h) = inr h
  joined_back x y (inr h) = inl h

  held : (x p : ℕ) → x < n → p < places → Holds (table_of n bonds) x p → Joined bonds x (word (table_of n bonds) x p)
  held x p l k h =
      let m = held_in n bonds B.eight x p l k h in
      subst (λ (y : ℕ). Joined bonds x y) (sym (word_held n bonds B.eight x p l k m)) (partners_of bonds x (get_or (partners bonds x) p 0) (at_place 0 (partners bonds x) p m))

  -- a bond of the file stands in the table
  pub joined_bonded : (x y : ℕ) → Joined bonds x y → Bonded (table_of n bonds) x y
  joined_bonded x y j =
      let q = place_of 0 (partners_has bonds x y j) in
      let l : q.0 < places = omega (arith, q.1, B.eight x) in
      let b = joined_below x y j in
      record {
        place = q.0;
        within_row = l;
        in_table = omega (arith, table_length bonds B.eight n, b.0);
        stands = word_held n bonds B.eight x q.0 b.0 l q.1 ∙ q.2;
        atom = λ e. omega (arith, b.1, C.most);
      }

  pub bonded_joined : (x y : ℕ) → Bonded (table_of n bonds) x y → Joined bonds x y
  bonded_joined x y b =
      subst (λ (z : ℕ). Joined bonds x z) b.stands
      (held x b.place (omega (arith, b.in_table, table_length bonds B.eight n)) b.within_row (λ e. b.atom (sym b.stands ∙ e)))

  pub table_network : IsNetwork n (table_of n bonds)
  table_network = record {
    counted = C;
    whole = table_length bonds B.eight n;
    below = λ x p l k h. (joined_below x (word (table_of n bonds) x p) (held x p l k h)).1;
    other = λ x p l k h. joined_other x (word (table_of n bonds) x p) (held x p l k h);
    first = λ x p q l s k h. (let m = held_in n bonds B.eight x q l k h in
        λ e. omega (
          arith,
          e,
          word_held n bonds B.eight x p l (omega arith) (omega arith),
          (joined_below x (get_or (partners bonds x) p 0) (partners_of bonds x (get_or (partners bonds x) p 0) (at_place 0 (partners bonds x) p (omega arith)))).1,
          C.most,
        ));
    ascends = λ x p q l s k h. (let m = held_in n bonds B.eight x q l k h in
        omega (
          arith,
          word_held n bonds B.eight x p l (omega arith) (omega arith),
          word_held n bonds B.eight x q l k m,
          ascending_places ◌<◌ 0 (partners bonds x) (partners_ascend bonds B.ordered B.ascends x) p q s m,
        ));
    answered = λ x p l k h. joined_bonded (word (table_of n bonds) x p) x (joined_back x (word (table_of n bonds) x p) (held x p l k h));
  }
