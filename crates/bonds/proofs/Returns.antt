-- Both ways: from bonds to their table and its bonds, and from a network to its bonds and their table. Bonds are told by the atoms they join.
use Rattle.std.proofs.Common.{◌≡◌, refl, sym, ◌∙◌, ap, ap₂, subst, ◌↔◌, inl, inr, Bool, true, false, not, List, [], ◌∷◌, ◌++◌, ℕ, zero, suc, ◌+◌, ◌-◌, ◌*◌, ◌/◌, ◌%◌, ◌≤◌, ◌<◌, min, add-one, arith, eqb, length, get_or, take, drop, replicate, length-take, length-drop, get_or-take, get_or-drop, take-add, take_all, eq-eqb, ne_eqb}
use mathlib.Core.List.Memᴰ
use native.Mathlib.Decide.{dec_lt, ℕ_discrete}
use Rattle.graph.specs.Lists.{◌∈◌, Ascending, gather, numbers_from, keep, cons_if}
use Rattle.graph.proofs.Lists.{gather_of, gather_has, gather_ascending, count_of, count_has, ascending_unique}
use Rattle.network.specs.Maxima.{places, free}
use Rattle.network.specs.Network.{word, Bonded, Counted, IsNetwork, neighbours}
use Rattle.network.proofs.Bonds.{bonded_neighbour, neighbour_bonded, bonded_to, bonded_back, bonded_other, finite}
use Rattle.bonds.specs.Bonds.{Bond, bond, EarlierBond, Joined, bond_at, bonds_of, partners, ValidBonds, row_of, table_of}
use Rattle.bonds.proofs.Runs.{gather_more}
use Rattle.bonds.proofs.Order.{earlier_not, earlier_on}
use Rattle.bonds.proofs.TableBonds.{bond_above, bond_below, bond_is}
use Rattle.bonds.proofs.Tables.{partners_of, partners_has, partners_ascend, joined_bonded, bonded_joined, table_network}

-- a bond at word i
module _ (t : List ℕ) (i : ℕ) (b : Bond) (m : b ∈ bond_at t i) where
  stands_at : b ≡ bond (i / places) (get_or t i 0)
  stands_at = Memᴰ.eq_of_singleton (subst (λ (bs : List Bond). b ∈ bs) (bond_is t i (λ e. Memᴰ.not-nil (subst (λ (bs : List Bond). b ∈ bs) e m))) m)

  not_free : get_or t i 0 ≡ free → ⊥
  unfolding bond_at
  not_free h = Memᴰ.not-nil (rw (eq-eqb (get_or t i 0) free h) at m)

  first_below : b.first < b.second
  first_below = go (dec_lt (i / places) (get_or t i 0))
    where
      go : Dec (i / places < get_or t i 0) → b.first < b.second
      go (yes l) = rw (stands_at) l
      go (no l) = absurd (Memᴰ.not-nil (subst (λ (bs : List Bond). b ∈ bs) (bond_below t i not_free (omega arith)) m))

-- the bonds of a table, by their atoms
pub bonds_bonded : (t : List ℕ) (b : Bond) → b ∈ bonds_of t → (b.first < b.second) × Bonded t b.first b.second
unfolding bonds_of
bonds_bonded t b m =
    let r = gather_of (bond_at t) (numbers_from (length t) 0) m in
    let e = stands_at t r.0 b r.2 in
    let h : r.0 < length t = omega (arith, (count_of (length t) 0 r.1).1) in
    let d : r.0 / places * places + r.0 % places ≡ r.0 = omega arith in (
      first_below t r.0 b r.2,
      rw e (record {
        place = r.0 % places;
        within_row = omega arith;
        in_table = omega arith;
        stands = ap (λ (j : ℕ). get_or t j 0) d;
        atom = not_free t r.0 b r.2;
      }),
    )

pub bonded_bonds : (t : List ℕ) (x y : ℕ) → x < y → Bonded t x y → bond x y ∈ bonds_of t
unfolding bonds_of
bonded_bonds t x y l b =
    let e : (x * places + b.place) / places ≡ x = omega (arith, b.within_row) in
    gather_has (bond_at t) (count_has (length t) 0 (x * places + b.place) (omega arith) (omega (arith, b.in_table)))
    (subst (λ (bs : List Bond). bond x y ∈ bs) (sym (bond_above t (x * places + b.place) (λ f. b.atom (sym b.stands ∙ f)) (omega (arith, b.stands))))
    (Memᴰ.head (ap₂ bond (sym e) (sym b.stands))))

-- the numbers below n ascend, and are below n
ascending_count : (n : ℕ) → Ascending (λ i j. (i < j) × (j < n)) (numbers_from n 0)
ascending_count n = go n 0 (omega arith)
  where
    go : (m a : ℕ) → a + m ≤ n → Ascending (λ i j. (i < j) × (j < n)) (numbers_from m a)
    go zero a h = tt
    go (suc m) a h = (λ j k. let r = count_of m (suc a) k in omega arith, go m (suc a) (omega arith))

module _ (n : ℕ) (t : List ℕ) (N : IsNetwork n t) where
  pub bonds_ascend : Ascending EarlierBond (bonds_of t)
  unfolding bonds_of
  bonds_ascend =
      gather_ascending (λ i j. (i < j) × (j < length t)) EarlierBond (bond_at t) (numbers_from (length t) 0) (ascending_count (length t)) own
      (λ i j a b r p q. subst (λ (c : Bond). EarlierBond c b) (sym (stands_at t i a p)) (subst (λ (c : Bond). EarlierBond (bond (i / places) (get_or t i 0)) c) (sym (stands_at t j b q)) (across i j r.0 r.1 (not_free t j b q))))
    where
      own : (i : ℕ) → Ascending EarlierBond (bond_at t i)
      own i = alone (bond_at t i) refl
        where
          alone : (bs : List Bond) → bond_at t i ≡ bs → Ascending EarlierBond bs
          alone [] e = tt
          alone (b ∷ bs) e =
              let z : b ∷ bs ≡ bond (i / places) (get_or t i 0) ∷ [] = sym e ∙ bond_is t i (λ h. Memᴰ.not-nil (subst (λ (cs : List Bond). b ∈ cs) (sym e ∙ h) (Memᴰ.head refl))) in
              subst (Ascending EarlierBond) (sym z) (λ c k. absurd (Memᴰ.not-nil k), tt)

      across : (i j : ℕ) → i < j → j < length t → (get_or t j 0 ≡ free → ⊥) → EarlierBond (bond (i / places) (get_or t i 0)) (bond (j / places) (get_or t j 0))
      across i j l h f = go (ℕ_discrete (i / places) (j / places))
        where
          go : Dec (i / places ≡ j / places) → EarlierBond (bond (i / places) (get_or t i 0)) (bond (j / places) (get_or t j 0))
          go (no d) = inl (omega arith)
          go (yes d) =
              let ei : j / places * places + i % places ≡ i = omega arith in
              let ej : j / places * places + j % places ≡ j = omega arith in
              inr (
                d,
                subst (λ (k : ℕ). get_or t k 0 < get_or t j 0) ei (subst (λ (k : ℕ). word t (j / places) (i % places) < get_or t k 0) ej
                    (N.ascends (j / places) (i % places) (j % places) (omega (arith, N.whole)) (omega arith) (omega arith) (λ e. f (ap (λ (k : ℕ). get_or t k 0) (sym ej) ∙ e)))),
              )

  ordered : (b : Bond) → b ∈ bonds_of t → b.first < b.second
  ordered b m = (bonds_bonded t b m).0

  -- the bonds of a network are its bonds
  pub joined_bond : (x y : ℕ) → Joined (bonds_of t) x y → Bonded t x y
  joined_bond x y (inl h) = (bonds_bonded t (bond x y) h).1
  joined_bond x y (inr h) = bonded_back n t N y x (bonds_bonded t (bond y x) h).1

  pub bond_joined : (x y : ℕ) → Bonded t x y → Joined (bonds_of t) x y
  bond_joined x y b = go (dec_lt x y)
    where
      go : Dec (x < y) → Joined (bonds_of t) x y
      go (yes l) = inl (bonded_bonds t x y l b)
      go (no l) =
          elim (ℕ_discrete x y) [
            | yes e ↦ absurd (bonded_other n t N x (subst (λ (z : ℕ). Bonded t x z) (sym e) b))
            | no e ↦ inr (bonded_bonds t y x (omega arith) (bonded_back n t N x y b))
          ]

  -- the partners of x in them are its neighbours
  pub partners_neighbours : (x : ℕ) → partners (bonds_of t) x ≡ neighbours t x
  partners_neighbours x =
      ascending_unique ◌<◌ (λ a h. omega arith) (λ a b c h k. omega arith) (partners (bonds_of t) x) (neighbours t x) (partners_ascend (bonds_of t) ordered bonds_ascend x) ((finite n t N).ascends x)
      (λ y m. bonded_neighbour t x y (joined_bond x y (partners_of (bonds_of t) x y m)))
      (λ y m. partners_has (bonds_of t) x y (bond_joined x y (neighbour_bonded t x y m)))

-- what is kept of a list is no longer than the list
keep_short : {A : Type 0} (p : A → Bool) (xs : List A) → length (keep p xs) ≤ length xs
keep_short p [] = omega arith
keep_short p (x ∷ xs) = go (p x) (keep_short p xs)
  where
    go : (b : Bool) → length (keep p xs) ≤ length xs → length (cons_if b x (keep p xs)) ≤ suc (length xs)
    go true h = omega arith
    go false h = omega arith

-- a row whose neighbours stand first is its neighbours and then free places
packed : (xs : List ℕ) → ((i j : ℕ) → i < j → j < length xs → (get_or xs j 0 ≡ free → ⊥) → get_or xs i 0 ≡ free → ⊥)
    → xs ≡ keep (λ w. not (eqb w free)) xs ++ replicate (length xs - length (keep (λ w. not (eqb w free)) xs)) free
packed [] h = refl
packed (x ∷ xs) h = go (ℕ_discrete x free) (packed xs (λ i j l k. h (suc i) (suc j) (omega arith) (omega arith)))
  where
    all_free : (ys : List ℕ) → ((j : ℕ) → j < length ys → get_or ys j 0 ≡ free) → (keep (λ w. not (eqb w free)) ys ≡ []) × (ys ≡ replicate (length ys) free)
    all_free [] f = (refl, refl)
    all_free (y ∷ ys) f =
        let e : y ≡ free = f 0 (omega arith) in
        let r = all_free ys (λ j l. f (suc j) (omega arith)) in
        (rw (eq-eqb y free e) r.0, ap₂ ◌∷◌ e r.1)

    go : Dec (x ≡ free) → xs ≡ keep (λ w. not (eqb w free)) xs ++ replicate (length xs - length (keep (λ w. not (eqb w free)) xs)) free
        → x ∷ xs ≡ keep (λ w. not (eqb w free)) (x ∷ xs) ++ replicate (suc (length xs) - length (keep (λ w. not (eqb w free)) (x ∷ xs))) free
    go (yes e) ih =
        let r = all_free (x ∷ xs) (λ j l. free_at j l) in
        let d : suc (length xs) ≡ suc (length xs) - 0 = omega arith in
        rw r.0 (r.1 ∙ ap (λ (k : ℕ). replicate k free) d)
      where
        free_at : (j : ℕ) → j < suc (length xs) → get_or (x ∷ xs) j 0 ≡ free
        free_at zero l = e
        free_at (suc j) l = elim (ℕ_discrete (get_or xs j 0) free) [ yes d ↦ d | no d ↦ absurd (h 0 (suc j) (omega arith) l d e) ]
    go (no e) ih =
        let d : suc (length xs) - suc (length (keep (λ w. not (eqb w free)) xs)) ≡ length xs - length (keep (λ w. not (eqb w free)) xs) = omega arith in
        rw (ne_eqb x free e, d) (ap (λ (ys : List ℕ). x ∷ ys) ih)

module _ (n : ℕ) (t : List ℕ) (N : IsNetwork n t) where
  pub bonds_valid : ValidBonds n (bonds_of t)
  bonds_valid = record {
    ordered = λ b m. (bonds_bonded t b m).0;
    below = λ b m. bonded_to n t N b.first b.second (bonds_bonded t b m).1;
    ascends = bonds_ascend n t N;
    eight = λ x. rw (partners_neighbours n t N x) (omega (arith, keep_short (λ w. not (eqb w free)) (take places (drop (x * places) t)), length-take places (drop (x * places) t)));
  }

  row_is : (x : ℕ) → x < n → row_of (bonds_of t) x ≡ take places (drop (x * places) t)
  unfolding row_of
  row_is x l =
      let long : length (take places (drop (x * places) t)) ≡ places = length-take places (drop (x * places) t) ∙ (let e : min places (length (drop (x * places) t)) ≡ places = omega (arith, length-drop (x * places) t, N.whole) in e) in
      rw (partners_neighbours n t N x) (sym (packed (take places (drop (x * places) t)) first ∙ ap (λ (k : ℕ). neighbours t x ++ replicate (k - length (neighbours t x)) free) long))
    where
      at : (p : ℕ) → p < places → get_or (take places (drop (x * places) t)) p 0 ≡ word t x p
      at p h = get_or-take places (drop (x * places) t) p 0 h ∙ get_or-drop (x * places) t p 0

      first : (i j : ℕ) → i < j → j < length (take places (drop (x * places) t)) → (get_or (take places (drop (x * places) t)) j 0 ≡ free → ⊥) → get_or (take places (drop (x * places) t)) i 0 ≡ free → ⊥
      first i j h k f e =
          let kj : j < places = omega (arith, length-take places (drop (x * places) t)) in
          N.first x i j l h kj (λ d. f (at j kj ∙ d)) (sym (at i (omega arith)) ∙ e)

  rows_are : (k : ℕ) → k ≤ n → gather (row_of (bonds_of t)) (numbers_from k 0) ≡ take (k * places) t
  rows_are zero h = refl
  rows_are (suc k) h =
      let e : suc k * places ≡ k * places + places = omega arith in
      rw add-one at (gather_more (row_of (bonds_of t)) k) ∙ ap₂ ◌++◌ (rows_are k (omega arith)) (row_is k h) ∙ sym (ap (λ (j : ℕ). take j t) e ∙ take-add (k * places) places t)

  -- from a network to its bonds and back
  pub table_back : table_of n (bonds_of t) ≡ t
  unfolding table_of
  table_back = rows_are n (omega arith) ∙ take_all (n * places) t (omega (arith, N.whole))

-- valid bonds that join the same atoms are the same
pub valid_unique : (n : ℕ) (bonds more : List Bond) → ValidBonds n bonds → ValidBonds n more → ((x y : ℕ) → Joined bonds x y ↔ Joined more x y) → bonds ≡ more
valid_unique n bonds more B C same =
    ascending_unique EarlierBond earlier_not earlier_on bonds more B.ascends C.ascends
    (λ b m. stands more C b (B.ordered b m) ((same b.first b.second).0 (inl m)))
    (λ b m. stands bonds B b (C.ordered b m) ((same b.first b.second).1 (inl m)))
  where
    stands : (bs : List Bond) → ValidBonds n bs → (b : Bond) → b.first < b.second → Joined bs b.first b.second → b ∈ bs
    stands bs D b l (inl h) = h
    stands bs D b l (inr h) = absurd (omega (arith, D.ordered (bond b.second b.first) h))

-- from bonds to their table and back
pub bonds_back : (n : ℕ) (bonds : List Bond) → Counted n → ValidBonds n bonds → bonds_of (table_of n bonds) ≡ bonds
bonds_back n bonds C B =
    let t = table_of n bonds in
    let N : IsNetwork n (table_of n bonds) = table_network n bonds C B in
    valid_unique n (bonds_of t) bonds (bonds_valid n t N) B
    (λ x y. (λ j. bonded_joined n bonds C B x y (joined_bond n t N x y j), λ j. bond_joined n t N x y (joined_bonded n bonds C B x y j)))
