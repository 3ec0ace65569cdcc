-- Breadth-first levels compute the distance.
use mathlib.Core.Path.{◌≡◌, refl, sym, ◌∙◌, subst}
use mathlib.Core.Logic.{◌⊎◌, inl, inr, ◌↔◌}
use mathlib.Core.Bool.{Bool, true, false, not}
use mathlib.Core.List.Memᴰ
use mathlib.Core.List.{List, [], ◌∷◌}
use Prim.Native.Nat.{ℕ, zero, suc, ◌+◌, ◌≤◌, ◌<◌}
use native.Mathlib.Omega.{arith}
use native.Mathlib.Decide.{dec_le, ℕ_discrete}
use lib.Dec.{T}
use Rattle.graph.specs.Lists.{◌∈◌, gather, cons_if}
use Rattle.graph.specs.Graph.{Walk, Distance}
use Rattle.graph.specs.Finite.{BondedBy}
use Rattle.graph.specs.Levels.{elem, once, hit, spread, levels, walk_ends}
use Rattle.graph.proofs.Lists.{gather_of, gather_has, or_T, true_or_left, true_or_right}
use Rattle.graph.proofs.Distances.{nearest_of, distance_of}

module _ {A : Type 0} (eq : A → A → Bool) (eq_of : (a b : A) → T (eq a b) → a ≡ b) (eq_self : (a : A) → T (eq a a)) where
  pub elem_of : (y : A) (xs : List A) → T (elem eq y xs) → y ∈ xs
  elem_of y [] h = absurd h
  elem_of y (x ∷ xs) h = go (or_T (eq y x) (elem eq y xs) h) (elem_of y xs)
    where
      go : T (eq y x) ⊎ T (elem eq y xs) → (T (elem eq y xs) → y ∈ xs) → y ∈ x ∷ xs
      go (inl e) ih = Memᴰ.head (eq_of y x e)
      go (inr m) ih = Memᴰ.tail (ih m)

  pub elem_has : (y : A) {xs : List A} → y ∈ xs → T (elem eq y xs)
  elem_has y {xs = []} m = elim m [ ]
  elem_has y {xs = x ∷ xs} (Memᴰ.head e) = true_or_left (eq y x) (elem eq y xs) (subst (λ z. T (eq y z)) e (eq_self y))
  elem_has y {xs = x ∷ xs} (Memᴰ.tail m) = true_or_right (eq y x) (elem eq y xs) (elem_has y m)

  hit_low : (far : ℕ) (ls : List (List A)) (d : ℕ) (y : A) → (hit eq far ls d y ≡ far) ⊎ (d ≤ hit eq far ls d y)
  hit_low far [] d y = inl refl
  hit_low far (l ∷ ls) d y = go (elem eq y l) (hit_low far ls (suc d) y)
    where
      it : Bool → ℕ
      it b = elim b [ true ↦ d | false ↦ hit eq far ls (suc d) y ]

      go : (b : Bool) → (hit eq far ls (suc d) y ≡ far) ⊎ (suc d ≤ hit eq far ls (suc d) y) → (it b ≡ far) ⊎ (d ≤ it b)
      go true ih = inr (omega arith)
      go false (inl e) = inl e
      go false (inr h) = inr (omega arith)

  once_of : (xs : List A) {a : A} → a ∈ once eq xs → a ∈ xs
  once_of [] h = h
  once_of (x ∷ xs) {a} h = go (not (elem eq x (once eq xs))) h (once_of xs)
    where
      go : (b : Bool) → a ∈ cons_if b x (once eq xs) → (a ∈ once eq xs → a ∈ xs) → a ∈ x ∷ xs
      go true m ih = sub (Memᴰ.cases_cons m)
        where
          sub : (a ≡ x) ⊎ (a ∈ once eq xs) → a ∈ x ∷ xs
          sub (inl e) = Memᴰ.head e
          sub (inr n) = Memᴰ.tail (ih n)
      go false m ih = Memᴰ.tail (ih m)

  once_has : {a : A} {xs : List A} → a ∈ xs → a ∈ once eq xs
  once_has {xs = []} m = elim m [ ]
  once_has {a} {xs = x ∷ xs} (Memᴰ.head e) = go (elem eq x (once eq xs)) (λ t. Memᴰ.cast e (elem_of x (once eq xs) t))
    where
      go : (b : Bool) → (T b → a ∈ once eq xs) → a ∈ cons_if (not b) x (once eq xs)
      go true h = h tt
      go false h = Memᴰ.head e
  once_has {a} {xs = x ∷ xs} (Memᴰ.tail m) = go (not (elem eq x (once eq xs))) (once_has m)
    where
      go : (b : Bool) → a ∈ once eq xs → a ∈ cons_if b x (once eq xs)
      go true h = Memᴰ.tail h
      go false h = h

  module _ (adj : A → List A) where
    pub after_of : (n : ℕ) (xs : List A) (y : A) → y ∈ walk_ends eq adj n xs → (x : A) × (x ∈ xs) × Walk (BondedBy adj) n x y
    after_of zero xs y m = (y, m, refl)
    after_of (suc n) xs y m =
        let w = after_of n (spread eq adj xs) y m in
        let g = gather_of adj xs (once_of (gather adj xs) w.1) in
        (g.0, g.1, (w.0, g.2, w.2))

    pub after_has : (n : ℕ) (xs : List A) (x y : A) → x ∈ xs → Walk (BondedBy adj) n x y → y ∈ walk_ends eq adj n xs
    after_has zero xs x y m w = Memᴰ.cast (sym w) m
    after_has (suc n) xs x y m w = after_has n (spread eq adj xs) w.0 y (once_has (gather_has adj m w.1)) w.2

    pub walk_from : (n : ℕ) (x y : A) → y ∈ walk_ends eq adj n (x ∷ []) → Walk (BondedBy adj) n x y
    walk_from n x y m = let w = after_of n (x ∷ []) y m in one w.0 (Memᴰ.cases_cons w.1) w.2
      where
        one : (z : A) → (z ≡ x) ⊎ (z ∈ []) → Walk (BondedBy adj) n z y → Walk (BondedBy adj) n x y
        one z (inl e) v = subst (λ t. Walk (BondedBy adj) n t y) e v
        one z (inr k) v = absurd (Memᴰ.not-nil k)

    -- y is first met m levels on
    abbrev First : ℕ → List A → A → Type 0
    First m xs y = (y ∈ walk_ends eq adj m xs) × ((i : ℕ) → i < m → y ∈ walk_ends eq adj i xs → ⊥)

    hit_of : (far n m d : ℕ) (xs : List A) (y : A) → m < n → d + m < far → hit eq far (levels eq adj n xs) d y ≡ d + m → First m xs y
    hit_of far zero m d xs y l c e = absurd (omega arith)
    hit_of far (suc n) zero d xs y l c e = go (elem eq y xs) (elem_of y xs) e (hit_low far (levels eq adj n (spread eq adj xs)) (suc d) y)
      where
        it : ℕ
        it = hit eq far (levels eq adj n (spread eq adj xs)) (suc d) y

        go : (b : Bool) → (T b → y ∈ xs) → elim b as (λ x. ℕ) [ true ↦ d | false ↦ it ] ≡ d + 0 → (it ≡ far) ⊎ (suc d ≤ it) → First zero xs y
        go true f e k = (f tt, λ i l'. absurd (omega arith))
        go false f e (inl k) = absurd (omega arith)
        go false f e (inr k) = absurd (omega arith)
    hit_of far (suc n) (suc m) d xs y l c e = go (elem eq y xs) (elem_has y) e (hit_of far n m (suc d) (spread eq adj xs) y (omega arith) (omega arith))
      where
        it : ℕ
        it = hit eq far (levels eq adj n (spread eq adj xs)) (suc d) y

        go : (b : Bool) → (y ∈ xs → T b) → elim b as (λ x. ℕ) [ true ↦ d | false ↦ it ] ≡ d + suc m → (it ≡ suc d + m → First m (spread eq adj xs) y) → First (suc m) xs y
        go true f e ih = absurd (omega arith)
        go false f e ih = ((ih (omega arith)).0, away)
          where
            away : (i : ℕ) → i < suc m → y ∈ walk_ends eq adj i xs → ⊥
            away zero l' k = f k
            away (suc i) l' k = (ih (omega arith)).1 i (omega arith) k

    hit_has : (far n m d : ℕ) (xs : List A) (y : A) → m < n → First m xs y → hit eq far (levels eq adj n xs) d y ≡ d + m
    hit_has far zero m d xs y l h = absurd (omega arith)
    hit_has far (suc n) zero d xs y l h = go (elem eq y xs) (elem_has y h.0)
      where
        go : (b : Bool) → T b → elim b as (λ x. ℕ) [ true ↦ d | false ↦ hit eq far (levels eq adj n (spread eq adj xs)) (suc d) y ] ≡ d + 0
        go true t = omega arith
        go false t = absurd t
    hit_has far (suc n) (suc m) d xs y l h =
        go (elem eq y xs) (λ t. h.1 0 (omega arith) (elem_of y xs t)) (hit_has far n m (suc d) (spread eq adj xs) y (omega arith) (h.0, λ i l' k. h.1 (suc i) (omega arith) k))
      where
        it : ℕ
        it = hit eq far (levels eq adj n (spread eq adj xs)) (suc d) y

        go : (b : Bool) → (T b → ⊥) → it ≡ suc d + m → elim b as (λ x. ℕ) [ true ↦ d | false ↦ it ] ≡ d + suc m
        go true f e = absurd (f tt)
        go false f e = omega arith

    -- what is met on no level is far
    pub hit_never : (far n d : ℕ) (xs : List A) (y : A) → ((i : ℕ) → i < n → y ∈ walk_ends eq adj i xs → ⊥) → hit eq far (levels eq adj n xs) d y ≡ far
    hit_never far zero d xs y none = refl
    hit_never far (suc n) d xs y none = go (elem eq y xs) (λ t. none 0 (omega arith) (elem_of y xs t)) (hit_never far n (suc d) (spread eq adj xs) y (λ i l m. none (suc i) (omega arith) m))
      where
        go : (b : Bool) → (T b → ⊥) → hit eq far (levels eq adj n (spread eq adj xs)) (suc d) y ≡ far → elim b as (λ x. ℕ) [ true ↦ d | false ↦ hit eq far (levels eq adj n (spread eq adj xs)) (suc d) y ] ≡ far
        go true f e = absurd (f tt)
        go false f e = e

    -- as far as `most` the first level that holds y is the distance
    pub hit_distance : (far most : ℕ) (x y : A) (d : ℕ) → d ≤ most → most < far → (hit eq far (levels eq adj (suc most) (x ∷ [])) 0 y ≡ d) ↔ Distance (BondedBy adj) x y d
    hit_distance far most x y d h c = (to, from)
      where
        to : hit eq far (levels eq adj (suc most) (x ∷ [])) 0 y ≡ d → Distance (BondedBy adj) x y d
        to e =
            let f = hit_of far (suc most) d 0 (x ∷ []) y (omega arith) (omega arith) (omega arith) in
            distance_of (BondedBy adj) x y d (record { walk = walk_from d x y f.0; least = λ n w. low n w (dec_le d n) f })
          where
            low : (n : ℕ) → Walk (BondedBy adj) n x y → Dec (d ≤ n) → First d (x ∷ []) y → d ≤ n
            low n w (yes l) f = l
            low n w (no l) f = absurd (f.1 n (omega arith) (after_has n (x ∷ []) x y (Memᴰ.head refl) w))

        from : Distance (BondedBy adj) x y d → hit eq far (levels eq adj (suc most) (x ∷ [])) 0 y ≡ d
        from e =
            let k = nearest_of (BondedBy adj) x y d e in
            hit_has far (suc most) d 0 (x ∷ []) y (omega arith)
            (after_has d (x ∷ []) x y (Memᴰ.head refl) k.walk, λ i l m. omega (arith, k.least i (walk_from i x y m)))
            ∙ omega arith

    -- the least number of bonds below b
    pub find : (x y : A) (b : ℕ) → ((d : ℕ) × (d < b) × Distance (BondedBy adj) x y d) ⊎ ((i : ℕ) → i < b → Walk (BondedBy adj) i x y → ⊥)
    find x y zero = inr (λ i l w. omega arith)
    find x y (suc b) = go (find x y b) (elem eq y (walk_ends eq adj b (x ∷ []))) (λ t. walk_from b x y (elem_of y (walk_ends eq adj b (x ∷ [])) t)) (λ w. elem_has y (after_has b (x ∷ []) x y (Memᴰ.head refl) w))
      where
        go : ((d : ℕ) × (d < b) × Distance (BondedBy adj) x y d) ⊎ ((i : ℕ) → i < b → Walk (BondedBy adj) i x y → ⊥) → (t : Bool) → (T t → Walk (BondedBy adj) b x y) → (Walk (BondedBy adj) b x y → T t)
            → ((d : ℕ) × (d < suc b) × Distance (BondedBy adj) x y d) ⊎ ((i : ℕ) → i < suc b → Walk (BondedBy adj) i x y → ⊥)
        go (inl h) t f g = inl (h.0, omega (arith, h.1), h.2)
        go (inr h) true f g = inl (b, omega arith, distance_of (BondedBy adj) x y b (record { walk = f tt; least = λ n w. low n w (dec_le b n) }))
          where
            low : (n : ℕ) → Walk (BondedBy adj) n x y → Dec (b ≤ n) → b ≤ n
            low n w (yes l) = l
            low n w (no l) = absurd (h n (omega arith) w)
        go (inr h) false f g = inr (λ i l w. out i l w (ℕ_discrete i b))
          where
            out : (i : ℕ) → i < suc b → Walk (BondedBy adj) i x y → Dec (i ≡ b) → ⊥
            out i l w (yes e) = g (subst (λ k. Walk (BondedBy adj) k x y) e w)
            out i l w (no e) = h i (omega arith) w
