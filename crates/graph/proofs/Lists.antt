-- Laws of lists: what is written from the start, gathered, kept and counted, tests, and ascending lists, which their members determine.
use mathlib.Core.Path.{◌≡◌, refl, sym, ◌∙◌, ap, ap₂, subst}
use mathlib.Core.Logic.{◌≢◌, ◌⊎◌, inl, inr}
use mathlib.Core.Bool.{Bool, true, false, ◌&&◌, ◌||◌}
use mathlib.Core.List.Memᴰ
use mathlib.Core.List.{List, [], ◌∷◌, ◌++◌, map}
use Prim.Native.Nat.{ℕ, zero, suc, ◌+◌, ◌≤◌, ◌<◌}
use native.Mathlib.Omega.{arith}
use native.Mathlib.Decide.{ℕ_discrete}
use lib.Dec.{T}
use lib.ListN.{length, get_or, drop, length-map}
use lib.Seq.{sets, sets-eq}
use Rattle.graph.specs.Lists.{◌∈◌, Ascending, gather, cons_if, keep, numbers_from, every}

-- words written from the start of a list stand before its rest
pub sets_front : (l vs : List ℕ) → length vs ≤ length l → sets l 0 vs ≡ vs ++ drop (length vs) l
sets_front l vs h = let e : 0 + length vs ≡ length vs = omega arith in sets-eq vs l 0 (omega arith) ∙ ap (λ (k : ℕ). vs ++ drop k l) e

pub and_T : (a b : Bool) → T (a && b) → T a × T b
and_T true true h = (tt, tt)
and_T true false h = absurd h
and_T false b h = absurd h

pub T_and : (a b : Bool) → T a → T b → T (a && b)
T_and true b h k = k
T_and false b h k = absurd h

module _ {A B : Type 0} where
  pub gather_of : (f : A → List B) (xs : List A) {b : B} → b ∈ gather f xs → (a : A) × (a ∈ xs) × (b ∈ f a)
  gather_of f [] h = absurd (Memᴰ.not-nil h)
  gather_of f (x ∷ xs) {b} h = go (gather_of f xs) (Memᴰ.append_cases (f x) h)
    where
      go : (b ∈ gather f xs → (a : A) × (a ∈ xs) × (b ∈ f a)) → (b ∈ f x) ⊎ (b ∈ gather f xs) → (a : A) × (a ∈ x ∷ xs) × (b ∈ f a)
      go ih (inl m) = (x, Memᴰ.head refl, m)
      go ih (inr m) = let r = ih m in (r.0, Memᴰ.tail r.1, r.2)

  pub gather_has : (f : A → List B) {a : A} {xs : List A} {b : B} → a ∈ xs → b ∈ f a → b ∈ gather f xs
  gather_has f {xs = []} m k = elim m [ ]
  gather_has f {xs = x ∷ xs} {b = b} (Memᴰ.head e) m = Memᴰ.append_left (gather f xs) (subst (λ a. b ∈ f a) e m)
  gather_has f {xs = x ∷ xs} (Memᴰ.tail h) m = Memᴰ.append_right (f x) (gather_has f h m)

  pub map_of : (f : A → B) (xs : List A) {b : B} → b ∈ map f xs → (a : A) × (a ∈ xs) × (b ≡ f a)
  map_of f [] h = absurd (Memᴰ.not-nil h)
  map_of f (x ∷ xs) {b} h = go (map_of f xs) (Memᴰ.cases_cons h)
    where
      go : (b ∈ map f xs → (a : A) × (a ∈ xs) × (b ≡ f a)) → (b ≡ f x) ⊎ (b ∈ map f xs) → (a : A) × (a ∈ x ∷ xs) × (b ≡ f a)
      go ih (inl e) = (x, Memᴰ.head refl, e)
      go ih (inr m) = let r = ih m in (r.0, Memᴰ.tail r.1, r.2)

  pub map_has : (f : A → B) {a : A} {xs : List A} → a ∈ xs → f a ∈ map f xs
  map_has f (Memᴰ.head e) = Memᴰ.head (ap f e)
  map_has f (Memᴰ.tail m) = Memᴰ.tail (map_has f m)

module _ {A : Type 0} where
  cons_if_of : (b : Bool) (x : A) (xs : List A) {a : A} → a ∈ cons_if b x xs → (T b × (a ≡ x)) ⊎ (a ∈ xs)
  cons_if_of true x xs h = go (Memᴰ.cases_cons h)
    where
      go : {a : A} → (a ≡ x) ⊎ (a ∈ xs) → (Unit {0} × (a ≡ x)) ⊎ (a ∈ xs)
      go (inl e) = inl (tt, e)
      go (inr m) = inr m
  cons_if_of false x xs h = inr h

  cons_if_tail : (b : Bool) (x : A) {xs : List A} {a : A} → a ∈ xs → a ∈ cons_if b x xs
  cons_if_tail true x m = Memᴰ.tail m
  cons_if_tail false x m = m

  cons_if_head : (b : Bool) (x : A) (xs : List A) {a : A} → T b → a ≡ x → a ∈ cons_if b x xs
  cons_if_head true x xs h e = Memᴰ.head e
  cons_if_head false x xs h e = absurd h

  pub keep_of : (p : A → Bool) (xs : List A) {a : A} → a ∈ keep p xs → (a ∈ xs) × T (p a)
  keep_of p [] h = absurd (Memᴰ.not-nil h)
  keep_of p (x ∷ xs) {a} h = go (keep_of p xs) (cons_if_of (p x) x (keep p xs) h)
    where
      go : (a ∈ keep p xs → (a ∈ xs) × T (p a)) → (T (p x) × (a ≡ x)) ⊎ (a ∈ keep p xs) → (a ∈ x ∷ xs) × T (p a)
      go ih (inl t) = (Memᴰ.head t.1, subst (λ y. T (p y)) (sym t.1) t.0)
      go ih (inr m) = let r = ih m in (Memᴰ.tail r.0, r.1)

  pub keep_has : (p : A → Bool) {a : A} {xs : List A} → a ∈ xs → T (p a) → a ∈ keep p xs
  keep_has p {xs = []} m t = elim m [ ]
  keep_has p {xs = x ∷ xs} (Memᴰ.head e) t = cons_if_head (p x) x (keep p xs) (subst (λ y. T (p y)) e t) e
  keep_has p {xs = x ∷ xs} (Memᴰ.tail m) t = cons_if_tail (p x) x (keep_has p m t)

pub or_T : (a b : Bool) → T (a || b) → T a ⊎ T b
or_T true b h = inl tt
or_T false b h = inr h

pub true_or_left : (a b : Bool) → T a → T (a || b)
true_or_left true b h = tt
true_or_left false b h = absurd h

pub true_or_right : (a b : Bool) → T b → T (a || b)
true_or_right true b h = tt
true_or_right false b h = h

pub every_of : {A : Type 0} (p : A → Bool) (xs : List A) → T (every p xs) → (a : A) → a ∈ xs → T (p a)
every_of p [] h a m = absurd (Memᴰ.not-nil m)
every_of p (x ∷ xs) h a m = go (Memᴰ.cases_cons m) (every_of p xs (and_T (p x) (every p xs) h).1 a)
  where
    go : (a ≡ x) ⊎ (a ∈ xs) → (a ∈ xs → T (p a)) → T (p a)
    go (inl e) ih = subst (λ z. T (p z)) (sym e) (and_T (p x) (every p xs) h).0
    go (inr n) ih = ih n

-- members by their places
pub place_of : {A : Type 0} (d : A) {a : A} {xs : List A} → a ∈ xs → (i : ℕ) × (i < length xs) × (get_or xs i d ≡ a)
place_of d (Memᴰ.head e) = (0, omega arith, sym e)
place_of d (Memᴰ.tail m) = let t = place_of d m in (suc t.0, omega (arith, t.1), t.2)

pub at_place : {A : Type 0} (d : A) (xs : List A) (i : ℕ) → i < length xs → get_or xs i d ∈ xs
at_place d [] i l = absurd (omega arith)
at_place d (x ∷ xs) zero l = Memᴰ.head refl
at_place d (x ∷ xs) (suc i) l = Memᴰ.tail (at_place d xs i (omega arith))

-- ascending lists
module _ {A : Type 0} (R : A → A → Type 0) where
  pub append_ascending : (xs ys : List A) → Ascending R xs → Ascending R ys → ((a b : A) → a ∈ xs → b ∈ ys → R a b) → Ascending R (xs ++ ys)
  append_ascending [] ys h k c = k
  append_ascending (x ∷ xs) ys h k c = (λ b m. go b (Memᴰ.append_cases xs m), append_ascending xs ys h.1 k (λ a b m n. c a b (Memᴰ.tail m) n))
    where
      go : (b : A) → (b ∈ xs) ⊎ (b ∈ ys) → R x b
      go b (inl m) = h.0 b m
      go b (inr m) = c x b (Memᴰ.head refl) m

  pub keep_ascending : (p : A → Bool) (xs : List A) → Ascending R xs → Ascending R (keep p xs)
  keep_ascending p [] h = tt
  keep_ascending p (x ∷ xs) h = go (p x) (keep_ascending p xs h.1)
    where
      go : (b : Bool) → Ascending R (keep p xs) → Ascending R (cons_if b x (keep p xs))
      go true k = (λ b m. h.0 b (keep_of p xs m).0, k)
      go false k = k

  -- what is kept ascends where any two that pass do
  pub keep_ascends : (d : A) (p : A → Bool) (xs : List A) → ((i j : ℕ) → i < j → j < length xs → T (p (get_or xs i d)) → T (p (get_or xs j d)) → R (get_or xs i d) (get_or xs j d)) → Ascending R (keep p xs)
  keep_ascends d p [] h = tt
  keep_ascends d p (x ∷ xs) h = go (p x) (h 0) (keep_ascends d p xs (λ i j l k. h (suc i) (suc j) (omega arith) (omega arith)))
    where
      go : (b : Bool) → ((j : ℕ) → 0 < j → j < suc (length xs) → T b → T (p (get_or (x ∷ xs) j d)) → R x (get_or (x ∷ xs) j d)) → Ascending R (keep p xs) → Ascending R (cons_if b x (keep p xs))
      go true f k = (
        λ b m.
            let w = keep_of p xs m in
            let q = place_of d w.0 in
            subst (λ y. R x y) q.2 (f (suc q.0) (omega arith) (omega (arith, q.1)) tt (subst (λ y. T (p y)) (sym q.2) w.1)),
        k,
      )
      go false f k = k

  -- ascending lists with the same members are the same list
  module _ (irr : (a : A) → R a a → ⊥) (tr : (a b c : A) → R a b → R b c → R a c) where
    first : (x y : A) (xs ys : List A) → ((b : A) → b ∈ xs → R x b) → ((b : A) → b ∈ ys → R y b)
        → (x ≡ y) ⊎ (x ∈ ys) → (y ≡ x) ⊎ (y ∈ xs) → x ≡ y
    first x y xs ys f g (inl e) _ = e
    first x y xs ys f g (inr m) (inl e) = sym e
    first x y xs ys f g (inr m) (inr n) = absurd (irr x (tr x y x (f y n) (g x m)))

    rest : (x y : A) (xs ys : List A) → ((b : A) → b ∈ xs → R x b) → x ≡ y → ((a : A) → a ∈ x ∷ xs → a ∈ y ∷ ys) → (a : A) → a ∈ xs → a ∈ ys
    rest x y xs ys f e h a m = go (Memᴰ.cases_cons (h a (Memᴰ.tail m)))
      where
        go : (a ≡ y) ⊎ (a ∈ ys) → a ∈ ys
        go (inl d) = absurd (irr x (subst (λ z. R x z) (d ∙ sym e) (f a m)))
        go (inr n) = n

    pub ascending_unique : (xs ys : List A) → Ascending R xs → Ascending R ys → ((a : A) → a ∈ xs → a ∈ ys) → ((a : A) → a ∈ ys → a ∈ xs) → xs ≡ ys
    ascending_unique [] [] f g h k = refl
    ascending_unique [] (y ∷ ys) f g h k = absurd (Memᴰ.not-nil (k y (Memᴰ.head refl)))
    ascending_unique (x ∷ xs) [] f g h k = absurd (Memᴰ.not-nil (h x (Memᴰ.head refl)))
    ascending_unique (x ∷ xs) (y ∷ ys) f g h k =
        let e = first x y xs ys f.0 g.0 (Memᴰ.cases_cons (h x (Memᴰ.head refl))) (Memᴰ.cases_cons (k y (Memᴰ.head refl))) in
        ap₂ ◌∷◌ e (ascending_unique xs ys f.1 g.1 (rest x y xs ys f.0 e h) (rest y x ys xs g.0 (sym e) k))

-- lists gathered along an ascending list
pub gather_ascending : {A B : Type 0} (R : A → A → Type 0) (S : B → B → Type 0) (f : A → List B) (xs : List A) → Ascending R xs
    → ((a : A) → Ascending S (f a)) → ((a b : A) (x y : B) → R a b → x ∈ f a → y ∈ f b → S x y) → Ascending S (gather f xs)
gather_ascending R S f [] h own across = tt
gather_ascending R S f (x ∷ xs) h own across =
    append_ascending S (f x) (gather f xs) (own x) (gather_ascending R S f xs h.1 own across)
    (λ a b m n. let r = gather_of f xs n in across x r.0 a b (h.0 r.0 r.1) m r.2)

pub count_of : (n a : ℕ) {k : ℕ} → k ∈ numbers_from n a → (a ≤ k) × (k < a + n)
count_of zero a h = absurd (Memᴰ.not-nil h)
count_of (suc n) a {k} h = go (count_of n (suc a)) (Memᴰ.cases_cons h)
  where
    go : (k ∈ numbers_from n (suc a) → (suc a ≤ k) × (k < suc a + n)) → (k ≡ a) ⊎ (k ∈ numbers_from n (suc a)) → (a ≤ k) × (k < a + suc n)
    go ih (inl e) = omega arith
    go ih (inr m) = let r = ih m in omega arith

pub count_ascending : (n a : ℕ) → Ascending ◌<◌ (numbers_from n a)
count_ascending zero a = tt
count_ascending (suc n) a = (λ b m. (count_of n (suc a) m).0, count_ascending n (suc a))

pub count_has : (n a k : ℕ) → a ≤ k → k < a + n → k ∈ numbers_from n a
count_has zero a k h l = absurd (omega arith)
count_has (suc n) a k h l = go (ℕ_discrete k a) (count_has n (suc a) k)
  where
    go : Dec (k ≡ a) → (suc a ≤ k → k < suc a + n → k ∈ numbers_from n (suc a)) → k ∈ numbers_from (suc n) a
    go (yes e) ih = Memᴰ.head e
    go (no e) ih = Memᴰ.tail (ih (omega arith) (omega arith))

-- places
pub get_or_map : {A B : Type 0} (f : A → B) (l : List A) (i : ℕ) (a : A) (b : B) → i < length l → get_or (map f l) i b ≡ f (get_or l i a)
get_or_map f [] i a b h = absurd (omega arith)
get_or_map f (x ∷ l) zero a b h = refl
get_or_map f (x ∷ l) (suc i) a b h = get_or_map f l i a b (omega arith)

pub length_count : (n a : ℕ) → length (numbers_from n a) ≡ n
length_count zero a = refl
length_count (suc n) a = ap suc (length_count n (suc a))

pub get_or_count : (n a i d : ℕ) → i < n → get_or (numbers_from n a) i d ≡ a + i
get_or_count zero a i d h = absurd (omega arith)
get_or_count (suc n) a zero d h = omega arith
get_or_count (suc n) a (suc i) d h = get_or_count n (suc a) i d (omega arith) ∙ omega arith

pub apart_places : {A : Type 0} (R : A → A → Type 0) (irr : (a : A) → R a a → ⊥) (d : A) (xs : List A) → Ascending R xs → (i j : ℕ) → i < j → j < length xs → get_or xs i d ≢ get_or xs j d
apart_places R irr d [] h i j l k e = omega arith
apart_places R irr d (x ∷ xs) h i zero l k e = omega arith
apart_places R irr d (x ∷ xs) h zero (suc j) l k e = irr x (subst (λ y. R x y) (sym e) (h.0 (get_or xs j d) (at_place d xs j (omega arith))))
apart_places R irr d (x ∷ xs) h (suc i) (suc j) l k e = apart_places R irr d xs h.1 i j (omega arith) (omega arith) e

pub map_same : {A : Type 0} (xs : List A) → map (λ x. x) xs ≡ xs
map_same [] = refl
map_same (x ∷ xs) = ap (λ ys. x ∷ ys) (map_same xs)

-- a list made from its places
pub length_made : {A : Type 0} (f : ℕ → A) (n : ℕ) → length (map f (numbers_from n 0)) ≡ n
length_made f n = length-map (numbers_from n 0) f ∙ length_count n 0

pub get_or_made : {A : Type 0} (f : ℕ → A) (d : A) (n i : ℕ) → i < n → get_or (map f (numbers_from n 0)) i d ≡ f i
get_or_made f d n i l = get_or_map f (numbers_from n 0) i 0 d (omega (arith, length_count n 0)) ∙ ap f (get_or_count n 0 i 0 l ∙ omega arith)
