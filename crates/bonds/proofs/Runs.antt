-- Runs of stores, and lists gathered one number after another.
use Rattle.std.proofs.Common.{◌≡◌, refl, sym, ◌∙◌, ap, List, [], ◌∷◌, ◌++◌, map, append_assoc, append-nil, ℕ, zero, suc, ◌+◌, ◌≤◌, ◌<◌, add-one, arith, length, set, length-append}
use native.Mathlib.Decide.{ℕ_discrete}
use Rattle.std.proofs.lemmas.List.Edits.{sets}
use Rattle.graph.specs.Lists.{gather, numbers_from}

-- one run after another
pub sets_append : (l : List ℕ) (i : ℕ) (vs ws : List ℕ) → sets (sets l i vs) (i + length vs) ws ≡ sets l i (vs ++ ws)
sets_append l i [] ws = let e : i + 0 ≡ i = omega arith in rw e
sets_append l i (v ∷ vs) ws = let e : i + suc (length vs) ≡ suc i + length vs = omega arith in rw e (sets_append (set l i v) (suc i) vs ws)

pub sets_after : (l m : List ℕ) (i at : ℕ) (vs ws : List ℕ) → m ≡ sets l i vs → at ≡ i + length vs → sets m at ws ≡ sets l i (vs ++ ws)
sets_after l m i at vs ws e d = rw (e, d) (sets_append l i vs ws)

module _ {A B : Type 0} where
  pub gather_append : (f : A → List B) (xs ys : List A) → gather f (xs ++ ys) ≡ gather f xs ++ gather f ys
  gather_append f [] ys = refl
  gather_append f (x ∷ xs) ys = rw (gather_append f xs ys) (sym (append_assoc (f x) (gather f xs) (gather f ys)))

  pub gather_one : (f : A → List B) (xs : List A) (x : A) → gather f (xs ++ (x ∷ [])) ≡ gather f xs ++ f x
  gather_one f xs x = gather_append f xs (x ∷ []) ∙ ap (λ (ys : List B). gather f xs ++ ys) (append-nil (f x))

  pub gather_map : {C : Type 0} (f : A → List B) (g : C → A) (xs : List C) → gather f (map g xs) ≡ gather (λ x. f (g x)) xs
  gather_map f g [] = refl
  gather_map f g (x ∷ xs) = ap (λ (ys : List B). f (g x) ++ ys) (gather_map f g xs)

  map_one : (f : A → B) (xs : List A) (x : A) → map f (xs ++ (x ∷ [])) ≡ map f xs ++ (f x ∷ [])
  map_one f [] x = refl
  map_one f (y ∷ xs) x = ap (λ (ys : List B). f y ∷ ys) (map_one f xs x)

count_suc : (n a : ℕ) → numbers_from (suc n) a ≡ numbers_from n a ++ ((a + n) ∷ [])
count_suc zero a = let e : a + 0 ≡ a = omega arith in rw e
count_suc (suc n) a = let e : a + suc n ≡ suc a + n = omega arith in rw e (ap (λ (ys : List ℕ). a ∷ ys) (count_suc n (suc a)))

pub count_more : (n : ℕ) → numbers_from (n + 1) 0 ≡ numbers_from n 0 ++ (n ∷ [])
count_more n = let e : 0 + n ≡ n = omega arith in rw (add-one n) (count_suc n 0 ∙ ap (λ (k : ℕ). numbers_from n 0 ++ (k ∷ [])) e)

pub gather_more : {B : Type 0} (f : ℕ → List B) (n : ℕ) → gather f (numbers_from (n + 1) 0) ≡ gather f (numbers_from n 0) ++ f n
gather_more f n = ap (gather f) (count_more n) ∙ gather_one f (numbers_from n 0) n

pub map_more : {B : Type 0} (f : ℕ → B) (n : ℕ) → map f (numbers_from (n + 1) 0) ≡ map f (numbers_from n 0) ++ (f n ∷ [])
map_more f n = ap (map f) (count_more n) ∙ map_one f (numbers_from n 0) n

-- what is gathered below k, with what comes at k, is no more than what is gathered below any later number
module _ {B : Type 0} (f : ℕ → List B) where
  pub length_more : (k : ℕ) → length (gather f (numbers_from (k + 1) 0)) ≡ length (gather f (numbers_from k 0)) + length (f k)
  length_more k = ap length (gather_more f k) ∙ length-append (gather f (numbers_from k 0)) (f k)

  no_fewer : (j k : ℕ) → j ≤ k → length (gather f (numbers_from j 0)) ≤ length (gather f (numbers_from k 0))
  no_fewer j zero h = let e : j ≡ 0 = omega arith in rw e (omega arith)
  no_fewer j (suc k) h = go (ℕ_discrete j (suc k)) (no_fewer j k)
    where
      go : Dec (j ≡ suc k) → (j ≤ k → length (gather f (numbers_from j 0)) ≤ length (gather f (numbers_from k 0))) → length (gather f (numbers_from j 0)) ≤ length (gather f (numbers_from (suc k) 0))
      go (yes e) ih = rw e (omega arith)
      go (no e) ih = omega (arith, ih (omega arith), rw add-one at (length_more k))

  pub gather_fits : (k n : ℕ) → k < n → length (gather f (numbers_from k 0)) + length (f k) ≤ length (gather f (numbers_from n 0))
  gather_fits k n h = omega (arith, length_more k, no_fewer (k + 1) n (omega arith))
