-- Tests and lists over the numbers below a bound.
use mathlib.Core.Path.{◌≡◌, refl, subst}
use mathlib.Core.Bool.{Bool, true, false, and-false, or-true, and-eq-true_iff}
use mathlib.Core.Logic.{⊎_elim}
use mathlib.Core.List.Memᴰ
use mathlib.Core.List.{List, [], append-nil, Memᴰ}
use Prim.Native.Nat.{ℕ, zero, suc, ◌+◌, ◌<◌, ◌≤◌}
use native.Mathlib.Nat.{not-suc-le-zero, le_of_suc-le-suc, eq-or-lt_of_le, lt-suc_self, lt_trans}
use native.Mathlib.Numerals.{add-one}
use native.Mathlib.Omega.{arith}
use Rattle.paths.specs.Search.{all_below, gather_below}
use Rattle.paths.specs.Turn.{any_below}

pub all_more : (f : ℕ → Bool) (i : ℕ) → all_below i f ≡ true → f i ≡ true → all_below (i + 1) f ≡ true
unfolding all_below
all_more f i h hi = rw (add-one, h, hi)

pub all_fails : (f : ℕ → Bool) (n i : ℕ) → i < n → f i ≡ false → all_below n f ≡ false
unfolding all_below
all_fails f zero i h e = absurd (not-suc-le-zero h)
all_fails f (suc n) i h e =
    ⊎_elim (λ q. rw (subst (λ (x : ℕ). f x ≡ false) q e) (and-false (all_below n f)))
    (λ lt. rw (all_fails f n i lt e))
    (eq-or-lt_of_le (le_of_suc-le-suc h))

pub all_done : (f : ℕ → Bool) (i n : ℕ) → i ≤ n → n ≤ i → all_below i f ≡ true → true ≡ all_below n f
all_done f i n le ge h = let e : n ≡ i = omega arith in rw (e, h)

pub any_found : (f : ℕ → Bool) (n i : ℕ) → i < n → f i ≡ true → any_below n f ≡ true
unfolding any_below
any_found f zero i h e = absurd (not-suc-le-zero h)
any_found f (suc n) i h e =
    ⊎_elim (λ q. rw (subst (λ (x : ℕ). f x ≡ true) q e) (or-true (any_below n f)))
    (λ lt. rw (any_found f n i lt e))
    (eq-or-lt_of_le (le_of_suc-le-suc h))

pub any_none : (f : ℕ → Bool) (n : ℕ) → ((i : ℕ) → i < n → f i ≡ false) → any_below n f ≡ false
unfolding any_below
any_none f zero h = refl
any_none f (suc n) h = rw (any_none f n (λ i lt. h i (omega arith)), h n (omega arith))

pub gather_rest : (f : ℕ → List (List ℕ)) (i n : ℕ) → i ≤ n → ((j : ℕ) → i ≤ j → j < n → f j ≡ []) → gather_below i f ≡ gather_below n f
unfolding gather_below
gather_rest f zero zero h e = refl
gather_rest f (suc i) zero h e = absurd (omega arith)
gather_rest f i (suc n) h e =
    ⊎_elim
    (λ q. rw q)
    (λ lt. rw (e n (le_of_suc-le-suc lt) (omega arith), append-nil) (gather_rest f i n (le_of_suc-le-suc lt) (λ j ge l. e j ge (omega arith))))
    (eq-or-lt_of_le h)

pub all_intro : (f : ℕ → Bool) (n : ℕ) → ((i : ℕ) → i < n → f i ≡ true) → all_below n f ≡ true
unfolding all_below
all_intro f zero h = refl
all_intro f (suc n) h = rw (all_intro f n (λ i lt. h i (lt_trans lt (lt-suc_self n))), h n (lt-suc_self n))

pub all_elim : (f : ℕ → Bool) (n : ℕ) → all_below n f ≡ true → (i : ℕ) → i < n → f i ≡ true
unfolding all_below
all_elim f zero e i lt = absurd (not-suc-le-zero lt)
all_elim f (suc n) e i lt =
    let b = (and-eq-true_iff (all_below n f) (f n)).0 e in
    ⊎_elim (λ q. rw q b.1) (λ l. all_elim f n b.0 i l) (eq-or-lt_of_le (le_of_suc-le-suc lt))

pub gather_intro : (f : ℕ → List (List ℕ)) (n j : ℕ) {r : List ℕ} → j < n → Memᴰ r (f j) → Memᴰ r (gather_below n f)
unfolding gather_below
gather_intro f zero j lt m = absurd (not-suc-le-zero lt)
gather_intro f (suc n) j {r} lt m =
    ⊎_elim
    (λ q. Memᴰ.append_right (gather_below n f) (subst (λ (x : ℕ). Memᴰ r (f x)) q m))
    (λ l. Memᴰ.append_left (f n) (gather_intro f n j l m))
    (eq-or-lt_of_le (le_of_suc-le-suc lt))

pub gather_elim : (f : ℕ → List (List ℕ)) (n : ℕ) {r : List ℕ} → Memᴰ r (gather_below n f) → (j : ℕ) × (j < n) × Memᴰ r (f j)
unfolding gather_below
gather_elim f zero m = absurd (Memᴰ.not-nil m)
gather_elim f (suc n) {r} m =
    ⊎_elim
    (λ l. let g = gather_elim f n l in (g.0, lt_trans g.1 (lt-suc_self n), g.2))
    (λ l. (n, lt-suc_self n, l))
    (Memᴰ.append_cases (gather_below n f) m)
