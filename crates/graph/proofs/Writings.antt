-- Every ring has exactly one writing among its readings.
use mathlib.Core.Path.{◌≡◌, sym, ◌∙◌, ap, subst}
use mathlib.Core.Logic.{◌≢◌, ◌⊎◌, inl, inr}
use mathlib.Core.List.{List, map}
use Prim.Native.Nat.{ℕ, zero, suc, ◌+◌, ◌-◌, ◌%◌, ◌≤◌, ◌<◌}
use native.Mathlib.Nat.{mod-lt, le_refl}
use native.Mathlib.Decide.{dec_le, dec_lt, ℕ_discrete}
use native.Mathlib.Omega.{arith}
use lib.ListN.{length, get_or}
use lib.Seq.{ext_get_or}
use Rattle.graph.specs.Lists.{numbers_from}
use Rattle.graph.specs.Graph.{Ring}
use Rattle.graph.specs.Standing.{OneEach}
use Rattle.graph.specs.Writing.{Onwards, Backwards, RingReading, OneWriting}
use Rattle.graph.proofs.Lists.{length_made, get_or_made}
use Rattle.graph.proofs.Readings.{Wrapped, wrap, wrapped, reaches, reading_self, reading_shortest, reading_back}

-- of the least numbers of a list, one stands at a place
least_place : (r : List ℕ) (n : ℕ) → 0 < n → (m : ℕ) × (m < n) × ((i : ℕ) → i < n → get_or r m 0 ≤ get_or r i 0)
least_place r zero h = absurd (omega arith)
least_place r (suc zero) h = (0, omega arith, λ i l. let e : 0 ≡ i = omega arith in subst (λ k. get_or r 0 0 ≤ get_or r k 0) e (le_refl (get_or r 0 0)))
least_place r (suc (suc n)) h = go (least_place r (suc n) (omega arith))
  where
    go : ((m : ℕ) × (m < suc n) × ((i : ℕ) → i < suc n → get_or r m 0 ≤ get_or r i 0)) → (m : ℕ) × (m < suc (suc n)) × ((i : ℕ) → i < suc (suc n) → get_or r m 0 ≤ get_or r i 0)
    go t = pick (dec_le (get_or r t.0 0) (get_or r (suc n) 0))
      where
        pick : Dec (get_or r t.0 0 ≤ get_or r (suc n) 0) → (m : ℕ) × (m < suc (suc n)) × ((i : ℕ) → i < suc (suc n) → get_or r m 0 ≤ get_or r i 0)
        pick (yes c) = (t.0, omega (arith, t.1), λ i l. at i l (ℕ_discrete i (suc n)))
          where
            at : (i : ℕ) → i < suc (suc n) → Dec (i ≡ suc n) → get_or r t.0 0 ≤ get_or r i 0
            at i l (yes e) = subst (λ k. get_or r t.0 0 ≤ get_or r k 0) (sym e) c
            at i l (no e) = t.2 i (omega arith)
        pick (no c) = (suc n, omega arith, λ i l. at i l (ℕ_discrete i (suc n)))
          where
            at : (i : ℕ) → i < suc (suc n) → Dec (i ≡ suc n) → get_or r (suc n) 0 ≤ get_or r i 0
            at i l (yes e) = subst (λ k. get_or r (suc n) 0 ≤ get_or r k 0) (sym e) (omega arith)
            at i l (no e) = omega (arith, t.2 i (omega arith))

-- at most one
pub writing_unique : (r s t : List ℕ) → RingReading 0 r s → RingReading 0 r t → OneWriting s → OneWriting t → 3 ≤ length r → s ≡ t
writing_unique r s t R S u v h = same R.reads S.reads
  where
    e : length s ≡ length r
    e = R.alike

    f : length t ≡ length r
    f = S.alike

    -- place 0 is the start
    zero_at : (m : ℕ) → m < length r → ((m + 0) % length r ≡ m) × ((m + (length r - 0)) % length r ≡ m)
    zero_at m l = (
      wrapped (length r) (m + 0) ((m + 0) % length r) m (wrap (length r) (m + 0) (omega arith)) (inl (omega arith)),
      wrapped (length r) (m + (length r - 0)) ((m + (length r - 0)) % length r) m (wrap (length r) (m + (length r - 0)) (omega arith)) (inr (omega arith)),
    )

    head : (s : List ℕ) (R : RingReading 0 r s) → get_or s 0 0 ≡ get_or r R.start 0
    head s R = go R.reads
      where
        go : Onwards 0 r s R.start ⊎ Backwards 0 r s R.start → get_or s 0 0 ≡ get_or r R.start 0
        go (inl g) = g 0 (omega arith) ∙ ap (λ n. get_or r n 0) (zero_at R.start R.starts).0
        go (inr g) = g 0 (omega arith) ∙ ap (λ n. get_or r n 0) (zero_at R.start R.starts).1

    less : (s t : List ℕ) (R : RingReading 0 r s) (S : RingReading 0 r t) → OneWriting s → (S.start ≡ R.start) ⊎ (get_or s 0 0 < get_or t 0 0)
    less s t R S u = go (reaches 0 r s R S.start S.starts)
      where
        go : ((i : ℕ) × (i < length r) × (get_or s i 0 ≡ get_or r S.start 0) × (i ≡ 0 → S.start ≡ R.start)) → (S.start ≡ R.start) ⊎ (get_or s 0 0 < get_or t 0 0)
        go w = pick (ℕ_discrete w.0 0)
          where
            pick : Dec (w.0 ≡ 0) → (S.start ≡ R.start) ⊎ (get_or s 0 0 < get_or t 0 0)
            pick (yes z) = inl (w.3 z)
            pick (no z) = inr (omega (arith, u.smallest w.0 (omega arith) (omega (arith, w.1, R.alike)), w.2, head t S))

    start : S.start ≡ R.start
    start = go (less s t R S u) (less t s S R v)
      where
        go : (S.start ≡ R.start) ⊎ (get_or s 0 0 < get_or t 0 0) → (R.start ≡ S.start) ⊎ (get_or t 0 0 < get_or s 0 0) → S.start ≡ R.start
        go (inl a) b = a
        go (inr a) (inl b) = sym b
        go (inr a) (inr b) = absurd (omega arith)

    cross : (s t : List ℕ) → length s ≡ length r → length t ≡ length r → OneWriting s → OneWriting t → (m n : ℕ) → m ≡ n
        → Onwards 0 r s m → Backwards 0 r t n → ⊥
    cross s t e f u v m n q a b =
        let x : get_or s 1 0 ≡ get_or t (length r - 1) 0 = a 1 (omega arith) ∙ ap (λ k. get_or r (k % length r) 0) (let z : m + 1 ≡ n + (length r - (length r - 1)) = omega arith in z) ∙ sym (b (length r - 1) (omega arith)) in
        let y : get_or s (length r - 1) 0 ≡ get_or t 1 0 = a (length r - 1) (omega arith) ∙ ap (λ k. get_or r (k % length r) 0) (let z : m + (length r - 1) ≡ n + (length r - 1) = omega arith in z) ∙ sym (b 1 (omega arith)) in
        let p : get_or s 1 0 < get_or s (length r - 1) 0 = subst (λ k. get_or s 1 0 < get_or s (k - 1) 0) e u.turn in
        let w : get_or t 1 0 < get_or t (length r - 1) 0 = subst (λ k. get_or t 1 0 < get_or t (k - 1) 0) f v.turn in
        omega arith

    same : Onwards 0 r s R.start ⊎ Backwards 0 r s R.start
        → Onwards 0 r t S.start ⊎ Backwards 0 r t S.start → s ≡ t
    same (inl a) (inl b) = ext_get_or 0 s t (e ∙ sym f) (λ i l. a i (omega arith) ∙ ap (λ m. get_or r ((m + i) % length r) 0) (sym start) ∙ sym (b i (omega arith)))
    same (inr a) (inr b) = ext_get_or 0 s t (e ∙ sym f) (λ i l. a i (omega arith) ∙ ap (λ m. get_or r ((m + (length r - i)) % length r) 0) (sym start) ∙ sym (b i (omega arith)))
    same (inl a) (inr b) = absurd (cross s t e f u v R.start S.start (sym start) a b)
    same (inr a) (inl b) = absurd (cross t s f e v u S.start R.start start b a)

-- a reading that starts at a smallest vertex is the one writing, if it is read in the right direction
module _ (r : List ℕ) (h : 3 ≤ length r) (d : (i j : ℕ) → i < j → j < length r → get_or r i 0 ≢ get_or r j 0)
    (m : ℕ) (lm : m < length r) (least : (i : ℕ) → i < length r → get_or r m 0 ≤ get_or r i 0) (s : List ℕ) (alike : length s ≡ length r) where
  fw : ℕ → ℕ
  fw i = (m + i) % length r

  bw : ℕ → ℕ
  bw i = (m + (length r - i)) % length r

  away : (a : ℕ) → a < length r + length r → a ≢ m → a ≢ m + length r → a % length r ≢ m
  away a l x y = part (wrap (length r) a l)
    where
      part : Wrapped (length r) a (a % length r) → a % length r ≢ m
      part (inl e) = omega arith
      part (inr e) = omega arith

  ne : (x y : ℕ) → x < length r → y < length r → x ≢ y → get_or r x 0 ≢ get_or r y 0
  ne x y lx ly n = part (dec_lt x y)
    where
      part : Dec (x < y) → get_or r x 0 ≢ get_or r y 0
      part (yes c) = d x y c ly
      part (no c) = λ e. d y x (omega arith) lx (sym e)

  written : (q : ℕ → ℕ) → ((i : ℕ) → i < length r → get_or s i 0 ≡ get_or r (q i) 0) → q 0 ≡ m → ((i : ℕ) → 0 < i → i < length r → q i ≢ m) → ((i : ℕ) → q i < length r)
      → get_or r (q 1) 0 < get_or r (q (length r - 1)) 0 → OneWriting s
  written q reads e f b c = record {
    smallest = λ i l l'.
        omega (arith, reads 0 (omega arith), reads i (omega (arith, alike)), ap (λ z. get_or r z 0) e, least (q i) (b i), ne (q i) m (b i) lm (f i l (omega (arith, alike))));
    turn = rw alike (omega (arith, reads 1 (omega arith), reads (length r - 1) (omega arith)));
  }

  pub onwards_written : Onwards 0 r s m → get_or r ((m + 1) % length r) 0 < get_or r ((m + (length r - 1)) % length r) 0 → OneWriting s
  unfolding fw
  onwards_written reads c =
      written fw reads (wrapped (length r) (m + 0) (fw 0) m (wrap (length r) (m + 0) (omega (arith, lm))) (inl (omega (arith, lm))))
      (λ i l l'. away (m + i) (omega (arith, lm)) (omega (arith, lm)) (omega (arith, lm))) (λ i. mod-lt (m + i) (omega (arith, lm))) c

  pub backwards_written : Backwards 0 r s m → (get_or r ((m + 1) % length r) 0 < get_or r ((m + (length r - 1)) % length r) 0 → ⊥) → OneWriting s
  unfolding fw bw
  backwards_written reads c =
      written bw reads (wrapped (length r) (m + (length r - 0)) (bw 0) m (wrap (length r) (m + (length r - 0)) (omega (arith, lm))) (inr (omega (arith, lm))))
      (λ i l l'. away (m + (length r - i)) (omega (arith, lm)) (omega (arith, lm)) (omega (arith, lm))) (λ i. mod-lt (m + (length r - i)) (omega (arith, lm))) turned
    where
      swapped : bw (length r - 1) ≡ fw 1
      swapped = ap (λ a. a % length r) (let z : m + (length r - (length r - 1)) ≡ m + 1 = omega arith in z)

      apart : Wrapped (length r) (m + 1) (fw 1) → Wrapped (length r) (m + (length r - 1)) (bw 1) → fw 1 ≢ bw 1
      apart (inl x) (inl y) = omega (arith, lm)
      apart (inl x) (inr y) = omega (arith, lm)
      apart (inr x) (inl y) = omega (arith, lm)
      apart (inr x) (inr y) = omega (arith, lm)

      turned : get_or r (bw 1) 0 < get_or r (bw (length r - 1)) 0
      turned = omega (
        arith,
        c,
        ap (λ a. get_or r a 0) swapped,
        ne (fw 1) (bw 1) (mod-lt (m + 1) (omega (arith, lm))) (mod-lt (m + (length r - 1)) (omega (arith, lm)))
            (apart (wrap (length r) (m + 1) (omega (arith, lm))) (wrap (length r) (m + (length r - 1)) (omega (arith, lm)))),
      )

-- at least one
read : List ℕ → (ℕ → ℕ) → List ℕ
read r q = map (λ i. get_or r (q i) 0) (numbers_from (length r) 0)

read_length : (r : List ℕ) (q : ℕ → ℕ) → length (read r q) ≡ length r
unfolding read
read_length r q = length_made (λ i. get_or r (q i) 0) (length r)

read_at : (r : List ℕ) (q : ℕ → ℕ) (i : ℕ) → i < length r → get_or (read r q) i 0 ≡ get_or r (q i) 0
unfolding read
read_at r q i l = get_or_made (λ i. get_or r (q i) 0) 0 (length r) i l

pub writing_exists : (r : List ℕ) → 3 ≤ length r → ((i j : ℕ) → i < j → j < length r → get_or r i 0 ≢ get_or r j 0) → (s : List ℕ) × RingReading 0 r s × OneWriting s
writing_exists r h d = go (dec_lt (get_or r ((m + 1) % length r) 0) (get_or r ((m + (length r - 1)) % length r) 0))
  where
    t : (m : ℕ) × (m < length r) × ((i : ℕ) → i < length r → get_or r m 0 ≤ get_or r i 0)
    t = least_place r (length r) (omega arith)

    m : ℕ
    m = t.0

    fw : ℕ → ℕ
    fw i = (m + i) % length r

    bw : ℕ → ℕ
    bw i = (m + (length r - i)) % length r

    go : Dec (get_or r ((m + 1) % length r) 0 < get_or r ((m + (length r - 1)) % length r) 0) → (s : List ℕ) × RingReading 0 r s × OneWriting s
    go (yes c) = (
      read r fw,
      record { alike = read_length r fw; start = m; starts = t.1; reads = inl (read_at r fw) },
      onwards_written r h d m t.1 t.2 (read r fw) (read_length r fw) (read_at r fw) c,
    )
    go (no c) = (
      read r bw,
      record { alike = read_length r bw; start = m; starts = t.1; reads = inr (read_at r bw) },
      backwards_written r h d m t.1 t.2 (read r bw) (read_length r bw) (read_at r bw) c,
    )

pub exactly_one_writing : (Bonded : ℕ → ℕ → Type 0) (r : List ℕ) → Ring Bonded 0 r
    → (s : List ℕ) × RingReading 0 r s × OneWriting s × ((t : List ℕ) → RingReading 0 r t → OneWriting t → t ≡ s)
exactly_one_writing Bonded r R =
    let w = writing_exists r R.three R.different in
    (w.0, w.1, w.2, λ t T v. writing_unique r t w.0 T w.1 v w.2 R.three)

-- a network of atoms has one writing of each ring
pub one_each : (Bonded : ℕ → ℕ → Type 0) → ((x y : ℕ) → Bonded x y → Bonded y x) → OneEach Bonded 0 (RingReading 0) OneWriting
one_each Bonded back = record {
  self = λ r h. reading_self 0 r (omega arith);
  alike = λ r s R. R.alike;
  back = reading_back 0;
  shortest = reading_shortest 0 Bonded back;
  exists = λ r R. writing_exists r R.three R.different;
  unique = λ r s t h R S u v. writing_unique r s t R S u v h;
}
