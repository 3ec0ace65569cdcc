-- Each reading of a ring, from any place in either direction, is a ring of the same kind, reads every place, and can be read back.
use mathlib.Core.Path.{◌≡◌, refl, sym, ◌∙◌, ap, subst}
use mathlib.Core.Logic.{◌≢◌, ◌⊎◌, inl, inr}
use mathlib.Core.List.{List, map}
use Prim.Native.Nat.{ℕ, suc, ◌+◌, ◌-◌, ◌%◌, ◌≤◌, ◌<◌}
use native.Mathlib.Nat.{add_assoc, mod-eq_of_lt, mod-eq-sub-mod, mod-lt, mod-add-mod, add-mod-mod, add-mod_right}
use native.Mathlib.Decide.{dec_le, dec_lt}
use native.Mathlib.Omega.{arith}
use lib.ListN.{length, get_or, length-map}
use Rattle.graph.specs.Graph.{around, Distance, Ring, ShortestPathRing}
use Rattle.graph.specs.Writing.{Onwards, Backwards, RingReading}
use Rattle.graph.proofs.Lists.{get_or_map}
use Rattle.graph.proofs.Distances.{distance_back}
use Rattle.graph.proofs.Rings.{ring_by_distances}

-- x is a, taken round a ring of k
abbrev pub Wrapped : ℕ → ℕ → ℕ → Type 0
Wrapped k a x = ((x ≡ a) × (a < k)) ⊎ (x + k ≡ a)

pub wrap : (k a : ℕ) → a < k + k → Wrapped k a (a % k)
wrap k a h = go (dec_lt a k)
  where
    go : Dec (a < k) → Wrapped k a (a % k)
    go (yes l) = inl (mod-eq_of_lt l, l)
    go (no l) =
        let e : a % k ≡ (a - k) % k = mod-eq-sub-mod (omega arith) in
        let f : (a - k) % k ≡ a - k = mod-eq_of_lt (omega arith) in
        inr (omega arith)

pub wrapped : (k a x y : ℕ) → Wrapped k a x → Wrapped k a y → x ≡ y
wrapped k a x y (inl e) (inl f) = omega arith
wrapped k a x y (inl e) (inr f) = absurd (omega arith)
wrapped k a x y (inr e) (inl f) = absurd (omega arith)
wrapped k a x y (inr e) (inr f) = omega arith

-- two places read round a ring, onwards or backwards, lie as far apart as before
abbrev Chord : ℕ → ℕ → ℕ → ℕ → Type 0
Chord k g x y = ((x < y) × (around k (y - x) ≡ around k g)) ⊎ ((y < x) × (around k (x - y) ≡ around k g))

chord : (k g a b x y : ℕ) → 0 < g → g < k → a < k + k → b < k + k → Wrapped k a x → Wrapped k b y → (a + g ≡ b) ⊎ (b + g ≡ a) → Chord k g x y
chord k g a b x y h l la lb (inl e) (inl f) (inl d) = inl (omega arith)
chord k g a b x y h l la lb (inl e) (inl f) (inr d) = inr (omega arith)
chord k g a b x y h l la lb (inl e) (inr f) (inl d) = inr (omega arith)
chord k g a b x y h l la lb (inl e) (inr f) (inr d) = absurd (omega arith)
chord k g a b x y h l la lb (inr e) (inl f) (inl d) = absurd (omega arith)
chord k g a b x y h l la lb (inr e) (inl f) (inr d) = inl (omega arith)
chord k g a b x y h l la lb (inr e) (inr f) (inl d) = inl (omega arith)
chord k g a b x y h l la lb (inr e) (inr f) (inr d) = inr (omega arith)

module _ {Vertex : Type 0} (o : Vertex) where
  -- the places x and y of r that are read at i and j of s
  record Pair (r s : List Vertex) (i j : ℕ) : Type 0 where
    x : ℕ
    y : ℕ
    below_x : x < length r
    below_y : y < length r
    at_i : get_or s i o ≡ get_or r x o
    at_j : get_or s j o ≡ get_or r y o
    alike : Chord (length r) (j - i) x y

  pair : (r s : List Vertex) → RingReading o r s → (i j : ℕ) → i < j → j < length r → Pair r s i j
  pair r s R i j l k = go R.reads
    where
      lm : R.start < length r
      lm = R.starts

      from : (a b : ℕ) → a < length r + length r → b < length r + length r → get_or s i o ≡ get_or r (a % length r) o → get_or s j o ≡ get_or r (b % length r) o
          → (a + (j - i) ≡ b) ⊎ (b + (j - i) ≡ a) → Pair r s i j
      from a b la lb ea eb d = record {
        x = a % length r;
        y = b % length r;
        below_x = mod-lt a (omega arith);
        below_y = mod-lt b (omega arith);
        at_i = ea;
        at_j = eb;
        alike = chord (length r) (j - i) a b (a % length r) (b % length r) (omega arith) (omega arith) la lb (wrap (length r) a la) (wrap (length r) b lb) d;
      }

      go : Onwards o r s R.start ⊎ Backwards o r s R.start → Pair r s i j
      go (inl f) = from (R.start + i) (R.start + j) (omega (arith, lm)) (omega (arith, lm)) (f i (omega arith)) (f j k) (inl (omega arith))
      go (inr f) = from (R.start + (length r - i)) (R.start + (length r - j)) (omega (arith, lm)) (omega (arith, lm)) (f i (omega arith)) (f j k) (inr (omega arith))

  module _ (Bonded : Vertex → Vertex → Type 0) (back : (x y : Vertex) → Bonded x y → Bonded y x) (r s : List Vertex) (R : RingReading o r s) where
    pub reading_ring : Ring Bonded o r → Ring Bonded o s
    reading_ring h = record {
      three = omega (arith, R.alike, h.three);
      different = λ i j l k. let p = pair r s R i j l (omega (arith, R.alike)) in λ q. differ (j - i) p.x p.y p.below_x p.below_y p.alike (sym p.at_i ∙ q ∙ p.at_j);
      next = λ i l. let p = pair r s R i (suc i) (omega arith) (omega (arith, R.alike)) in rw (p.at_i, p.at_j) (near (suc i - i) p.x p.y p.below_x p.below_y (omega arith) (omega (arith, h.three)) p.alike);
      closes = rw R.alike (let p = pair r s R 0 (length r - 1) (omega (arith, h.three)) (omega (arith, h.three)) in
          rw (p.at_i, p.at_j) (back (get_or r p.x o) (get_or r p.y o) (near (length r - 1 - 0) p.x p.y p.below_x p.below_y (omega (arith, h.three)) (omega (arith, h.three)) p.alike)));
    }
      where
        differ : (g x y : ℕ) → x < length r → y < length r → Chord (length r) g x y → get_or r x o ≢ get_or r y o
        differ g x y lx ly (inl c) = h.different x y c.0 ly
        differ g x y lx ly (inr c) = λ q. h.different y x c.0 lx (sym q)

        step : (x y : ℕ) → x < y → y < length r → around (length r) (y - x) ≡ 1 → Bonded (get_or r x o) (get_or r y o)
        step x y l k a = go (dec_le y (suc x))
          where
            go : Dec (y ≤ suc x) → Bonded (get_or r x o) (get_or r y o)
            go (yes d) = let q : suc x ≡ y = omega arith in subst (λ z. Bonded (get_or r x o) (get_or r z o)) q (h.next x (omega arith))
            go (no d) =
                let q : 0 ≡ x = omega arith in
                let t : length r - 1 ≡ y = omega arith in
                back (get_or r y o) (get_or r x o) (subst (λ z. Bonded (get_or r y o) (get_or r z o)) q (subst (λ z. Bonded (get_or r z o) (get_or r 0 o)) t h.closes))

        near : (g x y : ℕ) → x < length r → y < length r → around (length r) g ≡ 1 → 3 ≤ length r → Chord (length r) g x y → Bonded (get_or r x o) (get_or r y o)
        near g x y lx ly a t (inl c) = step x y c.0 ly (c.1 ∙ a)
        near g x y lx ly a t (inr c) = back (get_or r y o) (get_or r x o) (step y x c.0 lx (c.1 ∙ a))

    pub reading_shortest : ShortestPathRing Bonded o r → ShortestPathRing Bonded o s
    reading_shortest h = ring_by_distances Bonded back o s (omega (arith, R.alike, h.ring.three))
        (λ i j l k.
        let p = pair r s R i j l (omega (arith, R.alike)) in
        rw (R.alike, p.at_i, p.at_j) (far (j - i) p.x p.y p.below_x p.below_y p.alike))
      where
        far : (g x y : ℕ) → x < length r → y < length r → Chord (length r) g x y → Distance Bonded (get_or r x o) (get_or r y o) (around (length r) g)
        far g x y lx ly (inl c) = subst (λ d. Distance Bonded (get_or r x o) (get_or r y o) d) c.1 (h.shortest x y c.0 ly)
        far g x y lx ly (inr c) =
            distance_back Bonded back (get_or r y o) (get_or r x o) (around (length r) g)
            (subst (λ d. Distance Bonded (get_or r y o) (get_or r x o) d) c.1 (h.shortest y x c.0 lx))

  -- every place of r is read
  pub reaches : (r s : List Vertex) (R : RingReading o r s) (p : ℕ) → p < length r → (i : ℕ) × (i < length r) × (get_or s i o ≡ get_or r p o) × (i ≡ 0 → p ≡ R.start)
  reaches r s R p l = go R.reads (dec_le R.start p) (dec_lt R.start p)
    where
      lm : R.start < length r
      lm = R.starts

      onto : (a i : ℕ) → i < length r → a < length r + length r → get_or s i o ≡ get_or r (a % length r) o → Wrapped (length r) a p → get_or s i o ≡ get_or r p o
      onto a i li la e w = e ∙ ap (λ n. get_or r n o) (wrapped (length r) a (a % length r) p (wrap (length r) a la) w)

      go : Onwards o r s R.start ⊎ Backwards o r s R.start
          → Dec (R.start ≤ p) → Dec (R.start < p) → (i : ℕ) × (i < length r) × (get_or s i o ≡ get_or r p o) × (i ≡ 0 → p ≡ R.start)
      go (inl f) (yes c) _ =
          let li : p - R.start < length r = omega arith in
          (p - R.start, li, onto (R.start + (p - R.start)) (p - R.start) li (omega (arith, lm)) (f (p - R.start) li) (inl (omega arith)), λ z. omega arith)
      go (inl f) (no c) _ =
          let li : p + length r - R.start < length r = omega (arith, lm) in
          (p + length r - R.start, li, onto (R.start + (p + length r - R.start)) (p + length r - R.start) li (omega (arith, lm)) (f (p + length r - R.start) li) (inr (omega (arith, lm))), λ z. omega (arith, lm))
      go (inr f) _ (yes c) =
          let li : R.start + length r - p < length r = omega arith in
          (R.start + length r - p, li, onto (R.start + (length r - (R.start + length r - p))) (R.start + length r - p) li (omega (arith, lm)) (f (R.start + length r - p) li) (inl (omega (arith, lm))), λ z. omega (arith, lm))
      go (inr f) _ (no c) =
          let li : R.start - p < length r = omega (arith, lm) in
          (R.start - p, li, onto (R.start + (length r - (R.start - p))) (R.start - p) li (omega (arith, lm)) (f (R.start - p) li) (inr (omega (arith, lm))), λ z. omega arith)

-- to read on from a reading
turn_onwards : (k a b g : ℕ) → (a + (b + g) % k) % k ≡ ((a + b) % k + g) % k
turn_onwards k a b g = add-mod-mod a (b + g) k ∙ ap (λ x. x % k) (sym (add_assoc a b g)) ∙ sym (mod-add-mod (a + b) k g)

turn_backwards : (k a b g : ℕ) → b < k → g ≤ k → (a + (k - (b + g) % k)) % k ≡ ((a + (k - b)) % k + (k - g)) % k
turn_backwards k a b g l m = go ((b + g) % k) (wrap k (b + g) (omega arith)) ∙ sym (mod-add-mod (a + (k - b)) k (k - g))
  where
    go : (x : ℕ) → Wrapped k (b + g) x → (a + (k - x)) % k ≡ (a + (k - b) + (k - g)) % k
    go x (inl h) = sym (add-mod_right (a + (k - x)) k) ∙ ap (λ y. y % k) (let e : a + (k - x) + k ≡ a + (k - b) + (k - g) = omega arith in e)
    go x (inr h) = ap (λ y. y % k) (let e : a + (k - x) ≡ a + (k - b) + (k - g) = omega arith in e)

module _ {Vertex : Type 0} (o : Vertex) where
  pub reading_self : (r : List Vertex) → 0 < length r → RingReading o r r
  reading_self r l = record {
    alike = refl;
    start = 0;
    starts = l;
    reads = inl (λ i k. sym (ap (λ x. get_or r x o) (ap (λ x. x % length r) (let e : 0 + i ≡ i = omega arith in e) ∙ mod-eq_of_lt k)));
  }

  -- a reading of a reading is a reading
  pub reading_trans : (r s u : List Vertex) → RingReading o r s → RingReading o s u → RingReading o r u
  reading_trans r s u R S = go R.reads S.reads
    where
      a : ℕ
      a = R.start

      b : ℕ
      b = S.start

      lb : b < length r
      lb = omega (arith, S.starts, R.alike)

      onwards : Onwards o s u b → (i : ℕ) → i < length r → get_or u i o ≡ get_or s ((b + i) % length r) o
      onwards f i l = subst (λ m. get_or u i o ≡ get_or s ((b + i) % m) o) R.alike (f i (omega (arith, R.alike)))

      backwards : Backwards o s u b → (i : ℕ) → i < length r → get_or u i o ≡ get_or s ((b + (length r - i)) % length r) o
      backwards f i l = subst (λ m. get_or u i o ≡ get_or s ((b + (m - i)) % m) o) R.alike (f i (omega (arith, R.alike)))

      from : (c : ℕ) → c < length r → Onwards o r u c ⊎ Backwards o r u c → RingReading o r u
      from c l f = record { alike = S.alike ∙ R.alike; start = c; starts = l; reads = f }

      go : Onwards o r s a ⊎ Backwards o r s a → Onwards o s u b ⊎ Backwards o s u b → RingReading o r u
      go (inl f) (inl g) = from ((a + b) % length r) (mod-lt (a + b) (omega (arith, lb))) (inl (λ i l.
          onwards g i l ∙ f ((b + i) % length r) (mod-lt (b + i) (omega arith)) ∙ ap (λ x. get_or r x o) (turn_onwards (length r) a b i)))
      go (inl f) (inr g) = from ((a + b) % length r) (mod-lt (a + b) (omega (arith, lb))) (inr (λ i l.
          backwards g i l ∙ f ((b + (length r - i)) % length r) (mod-lt (b + (length r - i)) (omega arith)) ∙ ap (λ x. get_or r x o) (turn_onwards (length r) a b (length r - i))))
      go (inr f) (inl g) = from ((a + (length r - b)) % length r) (mod-lt (a + (length r - b)) (omega (arith, lb))) (inr (λ i l.
          onwards g i l ∙ f ((b + i) % length r) (mod-lt (b + i) (omega arith)) ∙ ap (λ x. get_or r x o) (turn_backwards (length r) a b i lb (omega arith))))
      go (inr f) (inr g) = from ((a + (length r - b)) % length r) (mod-lt (a + (length r - b)) (omega (arith, lb))) (inl (λ i l.
          backwards g i l ∙ f ((b + (length r - i)) % length r) (mod-lt (b + (length r - i)) (omega arith))
          ∙ ap (λ x. get_or r x o) (turn_backwards (length r) a b (length r - i) lb (omega arith)
          ∙ ap (λ x. ((a + (length r - b)) % length r + x) % length r) (let e : length r - (length r - i) ≡ i = omega arith in e))))

-- a reading read back
there_back : (k m n p x y : ℕ) → m < k → p < k → n < k → Wrapped k (k - m) n → Wrapped k (n + p) x → Wrapped k (m + x) y → y ≡ p
there_back k m n p x y lm lp ln (inl a) (inl b) (inl c) = omega arith
there_back k m n p x y lm lp ln (inl a) (inl b) (inr c) = omega arith
there_back k m n p x y lm lp ln (inl a) (inr b) (inl c) = omega arith
there_back k m n p x y lm lp ln (inl a) (inr b) (inr c) = omega arith
there_back k m n p x y lm lp ln (inr a) (inl b) (inl c) = omega arith
there_back k m n p x y lm lp ln (inr a) (inl b) (inr c) = omega arith
there_back k m n p x y lm lp ln (inr a) (inr b) (inl c) = omega arith
there_back k m n p x y lm lp ln (inr a) (inr b) (inr c) = omega arith

round_back : (k m p x y : ℕ) → m < k → p < k → Wrapped k (m + (k - p)) x → Wrapped k (m + (k - x)) y → y < k → y ≡ p
round_back k m p x y lm lp (inl b) (inl c) l = omega arith
round_back k m p x y lm lp (inl b) (inr c) l = omega arith
round_back k m p x y lm lp (inr b) (inl c) l = omega arith
round_back k m p x y lm lp (inr b) (inr c) l = omega arith

module _ {Vertex : Type 0} (o : Vertex) where
  pub reading_back : (r s : List Vertex) → RingReading o r s → RingReading o s r
  reading_back r s R = go R.reads
    where
      lm : R.start < length r
      lm = R.starts

      e : length s ≡ length r
      e = R.alike

      go : Onwards o r s R.start ⊎ Backwards o r s R.start → RingReading o s r
      go (inl f) = record { alike = sym e; start = (length r - R.start) % length r; starts = rw e ln; reads = inl (λ p l. rw e (sym (at p (omega (arith, e))))) }
        where
          n : ℕ
          n = (length r - R.start) % length r

          ln : (length r - R.start) % length r < length r
          ln = mod-lt (length r - R.start) (omega (arith, lm))

          at : (p : ℕ) → p < length r → get_or s ((n + p) % length r) o ≡ get_or r p o
          at p l =
              f ((n + p) % length r) (mod-lt (n + p) (omega arith))
              ∙ ap (λ z. get_or r z o)
              (there_back (length r) R.start n p ((n + p) % length r) ((R.start + (n + p) % length r) % length r) lm l ln
              (wrap (length r) (length r - R.start) (omega (arith, lm))) (wrap (length r) (n + p) (omega (arith, ln)))
              (wrap (length r) (R.start + (n + p) % length r) (omega (arith, lm, mod-lt (n + p) {m = length r} (omega arith)))))
      go (inr f) = record { alike = sym e; start = R.start; starts = omega (arith, e, lm); reads = inr (λ p l. rw e (sym (at p (omega (arith, e))))) }
        where
          at : (p : ℕ) → p < length r → get_or s ((R.start + (length r - p)) % length r) o ≡ get_or r p o
          at p l =
              let lx : (R.start + (length r - p)) % length r < length r = mod-lt (R.start + (length r - p)) (omega arith) in
              f ((R.start + (length r - p)) % length r) lx
              ∙ ap (λ z. get_or r z o)
              (round_back (length r) R.start p ((R.start + (length r - p)) % length r) ((R.start + (length r - (R.start + (length r - p)) % length r)) % length r) lm l
              (wrap (length r) (R.start + (length r - p)) (omega (arith, lm)))
              (wrap (length r) (R.start + (length r - (R.start + (length r - p)) % length r)) (omega (arith, lm)))
              (mod-lt (R.start + (length r - (R.start + (length r - p)) % length r)) (omega arith)))

-- a reading under new names
pub reading_map : {A B : Type 0} (f : A → B) (a : A) (b : B) (r s : List A) → RingReading a r s → RingReading b (map f r) (map f s)
reading_map f a b r s R = record { alike = length-map s f ∙ R.alike ∙ sym e; start = R.start; starts = omega (arith, e, R.starts); reads = go R.reads }
  where
    e : length (map f r) ≡ length r
    e = length-map r f

    at : (i q : ℕ) → i < length r → q < length r → get_or s i a ≡ get_or r q a → get_or (map f s) i b ≡ get_or (map f r) q b
    at i q l k h = get_or_map f s i a b (omega (arith, R.alike)) ∙ ap f h ∙ sym (get_or_map f r q a b k)

    go : Onwards a r s R.start ⊎ Backwards a r s R.start → Onwards b (map f r) (map f s) R.start ⊎ Backwards b (map f r) (map f s) R.start
    go (inl h) = inl (λ i l. rw e (at i ((R.start + i) % length r) (omega (arith, e)) (mod-lt (R.start + i) (omega (arith, e))) (h i (omega (arith, e)))))
    go (inr h) = inr (λ i l. rw e (at i ((R.start + (length r - i)) % length r) (omega (arith, e)) (mod-lt (R.start + (length r - i)) (omega (arith, e))) (h i (omega (arith, e)))))
