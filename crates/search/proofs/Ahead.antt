-- The look ahead, and where it may start.
use Rattle.std.proofs.Common.{◌≡◌, refl, ◌∙◌, Bool, true, false, ◌&&◌, ◌⊎◌, ⊎_elim, inl, inr, List, [], ◌∷◌, ◌++◌, ltb, eqb, ℕ, zero, suc, ◌+◌, ◌-◌, ◌/◌, ◌<◌, ◌≤◌, Option, None, Some, length, get_or, arith, length-append, add-one}
use Rattle.std.proofs.lemmas.Bool.{lt-ltb, le-ltb, ltb-true, ltb-false, eq-eqb, ne_eqb}
use mathlib.Core.Bool.{and-false}
use native.Mathlib.Nat.{lt-suc_self, lt_trans, le_refl}
use lib.ListN.{get_or-append}
use lib.Seq.{get_or-append_seam}
use Rattle.graph.specs.Graph.{around}
use Rattle.distance.specs.Distances.{distance}
use Rattle.paths.specs.Search.{all_below, pair_fits, fits_before}
use Rattle.paths.specs.Turn.{any_below, reaches, seen, look_ahead, stood, Hint}
use Rattle.paths.proofs.Below.{any_found, any_none}
use Rattle.search.specs.Near.{NoneAt, FirstAt, IsFirstAt}

all_same : (f g : ℕ → Bool) (n : ℕ) → ((i : ℕ) → i < n → f i ≡ g i) → all_below n f ≡ all_below n g
unfolding all_below
all_same f g zero h = refl
all_same f g (suc n) h = rw (all_same f g n (λ i l. h i (lt_trans l (lt-suc_self n))), h n (lt-suc_self n))

lt_or_ge : (y x : ℕ) → (y < x) ⊎ (x ≤ y)
lt_or_ge y x = go (ltb y x) refl
  where
    go : (b : Bool) → ltb y x ≡ b → (y < x) ⊎ (x ≤ y)
    go true e = inl (ltb-true _ _ e)
    go false e = inr (ltb-false _ _ e)

dim : (b e f : Bool) → (b && f) ≡ false → (b && (e && f)) ≡ false
dim false e f h = refl
dim true false f h = refl
dim true true f h = h

swap : (b e f : Bool) → (b && (e && f)) ≡ false → (b && (f && e)) ≡ false
swap false e f h = refl
swap true false f h = and-false f
swap true true false h = refl
swap true true true h = h

module _ (n : ℕ) (dist : List ℕ) (k : ℕ) (path : List ℕ) (a : ℕ) where
  -- no atom below y is seen
  abbrev pub NoneSeen : ℕ → Type 0
  NoneSeen y = (z : ℕ) → z < y → seen n dist k path a z ≡ false

  seen_dim : (y : ℕ) → stood n dist k path y ≡ false → seen n dist k path a y ≡ false
  unfolding stood reaches
  seen_dim y h = dim (ltb (get_or path 0 0) y) (eqb (distance dist n a y) (around k (k / 2 + 1 - length path))) (fits_before n dist k path (length path) (k / 2 + 1) y) h

  seen_far : (y : ℕ) → (distance dist n a y ≡ around k (k / 2 + 1 - length path) → ⊥) → seen n dist k path a y ≡ false
  unfolding reaches
  seen_far y h = rw (ne_eqb (distance dist n a y) (around k (k / 2 + 1 - length path)) h) (and-false (ltb (get_or path 0 0) y))

  seen_misfit : (y : ℕ) → fits_before n dist k path (length path) (k / 2 + 1) y ≡ false → seen n dist k path a y ≡ false
  unfolding reaches
  seen_misfit y h = rw (h, and-false (eqb (distance dist n a y) (around k (k / 2 + 1 - length path)))) (and-false (ltb (get_or path 0 0) y))

  seen_hit : (y : ℕ) → get_or path 0 0 < y → distance dist n a y ≡ around k (k / 2 + 1 - length path) → fits_before n dist k path (length path) (k / 2 + 1) y ≡ true → seen n dist k path a y ≡ true
  unfolding reaches
  seen_hit y lt e h = rw (lt-ltb (get_or path 0 0) y lt, eq-eqb (distance dist n a y) (around k (k / 2 + 1 - length path)) e) h

  look_is : (b : Bool) → length path ≤ k / 2 → any_below n (seen n dist k path a) ≡ b → look_ahead n dist k path a ≡ b
  unfolding look_ahead
  look_is b le h = rw (le-ltb (k / 2) (length path) le) h

  module _ (some : 0 < length path) where
    longer : length (path ++ (a ∷ [])) ≡ suc (length path)
    longer = length-append path (a ∷ []) ∙ add-one (length path)

    front : get_or (path ++ (a ∷ [])) 0 0 ≡ get_or path 0 0
    front = get_or-append path (a ∷ []) 0 0 some

    -- with a on the path, what was not seen cannot stand
    stood_longer : (y : ℕ) → seen n dist k path a y ≡ false → stood n dist k (path ++ (a ∷ [])) y ≡ false
    unfolding stood reaches fits_before all_below pair_fits
    stood_longer y h =
        rw (front, longer, all_same (pair_fits n dist k (path ++ (a ∷ [])) (k / 2 + 1) y) (pair_fits n dist k path (k / 2 + 1) y) (length path) (λ i l. rw (get_or-append path (a ∷ []) 0 i l)), get_or-append_seam path a [] 0)
        (swap (ltb (get_or path 0 0) y) (eqb (distance dist n a y) (around k (k / 2 + 1 - length path))) (fits_before n dist k path (length path) (k / 2 + 1) y) h)

    hint_next : (from y : ℕ) → Hint n dist k path from → from ≤ y → y ≤ n → NoneSeen y → Hint n dist k (path ++ (a ∷ [])) y
    hint_next from y h le ge out =
        record { above = rw front (let q = h.above in omega arith); within = ge; barren = λ _ z l. stood_longer z (out z l) }

-- the first atom's own hint
pub hint_first : (n : ℕ) (dist : List ℕ) (k a : ℕ) → a < n → Hint n dist k (a ∷ []) (a + 1)
unfolding stood
hint_first n dist k a lt = record { above = omega arith; within = omega arith; barren = λ _ y l. rw (le-ltb a y (omega arith)) }

-- a look ahead under way: r is the first atom at the distance w from a place on, below which none is seen
pub record Looking (n : ℕ) (dist : List ℕ) (k : ℕ) (path : List ℕ) (a w from : ℕ) (r : Option ℕ) : Type 0 where
  pub start : ℕ
  pub after : from ≤ start
  pub unseen : NoneSeen n dist k path a start
  pub first : FirstAt n dist a w start r

-- the atoms that are left to look at
abbrev pub ahead : ℕ → Option ℕ → ℕ
ahead n None = 0
ahead n (Some y) = n - y

module _ (n : ℕ) (dist : List ℕ) (k : ℕ) (path : List ℕ) (a from : ℕ) (some : 0 < length path) (h : Hint n dist k path from) where
  pub looks_past : k / 2 < length path → (look_ahead n dist k path a ≡ true) × Hint n dist k (path ++ (a ∷ [])) from
  unfolding look_ahead
  looks_past lt =
      (rw (lt-ltb (k / 2) (length path) lt), record { above = rw (front n dist k path a some) h.above; within = h.within; barren = λ le z l. absurd (omega (arith, longer n dist k path a some)) })

  module _ (le : length path ≤ k / 2) (w : ℕ) (ew : w ≡ around k (k / 2 + 1 - length path)) where
    pub looking_first : (r : Option ℕ) → FirstAt n dist a w from r → Looking n dist k path a w from r
    looking_first r f = record { start = from; after = le_refl _; unseen = λ z lt. seen_dim n dist k path a z (h.barren le z lt); first = f }

    module _ (r : Option ℕ) (l : Looking n dist k path a w from r) where
      unseen_till : (y z : ℕ) → NoneAt n dist a w l.start y → z < y → seen n dist k path a z ≡ false
      unseen_till y z f lt = ⊎_elim (λ lt. l.unseen z lt) (λ ge. seen_far n dist k path a z (rw (← ew) (f z ge lt))) (lt_or_ge z l.start)

      pub looks_none : r ≡ None → look_ahead n dist k path a ≡ false
      looks_none e = look_is n dist k path a false le (any_none _ n (λ z lt. unseen_till n z (rw e at l.first) lt))

      module _ (y : ℕ) (e : r ≡ Some y) where
        it : IsFirstAt n dist a w l.start y
        it = rw e at l.first

        pub looking_next : (r' : Option ℕ) → fits_before n dist k path (length path) (k / 2 + 1) y ≡ false → FirstAt n dist a w (y + 1) r' → Looking n dist k path a w from r'
        looking_next r' f g = record {
          start = y + 1;
          after = let after : l.start ≤ y = it.after in omega (arith, l.after);
          unseen = λ z lt. ⊎_elim (λ lt. unseen_till y z it.passed lt) (λ ge. let q : z ≡ y = omega arith in rw q (seen_misfit n dist k path a y f)) (lt_or_ge z y);
          first = g;
        }

        pub looks_at : fits_before n dist k path (length path) (k / 2 + 1) y ≡ true → (look_ahead n dist k path a ≡ true) × Hint n dist k (path ++ (a ∷ [])) y
        looks_at f =
            let high : get_or path 0 0 < y = omega (arith, it.after, l.after, h.above) in
            let hit : seen n dist k path a y ≡ true = seen_hit n dist k path a y high (it.there ∙ ew) f in
            (look_is n dist k path a true le (any_found _ n y it.within hit), hint_next n dist k path a some from y h (omega (arith, it.after, l.after)) (omega (arith, it.within)) (λ z lt. unseen_till y z it.passed lt))
