-- Numbers put one after the other in their order.
use Rattle.std.proofs.Common.{◌≡◌, refl, sym, ◌∙◌, ap, ap₂, ◌⊎◌, inl, inr, List, [], ◌∷◌, ◌++◌, ℕ, zero, suc, ◌+◌, ◌-◌, ◌≤◌, ◌<◌, min, max, arith, length, get_or, set, replicate, length-append, length-set, get_or-set_same, get_or-set_other}
use Rattle.std.proofs.Math.Decide.{dec_lt}
use mathlib.Core.List.Memᴰ
use Rattle.graph.specs.Lists.{◌∈◌, Ascending}
use Rattle.network.specs.Maxima.{places, free}
use Rattle.molfile.specs.Rows.{inserted, risen_on, held_row, inserted_at}

-- the lesser and the greater of two numbers
min_below : (a b : ℕ) → a ≤ b → min a b ≡ a
min_below a b h = omega arith

max_below : (a b : ℕ) → a ≤ b → max a b ≡ b
max_below a b h = omega arith

min_above : (a b : ℕ) → b < a → min a b ≡ b
min_above a b h = omega arith

max_above : (a b : ℕ) → b < a → max a b ≡ a
max_above a b h = omega arith

-- members
pub inserted_of : (y z : ℕ) (ws : List ℕ) → z ∈ inserted y ws → (z ≡ y) ⊎ (z ∈ ws)
unfolding inserted
inserted_of y z [] (Memᴰ.head e) = inl e
inserted_of y z [] (Memᴰ.tail m) = absurd (Memᴰ.not-nil m)
inserted_of y z (w ∷ ws) m = go (dec_lt y w) (λ u. inserted_of u z ws) m
  where
    later : (u : ℕ) → (z ≡ u) ⊎ (z ∈ ws) → (u ≡ y) ⊎ (u ≡ w) → (z ≡ y) ⊎ (z ∈ w ∷ ws)
    later u (inr m) _ = inr (Memᴰ.tail m)
    later u (inl e) (inl d) = inl (e ∙ d)
    later u (inl e) (inr d) = inr (Memᴰ.head (e ∙ d))

    go : Dec (y < w) → ((u : ℕ) → z ∈ inserted u ws → (z ≡ u) ⊎ (z ∈ ws)) → z ∈ min w y ∷ inserted (max w y) ws → (z ≡ y) ⊎ (z ∈ w ∷ ws)
    go (yes l) ih (Memᴰ.head e) = inl (e ∙ min_above w y l)
    go (yes l) ih (Memᴰ.tail m) = later (max w y) (ih (max w y) m) (inr (max_above w y l))
    go (no l) ih (Memᴰ.head e) = inr (Memᴰ.head (e ∙ min_below w y (omega arith)))
    go (no l) ih (Memᴰ.tail m) = later (max w y) (ih (max w y) m) (inl (max_below w y (omega arith)))

pub inserted_has : (y z : ℕ) (ws : List ℕ) → (z ≡ y) ⊎ (z ∈ ws) → z ∈ inserted y ws
unfolding inserted
inserted_has y z [] (inl e) = Memᴰ.head e
inserted_has y z [] (inr m) = absurd (Memᴰ.not-nil m)
inserted_has y z (w ∷ ws) h = go (dec_lt y w) (λ u. inserted_has u z ws) h
  where
    go : Dec (y < w) → ((u : ℕ) → (z ≡ u) ⊎ (z ∈ ws) → z ∈ inserted u ws) → (z ≡ y) ⊎ (z ∈ w ∷ ws) → z ∈ min w y ∷ inserted (max w y) ws
    go (yes l) ih (inl e) = Memᴰ.head (e ∙ sym (min_above w y l))
    go (yes l) ih (inr (Memᴰ.head e)) = Memᴰ.tail (ih (max w y) (inl (e ∙ sym (max_above w y l))))
    go (yes l) ih (inr (Memᴰ.tail m)) = Memᴰ.tail (ih (max w y) (inr m))
    go (no l) ih (inl e) = Memᴰ.tail (ih (max w y) (inl (e ∙ sym (max_below w y (omega arith)))))
    go (no l) ih (inr (Memᴰ.head e)) = Memᴰ.head (e ∙ sym (min_below w y (omega arith)))
    go (no l) ih (inr (Memᴰ.tail m)) = Memᴰ.tail (ih (max w y) (inr m))

pub inserted_length : (y : ℕ) (ws : List ℕ) → length (inserted y ws) ≡ suc (length ws)
unfolding inserted
inserted_length y [] = refl
inserted_length y (w ∷ ws) = ap suc (inserted_length (max w y) ws)

-- an ascending list stays one
pub inserted_ascends : (y : ℕ) (ws : List ℕ) → Ascending ◌<◌ ws → (y ∈ ws → ⊥) → Ascending ◌<◌ (inserted y ws)
unfolding inserted
inserted_ascends y [] h new = (λ b m. absurd (Memᴰ.not-nil m), tt)
inserted_ascends y (w ∷ ws) h new = go (dec_lt y w) (λ u. inserted_ascends u ws h.1)
  where
    own : w ∈ ws → ⊥
    own m = omega (arith, h.0 w m)

    apart : y ≡ w → ⊥
    apart e = new (Memᴰ.head e)

    rest : (u l : ℕ) → (u ∈ ws → ⊥) → l < u → ((b : ℕ) → b ∈ ws → l < b) → (b : ℕ) → b ∈ inserted u ws → l < b
    rest u l new k f b m = elim (inserted_of u b ws m) [ inl e ↦ (let q : b ≡ u = e in omega arith) | inr i ↦ f b i ]

    go : Dec (y < w) → ((u : ℕ) → (u ∈ ws → ⊥) → Ascending ◌<◌ (inserted u ws)) → Ascending ◌<◌ (min w y ∷ inserted (max w y) ws)
    go (yes l) ih =
        rw (min_above w y l, max_above w y l)
        (rest w y own l (λ b m. omega (arith, h.0 b m)), ih w own)
    go (no l) ih =
        rw (min_below w y (omega arith), max_below w y (omega arith))
        (rest y w (λ m. new (Memᴰ.tail m)) (omega (arith, apart)) h.0, ih y (λ m. new (Memᴰ.tail m)))

-- one number after the other
pub risen_more : (ws ys : List ℕ) (y : ℕ) → risen_on ws (ys ++ (y ∷ [])) ≡ inserted y (risen_on ws ys)
risen_more ws [] y = refl
risen_more ws (z ∷ ys) y = risen_more (inserted z ws) ys y

pub risen_length : (ws ys : List ℕ) → length (risen_on ws ys) ≡ length ws + length ys
risen_length ws [] = omega arith
risen_length ws (y ∷ ys) = risen_length (inserted y ws) ys ∙ omega (arith, inserted_length y ws)

pub risen_of : (z : ℕ) (ws ys : List ℕ) → z ∈ risen_on ws ys → (z ∈ ws) ⊎ (z ∈ ys)
risen_of z ws [] m = inl m
risen_of z ws (y ∷ ys) m = go (risen_of z (inserted y ws) ys m)
  where
    first : (z ≡ y) ⊎ (z ∈ ws) → (z ∈ ws) ⊎ (z ∈ y ∷ ys)
    first (inl e) = inr (Memᴰ.head e)
    first (inr i) = inl i

    go : (z ∈ inserted y ws) ⊎ (z ∈ ys) → (z ∈ ws) ⊎ (z ∈ y ∷ ys)
    go (inl i) = first (inserted_of y z ws i)
    go (inr i) = inr (Memᴰ.tail i)

pub risen_has : (z : ℕ) (ws ys : List ℕ) → (z ∈ ws) ⊎ (z ∈ ys) → z ∈ risen_on ws ys
risen_has z ws [] (inl m) = m
risen_has z ws [] (inr m) = absurd (Memᴰ.not-nil m)
risen_has z ws (y ∷ ys) (inl m) = risen_has z (inserted y ws) ys (inl (inserted_has y z ws (inr m)))
risen_has z ws (y ∷ ys) (inr (Memᴰ.head e)) = risen_has z (inserted y ws) ys (inl (inserted_has y z ws (inl e)))
risen_has z ws (y ∷ ys) (inr (Memᴰ.tail m)) = risen_has z (inserted y ws) ys (inr m)

-- what is put in its order into a row: the last word, which is free, is carried out of it
abbrev settle : ℕ → List ℕ → List ℕ
settle y [] = []
settle y (w ∷ ws) = min w y ∷ settle (max w y) ws

settle_free : (k : ℕ) → settle free (replicate k free) ≡ replicate k free
settle_free zero = refl
settle_free (suc k) = rw (min_below free free (omega arith), max_below free free (omega arith)) (ap (λ (ws : List ℕ). free ∷ ws) (settle_free k))

settle_held : (y : ℕ) (ws : List ℕ) (k : ℕ) → y < free → ((w : ℕ) → w ∈ ws → w < free) → settle y (ws ++ replicate (suc k) free) ≡ inserted y ws ++ replicate k free
unfolding inserted
settle_held y [] k h f = rw (min_above free y h, max_above free y h) (ap (λ (ws : List ℕ). y ∷ ws) (settle_free k))
settle_held y (w ∷ ws) k h f =
    ap (λ (us : List ℕ). min w y ∷ us) (settle_held (max w y) ws k (omega (arith, f w (Memᴰ.head refl))) (λ u m. f u (Memᴰ.tail m)))

pub held_more : (y : ℕ) (ys : List ℕ) → length ys < places → y < free → ((w : ℕ) → w ∈ ys → w < free) → settle y (held_row ys) ≡ held_row (ys ++ (y ∷ []))
unfolding held_row
held_more y ys l h f =
    let e : places - length ys ≡ suc (places - length ys - 1) = omega arith in
    let d : places - length ys - 1 ≡ places - length (ys ++ (y ∷ [])) = omega (arith, length-append ys (y ∷ [])) in
    ap (λ (k : ℕ). settle y (risen_on [] ys ++ replicate k free)) e
    ∙ settle_held y (risen_on [] ys) (places - length ys - 1) h (λ w m. elim (risen_of w [] ys m) [ inl i ↦ absurd (Memᴰ.not-nil i) | inr i ↦ f w i ])
    ∙ ap₂ (λ (ws : List ℕ) (k : ℕ). ws ++ replicate k free) (sym (risen_more [] ys y)) d

-- words that are put in their order where they stand
pub inserted_at_length : (k i y : ℕ) (rows : List ℕ) → length (inserted_at rows i k y) ≡ length rows
unfolding inserted_at
inserted_at_length zero i y rows = refl
inserted_at_length (suc k) i y rows = inserted_at_length k (i + 1) (max (get_or rows i 0) y) (set rows i (min (get_or rows i 0) y)) ∙ length-set rows i (min (get_or rows i 0) y)

pub inserted_at_outside : (k i y j : ℕ) (rows : List ℕ) → (j < i) ⊎ (i + k ≤ j) → get_or (inserted_at rows i k y) j 0 ≡ get_or rows j 0
unfolding inserted_at
inserted_at_outside zero i y j rows h = refl
inserted_at_outside (suc k) i y j rows h =
    inserted_at_outside k (i + 1) (max (get_or rows i 0) y) j (set rows i (min (get_or rows i 0) y)) (side h)
    ∙ get_or-set_other rows i j (min (get_or rows i 0) y) 0 (other h)
  where
    side : (j < i) ⊎ (i + suc k ≤ j) → (j < i + 1) ⊎ (i + 1 + k ≤ j)
    side (inl l) = inl (omega arith)
    side (inr l) = inr (omega arith)

    other : (j < i) ⊎ (i + suc k ≤ j) → j ≡ i → ⊥
    other (inl l) e = omega arith
    other (inr l) e = omega arith

pub inserted_at_inside : (i y p : ℕ) (rows held : List ℕ) → ((q : ℕ) → q < length held → get_or rows (i + q) 0 ≡ get_or held q 0) → i + length held ≤ length rows → p < length held
    → get_or (inserted_at rows i (length held) y) (i + p) 0 ≡ get_or (settle y held) p 0
unfolding inserted_at
inserted_at_inside i y p rows [] f l k = absurd (omega arith)
inserted_at_inside i y p rows (w ∷ ws) f l k = go p k (λ q u v. inserted_at_inside (i + 1) u q v ws)
  where
    here : get_or rows i 0 ≡ w
    here = let e : i ≡ i + 0 = omega arith in ap (λ (j : ℕ). get_or rows j 0) e ∙ f 0 (omega arith)

    next : List ℕ
    next = set rows i (min (get_or rows i 0) y)

    go : (p : ℕ) → p < suc (length ws)
        → ((q u : ℕ) (v : List ℕ) → ((o : ℕ) → o < length ws → get_or v (i + 1 + o) 0 ≡ get_or ws o 0) → i + 1 + length ws ≤ length v → q < length ws → get_or (inserted_at v (i + 1) (length ws) u) (i + 1 + q) 0 ≡ get_or (settle u ws) q 0)
        → get_or (inserted_at next (i + 1) (length ws) (max (get_or rows i 0) y)) (i + p) 0 ≡ get_or (min w y ∷ settle (max w y) ws) p 0
    go zero k ih =
        let e : i + 0 ≡ i = omega arith in
        rw e (
        inserted_at_outside (length ws) (i + 1) (max (get_or rows i 0) y) i next (inl (omega arith))
        ∙ get_or-set_same rows i (min (get_or rows i 0) y) 0 (omega arith) ∙ ap (λ (v : ℕ). min v y) here
        )
    go (suc p) k ih =
        let e : i + suc p ≡ i + 1 + p = omega arith in
        rw e (
        ih p (max (get_or rows i 0) y) next same (omega (arith, length-set rows i (min (get_or rows i 0) y))) (omega arith)
        ∙ ap (λ (v : ℕ). get_or (settle (max v y) ws) p 0) here
        )
      where
        same : (q : ℕ) → q < length ws → get_or next (i + 1 + q) 0 ≡ get_or ws q 0
        same q h =
            let d : i + 1 + q ≡ i + suc q = omega arith in
            get_or-set_other rows i (i + 1 + q) (min (get_or rows i 0) y) 0 (λ c. omega arith) ∙ ap (λ (j : ℕ). get_or rows j 0) d ∙ f (suc q) (omega arith)
