-- Noting rings, one and many.
use Rattle.std.proofs.Common.{◌≡◌, refl, sym, ◌∙◌, subst, Bool, true, false, cond, List, [], ◌∷◌, ◌++◌, ℕ, suc, ◌+◌, ◌*◌, ◌<◌, ◌≤◌, add-one, arith, length, ltb, lt-ltb, le-ltb}
use Rattle.std.proofs.Math.Seq.{take-length, paste, sets, sets-eq}
use Rattle.ring.specs.Maxima.{ring_most}
use Rattle.census.specs.Census.{plain}
use Rattle.notes.specs.Noting.{State, state, note, wrote, note_all, Fits, note_fit}
use Rattle.notes.specs.declared.Found.{Found}

-- a run of stores, as a copy
pub pasted_after : (l s : List ℕ) (at i : ℕ) → at + 1 + length s ≤ length l → i ≡ length s → paste l (at + 1) s i ≡ sets l (suc at) s
pasted_after l s at i h e = rw (e, take-length s, ← add-one at) (sym (sets-eq s l (at + 1) h))

module _ {Ring : Type 0} (size : Ring → ℕ) (told : Ring → List ℕ) (a : ℕ) (ring : Ring) (f : Found) (l : List ℕ) where
  pub note_over : f.over ≡ true → state f l ≡ note size told a ring (state f l)
  unfolding note
  note_over h = rw h

  pub note_full : f.over ≡ false → a ≤ f.rings → state (record { rings = f.rings; at = f.at; over = true }) l ≡ note size told a ring (state f l)
  unfolding note
  note_full o h = rw (o, le-ltb _ _ h)

  pub note_fits : f.over ≡ false → f.rings < a → f.at + length (told ring) < length l
      → state (record { rings = f.rings + 1; at = f.at + (length (told ring) + 1); over = false }) (sets l f.at (size ring ∷ told ring)) ≡ note size told a ring (state f l)
  unfolding note wrote
  note_fits o h room = rw (o, lt-ltb _ _ h, lt-ltb _ _ room)

  pub note_skips : f.over ≡ false → f.rings < a → length l ≤ f.at + length (told ring)
      → state (record { rings = f.rings + 1; at = f.at + (length (told ring) + 1); over = false }) l ≡ note size told a ring (state f l)
  unfolding note wrote
  note_skips o h full = rw (o, lt-ltb _ _ h, le-ltb _ _ full)

-- a ring that is not too long is noted, and what is found fits then too
module _ (a : ℕ) (ring : List ℕ) (f : Found) (l : List ℕ) where
  pub too_long : ring_most < length ring → state f l ≡ note_fit a ring (state f l)
  unfolding note_fit
  too_long h = rw (lt-ltb _ _ h)

  pub unfit : length ring ≤ ring_most → (ring_most + 1) * f.rings < f.at → state f l ≡ note_fit a ring (state f l)
  unfolding note_fit
  unfit h u = rw (le-ltb _ _ h, lt-ltb _ _ u)

  pub fit : length ring ≤ ring_most → Fits f → note length plain a ring (state f l) ≡ note_fit a ring (state f l)
  unfolding note_fit
  fit h u = rw (le-ltb _ _ h, le-ltb _ _ u)

  pub fits_then : length ring ≤ ring_most → Fits f → Fits (note length plain a ring (state f l)).found
  unfolding note wrote
  fits_then h u = go f.over (ltb f.rings a)
    where
      go : (over more : Bool) → Fits (cond over (state f l) (cond more (wrote length plain ring (state f l)) (state (record { rings = f.rings; at = f.at; over = true }) l))).found
      go true more = u
      go false true = omega arith
      go false false = u

  pub right_note : (r : Found) (l' : List ℕ) → state r l' ≡ note_fit a ring (state f l) → length ring ≤ ring_most → Fits f → (state r l' ≡ note length plain a ring (state f l)) × Fits r
  right_note r l' e h u =
      let n : state r l' ≡ note length plain a ring (state f l) = e ∙ sym (fit h u) in
      (n, subst (λ (s : State). Fits s.found) (sym n) (fits_then h u))

-- one ring is a list of one
module _ {Ring : Type 0} (size : Ring → ℕ) (told : Ring → List ℕ) where
  pub one_ring : (a : ℕ) (x : Ring) (s s' : State) → s' ≡ note size told a x s → s' ≡ note_all size told a (x ∷ []) s
  unfolding note_all
  one_ring a x s s' e = e

  pub all_append : (a : ℕ) (xs ys : List Ring) (s : State) → note_all size told a (xs ++ ys) s ≡ note_all size told a ys (note_all size told a xs s)
  unfolding note_all
  all_append a [] ys s = refl
  all_append a (x ∷ xs) ys s = all_append a xs ys (note size told a x s)

  pub all_over : (a : ℕ) (xs : List Ring) (f : Found) (l : List ℕ) → f.over ≡ true → state f l ≡ note_all size told a xs (state f l)
  unfolding note_all
  all_over a [] f l h = refl
  all_over a (x ∷ xs) f l h = rw (← note_over size told a x f l h) (all_over a xs f l h)
