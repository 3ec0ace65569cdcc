-- A step of the search notes the rings that it finds: a turn of a loop, a length.
use Rattle.std.proofs.Common.{◌≡◌, refl, sym, ◌∙◌, ap, true, false, List, [], ◌++◌, ℕ, ◌+◌, ◌-◌, ◌*◌, ◌≤◌, length, set, arith, add-one}
use native.Mathlib.Nat.{mul-le-mul_right}
use Rattle.ring.specs.Maxima.{ring_least, ring_most}
use Rattle.census.specs.Census.{plain}
use Rattle.paths.specs.Search.{Tests, gather_below, rings_of, rings_up_to, counts_up_to, lengths_up_to}
use Rattle.notes.specs.Noting.{State, state, note_all, none}
use Rattle.notes.proofs.Notes.{all_append, all_over}
use Rattle.notes.proofs.Noted.{count, over_back, rings_grew}
use Rattle.search.specs.declared.state.Notes.{Notes}
use Rattle.search.specs.State.{HasNoted}

pub noted_none : (b : Notes) → HasNoted [] b b
unfolding note_all
noted_none b = record { result = refl; allowance = refl }

pub noted_over : (xs : List (List ℕ)) (b : Notes) → b.found.over ≡ true → HasNoted xs b b
noted_over xs b h = record { result = all_over length plain _ _ _ _ h; allowance = refl }

pub noted_more : (xs ys : List (List ℕ)) (b c d : Notes) → HasNoted xs b c → HasNoted ys c d → HasNoted (xs ++ ys) b d
noted_more xs ys b c d h g = record {
  result = rw (all_append, ← h.result, ← h.allowance) g.result;
  allowance = g.allowance ∙ h.allowance;
}

-- from no ring on
pub noted_first : (xs : List (List ℕ)) (a : ℕ) (b c : Notes) → b.allowance ≡ a → b.found ≡ none → HasNoted xs b c → state c.found c.list.now ≡ note_all length plain a xs (state none b.list.now)
noted_first xs a b c ea ef h = rw (← ea, ← ef) h.result

-- a turn of a loop that notes what each number gives
pub turn : (f : ℕ → List (List ℕ)) (i : ℕ) (b c d : Notes) → HasNoted (gather_below i f) b c → HasNoted (f i) c d → HasNoted (gather_below (i + 1) f) b d
unfolding gather_below
turn f i b c d h g = rw add-one (noted_more _ _ b c d h g)

-- a turn of the loop over the lengths, of which the m least were done before
module _ (may : Tests) (n : ℕ) (table dist : List ℕ) (m k : ℕ) (ek : k ≡ m + ring_least) (c d : Notes) (g : HasNoted (rings_of may n table dist k) c d) where
  pub turn_rings : (b : Notes) → HasNoted (rings_up_to may n table dist m) b c → HasNoted (rings_up_to may n table dist (m + 1)) b d
  unfolding rings_up_to
  turn_rings b h = turn _ m b c d h (rw ek at g)

  pub turn_more : c.found.rings ≤ d.found.rings
  turn_more = rings_grew length plain c.allowance _ (state c.found c.list.now) (state d.found d.list.now) g.result

  more : d.found.over ≡ false → (c.found.over ≡ false) × (d.found.rings - c.found.rings ≡ length (rings_of may n table dist k))
  more o =
      let o' = sym (ap (λ (s : State). s.found.over) g.result) ∙ o in
      let r = ap (λ (s : State). s.found.rings) g.result in
      (over_back length plain c.allowance (rings_of may n table dist k) (state c.found c.list.now) o', omega (arith, r, count length plain c.allowance (rings_of may n table dist k) (state c.found c.list.now) o'))

  -- its count is filled in
  pub turn_counts : (counts : List ℕ) → (c.found.over ≡ false → counts ≡ counts_up_to may n table dist m) → d.found.over ≡ false → set counts k (d.found.rings - c.found.rings) ≡ counts_up_to may n table dist (m + 1)
  unfolding counts_up_to
  turn_counts counts inv o = let q = more o in rw (add-one m, q.1, inv q.0, ek)

  -- and its part of the sum of the lengths
  pub turn_lengths : (lengths : ℕ) → (c.found.over ≡ false → lengths ≡ lengths_up_to may n table dist m) → d.found.over ≡ false → lengths + k * (d.found.rings - c.found.rings) ≡ lengths_up_to may n table dist (m + 1)
  unfolding lengths_up_to
  turn_lengths lengths inv o = let q = more o in rw (add-one m, q.1, inv q.0, ek)

  -- which stays at most a longest ring's length for each ring
  pub turn_bounded : (lengths : ℕ) → k ≤ ring_most → lengths ≤ ring_most * c.found.rings → lengths + k * (d.found.rings - c.found.rings) ≤ ring_most * d.found.rings
  turn_bounded lengths l h = omega (arith, turn_more, mul-le-mul_right (d.found.rings - c.found.rings) l)
