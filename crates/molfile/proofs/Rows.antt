-- The rows, as the code fills them.
use Rattle.std.proofs.Common.{◌≡◌, refl, sym, ◌∙◌, List, ℕ, suc, ◌+◌, ◌-◌, ◌≤◌, ◌<◌, min, max, get_or, set, arith}
use Rattle.network.specs.Maxima.{places}
use Rattle.molfile.specs.Rows.{inserted_at}

-- the result from the start is the result from place p on
module _ (rows₀ : List ℕ) (i y : ℕ) where
  module _ (rows : List ℕ) (p carried : ℕ) (so_far : inserted_at rows₀ i places y ≡ inserted_at rows p (i + places - p) carried) where
    pub settles_next : p < i + places → (w r : ℕ) → w ≡ min (get_or rows p 0) carried → r ≡ max (get_or rows p 0) carried
        → inserted_at rows₀ i places y ≡ inserted_at (set rows p w) (p + 1) (i + places - (p + 1)) r
    unfolding inserted_at
    settles_next l w r ew er = let e : i + places - p ≡ suc (i + places - (p + 1)) = omega arith in so_far ∙ rw (e, ew, er) refl

    pub settles_done : i + places ≤ p → rows ≡ inserted_at rows₀ i places y
    unfolding inserted_at
    settles_done l = let e : i + places - p ≡ 0 = omega arith in sym (so_far ∙ rw e refl)
