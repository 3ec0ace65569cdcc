-- Looking through a row place by place, from the start and from where a loop stands, and whether the table has the row.
use mathlib.Core.Path.{◌≡◌, refl, sym, ◌∙◌}
use mathlib.Core.Bool.{Bool, true, false}
use mathlib.Core.List.{List}
use Prim.Native.Nat.{ℕ, suc, ◌+◌, ◌-◌, ◌*◌, ◌/◌, ◌≤◌, ◌<◌}
use native.Mathlib.Omega.{arith}
use lib.ListN.{length, get_or}
use borrow.Author.Tests.{eq-eqb, ne_eqb, lt-ltb, le-ltb}
use Rattle.network.specs.Maxima.{places}
use Rattle.network.specs.Verdict.{stands, in_row}

module _ (t : List ℕ) (x y p : ℕ) (so_far : stands t x y places 0 ≡ stands t x y (places - p) p) where
  pub stands_here : p < places → get_or t (y * places + p) 0 ≡ x → true ≡ stands t x y places 0
  unfolding stands
  stands_here l h = let e : places - p ≡ suc (places - (p + 1)) = omega arith in sym (so_far ∙ rw e (simp (eq-eqb _ _ h)))

  pub stands_next : p < places → (get_or t (y * places + p) 0 ≡ x → ⊥) → stands t x y places 0 ≡ stands t x y (places - (p + 1)) (p + 1)
  unfolding stands
  stands_next l h = let e : places - p ≡ suc (places - (p + 1)) = omega arith in so_far ∙ rw e (simp (ne_eqb _ _ h))

  pub stands_none : places ≤ p → false ≡ stands t x y places 0
  unfolding stands
  stands_none l = let e : places - p ≡ 0 = omega arith in sym (so_far ∙ rw e refl)

-- a row of the table, or none
module _ (t : List ℕ) (x y : ℕ) where
  pub in_no_row : length t / places ≤ y → false ≡ in_row t x y
  unfolding in_row
  in_no_row h = rw (le-ltb y (length t / places) h) refl

  pub in_a_row : y < length t / places → (b : Bool) → b ≡ stands t x y places 0 → b ≡ in_row t x y
  unfolding in_row
  in_a_row h b e = rw (lt-ltb y (length t / places) h) e

  pub in_row_lem : y * places + places ≤ length t → (b : Bool) → b ≡ in_row t x y → b ≡ stands t x y places 0
  unfolding in_row
  in_row_lem h b e = let l : y < length t / places = omega arith in rw (lt-ltb y (length t / places) l) at e
