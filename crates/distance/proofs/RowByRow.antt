-- A row of n entries put back into a table of n rows.
use Rattle.std.proofs.Common.{◌≡◌, sym, ◌∙◌, ap, List, ℕ, ◌+◌, ◌-◌, ◌*◌, ◌≤◌, ◌<◌, suc-mul, mul-le-mul_right, arith, length, get_or, take, drop, length-drop, length-take-le, get_or-take, get_or-append-add}
use native.Mathlib.Decide.{ℕ_discrete}
use lib.ListN.{get_or-append}
use borrow.Rule.Slice.PartMut.{put_mid}
use Rattle.graph.specs.Graph.{Tells}
use Rattle.network.specs.Network.{Bonded}
use Rattle.distance.specs.Distances.{no_path, distance}
use Rattle.distance.specs.Levels.{DistanceRow}

-- the first s rows of a table are right
abbrev pub Rows : List ℕ → ℕ → ℕ → List ℕ → Type 0
Rows t n s dist = (x y : ℕ) → x < s → y < n → Tells (Bonded t) no_path x y (distance dist n x y)

row_end : (s n m : ℕ) → s < m → s * n + n ≤ m * n
row_end s n m l = rw suc-mul at (mul-le-mul_right n l)

module _ (n s : ℕ) (dist : List ℕ) (l : s < n) (long : length dist ≡ n * n) where
  pub part_long : length (take (s * n + n - s * n) (drop (s * n) dist)) ≡ n
  part_long =
      let e : s * n + n - s * n ≡ n = omega arith in
      rw e (length-take-le n (drop (s * n) dist) (simp length-drop (omega (arith, row_end s n n l))))

  module _ (row : List ℕ) (same : length row ≡ length (take (s * n + n - s * n) (drop (s * n) dist))) where
    abbrev new : List ℕ
    new = put_mid (s * n) (s * n + n - s * n) dist row

    head : length (take (s * n) dist) ≡ s * n
    head = length-take-le (s * n) dist (omega (arith, row_end s n n l))

    here : (y : ℕ) → y < n → get_or new (s * n + y) 0 ≡ get_or row y 0
    here y m =
        ap (λ (i : ℕ). get_or new (i + y) 0) (sym head)
        ∙ get_or-append-add (take (s * n) dist) _ y 0
        ∙ get_or-append row _ 0 y (omega (arith, same, part_long))

    above : (x y : ℕ) → x < s → y < n → get_or new (x * n + y) 0 ≡ get_or dist (x * n + y) 0
    above x y k m =
        let i : x * n + y < s * n = omega (arith, row_end x n s k) in
        get_or-append (take (s * n) dist) _ 0 (x * n + y) (rw head i) ∙ get_or-take (s * n) dist (x * n + y) 0 i

    pub put_rows : (t : List ℕ) → DistanceRow t n s row → Rows t n s dist → Rows t n (s + 1) new
    put_rows t R before x y k m =
        elim (ℕ_discrete x s) [
          | yes e ↦ rw (e, here y m) (R y m)
          | no e ↦ (let j : x < s = omega arith in rw (above x y j m) (before x y j m))
        ]
