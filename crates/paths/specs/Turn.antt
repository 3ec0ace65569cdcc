-- Where the search turns back.
--
--   any_below n f                  f holds at some number below n
--   antipodes n dist k path a      a next on the path fits the atoms across the ring from it, as far as they are placed: one where k is even, two where it is odd
--   last_above k path a            a is above the second atom, if its place is the last
--   reaches n dist k path a y      with a next on the path, y fits at the place just past half the ring
--   seen n dist k path a y         y fits so, and is above the path's first atom
--   look_ahead n dist k path a     some atom is seen, where the path ends before that place
--   may_follow n dist k path a     the test: a fits the first atom and those across; it closes the ring the right way; and something can stand across
--   stood n dist k path y          y is above the path's first atom, and fits at the place just past half the ring
--   Hint n dist k path from        a look ahead from the path may start at `from`: no atom below can stand at that place
--   Looks test n dist k path r     an answer to a test: 0 for no; any other is yes, and where the next look ahead may start
--   NextAt n dist a w from r       r is the first atom from `from` on whose distance from a is w, or n
use Rattle.std.specs.Prelude.{◌≡◌, ℕ, zero, suc, ◌+◌, ◌-◌, ◌/◌, ◌<◌, ◌≤◌, Bool, true, false, ◌&&◌, ◌||◌, cond, List, length, get_or, eqb, ltb}
use Rattle.graph.specs.Graph.{around}
use Rattle.distance.specs.Distances.{distance}
use Rattle.paths.specs.Search.{pair_fits, fits_before}

unfoldable pub any_below : ℕ → (ℕ → Bool) → Bool
any_below zero f = false
any_below (suc i) f = any_below i f || f i

unfoldable pub antipodes : ℕ → List ℕ → ℕ → List ℕ → ℕ → Bool
antipodes n dist k path a =
    cond (ltb (k / 2) (length path))
    (pair_fits n dist k path (length path) a (length path - k / 2) && (eqb (k / 2 + k / 2) k || pair_fits n dist k path (length path) a (length path - k / 2 - 1)))
    true

unfoldable pub last_above : ℕ → List ℕ → ℕ → Bool
last_above k path a = cond (eqb (length path + 1) k) (ltb (get_or path 1 0) a) true

unfoldable pub reaches : ℕ → List ℕ → ℕ → List ℕ → ℕ → ℕ → Bool
reaches n dist k path a y =
    eqb (distance dist n a y) (around k (k / 2 + 1 - length path)) && fits_before n dist k path (length path) (k / 2 + 1) y

abbrev pub seen : ℕ → List ℕ → ℕ → List ℕ → ℕ → ℕ → Bool
seen n dist k path a y = ltb (get_or path 0 0) y && reaches n dist k path a y

unfoldable pub look_ahead : ℕ → List ℕ → ℕ → List ℕ → ℕ → Bool
look_ahead n dist k path a =
    cond (ltb (k / 2) (length path)) true (any_below n (seen n dist k path a))

unfoldable pub may_follow : ℕ → List ℕ → ℕ → List ℕ → ℕ → Bool
may_follow n dist k path a =
    pair_fits n dist k path (length path) a 0 && (antipodes n dist k path a && (last_above k path a && look_ahead n dist k path a))

unfoldable pub stood : ℕ → List ℕ → ℕ → List ℕ → ℕ → Bool
stood n dist k path y = ltb (get_or path 0 0) y && fits_before n dist k path (length path) (k / 2 + 1) y

pub record Hint (n : ℕ) (dist : List ℕ) (k : ℕ) (path : List ℕ) (from : ℕ) : Type 0 where
  pub above : get_or path 0 0 < from
  pub within : from ≤ n
  pub barren : length path ≤ k / 2 → (y : ℕ) → y < from → stood n dist k path y ≡ false

pub record Looks (test : Bool) (n : ℕ) (dist : List ℕ) (k : ℕ) (path : List ℕ) (r : ℕ) : Type 0 where
  pub no : r ≡ 0 → test ≡ false
  pub yes : (r ≡ 0 → ⊥) → (test ≡ true) × Hint n dist k path r

pub record NextAt (n : ℕ) (dist : List ℕ) (a w from r : ℕ) : Type 0 where
  pub after : from ≤ r
  pub within : r ≤ n
  pub passed : (y : ℕ) → from ≤ y → y < r → distance dist n a y ≡ w → ⊥
  pub there : r < n → distance dist n a r ≡ w
