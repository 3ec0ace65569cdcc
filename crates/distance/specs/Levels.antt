-- How a row of the distance table is found: pass after pass, each atom at d gives d + 1 to its neighbours that have no entry.
--
--   DistanceRow t n x row     every entry of the row tells the distance from x, or that there is no path
--   offer e row w             e goes to atom w where it has no entry
--   give t v e k p row        e goes to the neighbours at the k places of v's row from p on, as far as the first free place
--   visit t d v row           v gives d + 1 where it is at d
--   level t d k v row         so do the k atoms from v on
--   first_row n s             the row before the first pass: s is at 0, no other atom has an entry
--   unreached row             how many atoms have no entry
--   PassFilled old new filled    whether an entry was filled on the way from old to new; if one was, fewer atoms have no entry
use Rattle.std.specs.Prelude.{◌≡◌, List, Bool, true, false, cond, ℕ, zero, suc, ◌+◌, ◌<◌, eqb, length, get_or, set, replicate, sum_by}
use Rattle.graph.specs.Graph.{Tells}
use Rattle.network.specs.Maxima.{places, free}
use Rattle.network.specs.Network.{word, Bonded}
use Rattle.distance.specs.Distances.{no_path}

abbrev pub DistanceRow : List ℕ → ℕ → ℕ → List ℕ → Type 0
DistanceRow t n x row = (y : ℕ) → y < n → Tells (Bonded t) no_path x y (get_or row y 0)

unfoldable pub offer : ℕ → List ℕ → ℕ → List ℕ
offer e row w = cond (eqb (get_or row w 0) no_path) (set row w e) row

unfoldable pub give : List ℕ → ℕ → ℕ → ℕ → ℕ → List ℕ → List ℕ
give t v e zero p row = row
give t v e (suc k) p row = cond (eqb (word t v p) free) row (give t v e k (p + 1) (offer e row (word t v p)))

unfoldable pub visit : List ℕ → ℕ → ℕ → List ℕ → List ℕ
visit t d v row = cond (eqb (get_or row v 0) d) (give t v (d + 1) places 0 row) row

unfoldable pub level : List ℕ → ℕ → ℕ → ℕ → List ℕ → List ℕ
level t d zero v row = row
level t d (suc k) v row = level t d k (v + 1) (visit t d v row)

abbrev pub first_row : ℕ → ℕ → List ℕ
first_row n s = set (replicate n no_path) s 0

unfoldable pub unreached : List ℕ → ℕ
unreached row = sum_by (λ a. cond (eqb a no_path) 1 0) row

pub record PassFilled (old new : List ℕ) (filled : Bool) : Type 0 where
  pub long : length new ≡ length old
  pub fewer : filled ≡ true → unreached new < unreached old
  pub same : filled ≡ false → new ≡ old
