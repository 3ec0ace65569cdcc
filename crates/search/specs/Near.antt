-- Atoms at a distance from an atom.
--
--   NoneAt n dist a w from y     no atom from `from` on and below y is at distance w from a
--   FirstAt n dist a w from r    r is the first atom from `from` on that is; none where no atom is
use Rattle.std.specs.Prelude.{◌≡◌, ℕ, ◌<◌, ◌≤◌, List, Option, MatchOption}
use Rattle.distance.specs.Distances.{distance}

abbrev pub NoneAt : ℕ → List ℕ → ℕ → ℕ → ℕ → ℕ → Type 0
NoneAt n dist a w from y = (z : ℕ) → from ≤ z → z < y → distance dist n a z ≡ w → ⊥

pub record IsFirstAt (n : ℕ) (dist : List ℕ) (a w from y : ℕ) : Type 0 where
  pub after : from ≤ y
  pub within : y < n
  pub there : distance dist n a y ≡ w
  pub passed : NoneAt n dist a w from y

abbrev pub FirstAt : ℕ → List ℕ → ℕ → ℕ → ℕ → Option ℕ → Type 0
FirstAt n dist a w from r = MatchOption r (NoneAt n dist a w from n) (IsFirstAt n dist a w from)
