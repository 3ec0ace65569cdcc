-- The first number that passes a test.
--
--   first_of p m i    the first of the m numbers from i on that passes p, or i + m where none does
use Rattle.std.specs.Prelude.{Bool, cond, ℕ, zero, suc, ◌+◌}

unfoldable pub first_of : (ℕ → Bool) → ℕ → ℕ → ℕ
first_of p zero i = i
first_of p (suc m) i = cond (p i) i (first_of p m (i + 1))
