-- The maxima of rings and of their search (document 01, "The rings"): the constants of the type `Ring` are these.
--
--   ring_least       the fewest atoms of a ring
--   ring_most        the most atoms of a ring that is searched for
--   limit_default    the limit that 0 stands for
--   allowance_most   the most rings that a search may be allowed
use Rattle.std.specs.Prelude.{ℕ}

abbrev pub ring_least : ℕ
ring_least = 3

abbrev pub ring_most : ℕ
ring_most = 24

abbrev pub limit_default : ℕ
limit_default = 12

abbrev pub allowance_most : ℕ
allowance_most = 1000000
