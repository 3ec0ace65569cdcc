-- The averages of a census (document 01, "What an accepted call says").
--
--   quotient a b                 a over b: both numbers cast without loss, and one division
--   plus_zero                    +0.0: the number whose 64 bits are all 0
--   mean_of total lengths        the mean length of `total` rings whose lengths add up to `lengths`: the quotient, where there are rings
--   MeanValues, mean_values m    the outline's values of a mean: none is number 0 with +0.0, a mean is number 1 with its value
--   averages_of n total lengths  rings per atom, and the mean
--   no_averages                  what a refused call gives
--   AveragesTold a r             r tells the averages a: the same rings per atom, and a mean of the same values
use Rattle.std.specs.Prelude.{◌≡◌, cond, ℕ, pos, Float, eqb, Option, None, Some}
use Rattle.std.specs.Float.Ieee as Ieee
use Rattle.std.specs.Float.{binary64}
use Rattle.averages.specs.declared.Averages.{Averages}

abbrev pub quotient : ℕ → ℕ → Float
quotient a b = Ieee.div binary64 (Ieee.of_int binary64 (pos a)) (Ieee.of_int binary64 (pos b))

abbrev pub plus_zero : Float
plus_zero = Ieee.of_bits binary64 0

abbrev pub mean_of : ℕ → ℕ → Option Float
mean_of total lengths = cond (eqb total 0) None (Some (quotient lengths total))

pub record MeanValues : Type 0 where
  pub number : ℕ
  pub value : Float

abbrev pub mean_values : Option Float → MeanValues
mean_values None = record { number = 0; value = plus_zero }
mean_values (Some x) = record { number = 1; value = x }

abbrev pub averages_of : ℕ → ℕ → ℕ → Averages
averages_of n total lengths = record { per_atom = quotient total n; mean = mean_of total lengths }

abbrev pub no_averages : Averages
no_averages = record { per_atom = plus_zero; mean = None }

pub record AveragesTold (a r : Averages) : Type 0 where
  pub per_atom : r.per_atom ≡ a.per_atom
  pub mean : mean_values r.mean ≡ mean_values a.mean
