-- Demand 3, said of the listings of a network's rings before and after a renumbering.
--
--   RingsRenumbered names xs ys    the rings of ys are those of xs under their new names, each in its one writing; as many, and as many of each
--                             length; their lengths add up to the same, and their lists take as many words
--   Inverse n names home      the names `home` name every atom back
--   atom_of names w k         the greatest atom below k that has the name w, or 0
--   home_names n names        the names that name every atom back, computed
use Rattle.std.specs.Prelude.{◌≡◌, cond, List, map, ℕ, zero, suc, ◌<◌, eqb, length}
use Rattle.graph.specs.Lists.{numbers_from}
use Rattle.graph.specs.Writing.{RingReading, OneWriting}
use Rattle.graph.specs.Counts.{of_length, lengths_of, words_of}
use Rattle.graph.specs.Carried.{CarriedTo}
use Rattle.names.specs.Names.{name}

pub record RingsRenumbered (names : List ℕ) (xs ys : List (List ℕ)) : Type 0 where
  -- the rings of ys are exactly those of xs under their new names, one for one, and as many
  pub carried : CarriedTo (RingReading 0) OneWriting (name names) xs ys
  -- counts for each length, the lengths added up, words needed
  pub counts : (k : ℕ) → of_length k xs ≡ of_length k ys
  pub lengths : lengths_of xs ≡ lengths_of ys
  pub words : words_of xs ≡ words_of ys

pub record Inverse (n : ℕ) (names home : List ℕ) : Type 0 where
  pub long : length home ≡ n
  pub undone : (x : ℕ) → x < n → name home (name names x) ≡ x

unfoldable pub atom_of : List ℕ → ℕ → ℕ → ℕ
atom_of names w zero = 0
atom_of names w (suc k) = cond (eqb (name names k) w) k (atom_of names w k)

unfoldable pub home_names : ℕ → List ℕ → List ℕ
home_names n names = map (λ w. atom_of names w n) (numbers_from n 0)
