-- Lists.
--
--   x ∈ xs            x is a member of xs
--   Ascending R xs    each member stands in R to every later one
--   gather f xs       f's lists for all members of xs, one after another
--   cons_if b x xs    x before xs where b is true, else xs
--   keep p xs         the members that pass the test p, in order
--   numbers_from n a  the n numbers from a on
--   every p xs        whether every member passes the test p
use Rattle.std.specs.Prelude.{Bool, true, false, ◌&&◌, ℕ, zero, suc}
use mathlib.Core.List.{List, [], ◌∷◌, ◌++◌, Memᴰ}

infix 50 ◌∈◌
abbrev pub ◌∈◌ : {A : Type 0} → A → List A → Type 0
a ∈ xs = Memᴰ a xs

module _ {A : Type 0} (R : A → A → Type 0) where
  abbrev pub Ascending : List A → Type 0
  Ascending [] = Unit {0}
  Ascending (x ∷ xs) = ((b : A) → b ∈ xs → R x b) × Ascending xs

abbrev pub gather : {A B : Type 0} → (A → List B) → List A → List B
gather f [] = []
gather f (x ∷ xs) = f x ++ gather f xs

abbrev pub cons_if : {A : Type 0} → Bool → A → List A → List A
cons_if true x xs = x ∷ xs
cons_if false x xs = xs

abbrev pub keep : {A : Type 0} → (A → Bool) → List A → List A
keep p [] = []
keep p (x ∷ xs) = cons_if (p x) x (keep p xs)

abbrev pub numbers_from : ℕ → ℕ → List ℕ
numbers_from zero a = []
numbers_from (suc n) a = a ∷ numbers_from n (suc a)

abbrev pub every : {A : Type 0} → (A → Bool) → List A → Bool
every p [] = true
every p (x ∷ xs) = p x && every p xs
