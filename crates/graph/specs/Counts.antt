-- Numbers of a list of rings: how many have a mark, and what they add up to (document 01, "The rings"). A mark is any number that a member of the
-- list has: a ring's length, or how many of its atoms are of a kind.
--
--   having mark k xs     how many members of xs have the mark k
--   sum_of f xs          the number f of each member, added up
--   of_length k rings    how many of the rings have k vertices
--   lengths_of rings     the lengths of the rings, added up
--   words_of rings       the words that a list of rings of atoms takes: each ring its length, then its atoms
use Rattle.std.specs.Prelude.{List, [], ◌∷◌, ℕ, suc, ◌+◌, eqb, length}
use Rattle.graph.specs.Lists.{keep}

abbrev pub having : {A : Type 0} → (A → ℕ) → ℕ → List A → ℕ
having mark k xs = length (keep (λ x. eqb (mark x) k) xs)

abbrev pub sum_of : {A : Type 0} → (A → ℕ) → List A → ℕ
sum_of f [] = 0
sum_of f (x ∷ xs) = f x + sum_of f xs

abbrev pub of_length : {Vertex : Type 0} → ℕ → List (List Vertex) → ℕ
of_length k rings = having length k rings

abbrev pub lengths_of : {Vertex : Type 0} → List (List Vertex) → ℕ
lengths_of rings = sum_of length rings

abbrev pub words_of : List (List ℕ) → ℕ
words_of rings = sum_of (λ r. suc (length r)) rings
