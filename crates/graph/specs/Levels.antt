-- Distances computed by breadth-first levels (document 001, VI B), over any graph whose vertices can be told apart.
--
--   elem eq y xs              whether y is among xs
--   once eq xs                each member once
--   spread eq adj xs          what is bonded to a member of xs, each once
--   levels eq adj n xs        the ends of walks from xs of 0, 1, .., n - 1 bonds
--   walk_ends eq adj n xs     the ends of walks from xs of n bonds
--   hit eq far ls d y         the number, counted from d, of the first of the levels ls that holds y; far if none does
use Rattle.std.specs.Prelude.{Bool, true, false, ◌||◌, not, List, [], ◌∷◌, ℕ, zero, suc}
use Rattle.graph.specs.Lists.{gather, cons_if}

module _ {A : Type 0} (eq : A → A → Bool) where
  abbrev pub elem : A → List A → Bool
  elem y [] = false
  elem y (x ∷ xs) = eq y x || elem y xs

  abbrev pub once : List A → List A
  once [] = []
  once (x ∷ xs) = cons_if (not (elem x (once xs))) x (once xs)

  abbrev pub hit : ℕ → List (List A) → ℕ → A → ℕ
  hit far [] d y = far
  hit far (l ∷ ls) d y = elim (elem y l) [ true ↦ d | false ↦ hit far ls (suc d) y ]

  module _ (adj : A → List A) where
    abbrev pub spread : List A → List A
    spread xs = once (gather adj xs)

    abbrev pub levels : ℕ → List A → List (List A)
    levels zero xs = []
    levels (suc n) xs = xs ∷ levels n (spread xs)

    abbrev pub walk_ends : ℕ → List A → List A
    walk_ends zero xs = xs
    walk_ends (suc n) xs = walk_ends n (spread xs)
