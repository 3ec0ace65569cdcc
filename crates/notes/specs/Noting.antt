-- Noting the rings that a search finds: they are counted, and written where they fit. A ring is of any form: its length is its `size`, `told` gives
-- the words of its vertices; a ring of atoms is told by their numbers.
--
--   State                what the search has found, and the words of the list
--   state found words    the state with these
--   wrote size told ring s    a ring is counted, with the words that it takes, and written where it fits
--   note size told a ring s    a ring is noted, unless the allowance a is used up
--   note_all size told a rings s   one after another
--   none                 nothing found yet
--   Fits f               the words taken are at most a longest ring's for each ring
--   note_fit a ring s    a ring of atoms is noted, where it is not too long and what was found fits; else nothing changes
use Rattle.std.specs.Prelude.{ℕ, ◌+◌, ◌*◌, ◌≤◌, true, false, cond, List, [], ◌∷◌, length, ltb}
use Rattle.std.proofs.lemmas.List.Edits.{sets}
use Rattle.ring.specs.Maxima.{ring_most}
use Rattle.census.specs.Census.{plain}
use Rattle.notes.specs.declared.Found.{Found}

pub record State : Type 0 where
  pub found : Found
  pub words : List ℕ

abbrev pub state : Found → List ℕ → State
state f l = record { found = f; words = l }

module _ {AnyRing : Type 0} (size : AnyRing → ℕ) (told : AnyRing → List ℕ) where
  unfoldable pub wrote : AnyRing → State → State
  wrote ring s =
      state (record { rings = s.found.rings + 1; at = s.found.at + (length (told ring) + 1); over = false })
      (cond (ltb (s.found.at + length (told ring)) (length s.words)) (sets s.words s.found.at (size ring ∷ told ring)) s.words)

  unfoldable pub note : ℕ → AnyRing → State → State
  note allowance ring s =
      cond s.found.over s
      (cond (ltb s.found.rings allowance)
      (wrote ring s)
      (state (record { rings = s.found.rings; at = s.found.at; over = true }) s.words))

  unfoldable pub note_all : ℕ → List AnyRing → State → State
  note_all allowance [] s = s
  note_all allowance (r ∷ rs) s = note_all allowance rs (note allowance r s)

abbrev pub none : Found
none = record { rings = 0; at = 0; over = false }

abbrev pub Fits : Found → Type 0
Fits f = f.at ≤ (ring_most + 1) * f.rings

unfoldable pub note_fit : ℕ → List ℕ → State → State
note_fit allowance ring s =
    cond (ltb ring_most (length ring)) s
    (cond (ltb ((ring_most + 1) * s.found.rings) s.found.at) s (note length plain allowance ring s))
