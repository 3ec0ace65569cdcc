-- What a row of the new table is. The word at place p of a row, as a list, is `get_or row p 0`.
--
--   table_row t x          row x of the table t, as a list
--   OldRow n row           the neighbours in the row are below n, and no two are equal
--   new_word names w       the word of the new table for the word w: the name of an atom; a free place stays free
--   NewRow names old new   the neighbours in `new` are the names of those in `old`, and ascend; free places come after
use Rattle.std.specs.Prelude.{◌≡◌, List, ℕ, cond, eqb, ◌+◌, ◌*◌, ◌<◌, length, get_or, slice_range}
use Rattle.network.specs.Maxima.{places, free}
use Rattle.names.specs.Names.{name}

abbrev pub table_row : List ℕ → ℕ → List ℕ
table_row t x = slice_range t (x * places) (x * places + places)

pub record OldRow (n : ℕ) (row : List ℕ) : Type 0 where
  pub long : length row ≡ places
  pub below : (p : ℕ) → p < places → (get_or row p 0 ≡ free → ⊥) → get_or row p 0 < n
  pub apart : (p q : ℕ) → p < q → q < places → get_or row p 0 ≡ get_or row q 0 → get_or row p 0 ≡ free

abbrev pub new_word : List ℕ → ℕ → ℕ
new_word names w = cond (eqb w free) free (name names w)

pub record NewRow (names old new : List ℕ) : Type 0 where
  pub from : (p : ℕ) → p < places → (get_or new p 0 ≡ free → ⊥) → (q : ℕ) × (q < places) × (get_or old q 0 ≡ free → ⊥) × (name names (get_or old q 0) ≡ get_or new p 0)
  pub to : (q : ℕ) → q < places → (get_or old q 0 ≡ free → ⊥) → (p : ℕ) × (p < places) × (get_or new p 0 ≡ name names (get_or old q 0))
  pub rises : (p q : ℕ) → p < q → q < places → (get_or new q 0 ≡ free → ⊥) → get_or new p 0 < get_or new q 0
