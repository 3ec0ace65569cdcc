-- A row put back into a table.
use Rattle.std.proofs.Common.{◌≡◌, ◌≢◌, sym, ◌∙◌, ap, List, ℕ, ◌+◌, ◌-◌, ◌*◌, ◌≤◌, ◌<◌, length, get_or, take, drop, arith, rules}
use Rattle.std.proofs.lemmas.List as lists
use Rattle.std.proofs.lemmas.Slice.{between_is, between-put_mid, take-put_mid_below, drop-put_mid}
use Rattle.std.proofs.lemmas.List.Edits.{get_or-between}
use borrow.Rule.Slice.PartMut.{put_mid}
use native.Mathlib.Decide.{dec_lt, ℕ_discrete}
use Rattle.network.specs.Maxima.{places}
use Rattle.network.specs.Network.{word}
use Rattle.names.specs.Names.{name, OneToOne}
use Rattle.renumber.specs.Rows.{table_row, NewRow}

-- a word of a row, as it stands in the table
pub row_word : (t : List ℕ) (x p : ℕ) → p < places → get_or (table_row t x) p 0 ≡ word t x p
row_word t x p l = get_or-between t (x * places) (x * places + places) p 0 (omega arith)

module _ (a : ℕ) (d row : List ℕ) (within : a * places + places ≤ length d) (long : length row ≡ places) where
  abbrev new : List ℕ
  new = put_mid (a * places) (a * places + places - a * places) d row

  pub put_long : length new ≡ length d
  put_long = search (rules, lists.places)

  put_here : table_row new a ≡ row
  put_here = between-put_mid (a * places) _ d row (a * places + places) (omega arith) (omega (arith, long))

  put_other : (b : ℕ) → b ≢ a → table_row new b ≡ table_row d b
  put_other b h =
      elim (dec_lt b a) [
        | yes k ↦
            between_is new (b * places) (b * places + places)
            ∙ ap (drop (b * places)) (take-put_mid_below (a * places) _ d row (b * places + places) (omega arith) (omega arith))
            ∙ sym (between_is d (b * places) (b * places + places))
        | no k ↦ ap (take (b * places + places - b * places)) (drop-put_mid (a * places) _ d row (b * places) (omega arith) (omega arith) (omega (arith, long)))
      ]

-- the rows put so far, and one more
module _ (t names d row : List ℕ) (x : ℕ) (O : OneToOne (length names) names) (l : x < length names) (within : name names x * places + places ≤ length d) (long : length row ≡ places) where
  pub rows_next : ((y : ℕ) → y < x → NewRow names (table_row t y) (table_row d (name names y))) → NewRow names (table_row t x) row
      → (y : ℕ) → y < x + 1 → NewRow names (table_row t y) (table_row (new (name names x) d row within long) (name names y))
  rows_next before here y m =
      elim (ℕ_discrete y x) [
        | yes e ↦ rw (e, put_here (name names x) d row within long) here
        | no e ↦ rw (put_other (name names x) d row within long (name names y) (O.apart y x (omega arith) l)) (before y (omega arith))
      ]
