-- A byte buffer on which a text is written.
--
--   Sheet, page pen bytes    the buffer with the pen over it, which is where the next byte goes: nowhere, once a byte had no room
--   first_pen                the pen at the first byte
--   put b s                  the byte b is written at the pen, where there is room and nothing was left out before
--   put_all bs s             the bytes bs, one after another
--   sheet p                  the buffer of the page p, with its pen over it
--   Puts bs before after     the bytes bs are written on a page, which stays in its buffer
use Rattle.std.specs.Prelude.{◌≡◌, cond, List, [], ◌∷◌, ℕ, ◌+◌, ltb, length, set, Option, Some, None}
use Rattle.page.specs.declared.Page.{Page}

pub record Sheet : Type 0 where
  pub pen : Option ℕ
  pub bytes : List ℕ

abbrev pub page : Option ℕ → List ℕ → Sheet
page p l = record { pen = p; bytes = l }

abbrev pub first_pen : Option ℕ
first_pen = Some 0

unfoldable pub put : ℕ → Sheet → Sheet
put b s = elim s.pen [
  | None ↦ s
  | Some at ↦ cond (ltb at (length s.bytes)) (page (Some (at + 1)) (set s.bytes at b)) (page None s.bytes)
]

unfoldable pub put_all : List ℕ → Sheet → Sheet
put_all [] s = s
put_all (b ∷ bs) s = put_all bs (put b s)

abbrev pub sheet : Page → Sheet
sheet p = page p.pen p.out.now

pub record Puts (bs : List ℕ) (before after : Page) : Type 0 where
  pub sheet_after : sheet after ≡ put_all bs (sheet before)
  pub same_buffer : after.out.ghost_name ≡ before.out.ghost_name
