-- The lines of a listing, as bytes (document 01, "The network file").
--
--   space, newline         the bytes between numbers, and at the end of a line
--   atoms_name, bonds_name, ring_name, count_name, total_name, refused_name  the names before the numbers
--   sizes_text n bonds     the line `atoms 7 bonds 9`
--   ring_text r            the line `ring 3 3 5 6`: length and atoms
--   count_text k rings     the line `count 3 1`: a length and its number of rings; nothing where there are none
--   counts_text k cs       these lines for all of the counts cs, from length k on
--   total_text rings       the line `total 4`
--   refusal_text a         the line `refused 22 0 0`: number, row and place
--   left_after left w      the atoms of the present ring that are to come after the word w, where `left` were before it
--   end_text left          the end of the line, where no atom is to come
--   word_text left w       the word w: a length begins a line, and the last atom ends it
--   words_text left ws     the lines of a list's words ws, where `left` atoms of the present ring are to come
--   listing_text ..        a listing: atoms and bonds, the words of the list, the counts by length, the total
use Rattle.std.specs.Prelude.{cond, List, [], ◌∷◌, ◌++◌, ℕ, ◌+◌, ◌-◌, eqb, length}
use Rattle.graph.specs.Lists.{gather}
use Rattle.network.specs.declared.Answer.{Answer}
use Rattle.page.specs.Numbers.{number}
use Rattle.text.specs.Letters.{letters}

abbrev pub space : List ℕ
space = letters " "

abbrev pub newline : List ℕ
newline = letters "\n"

abbrev pub atoms_name : List ℕ
atoms_name = letters "atoms "

abbrev pub bonds_name : List ℕ
bonds_name = letters " bonds "

abbrev pub ring_name : List ℕ
ring_name = letters "ring "

abbrev pub count_name : List ℕ
count_name = letters "count "

abbrev pub total_name : List ℕ
total_name = letters "total "

abbrev pub refused_name : List ℕ
refused_name = letters "refused "

unfoldable pub sizes_text : ℕ → ℕ → List ℕ
sizes_text n bonds = (atoms_name ++ number n) ++ ((bonds_name ++ number bonds) ++ newline)

unfoldable pub ring_text : List ℕ → List ℕ
ring_text r = (ring_name ++ number (length r)) ++ (gather (λ a. space ++ number a) r ++ newline)

unfoldable pub left_after : ℕ → ℕ → ℕ
left_after left w = cond (eqb left 0) w (left - 1)

unfoldable pub end_text : ℕ → List ℕ
end_text left = cond (eqb left 0) newline []

unfoldable pub word_text : ℕ → ℕ → List ℕ
word_text left w = (cond (eqb left 0) ring_name space ++ number w) ++ end_text (left_after left w)

unfoldable pub words_text : ℕ → List ℕ → List ℕ
words_text left [] = []
words_text left (w ∷ ws) = word_text left w ++ words_text (left_after left w) ws

unfoldable pub count_text : ℕ → ℕ → List ℕ
count_text k rings = cond (eqb rings 0) [] ((count_name ++ number k) ++ ((space ++ number rings) ++ newline))

unfoldable pub counts_text : ℕ → List ℕ → List ℕ
counts_text k [] = []
counts_text k (c ∷ cs) = count_text k c ++ counts_text (k + 1) cs

unfoldable pub total_text : ℕ → List ℕ
total_text rings = (total_name ++ number rings) ++ newline

unfoldable pub listing_text : ℕ → ℕ → List ℕ → List ℕ → ℕ → List ℕ
listing_text n bonds words counts total =
    sizes_text n bonds ++ (words_text 0 words ++ (counts_text 0 counts ++ total_text total))

unfoldable pub refusal_text : Answer → List ℕ
refusal_text a = (refused_name ++ number a.code) ++ ((space ++ number a.row) ++ ((space ++ number a.place) ++ newline))
