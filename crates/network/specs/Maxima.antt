-- The maxima of a network (document 01, "The network"): the constants of the type `Network` are these.
--
--   atoms_most   the most atoms
--   places       the places in a row
--   free         the word of a free place
use Rattle.std.specs.Prelude.{ℕ}

abbrev pub atoms_most : ℕ
atoms_most = 250

abbrev pub places : ℕ
places = 8

abbrev pub free : ℕ
free = 65535
