-- is_bond i word    word i of a table is a bond to a greater atom: the words of which `bonds: bond_at` makes a bond
use Rattle.std.specs.Prelude.{ℕ, Bool, not, ◌==◌, ◌&&◌, nat_lt, ◌/◌}
use Rattle.network.specs.Maxima.{places, free}

abbrev pub is_bond : ℕ → ℕ → Bool
is_bond i word = not (word == free) && nat_lt (i / places) word
