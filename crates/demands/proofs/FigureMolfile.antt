-- Fig. 1 as a molfile, computed by the checker: its bond lines in any order and direction; the same with one pair again, the other way round.
use mathlib.Core.Path.{◌≡◌, refl}
use mathlib.Core.List.{List, [], ◌∷◌, ◌++◌}
use Prim.Native.Nat.{ℕ, ◌*◌}
use Rattle.network.specs.Maxima.{places}
use Rattle.network.specs.Verdict.{answer, accepted}
use Rattle.bonds.specs.Bonds.{partner, partners, full}
use Rattle.bonds.specs.Scan.{or_at, first_bond}
use Rattle.molfile.specs.Lines.{line_feed, ends_here, line_of, past_line, from_line}
use Rattle.molfile.specs.Columns.{is_digit, number_at, value_at}
use Rattle.molfile.specs.Judging.{has_version, two_numbers, counts_fault, pair_seen, pair_fault, molfile_verdict}
use Rattle.text.specs.Letters.{letters}

abbrev ended : List ℕ → List ℕ
ended line = line ++ (line_feed ∷ [])

-- so many bonds; the last bond line lacks its end
abbrev figure : List ℕ → List ℕ → List ℕ
figure counts bonds =
    ended (letters "Fig. 1") ++ (ended [] ++ (ended [] ++ (ended counts
    ++ (ended (letters "a") ++ (ended (letters "b") ++ (ended (letters "c") ++ (ended (letters "d") ++ (ended (letters "e") ++ (ended (letters "f") ++ (ended (letters "g")
    ++ (ended (letters "  6  7") ++ (ended (letters "  5  1") ++ (ended (letters "  1  2") ++ (ended (letters "  3  2") ++ (ended (letters "  2  4")
    ++ (ended (letters "  4  6") ++ (ended (letters "  6  3") ++ (ended (letters "  7  4") ++ (letters "  6  5" ++ bonds)))))))))))))))))))

pub figure_accepted : molfile_verdict (figure (letters "  7  9  0  0  0  0  0  0  0  0999 V2000") []) (places * 7) ≡ accepted
unfolding molfile_verdict counts_fault has_version two_numbers number_at is_digit value_at line_of ends_here past_line from_line pair_fault pair_seen full partners partner or_at first_bond
figure_accepted = refl

pub figure_again : molfile_verdict (figure (letters "  7 10  0  0  0  0  0  0  0  0999 V2000") (line_feed ∷ letters "  2  1")) (places * 7) ≡ answer 32 0 9
unfolding molfile_verdict counts_fault has_version two_numbers number_at is_digit value_at line_of ends_here past_line from_line pair_fault pair_seen full partners partner or_at first_bond
figure_again = refl
