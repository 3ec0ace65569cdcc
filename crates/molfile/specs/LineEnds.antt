-- The two ends of a line (document 02, request 1): with LF for CR LF a file has the same lines. A file may have both ends. The condition is that no
-- CR CR LF stands in it: of this the last CR is left out, and the other, which was a byte of the line, would then begin a new line end.
--
--   without_returns file   the file with LF for CR LF: each CR directly before an LF is left out
--   NoTwoReturns file      no CR CR LF stands in the file
use Rattle.std.specs.Prelude.{◌≡◌, cond, ◌&&◌, List, [], ◌∷◌, ℕ, ◌+◌, eqb, get_or}
use Rattle.molfile.specs.Lines.{line_feed, carriage_return}

unfoldable pub without_returns : List ℕ → List ℕ
without_returns [] = []
without_returns (b ∷ rest) = cond (eqb b carriage_return && eqb (get_or rest 0 0) line_feed) (without_returns rest) (b ∷ without_returns rest)

unfoldable pub NoTwoReturns : List ℕ → Type 0
NoTwoReturns file =
    (i : ℕ) → get_or file i 0 ≡ carriage_return → get_or file (i + 1) 0 ≡ carriage_return → get_or file (i + 2) 0 ≡ line_feed → ⊥
