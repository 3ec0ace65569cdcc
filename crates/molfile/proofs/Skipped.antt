-- What comes after the bond lines is skipped.
--
--   rest_skipped    where `front` holds all lines that are read, with their ends, what comes after it does not matter
use Rattle.std.proofs.Common.{◌≡◌, refl, sym, ◌∙◌, ap, subst, ◌↔◌, List, [], ◌∷◌, ◌++◌, ℕ, zero, suc, ◌<◌, arith, length, eq-eqb, ne_eqb}
use Rattle.std.proofs.Math.Decide.{ℕ_discrete}
use mathlib.Core.List.Memᴰ
use Rattle.graph.specs.Lists.{◌∈◌}
use Rattle.bonds.specs.declared.Reading.{Reading}
use Rattle.molfile.specs.Lines.{line_feed, ends_here, line_of, past_line, from_line, line_at, MissingLine}
use Rattle.molfile.specs.Judging.{MolfileOutcome}
use Rattle.molfile.specs.Same.{lines_read, SameLines, WholeLines}
use Rattle.molfile.proofs.Lines.{at_feed}
use Rattle.molfile.proofs.Laws.{lines_alike, same_back}

-- the LF of a line comes later than a byte that is none
feed_later : (b : ℕ) (bytes : List ℕ) → line_feed ∈ b ∷ bytes → (b ≡ line_feed → ⊥) → line_feed ∈ bytes
feed_later b bytes (Memᴰ.head e) f = absurd (f (sym e))
feed_later b bytes (Memᴰ.tail i) f = i

module _ (rest : List ℕ) where
  -- the first line, which has its end, and what comes after it
  same_end : (b : ℕ) (bytes : List ℕ) → line_feed ∈ b ∷ bytes → ends_here b (bytes ++ rest) ≡ ends_here b bytes
  unfolding ends_here
  same_end b [] i = go (ℕ_discrete b line_feed)
    where
      go : Dec (b ≡ line_feed) → ends_here b rest ≡ ends_here b []
      go (yes e) = rw (eq-eqb b line_feed e)
      go (no e) = absurd (Memᴰ.not-nil (feed_later b [] i e))
  same_end b (c ∷ bytes) i = refl

  line_front : (front : List ℕ) → line_feed ∈ front → line_of (front ++ rest) ≡ line_of front
  unfolding line_of
  line_front [] i = absurd (Memᴰ.not-nil i)
  line_front (b ∷ bytes) i = go (ℕ_discrete b line_feed) (line_front bytes)
    where
      go : Dec (b ≡ line_feed) → (line_feed ∈ bytes → line_of (bytes ++ rest) ≡ line_of bytes) → line_of (b ∷ bytes ++ rest) ≡ line_of (b ∷ bytes)
      go (yes e) later = rw (same_end b bytes i, at_feed b bytes e)
      go (no e) later = rw (same_end b bytes i, later (feed_later b bytes i e)) refl

  past_front : (front : List ℕ) → line_feed ∈ front → past_line (front ++ rest) ≡ past_line front ++ rest
  unfolding past_line
  past_front [] i = absurd (Memᴰ.not-nil i)
  past_front (b ∷ bytes) i = go (ℕ_discrete b line_feed) (past_front bytes)
    where
      go : Dec (b ≡ line_feed) → (line_feed ∈ bytes → past_line (bytes ++ rest) ≡ past_line bytes ++ rest)
          → past_line (b ∷ bytes ++ rest) ≡ past_line (b ∷ bytes) ++ rest
      go (yes e) later = rw (eq-eqb b line_feed e) refl
      go (no e) later = rw (ne_eqb b line_feed e) (later (feed_later b bytes i e))

  -- every line of the whole ones
  module _ (front : List ℕ) (many : ℕ) (whole : WholeLines many front) where
    feed_from : (k : ℕ) → k < many → line_feed ∈ from_line front k
    unfolding WholeLines
    feed_from = whole

    from_front : (k : ℕ) → k < many → from_line (front ++ rest) k ≡ from_line front k ++ rest
    unfolding from_line
    from_front zero l = refl
    from_front (suc k) l = ap past_line (from_front k (omega arith)) ∙ past_front (from_line front k) (feed_from k (omega arith))

    lines_front : (k : ℕ) → k < many → line_at (front ++ rest) k ≡ line_at front k
    lines_front k l = ap line_of (from_front k l) ∙ line_front (from_line front k) (feed_from k l)

    -- none of them is missing
    there : (bytes : List ℕ) → line_feed ∈ bytes → bytes ++ rest ≡ [] → ⊥
    there [] i e = Memᴰ.not-nil i
    there (b ∷ bytes) i e = omega (arith, ap length e)

    missing_front : (k : ℕ) → k < many → MissingLine (front ++ rest) k ↔ MissingLine front k
    missing_front k l = (
      λ m. absurd (there (from_line front k) (feed_from k l) (sym (from_front k l) ∙ m)),
      λ m. absurd (Memᴰ.not-nil (subst (λ (bytes : List ℕ). line_feed ∈ bytes) m (feed_from k l))),
    )

same_front : (front rest : List ℕ) → WholeLines (lines_read front) front → SameLines front (front ++ rest)
same_front front rest whole = record { lines = lines_front rest front (lines_read front) whole; missing = missing_front rest front (lines_read front) whole }

pub rest_skipped : (front rest more before after : List ℕ) (r : Reading) → WholeLines (lines_read front) front
    → MolfileOutcome (front ++ rest) before after r → MolfileOutcome (front ++ more) before after r
rest_skipped front rest more before after r whole R =
    lines_alike front (front ++ more) (same_front front more whole) before after r
    (lines_alike (front ++ rest) front (same_back front (front ++ rest) (same_front front rest whole)) before after r R)
