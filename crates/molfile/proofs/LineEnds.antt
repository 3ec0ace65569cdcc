-- With LF for CR LF a file has the same lines.
use Rattle.std.proofs.Common.{◌≡◌, refl, sym, ◌∙◌, ap, ◌⊎◌, inl, inr, ◌↔◌, true, List, [], ◌∷◌, ℕ, zero, suc, ◌+◌, arith, length, get_or, eq-eqb, ne_eqb}
use Rattle.std.proofs.Math.Decide.{ℕ_discrete}
use Rattle.molfile.specs.Lines.{line_feed, carriage_return, ends_here, line_of, past_line, from_line, line_at, MissingLine}
use Rattle.molfile.specs.LineEnds.{without_returns, NoTwoReturns}
use Rattle.molfile.proofs.Lines.{at_feed, at_other}

-- no CR CR LF, from each byte on
none_after : (b : ℕ) (rest : List ℕ) → NoTwoReturns (b ∷ rest) → NoTwoReturns rest
unfolding NoTwoReturns
none_after b rest n i r s f =
    let d : suc i + 1 ≡ suc (i + 1) = omega arith in
    let e : suc i + 2 ≡ suc (i + 2) = omega arith in
    n (suc i) r (ap (λ (k : ℕ). get_or (b ∷ rest) k 0) d ∙ s) (ap (λ (k : ℕ). get_or (b ∷ rest) k 0) e ∙ f)

pub none_past : (file : List ℕ) → NoTwoReturns file → NoTwoReturns (past_line file)
unfolding past_line
none_past [] n = n
none_past (b ∷ rest) n = go (ℕ_discrete b line_feed) (none_after b rest n) (none_past rest (none_after b rest n))
  where
    go : Dec (b ≡ line_feed) → NoTwoReturns rest → NoTwoReturns (past_line rest) → NoTwoReturns (past_line (b ∷ rest))
    go (yes e) here later = rw (eq-eqb b line_feed e) here
    go (no e) here later = rw (ne_eqb b line_feed e) later

-- the first byte is left out, where it is CR before LF, or it stays
record LeftOut (b : ℕ) (rest : List ℕ) : Type 0 where
  pub return : b ≡ carriage_return
  pub feed : get_or rest 0 0 ≡ line_feed
  pub without : without_returns (b ∷ rest) ≡ without_returns rest

record Stays (b : ℕ) (rest : List ℕ) : Type 0 where
  pub no_end : b ≡ carriage_return → get_or rest 0 0 ≡ line_feed → ⊥
  pub without : without_returns (b ∷ rest) ≡ b ∷ without_returns rest

left_or_stays : (b : ℕ) (rest : List ℕ) → LeftOut b rest ⊎ Stays b rest
unfolding without_returns
left_or_stays b rest = go (ℕ_discrete b carriage_return) (ℕ_discrete (get_or rest 0 0) line_feed)
  where
    go : Dec (b ≡ carriage_return) → Dec (get_or rest 0 0 ≡ line_feed) → LeftOut b rest ⊎ Stays b rest
    go (yes r) (yes f) = inl (record { return = r; feed = f; without = rw (eq-eqb b carriage_return r, eq-eqb (get_or rest 0 0) line_feed f) })
    go (yes r) (no f) = inr (record { no_end = λ _. f; without = rw (eq-eqb b carriage_return r, ne_eqb (get_or rest 0 0) line_feed f) })
    go (no r) f = inr (record { no_end = λ e. absurd (r e); without = rw (ne_eqb b carriage_return r) })

-- what then begins with LF began with it or with CR LF
begins_feed : (file : List ℕ) → get_or (without_returns file) 0 0 ≡ line_feed
    → (get_or file 0 0 ≡ line_feed) ⊎ ((get_or file 0 0 ≡ carriage_return) × (get_or file 1 0 ≡ line_feed))
unfolding without_returns
begins_feed [] f = absurd (omega arith)
begins_feed (b ∷ rest) f = go (left_or_stays b rest)
  where
    go : LeftOut b rest ⊎ Stays b rest → (b ≡ line_feed) ⊎ ((b ≡ carriage_return) × (get_or rest 0 0 ≡ line_feed))
    go (inl o) = inr (o.return, o.feed)
    go (inr s) = inl (sym (ap (λ (bytes : List ℕ). get_or bytes 0 0) s.without) ∙ f)

-- where a line ends
at_return : (b : ℕ) (rest : List ℕ) → b ≡ carriage_return → get_or rest 0 0 ≡ line_feed → ends_here b rest ≡ true
unfolding ends_here
at_return b rest r f = rw (r, eq-eqb (get_or rest 0 0) line_feed f)

same_end : (b : ℕ) (rest : List ℕ) → NoTwoReturns (b ∷ rest) → Stays b rest → ends_here b (without_returns rest) ≡ ends_here b rest
unfolding NoTwoReturns
same_end b rest n s = go (ℕ_discrete b line_feed)
  where
    none : b ≡ carriage_return → (get_or rest 0 0 ≡ line_feed) ⊎ ((get_or rest 0 0 ≡ carriage_return) × (get_or rest 1 0 ≡ line_feed)) → ⊥
    none r (inl f) = s.no_end r f
    none r (inr p) = n 0 r p.0 p.1

    go : Dec (b ≡ line_feed) → ends_here b (without_returns rest) ≡ ends_here b rest
    go (yes f) = at_feed b (without_returns rest) f ∙ sym (at_feed b rest f)
    go (no f) = at_other b (without_returns rest) f (λ r e. none r (begins_feed rest e)) ∙ sym (at_other b rest f s.no_end)

-- the first line, and what comes after it
no_line : (rest : List ℕ) → get_or rest 0 0 ≡ line_feed → line_of rest ≡ []
unfolding line_of
no_line [] f = refl
no_line (b ∷ rest) f = rw (at_feed b rest f)

pub line_without : (file : List ℕ) → NoTwoReturns file → line_of (without_returns file) ≡ line_of file
unfolding line_of without_returns
line_without [] n = refl
line_without (b ∷ rest) n = go (left_or_stays b rest) (line_without rest (none_after b rest n))
  where
    go : LeftOut b rest ⊎ Stays b rest → line_of (without_returns rest) ≡ line_of rest → line_of (without_returns (b ∷ rest)) ≡ line_of (b ∷ rest)
    go (inl o) later = ap line_of o.without ∙ later ∙ no_line rest o.feed ∙ rw (at_return b rest o.return o.feed)
    go (inr s) later = ap line_of s.without ∙ rw (same_end b rest n s, later) refl

pub past_without : (file : List ℕ) → past_line (without_returns file) ≡ without_returns (past_line file)
unfolding past_line without_returns
past_without [] = refl
past_without (b ∷ rest) = go (left_or_stays b rest) (ℕ_discrete b line_feed) (past_without rest)
  where
    go : LeftOut b rest ⊎ Stays b rest → Dec (b ≡ line_feed) → past_line (without_returns rest) ≡ without_returns (past_line rest)
        → past_line (without_returns (b ∷ rest)) ≡ without_returns (past_line (b ∷ rest))
    go (inl o) f later = ap past_line o.without ∙ later ∙ rw o.return
    go (inr s) (yes f) later = ap past_line s.without ∙ rw (eq-eqb b line_feed f)
    go (inr s) (no f) later = ap past_line s.without ∙ rw (ne_eqb b line_feed f) later

-- every line
module _ (file : List ℕ) where
  pub from_without : (k : ℕ) → from_line (without_returns file) k ≡ without_returns (from_line file k)
  unfolding from_line
  from_without zero = refl
  from_without (suc k) = ap past_line (from_without k) ∙ past_without (from_line file k)

  pub none_from : NoTwoReturns file → (k : ℕ) → NoTwoReturns (from_line file k)
  unfolding from_line
  none_from n zero = n
  none_from n (suc k) = none_past (from_line file k) (none_from n k)

  pub lines_without : NoTwoReturns file → (k : ℕ) → line_at (without_returns file) k ≡ line_at file k
  lines_without n k = ap line_of (from_without k) ∙ line_without (from_line file k) (none_from n k)

-- and no other
some_without : (file : List ℕ) → without_returns file ≡ [] → file ≡ []
some_without [] e = refl
some_without (b ∷ rest) e = absurd (go (left_or_stays b rest) (some_without rest))
  where
    go : LeftOut b rest ⊎ Stays b rest → (without_returns rest ≡ [] → rest ≡ []) → ⊥
    go (inl o) later =
        let z : get_or rest 0 0 ≡ 0 = ap (λ (bytes : List ℕ). get_or bytes 0 0) (later (sym o.without ∙ e)) in
        omega (arith, o.feed)
    go (inr s) later = let z : ◌≡◌ {A = List ℕ} (b ∷ without_returns rest) [] = sym s.without ∙ e in omega (arith, ap length z)

none_without : (file : List ℕ) → file ≡ [] → without_returns file ≡ []
unfolding without_returns
none_without file e = rw e refl

pub missing_without : (file : List ℕ) (k : ℕ) → MissingLine (without_returns file) k ↔ MissingLine file k
missing_without file k = (λ m. some_without (from_line file k) (sym (from_without file k) ∙ m), λ m. from_without file k ∙ none_without (from_line file k) m)
