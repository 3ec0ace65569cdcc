-- The lines of a file: by their first line feeds, as the code finds them, and after a line that is missing.
use Rattle.std.proofs.Common.{◌≡◌, refl, sym, ◌∙◌, ap, subst, inl, inr, ltb, Bool, true, false, cond, eqb, List, [], ◌∷◌, ◌++◌, ℕ, zero, suc, ◌+◌, ◌-◌, ◌<◌, ◌≤◌, ◌==◌, ◌&&◌, length, length-append, append_assoc, get_or, drop, take, Option, Some, None, Bor, add-one, arith, add-zero, add-suc, length-drop, eq-eqb, ne_eqb, eqb-true}
use Rattle.std.proofs.Math.Decide.{ℕ_discrete, dec_le}
use Rattle.std.proofs.Math.ListN.{get_or-append}
use Rattle.std.specs.Cmp.Lexicographic.{pointwise}
use Rattle.std.specs.Option.{MatchOption, unwrap_or}
use Rattle.std.proofs.lemmas.Slice.{between_to_end}
use Rattle.std.proofs.lemmas.Slice.Eq.{strip_suffix_is}
use Rattle.std.specs.List.{position, position_or_len}
use Rattle.std.proofs.lemmas.List.{take-append-drop}
use Rattle.std.proofs.lemmas.List.Quantifiers.{position-Some}
use Rattle.std.proofs.lemmas.List.Sums.{fails_before_first}
use Rattle.std.proofs.Math.Seq.{take-length, drop-cons}
use Rattle.std.proofs.lemmas.List.{drop-drop}
use Rattle.std.proofs.lemmas.Bool.{cases_lt, eqb-false}
use Rattle.std.proofs.lemmas.Bool.Decides.{nat_tests, Decides-eqb}
use Rattle.std.proofs.lemmas.List.{get_or-take, length-take}
use Rattle.molfile.specs.Lines.{line_feed, carriage_return, ends_here, line_of, past_line, from_line, line_at, MissingLine, Begins}

-- where a line ends
pub at_feed : (b : ℕ) (rest : List ℕ) → b ≡ line_feed → ends_here b rest ≡ true
unfolding ends_here
at_feed b rest e = rw (eq-eqb b line_feed e)

pub at_other : (b : ℕ) (rest : List ℕ) → (b ≡ line_feed → ⊥) → (b ≡ carriage_return → get_or rest 0 0 ≡ line_feed → ⊥) → ends_here b rest ≡ false
unfolding ends_here
at_other b rest f h = rw (ne_eqb b line_feed f) (go (ℕ_discrete b carriage_return))
  where
    go : Dec (b ≡ carriage_return) → (eqb b carriage_return && eqb (get_or rest 0 0) line_feed) ≡ false
    go (yes r) = rw (eq-eqb b carriage_return r) (ne_eqb (get_or rest 0 0) line_feed (h r))
    go (no r) = rw (ne_eqb b carriage_return r)

-- a line and what comes after it, where the line feed before which no other stands is known
pub NoFeed : List ℕ → Type 0
NoFeed xs = (k : ℕ) → k < length xs → get_or xs k 0 ≡ line_feed → ⊥

abbrev feeds : ℕ → Bool
feeds byte = byte == line_feed

-- the bytes before the first line feed, and what comes after them; or all, where there is none
before_feed : (file : List ℕ) (end : ℕ) → ((k : ℕ) → k < end → feeds (get_or file k 0) ≡ false) → NoFeed (take end file)
unfolding NoFeed
before_feed file end before k l h =
    let m : k < end = omega (arith, length-take {A = ℕ}) in
    eqb-false _ _ (before k m) (sym (get_or-take end file k 0 m) ∙ h)

pub found_splits : (file : List ℕ) (end : ℕ) → Some end ≡ position feeds file → (file ≡ take end file ++ line_feed ∷ drop (end + 1) file) × NoFeed (take end file)
found_splits file end e =
    let p = position-Some feeds file end 0 (sym e) in
    (sym (take-append-drop end file) ∙ ap (λ (ys : List ℕ). take end file ++ ys) (rw (add-one, ← eqb-true (get_or file end 0) line_feed p.1) (drop-cons file end 0 p.0)), before_feed file end p.2)

pub none_found : (file : List ℕ) → None ≡ position feeds file → NoFeed file
none_found file e =
    let l : length file ≤ position_or_len feeds file = elim (cases_lt (position_or_len feeds file) (length file)) [ inl h ↦ absurd (none (position_or_len feeds file) h e) | inr h ↦ h ] in
    subst NoFeed (take-length file) (before_feed file (length file) (λ k m. fails_before_first feeds file k 0 (omega arith)))
  where
    none : (p : ℕ) → p < length file → None ≡ cond (ltb p (length file)) (Some p) None → ⊥
    none p h e = grind (arith, nat_tests)

no_feed_after : (b : ℕ) (xs : List ℕ) → NoFeed (b ∷ xs) → NoFeed xs
unfolding NoFeed
no_feed_after b xs n k l = n (suc k) (omega arith)

no_feed_front : (xs ys : List ℕ) → NoFeed (xs ++ ys) → NoFeed xs
unfolding NoFeed
no_feed_front xs ys n k l h = n k (omega (arith, length-append xs ys)) (get_or-append xs ys 0 k l ∙ h)

past_next : (b : ℕ) (xs : List ℕ) → NoFeed (b ∷ xs) → past_line (b ∷ xs) ≡ past_line xs
unfolding NoFeed past_line
past_next b xs n = rw (ne_eqb b line_feed (n 0 (omega arith)))

past_first : (xs rest : List ℕ) → NoFeed xs → past_line (xs ++ line_feed ∷ rest) ≡ rest
unfolding NoFeed past_line
past_first [] rest n = refl
past_first (b ∷ xs) rest n = rw (ne_eqb b line_feed (n 0 (omega arith))) (past_first xs rest (no_feed_after b xs n))

past_none : (xs : List ℕ) → NoFeed xs → past_line xs ≡ []
unfolding past_line
past_none [] n = refl
past_none (b ∷ xs) n = past_next b xs n ∙ past_none xs (no_feed_after b xs n)

-- what comes after the first line, by what the code finds
module _ (file : List ℕ) where
  pub past_found : (end : ℕ) → Some end ≡ position feeds file → take (length file - (end + 1)) (drop (end + 1) file) ≡ past_line file
  past_found end e =
      let f = found_splits file end e in
      between_to_end file (end + 1) (length file) (omega arith) ∙ sym (ap past_line f.0 ∙ past_first (take end file) (drop (end + 1) file) f.1)

  pub past_not_found : None ≡ position feeds file → [] ≡ past_line file
  past_not_found e = sym (past_none file (none_found file e))

-- the line goes on at a byte that is no line feed and no return before one
line_next : (b : ℕ) (rest : List ℕ) → (b ≡ line_feed → ⊥) → (b ≡ carriage_return → get_or rest 0 0 ≡ line_feed → ⊥) → line_of (b ∷ rest) ≡ b ∷ line_of rest
unfolding line_of
line_next b rest f r = rw (at_other b rest f r)

line_bare : (xs rest : List ℕ) → NoFeed xs → ((front : List ℕ) → xs ≡ front ++ carriage_return ∷ [] → ⊥) → line_of (xs ++ line_feed ∷ rest) ≡ xs
unfolding NoFeed line_of
line_bare [] rest n bare = rw (at_feed line_feed rest refl)
line_bare (b ∷ xs) rest n bare =
    line_next b (xs ++ line_feed ∷ rest) (n 0 (omega arith)) (no_end xs n bare) ∙ ap (λ (ys : List ℕ). b ∷ ys) (line_bare xs rest (no_feed_after b xs n) (λ front e. bare (b ∷ front) (ap (λ (ys : List ℕ). b ∷ ys) e)))
  where
    no_end : (ys : List ℕ) → NoFeed (b ∷ ys) → ((front : List ℕ) → b ∷ ys ≡ front ++ carriage_return ∷ [] → ⊥) → b ≡ carriage_return → get_or (ys ++ line_feed ∷ rest) 0 0 ≡ line_feed → ⊥
    no_end [] m h e _ = h [] (ap (λ (c : ℕ). c ∷ []) e)
    no_end (y ∷ ys) m h e f = m 1 (omega arith) f

line_return : (xs rest : List ℕ) → NoFeed xs → line_of (xs ++ carriage_return ∷ line_feed ∷ rest) ≡ xs
unfolding NoFeed line_of ends_here
line_return [] rest n = refl
line_return (b ∷ xs) rest n =
    line_next b (xs ++ carriage_return ∷ line_feed ∷ rest) (n 0 (omega arith)) (λ _. no_end xs n) ∙ ap (λ (ys : List ℕ). b ∷ ys) (line_return xs rest (no_feed_after b xs n))
  where
    no_end : (ys : List ℕ) → NoFeed (b ∷ ys) → get_or (ys ++ carriage_return ∷ line_feed ∷ rest) 0 0 ≡ line_feed → ⊥
    no_end [] m f = omega arith
    no_end (y ∷ ys) m f = m 1 (omega arith) f

line_last : (xs : List ℕ) → NoFeed xs → line_of xs ≡ xs
unfolding NoFeed line_of
line_last [] n = refl
line_last (b ∷ xs) n = line_next b xs (n 0 (omega arith)) (λ _. no_end xs n) ∙ ap (λ (ys : List ℕ). b ∷ ys) (line_last xs (no_feed_after b xs n))
  where
    no_end : (ys : List ℕ) → NoFeed (b ∷ ys) → get_or ys 0 0 ≡ line_feed → ⊥
    no_end [] m f = omega arith
    no_end (y ∷ ys) m f = m 1 (omega arith) f

-- the first line, by what the code finds
module _ (file : List ℕ) where
  pub line_found : (end : ℕ) → Some end ≡ position feeds file → (bare : Option (Bor (List ℕ))) (line : Bor (List ℕ)) → line.now ≡ take end file
      → MatchOption bare (pointwise eqb (drop (length (take end file) - 1) (take end file)) (carriage_return ∷ []) ≡ false)
      (λ x. (pointwise eqb (drop (length (take end file) - 1) (take end file)) (carriage_return ∷ []) ≡ true) × (x.now ≡ take (length (take end file) - 1) (take end file)) × (length x.now + 1 ≡ length (take end file)))
      → (unwrap_or bare line).now ≡ line_of file
  line_found end e bare line el h = go bare (strip_suffix_is Decides-eqb (take end file) (carriage_return ∷ []) bare h)
    where
      f : (file ≡ take end file ++ line_feed ∷ drop (end + 1) file) × NoFeed (take end file)
      f = found_splits file end e

      go : (bare : Option (Bor (List ℕ))) → MatchOption bare ((front : List ℕ) → take end file ≡ front ++ carriage_return ∷ [] → ⊥) (λ x. take end file ≡ x.now ++ carriage_return ∷ [])
          → (unwrap_or bare line).now ≡ line_of file
      go None n = el ∙ sym (ap line_of f.0 ∙ line_bare (take end file) (drop (end + 1) file) f.1 n)
      go (Some x) k =
          let n = subst NoFeed k f.1 in
          sym (ap line_of (f.0 ∙ rw (k, append_assoc) refl) ∙ line_return x.now (drop (end + 1) file) (no_feed_front x.now (carriage_return ∷ []) n))

  pub line_not_found : None ≡ position feeds file → file ≡ line_of file
  line_not_found e = sym (line_last file (none_found file e))

-- the lines from a line on
pub from_add : (file : List ℕ) (j k : ℕ) → from_line file (j + k) ≡ from_line (from_line file j) k
unfolding from_line
from_add file j zero = rw add-zero refl
from_add file j (suc k) = rw add-suc (ap past_line (from_add file j k))

from_nothing : (k : ℕ) → from_line [] k ≡ []
unfolding from_line past_line
from_nothing zero = refl
from_nothing (suc k) = ap past_line (from_nothing k)

pub missing_later : (file : List ℕ) (k j : ℕ) → k ≤ j → MissingLine file k → MissingLine file j
missing_later file k j l m =
    let e : j ≡ k + (j - k) = omega arith in
    ap (from_line file) e ∙ from_add file k (j - k) ∙ ap (λ (rest : List ℕ). from_line rest (j - k)) m ∙ from_nothing (j - k)

pub line_missing : (file : List ℕ) (k : ℕ) → MissingLine file k → line_at file k ≡ []
unfolding line_of
line_missing file k m = ap line_of m

-- a line begins at a byte of the file, or where the file ends, and there is one such byte
past_drops : (bytes : List ℕ) → (r : ℕ) × (r ≤ length bytes) × (past_line bytes ≡ drop r bytes)
unfolding past_line
past_drops [] = (0, omega arith, refl)
past_drops (b ∷ rest) = go (ℕ_discrete b line_feed) (past_drops rest)
  where
    go : Dec (b ≡ line_feed) → (r : ℕ) × (r ≤ length rest) × (past_line rest ≡ drop r rest) → (r : ℕ) × (r ≤ length (b ∷ rest)) × (past_line (b ∷ rest) ≡ drop r (b ∷ rest))
    go (yes e) p = (1, omega arith, rw (eq-eqb b line_feed e))
    go (no n) p = (suc p.0, omega (arith, p.1), rw (ne_eqb b line_feed n) p.2)

from_drops : (bytes : List ℕ) (k : ℕ) → (r : ℕ) × (r ≤ length bytes) × (from_line bytes k ≡ drop r bytes)
unfolding from_line
from_drops bytes zero = (0, omega arith, refl)
from_drops bytes (suc k) =
    let p = from_drops bytes k in
    let q = past_drops (drop p.0 bytes) in
    (p.0 + q.0, omega (arith, p.1, q.1, length-drop p.0 bytes), ap past_line p.2 ∙ q.2 ∙ drop-drop q.0 p.0 bytes)

pub begins_some : (file : List ℕ) (from k : ℕ) → (r : ℕ) × Begins file from (from_line (drop from file) k) r
begins_some file from k =
    let p = from_drops (drop from file) k in
    let l : p.0 ≤ length file - from = omega (arith, p.1, length-drop from file) in
    (from + p.0, record { stands = sym (p.2 ∙ drop-drop p.0 from file); inside = λ h. omega arith; past = λ h. omega arith })

pub begins_one : (file : List ℕ) (from : ℕ) (bytes : List ℕ) (r s : ℕ) → Begins file from bytes r → Begins file from bytes s → r ≡ s
begins_one file from bytes r s B C = go (dec_le from (length file))
  where
    left : length (drop r file) ≡ length (drop s file)
    left = ap length (B.stands ∙ sym C.stands)

    go : Dec (from ≤ length file) → r ≡ s
    go (yes h) = omega (arith, left, length-drop r file, length-drop s file, B.inside h, C.inside h)
    go (no h) = B.past (omega arith) ∙ sym (C.past (omega arith))
