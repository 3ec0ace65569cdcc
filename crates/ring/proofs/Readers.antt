-- A ring read into the words of the type `Ring`, and when that is its one writing.
use Rattle.std.proofs.Common.{◌≡◌, ℕ, ◌+◌, ◌-◌, ◌%◌, ◌<◌, ◌≤◌, Bool, true, false, nat_lt, ltb-true, ltb-false, Option, None, Some, ◌≢◌, List, length, get_or, set, refl, ap, ◌∙◌, inl, inr, mod-eq_of_lt, arith, length-set, get_or-set_same, ext_get_or, le-leb}
use Rattle.std.proofs.lemmas.Bool.{cases_eq}
use Rattle.std.proofs.lemmas.Bool.Decides.{nat_tests}
use Rattle.std.proofs.lemmas.List.{places}
use Rattle.std.specs.List.{IsFirstBest}
use Rattle.std.specs.Option.{IsSome}
use Rattle.graph.proofs.Lists.{length_made, get_or_made}
use Rattle.graph.proofs.Writings.{onwards_written, backwards_written}
use Rattle.ring.specs.Maxima.{ring_least, ring_most}
use Rattle.ring.specs.declared.Ring.{Ring}
use Rattle.ring.specs.Writes.{padded, as_ring, not_ring, ring_of, place_at, read_from, ring_read, WritingPadded}

-- the lengths of rings
pub long_enough : (k : ℕ) → ring_least ≤ k → k ≤ ring_most → not_ring k ≡ false
long_enough k l m = simp (le-leb _ _ l, le-leb _ _ m)

pub right_length : (k : ℕ) → not_ring k ≡ false → (ring_least ≤ k) × (k ≤ ring_most)
right_length k h = (grind (arith, nat_tests), grind (arith, nat_tests))

-- what the constructor of rings answers
pub no_ring : (r : List ℕ) (o : Option Ring) → o ≡ ring_of r → o ≡ None → not_ring (length r) ≡ true
unfolding ring_of
no_ring r o e z = grind arith

pub some_ring : (r : List ℕ) (o : Option Ring) (v : Ring) → o ≡ ring_of r → o ≡ Some v → not_ring (length r) ≡ false
unfolding ring_of
some_ring r o v e z = grind arith

-- reading
module _ (r : List ℕ) (start : ℕ) (onwards : Bool) where
  pub reading_long : length (read_from r start onwards) ≡ length r
  reading_long = length_made (λ i. get_or r (place_at (length r) start onwards i) 0) (length r)

  pub reading_at : (i : ℕ) → i < length r → get_or (read_from r start onwards) i 0 ≡ get_or r (place_at (length r) start onwards i) 0
  reading_at i l = get_or_made (λ i. get_or r (place_at (length r) start onwards i) 0) 0 (length r) i l

-- the words hold the first i of s, then zeros
pub record Copied (s words : List ℕ) (i : ℕ) : Type 0 where
  pub long : length words ≡ ring_most
  pub copied : (x : ℕ) → x < i → get_or words x 0 ≡ get_or s x 0
  pub zeros : (x : ℕ) → i ≤ x → x < ring_most → get_or words x 0 ≡ 0

pub copied_more : (s words : List ℕ) (i v : ℕ) → Copied s words i → i < ring_most → v ≡ get_or s i 0 → Copied s (set words i v) (i + 1)
copied_more s words i v C l h = record {
  long = length-set words i v ∙ C.long;
  copied = λ x k. let a = C.copied x in let same = cases_eq x i in grind (arith, places, get_or-set_same, C.long);
  zeros = λ x k m. let a = C.zeros x in grind (arith, places);
}

-- where all are copied, they are those of a ring of k atoms
pub copied_all : (s words : List ℕ) (i k : ℕ) → Copied s words i → length s ≡ k → k ≤ ring_most → i ≡ k → record { len = k; atoms = words } ≡ as_ring s
copied_all s words i k C e l m = rw (← e, ext_get_or 0 words (padded s) (C.long ∙ long) at) refl
  where
    long : ring_most ≡ length (padded s)
    long = grind (arith, places)

    at : (x : ℕ) → x < length words → get_or words x 0 ≡ get_or (padded s) x 0
    at x k = let a = C.copied x in let b = C.zeros x in grind (arith, places)

-- a whole reading: from place 0 onwards it is the ring itself
pub reading_itself : (r : List ℕ) → read_from r 0 true ≡ r
reading_itself r = ext_get_or 0 (read_from r 0 true) r (reading_long r 0 true) λ i l.
    let k : i < length r = omega (arith, reading_long r 0 true) in
    reading_at r 0 true i k ∙ ap (λ x. get_or r x 0) (ap (λ x. x % length r) (let e : 0 + i ≡ i = omega arith in e) ∙ mod-eq_of_lt k)

-- a reading from a place on
module _ (r : List ℕ) (start : ℕ) (onwards : Bool) where
  pub reads_none : ((ring_least ≤ length r) × (length r ≤ ring_most) × (start < length r) → ⊥) → None ≡ ring_read r start onwards
  unfolding ring_read
  reads_none h = grind (arith, nat_tests)

  pub reads_some : (v : Ring) → v ≡ as_ring (read_from r start onwards) → ring_least ≤ length r → length r ≤ ring_most → start < length r → Some v ≡ ring_read r start onwards
  unfolding ring_read
  reads_some v e l k h = grind (arith, nat_tests)

pub from_start : (r : List ℕ) → ring_read r 0 true ≡ ring_of r
unfolding ring_read ring_of
from_start r = let e = reading_itself r in grind (arith, nat_tests)

-- the reading from a smallest atom on, towards the smaller of the atoms beside it, is the one writing
module _ (r : List ℕ) (h : ring_least ≤ length r) (most : length r ≤ ring_most) (d : (i j : ℕ) → i < j → j < length r → get_or r i 0 ≢ get_or r j 0)
    (m : ℕ) (best : IsFirstBest nat_lt r (length r) m) where
  least : (i : ℕ) → i < length r → get_or r m 0 ≤ get_or r i 0
  least i l = ltb-false _ _ (best.1 i 0 l)

  abbrev after : ℕ
  after = get_or r ((m + 1) % length r) 0

  abbrev before : ℕ
  before = get_or r ((m + (length r - 1)) % length r) 0

  written : (words : List ℕ) (b : Bool) → nat_lt after before ≡ b → words ≡ padded (read_from r m b) → WritingPadded r words
  written words true c e = record {
    writing = read_from r m true;
    reading = record { alike = reading_long r m true; start = m; starts = best.0; reads = inl (reading_at r m true) };
    one = onwards_written r h d m best.0 least (read_from r m true) (reading_long r m true) (reading_at r m true) (ltb-true _ _ c);
    filled = e;
  }
  written words false c e = record {
    writing = read_from r m false;
    reading = record { alike = reading_long r m false; start = m; starts = best.0; reads = inr (reading_at r m false) };
    one = backwards_written r h d m best.0 least (read_from r m false) (reading_long r m false) (reading_at r m false) (λ l. omega (arith, l, ltb-false _ _ c));
    filled = e;
  }

  module _ (o : Option Ring) (e : o ≡ ring_read r m (nat_lt after before)) where
    pub writes_some : IsSome o
    writes_some = rw (e, ← reads_some r m (nat_lt after before) _ refl h most best.0) refl

    pub writes : (v : Ring) → o ≡ Some v → WritingPadded r v.atoms
    writes v f =
        let s = reads_some r m (nat_lt after before) _ refl h most best.0 in
        let g : v ≡ as_ring (read_from r m (nat_lt after before)) = cc in
        written v.atoms (nat_lt after before) refl (ap (λ (u : Ring). u.atoms) g)
