-- A ring in the type `Ring`: its length, and its atoms in 24 words, zeros after them.
--
--   padded r                    the words of r, filled up with zeros
--   as_ring r                   the atoms r as a value of the type
--   not_ring k                  k is not the length of a ring: 3 to 24
--   ring_of r                   the ring of the atoms r, or none where r is too short or too long
--   place_at k start onwards i  the place of a ring of k that is read i after the start
--   read_from r start onwards   r read from a place on, round the ring, onwards or backwards
--   ring_read r start onwards   the ring of such a reading, or none where there is no such ring or place
--   WritingPadded r words       the words are the one writing of r, filled up with zeros
use Rattle.std.specs.Prelude.{◌≡◌, ℕ, ◌+◌, ◌-◌, ◌%◌, Bool, true, false, cond, not, ◌&&◌, ◌||◌, Option, None, Some, List, ◌++◌, map, length, replicate, nat_le, slice_index}
use Rattle.graph.specs.Lists.{numbers_from}
use Rattle.graph.specs.Writing.{RingReading, OneWriting}
use Rattle.ring.specs.declared.Ring.{Ring}
use Rattle.ring.specs.Maxima.{ring_least, ring_most}

abbrev pub padded : List ℕ → List ℕ
padded r = r ++ replicate (ring_most - length r) 0

abbrev pub as_ring : List ℕ → Ring
as_ring r = record { len = length r; atoms = padded r }

abbrev pub not_ring : ℕ → Bool
not_ring k = not (nat_le ring_least k && nat_le k ring_most)

unfoldable pub ring_of : List ℕ → Option Ring
ring_of r = cond (not_ring (length r)) None (Some (as_ring r))

abbrev pub place_at : ℕ → ℕ → Bool → ℕ → ℕ
place_at k start true i = (start + i) % k
place_at k start false i = (start + (k - i)) % k

abbrev pub read_from : List ℕ → ℕ → Bool → List ℕ
read_from r start onwards = map (λ i. slice_index r (place_at (length r) start onwards i)) (numbers_from (length r) 0)

unfoldable pub ring_read : List ℕ → ℕ → Bool → Option Ring
ring_read r start onwards = cond (not_ring (length r) || nat_le (length r) start) None (Some (as_ring (read_from r start onwards)))

pub record WritingPadded (r words : List ℕ) : Type 0 where
  pub writing : List ℕ
  pub reading : RingReading 0 r writing
  pub one : OneWriting writing
  pub filled : words ≡ padded writing
