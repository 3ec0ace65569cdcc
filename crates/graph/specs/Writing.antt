-- One ring, one writing (document 01, "The rings").
--
--   Onwards o r s start      s is r read from the place `start` on, round the ring
--   Backwards o r s start    s is r read from there the other way round
--   RingReading o r s            s is the ring r read from one of its places on, round the ring, onwards or backwards
--   OneWriting r             the smallest atom stands first, and the second is smaller than the last
use Rattle.std.specs.Prelude.{◌≡◌, ◌⊎◌, List, ℕ, ◌+◌, ◌-◌, ◌%◌, ◌<◌, length, get_or}

module _ {Vertex : Type 0} (o : Vertex) where
  abbrev pub Onwards : List Vertex → List Vertex → ℕ → Type 0
  Onwards r s start = (i : ℕ) → i < length r → get_or s i o ≡ get_or r ((start + i) % length r) o

  abbrev pub Backwards : List Vertex → List Vertex → ℕ → Type 0
  Backwards r s start = (i : ℕ) → i < length r → get_or s i o ≡ get_or r ((start + (length r - i)) % length r) o

  pub record RingReading (r s : List Vertex) : Type 0 where
    pub alike : length s ≡ length r
    pub start : ℕ
    pub starts : start < length r
    pub reads : Onwards r s start ⊎ Backwards r s start

pub record OneWriting (r : List ℕ) : Type 0 where
  pub smallest : (i : ℕ) → 0 < i → i < length r → get_or r 0 0 < get_or r i 0
  pub turn : get_or r 1 0 < get_or r (length r - 1) 0
