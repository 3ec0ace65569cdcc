-- What refusals 14 to 17 mean (document 01, "Numbered refusals"); 15 to 17 name the first place that is so.
--
--   Sized k                 k is the length of a ring: 3 to 24
--   NotAtom, Repeated       15, 16 at place i
--   Unbonded                17 there: the atom is not bonded to the next, the last to the first
use Rattle.std.specs.Prelude.{◌≡◌, List, ℕ, ◌+◌, ◌%◌, ◌≤◌, ◌<◌, length, get_or}
use Rattle.network.specs.Network.{Bonded}
use Rattle.ring.specs.Maxima.{ring_least, ring_most}

abbrev pub Sized : ℕ → Type 0
Sized k = (ring_least ≤ k) × (k ≤ ring_most)

abbrev pub NotAtom : ℕ → List ℕ → ℕ → Type 0
NotAtom n r i = n ≤ get_or r i 0

abbrev pub Repeated : List ℕ → ℕ → Type 0
Repeated r j = (i : ℕ) × (i < j) × (get_or r i 0 ≡ get_or r j 0)

abbrev pub Unbonded : List ℕ → List ℕ → ℕ → Type 0
Unbonded t r i = Bonded t (get_or r i 0) (get_or r ((i + 1) % length r) 0) → ⊥
