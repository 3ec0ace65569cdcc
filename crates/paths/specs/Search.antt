-- The search for rings over a table of bonds and a buffer of distances, as functions on lists.
--
--   all_below n f           f holds at each number below n
--   gather_below n f        f 0, then f 1, and so on up to f (n - 1), one list after another
--   pair_fits n dist k path at y i    y, put at place `at` of a ring of k, is as far from the path's atom at place i as the ring says
--   fits_before .. many at y          and so from each of the first `many` atoms
--   every_pair n dist k ring          every pair of a whole path fits
--   is_ring n dist k ring             a whole path, the first atom its smallest, is the one writing of a shortest-path ring
--   Test                    a test that turns back: whether a ring may begin with the path and the atom after it
--   Tests                   such a test for each number of atoms, buffer of distances and length
--   follows may path a      a is above the path's first atom, and passes the test
--   next_word table path i  what stands at place i of the row of the path's last atom
--   goes_on .. path i       that place holds an atom that may follow
--   ended .. path           a whole path, if it is a ring
--   extend .. left path     every ring of k atoms that begins with the path, which lacks `left` atoms, in order
--   branch .. left path i   those that go on with place i of the last atom's row, after which `left` atoms are lacking
--   rings_from .. k a       every ring of k atoms whose first is a
--   rings_of .. k           every ring of k atoms
--   rings_up_to .. m        every ring of the m least lengths, shorter ones first
--   counts_up_to .. m       how many there are of each length: a count for each length from 0 on, of which those of the m least are filled in
--   lengths_up_to .. m      their lengths, added up: each of the m least lengths as often as there are rings of it
use Rattle.std.specs.Prelude.{ℕ, zero, suc, ◌+◌, ◌-◌, ◌*◌, Bool, true, ◌&&◌, cond, List, [], ◌∷◌, ◌++◌, length, get_or, set, replicate, eqb, ltb}
use Rattle.graph.specs.Graph.{around}
use Rattle.network.specs.Maxima.{places}
use Rattle.network.specs.Network.{word}
use Rattle.distance.specs.Distances.{distance}
use Rattle.ring.specs.Maxima.{ring_least, ring_most}

unfoldable pub all_below : ℕ → (ℕ → Bool) → Bool
all_below zero f = true
all_below (suc i) f = all_below i f && f i

unfoldable pub gather_below : ℕ → (ℕ → List (List ℕ)) → List (List ℕ)
gather_below zero f = []
gather_below (suc i) f = gather_below i f ++ f i

unfoldable pub pair_fits : ℕ → List ℕ → ℕ → List ℕ → ℕ → ℕ → ℕ → Bool
pair_fits n dist k path at y i = eqb (distance dist n (get_or path i 0) y) (around k (at - i))

unfoldable pub fits_before : ℕ → List ℕ → ℕ → List ℕ → ℕ → ℕ → ℕ → Bool
fits_before n dist k path many at y = all_below many (pair_fits n dist k path at y)

unfoldable pub every_pair : ℕ → List ℕ → ℕ → List ℕ → Bool
every_pair n dist k ring = all_below k (λ j. fits_before n dist k ring j j (get_or ring j 0))

unfoldable pub is_ring : ℕ → List ℕ → ℕ → List ℕ → Bool
is_ring n dist k ring = ltb (get_or ring 1 0) (get_or ring (k - 1) 0) && every_pair n dist k ring

abbrev pub Test : Type 0
Test = List ℕ → ℕ → Bool

unfoldable pub follows : Test → List ℕ → ℕ → Bool
follows may path a = ltb (get_or path 0 0) a && may path a

abbrev pub next_word : List ℕ → List ℕ → ℕ → ℕ
next_word table path i = word table (get_or path (length path - 1) 0) i

unfoldable pub goes_on : Test → ℕ → List ℕ → List ℕ → ℕ → Bool
goes_on may n table path i = ltb (next_word table path i) n && follows may path (next_word table path i)

unfoldable pub ended : ℕ → List ℕ → ℕ → List ℕ → List (List ℕ)
ended n dist k path = cond (is_ring n dist k path) (path ∷ []) []

unfoldable pub extend : Test → ℕ → List ℕ → List ℕ → ℕ → ℕ → List ℕ → List (List ℕ)
extend may n table dist k zero path = ended n dist k path
extend may n table dist k (suc left) path =
    gather_below places (λ i. cond (goes_on may n table path i) (extend may n table dist k left (path ++ (next_word table path i ∷ []))) [])

unfoldable pub branch : Test → ℕ → List ℕ → List ℕ → ℕ → ℕ → List ℕ → ℕ → List (List ℕ)
branch may n table dist k left path i = cond (goes_on may n table path i) (extend may n table dist k left (path ++ (next_word table path i ∷ []))) []

abbrev pub Tests : Type 0
Tests = ℕ → List ℕ → ℕ → Test

unfoldable pub rings_from : Tests → ℕ → List ℕ → List ℕ → ℕ → ℕ → List (List ℕ)
rings_from may n table dist k a = extend (may n dist k) n table dist k (k - 1) (a ∷ [])

unfoldable pub rings_of : Tests → ℕ → List ℕ → List ℕ → ℕ → List (List ℕ)
rings_of may n table dist k = gather_below n (rings_from may n table dist k)

unfoldable pub rings_up_to : Tests → ℕ → List ℕ → List ℕ → ℕ → List (List ℕ)
rings_up_to may n table dist m = gather_below m (λ j. rings_of may n table dist (j + ring_least))

unfoldable pub counts_up_to : Tests → ℕ → List ℕ → List ℕ → ℕ → List ℕ
counts_up_to may n table dist zero = replicate (ring_most + 1) 0
counts_up_to may n table dist (suc j) = set (counts_up_to may n table dist j) (j + ring_least) (length (rings_of may n table dist (j + ring_least)))

unfoldable pub lengths_up_to : Tests → ℕ → List ℕ → List ℕ → ℕ → ℕ
lengths_up_to may n table dist zero = 0
lengths_up_to may n table dist (suc j) = lengths_up_to may n table dist j + (j + ring_least) * length (rings_of may n table dist (j + ring_least))
