-- How the checker computes whether an example holds, a near miss misses and a repeat takes a ring twice.
--
--   list_over n t limit dist   the rings that the depth-first search lists over the distances `dist`
--   same eq xs ys              the same members in the same order, where eq tells members apart
--   same_pair                  the same pair of numbers
--   lists_rings n t e dist     the search lists the example's rings
--   passes e                   the example holds
--   closed t r                 r is a ring: at least three different atoms, each bonded to the next, the last to the first
--   misses m                   the near miss takes what is a ring, in its one writing, but does not stand in the example's list
--   onwards_from r start       r read onwards from place `start`
--   backwards_from r start     and backwards
--   readings_from r start      both
--   readings_of r              the readings of r, from each of its places
--   takes_twice m              the repeat takes a ring of the example's list and another reading of it
use Rattle.std.specs.Prelude.{Bool, true, false, ◌&&◌, not, List, [], ◌∷◌, map, ℕ, suc, ◌+◌, ◌-◌, ◌%◌, eqb, leb, length, get_or}
use Rattle.graph.specs.Lists.{gather, numbers_from, every}
use Rattle.graph.specs.Levels.{elem}
use Rattle.graph.specs.Counts.{of_length, words_of}
use Rattle.graph.specs.Search.{rings_within, in_writing}
use Rattle.network.specs.Network.{neighbours}
use Rattle.network.specs.Verdict.{verdict}
use Rattle.examples.specs.Examples.{Example, rows_table, by_length}
use Rattle.examples.specs.NearMisses.{distances_by, every_pair_of, NearMiss}
use Rattle.examples.specs.Repeats.{smallest_first, second_smaller, Repeat}

abbrev pub list_over : ℕ → List ℕ → ℕ → (ℕ → ℕ → ℕ) → List (List ℕ)
list_over n t limit dist = rings_within 0 (numbers_from n 0) (neighbours t) dist in_writing limit

abbrev pub same : {A : Type 0} → (A → A → Bool) → List A → List A → Bool
same eq [] [] = true
same eq [] (y ∷ ys) = false
same eq (x ∷ xs) [] = false
same eq (x ∷ xs) (y ∷ ys) = eq x y && same eq xs ys

abbrev pub same_pair : ℕ × ℕ → ℕ × ℕ → Bool
same_pair a b = eqb a.0 b.0 && eqb a.1 b.1

-- the distances are computed once, since they are an argument
abbrev pub lists_rings : ℕ → List ℕ → Example → (ℕ → ℕ → ℕ) → Bool
lists_rings n t e dist = same (same eqb) (list_over n t e.limit dist) e.rings

abbrev pub passes : Example → Bool
passes e =
    eqb (verdict (length e.rows) (rows_table e.rows)).code 0
    && (lists_rings (length e.rows) (rows_table e.rows) e (distances_by e.limit (length e.rows) (neighbours (rows_table e.rows)))
    && (eqb e.words (words_of e.rings)
    && same same_pair e.counts (by_length e.limit (λ k. of_length k e.rings))))

abbrev pub closed : List ℕ → List ℕ → Bool
closed t r =
    leb 3 (length r)
    && (every_pair_of (λ i j. not (eqb (get_or r i 0) (get_or r j 0))) (length r)
    && (every (λ i. elem eqb (get_or r (suc i) 0) (neighbours t (get_or r i 0))) (numbers_from (length r - 1) 0)
    && elem eqb (get_or r 0 0) (neighbours t (get_or r (length r - 1) 0))))

abbrev pub misses : NearMiss → Bool
misses m =
    m.test (length m.example.rows) (rows_table m.example.rows) m.cycle
    && (closed (rows_table m.example.rows) m.cycle
    && (leb (length m.cycle) m.example.limit
    && (smallest_first m.cycle
    && (second_smaller m.cycle
    && (not (elem (same eqb) m.cycle m.example.rings)
    && passes m.example)))))

abbrev pub onwards_from : List ℕ → ℕ → List ℕ
onwards_from r start = map (λ i. get_or r ((start + i) % length r) 0) (numbers_from (length r) 0)

abbrev pub backwards_from : List ℕ → ℕ → List ℕ
backwards_from r start = map (λ i. get_or r ((start + (length r - i)) % length r) 0) (numbers_from (length r) 0)

abbrev pub readings_from : List ℕ → ℕ → List (List ℕ)
readings_from r start = onwards_from r start ∷ backwards_from r start ∷ []

abbrev pub readings_of : List ℕ → List (List ℕ)
readings_of r = gather (readings_from r) (numbers_from (length r) 0)

abbrev pub takes_twice : Repeat → Bool
takes_twice m =
    m.test (length m.example.rows) (rows_table m.example.rows) m.ring
    && (m.test (length m.example.rows) (rows_table m.example.rows) m.other
    && (elem (same eqb) m.ring m.example.rings
    && (elem (same eqb) m.other (readings_of m.ring)
    && (not (same eqb m.other m.ring)
    && passes m.example))))
