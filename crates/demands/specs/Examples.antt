-- P1 to P11: the networks of document 01 are accepted, and listing them gives the outline's lists and numbers; its near misses are ruled out.
--
--   ExamplesHold              of the definitions: each table is accepted, its rings are the listing, words and counts are theirs; each wrong
--                             test takes a ring that is no shortest-path ring, or a ring more than once
--   Enough e ..               buffers and an allowance that are enough for the rings of an example
--   ExampleListed e l l' c    what is listed is the census of the example's rings, with its words and counts; and the words of the
--                             rings stand at the front of the list buffer, whose rest stays
--   ExamplesListed            of the calls: with enough, listing an example's table at its limit is accepted and gives this
use Rattle.std.specs.Prelude.{◌≡◌, List, ◌++◌, ℕ, ◌*◌, ◌≤◌, length, get_or, drop}
use Rattle.graph.specs.Lists.{◌∈◌}
use Rattle.examples.specs.Examples.{Example, rows_table, by_length, AllHold, examples}
use Rattle.examples.specs.NearMisses.{AllMissed}
use Rattle.examples.specs.Repeats.{AllTakenTwice}
use Rattle.ring.specs.Maxima.{allowance_most}
use Rattle.census.specs.Told.{Census}
use Rattle.census.specs.Census.{encode, census_of}
use Rattle.demands.specs.Calls.{ListMet}

pub record ExamplesHold : Type 0 where
  pub hold : AllHold
  pub all_missed : AllMissed
  pub repeats : AllTakenTwice

pub record Enough (e : Example) (allowance : ℕ) (d l : List ℕ) : Type 0 where
  pub distances : length d ≡ length e.rows * length e.rows
  pub some : 1 ≤ allowance
  pub most : allowance ≤ allowance_most
  pub allowed : length e.rings ≤ allowance
  pub room : e.words ≤ length l

pub record ExampleListed (e : Example) (l l' : List ℕ) (c : Census) : Type 0 where
  pub census : c ≡ census_of (length e.rows) e.limit e.rings
  pub words : c.words ≡ e.words
  pub counts : by_length e.limit (λ k. get_or c.counts k 0) ≡ e.counts
  pub list : l' ≡ encode e.rings ++ drop e.words l

abbrev pub ExamplesListed : Type 0
ExamplesListed =
    (e : Example) → e ∈ examples → (allowance : ℕ) (d d' l l' : List ℕ) (c : Census) → Enough e allowance d l
    → ListMet (length e.rows) (rows_table e.rows) e.limit allowance d d' l l' c
    → ExampleListed e l l' c
