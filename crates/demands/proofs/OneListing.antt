-- One list of rings, and so one census and one list buffer, are what is demanded of a search that is accepted.
use Rattle.std.proofs.Common.{◌≡◌, refl, sym, ◌∙◌, ap, subst, List, ◌++◌, ℕ, arith, Float, Option, length, drop}
use Rattle.graph.specs.Counts.{lengths_of, words_of}
use Rattle.graph.specs.Listing.{RingListing}
use Rattle.graph.proofs.Listings.{ring_order_strict, ring_listing_unique}
use Rattle.graph.proofs.Standing.{listing_of}
use Rattle.graph.proofs.Readings.{reading_self}
use Rattle.graph.proofs.Writings.{writing_unique}
use Rattle.network.specs.declared.Answer.{Answer}
use Rattle.network.specs.Network.{Bonded}
use Rattle.network.specs.Verdict.{accepted}
use Rattle.census.specs.Told.{Census}
use Rattle.averages.specs.Averages.{quotient, mean_of}
use Rattle.averages.proofs.MeanValues.{mean_told}
use Rattle.census.proofs.Settled.{encode_words}
use Rattle.census.specs.Census.{limit_of, encode, counts_by, counts_of, census_of}
use Rattle.demands.specs.Rings.{AcceptedCount, AcceptedListing}

told_listing : (n : ℕ) (t : List ℕ) (limit : ℕ) (c : Census) (A : AcceptedCount n t limit c) → RingListing (Bonded t) (limit_of limit) A.rings
told_listing n t limit c A = subst (λ k. RingListing (Bonded t) k A.rings) A.used
    (listing_of ring_order_strict c.limit A.rings (λ r h. reading_self 0 r (omega arith)) (λ r s u h R U v w. writing_unique r s u R U v w h) A.stand)

-- so its numbers are those of the one list
abbrev numbered : Answer → ℕ → List ℕ → ℕ → ℕ → Float → Option Float → Census
numbered a limit counts total words per_atom mean = record { answer = a; limit = limit; counts = counts; total = total; words = words; averages = record { per_atom = per_atom; mean = mean } }

told_census_lem : (n : ℕ) (t : List ℕ) (limit : ℕ) (c : Census) (A : AcceptedCount n t limit c)
    → c ≡ numbered c.answer (limit_of limit) (counts_of A.rings) (length A.rings) (words_of A.rings) (quotient (length A.rings) n) (mean_of (length A.rings) (lengths_of A.rings))
unfolding counts_by
told_census_lem n t limit c A =
    let N = A.numbers in
    let own : c ≡ numbered c.answer c.limit c.counts c.total c.words c.averages.per_atom c.averages.mean = refl in
    own ∙ rw (A.used, N.counts, N.total, N.words, N.per_atom, mean_told c.averages.mean (mean_of (length A.rings) (lengths_of A.rings)) N.mean) refl

pub one_count : (n : ℕ) (t : List ℕ) (limit : ℕ) (c c' : Census) → c.answer ≡ c'.answer → AcceptedCount n t limit c → AcceptedCount n t limit c' → c ≡ c'
one_count n t limit c c' e A B =
    told_census_lem n t limit c A
    ∙ rw (e, ring_listing_unique (Bonded t) (limit_of limit) A.rings B.rings (told_listing n t limit c A) (told_listing n t limit c' B)) (sym (told_census_lem n t limit c' B))

pub one_listing : (n : ℕ) (t : List ℕ) (limit : ℕ) (list list' list'' : List ℕ) (c c' : Census) → c.answer ≡ c'.answer
    → AcceptedListing n t limit list list' c → AcceptedListing n t limit list list'' c' → (c ≡ c') × (list' ≡ list'')
one_listing n t limit list list' list'' c c' e A B =
    let one : c ≡ c' = one_count n t limit c c' e A.0 B.0 in
    let same : A.0.rings ≡ B.0.rings = ring_listing_unique (Bonded t) (limit_of limit) A.0.rings B.0.rings (told_listing n t limit c A.0) (told_listing n t limit c' B.0) in
    (one, A.1 ∙ rw (one, same) (sym B.1))

-- accepted, it is the census of any list that is known to be the listing
pub told_rings : (n : ℕ) (t : List ℕ) (limit : ℕ) (list list' : List ℕ) (c : Census) (rings : List (List ℕ)) → RingListing (Bonded t) (limit_of limit) rings → c.answer ≡ accepted
    → AcceptedListing n t limit list list' c → (c ≡ census_of n limit rings) × (list' ≡ encode rings ++ drop (length (encode rings)) list)
told_rings n t limit list list' c rings X ok A =
    let same : A.0.rings ≡ rings = ring_listing_unique (Bonded t) (limit_of limit) A.0.rings rings (told_listing n t limit c A.0) X in
    let says : c ≡ census_of n limit rings = told_census_lem n t limit c A.0 ∙ rw (ok, same, encode_words rings) refl in
    (says, A.1 ∙ rw (same, ap (λ (x : Census). x.words) says) refl)
