-- A path with one atom more, and cut back.
use Rattle.std.proofs.Common.{◌≡◌, ⊎_elim, List, [], ◌∷◌, ◌++◌, ℕ, ◌<◌, ◌≤◌, length, take, arith, length-append}
use native.Mathlib.Nat.{eq-or-lt_of_le}
use lib.ListN.{get_or-append}
use lib.Seq.{get_or-append_seam, take-append_seam}
use Rattle.ring.specs.Maxima.{ring_least, ring_most}
use Rattle.search.specs.Given.{Given}

pub given_more : (n k : ℕ) (p q : List ℕ) (a : ℕ) → Given n k p → length p < k → a < n → q ≡ p ++ (a ∷ []) → Given n k q
given_more n k p q a g l h e =
    rw e (record {
      least = g.least;
      most = g.most;
      begun = omega (arith, length-append p (a ∷ []));
      within = omega (arith, length-append p (a ∷ []));
      below = λ i l.
          ⊎_elim
          (λ e. let z : i ≡ length p = e in rw (z, get_or-append_seam p a [] 0) h)
          (λ l. rw (get_or-append p (a ∷ []) 0 i l) (g.below i l))
          (eq-or-lt_of_le (let q : i ≤ length p = omega (arith, length-append p (a ∷ [])) in q));
    })

pub given_first : (n k a : ℕ) → ring_least ≤ k → k ≤ ring_most → a < n → Given n k (a ∷ [])
given_first n k a l m h = record { least = l; most = m; begun = omega arith; within = omega arith; below = λ i q. let z : i ≡ 0 = omega arith in rw z h }

pub cut_back : (p q : List ℕ) (a len : ℕ) → q ≡ p ++ (a ∷ []) → len ≡ length p → take len q ≡ p
cut_back p q a len e h = rw (e, h) (take-append_seam p (a ∷ []))
