-- What is said of a candidate is the chain of its checks, in the outline's order, each at the first place.
use Rattle.std.proofs.Common.{◌≡◌, inl, inr, refl, sym, ◌∙◌, ap, Bool, true, false, not, List, ℕ, ◌+◌, ◌*◌, ◌%◌, ◌<◌, length, get_or, arith, mod-lt, leb-true, leb-false}
use Rattle.std.proofs.lemmas.Bool.{true≢false, not-true, not-false}
use Rattle.std.proofs.Math.Decide.{dec_lt}
use Rattle.network.specs.declared.Answer.{Answer}
use Rattle.network.specs.Network.{IsNetwork}
use Rattle.network.specs.Verdict.{accepted}
use Rattle.network.specs.Chain.{Answers, Check, Sizes, Table, PlaceByPlace, Accepted}
use Rattle.network.proofs.Chains.{check_says, in_range, range_true, range_false, check_long, sizes_say, table_says, places_at, places_right}
use Rattle.ring.specs.Maxima.{ring_least, ring_most}
use Rattle.ring.specs.Writes.{not_ring}
use Rattle.candidate_faults.specs.CandidateVerdict.{not_atom, seen_before, not_bonded, first_place, ring_verdict, candidate_verdict}
use Rattle.candidate_faults.specs.FirstPlaces.{Sized, NotAtom, Repeated, Unbonded}
use Rattle.candidate_faults.proofs.CandidateVerdicts.{place_found, place_clean, place_cases, bonded_of, of_bonded, seen_at, different_of}

-- the places of a list
places_says : (c : ℕ) (bad : ℕ → Bool) (k : ℕ) (later : Answer) (Bad : ℕ → Type 0) (Later : Answers)
    → ((i : ℕ) → i < k → bad i ≡ true → Bad i) → ((i : ℕ) → i < k → bad i ≡ false → Bad i → ⊥)
    → (((i : ℕ) → i < k → Bad i → ⊥) → Later later) → PlaceByPlace c Bad k Later (first_place c bad k later)
places_says c bad k later Bad Later f g rest = elim (place_cases c k bad) [
  | inl p ↦ rw (place_found c k bad p.0 p.1 p.2 p.3 later) (places_at c Bad k Later p.0 p.1 (f p.0 p.1 p.2) (λ i m. g i (omega (arith, p.1)) (p.3 i m)))
  | inr clean ↦ (let none : (i : ℕ) → i < k → Bad i → ⊥ = λ i m. g i m (clean i m) in rw (place_clean c k bad clean later) (places_right c Bad k Later later none (rest none)))
]

-- 14, then 15 over all places, 16 over all, 17 over all
pub ring_says : (n : ℕ) (t r : List ℕ) (N : IsNetwork n t)
    → Check 14 (Sized (length r)) (PlaceByPlace 15 (NotAtom n r) (length r) (PlaceByPlace 16 (Repeated r) (length r) (PlaceByPlace 17 (Unbonded t r) (length r) Accepted))) (ring_verdict n t r)
unfolding ring_verdict
ring_says n t r N =
    check_says 14 (not_ring (length r)) _ (Sized (length r)) _ (in_range ring_least ring_most (length r)) (λ h. ap not (range_true ring_least ring_most (length r) h)) (λ h. ap not (range_false ring_least ring_most (length r) h)) λ _.
    places_says 15 (not_atom n r) (length r) _ (NotAtom n r) _ (λ i l e. leb-true n (get_or r i 0) e) (λ i l e h. omega (arith, leb-false n (get_or r i 0) e, h)) λ below.
    places_says 16 (seen_before r) (length r) _ (Repeated r) _ (λ j l e. seen_at r j l e) (λ j l e s. different_of r j l e s.0 s.1 s.2) λ _.
    places_says 17 (not_bonded t r) (length r) accepted (Unbonded t r) Accepted
    (λ i l e b. true≢false (sym (of_bonded n t N _ _ (inside below i l) b) ∙ not-true _ e))
    (λ i l e h. h (bonded_of n t N _ _ (inside below i l) (inside below ((i + 1) % length r) (mod-lt (i + 1) (omega arith))) (not-false _ e)))
    (λ _. refl)
  where
    inside : ((i : ℕ) → i < length r → NotAtom n r i → ⊥) → (i : ℕ) → i < length r → get_or r i 0 < n
    inside below i l = elim (dec_lt (get_or r i 0) n) [ yes h ↦ h | no h ↦ absurd (below i l (omega arith)) ]

-- all checks
pub candidate_says : (n : ℕ) (t r d : List ℕ)
    → Sizes n t (λ Later. Later) (Check 5 (length d ≡ n * n) (Table n t
    (Check 14 (Sized (length r)) (PlaceByPlace 15 (NotAtom n r) (length r) (PlaceByPlace 16 (Repeated r) (length r) (PlaceByPlace 17 (Unbonded t r) (length r) Accepted)))))) (candidate_verdict n t r d)
unfolding candidate_verdict
candidate_says n t r d = sizes_say n t _ _ λ C w. check_long 5 d (n * n) _ _ λ _. table_says n t (ring_verdict n t r) _ C w (ring_says n t r)
