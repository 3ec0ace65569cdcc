-- What is said of a candidate before it is tested: the first fault, in the order of the numbered refusals (document 01).
--
--   not_atom n r i                 15: the atom at place i is not below n
--   seen_before r j                16: the atom at place j stands earlier too
--   not_bonded t r i               17: the atom at place i is not bonded to the next, the last to the first
--   first_place code bad k later   refusal `code` with the first bad place of k, else what comes later
--   RefusesFirst Says reason k a   a refuses for the reason at the first bad one of k places, or accepts, where `Says` tells which places are bad
--   ring_verdict n t r             14, then 15 over all places, 16 over all, 17 over all
--   candidate_verdict n t r d      1, 4, 5, 7 to 11, then 14 to 17
--   AtomsBelow n r                 every place holds an atom below n
use Rattle.std.specs.Prelude.{◌≡◌, Bool, cond, not, List, ℕ, ◌+◌, ◌*◌, ◌%◌, ◌<◌, eqb, leb, ltb, length, get_or, take}
use Rattle.std.specs.List.{list_any}
use Rattle.network.specs.declared.Answer.{Answer}
use Rattle.network.specs.declared.refusals.Reason.{Reason}
use Rattle.network.specs.Refusals.{number_of}
use Rattle.network.specs.Verdict.{answer, accepted, check, in_row, not_long, sizes, faults}
use Rattle.candidate_faults.specs.Firsts.{first_of}
use Rattle.ring.specs.Writes.{not_ring}

abbrev pub not_atom : ℕ → List ℕ → ℕ → Bool
not_atom n r i = leb n (get_or r i 0)

abbrev pub seen_before : List ℕ → ℕ → Bool
seen_before r j = list_any (λ x. eqb x (get_or r j 0)) (take j r)

abbrev pub not_bonded : List ℕ → List ℕ → ℕ → Bool
not_bonded t r i = not (in_row t (get_or r ((i + 1) % length r) 0) (get_or r i 0))

abbrev pub first_place : ℕ → (ℕ → Bool) → ℕ → Answer → Answer
first_place code bad k later = cond (ltb (first_of bad k 0) k) (answer code 0 (first_of bad k 0)) later

abbrev pub RefusesFirst : (ℕ → Bool → Type 0) → Reason → ℕ → Answer → Type 0
RefusesFirst Says reason k a = (bad : ℕ → Bool) → ((i : ℕ) → i < k → (b : Bool) → Says i b → b ≡ bad i) → a ≡ first_place (number_of reason) bad k accepted

unfoldable pub ring_verdict : ℕ → List ℕ → List ℕ → Answer
ring_verdict n t r =
    check 14 (not_ring (length r))
    (first_place 15 (not_atom n r) (length r)
    (first_place 16 (seen_before r) (length r)
    (first_place 17 (not_bonded t r) (length r)
    accepted)))

unfoldable pub candidate_verdict : ℕ → List ℕ → List ℕ → List ℕ → Answer
candidate_verdict n t r d = sizes n t (λ a. a) (check 5 (not_long d (n * n)) (faults n t (ring_verdict n t r)))

unfoldable pub AtomsBelow : ℕ → List ℕ → Type 0
AtomsBelow n r = (i : ℕ) → i < length r → get_or r i 0 < n
