-- Demand 1, the answers: those that a call may give are a chain of its checks, in the order in which they are made (`network: Chain`).
--
--   OfRings t limit Later a     what comes later says it of the listing of the network's rings
--   RightLimit limit, RightAllowance allowance    the right inputs of checks 2 and 3
--   SearchSays n t limit allowance dist Later a   the checks before a search, and what comes later
--
--   ValidateSays, DistancesSays, CandidateSays, CountSays, ListSays, RenumberSays, WriteSays    the answers of each call
use Rattle.std.specs.Prelude.{◌≡◌, ◌⊎◌, List, ℕ, ◌*◌, ◌≤◌, length}
use Rattle.graph.specs.Listing.{RingListing}
use Rattle.graph.specs.Counts.{words_of}
use Rattle.network.specs.Maxima.{places}
use Rattle.network.specs.Network.{Bonded}
use Rattle.network.specs.Chain.{Answers, Check, Sizes, Table, PlaceByPlace, Accepted}
use Rattle.ring.specs.Maxima.{ring_least, ring_most, allowance_most}
use Rattle.candidate_faults.specs.FirstPlaces.{Sized, NotAtom, Repeated, Unbonded}
use Rattle.census.specs.Census.{limit_of}
use Rattle.names.specs.Names.{BadName}
use Rattle.bonds.specs.Bonds.{bonds_of}
use Rattle.bnw.specs.File.{file_of}

abbrev pub OfRings : List ℕ → ℕ → (List (List ℕ) → Answers) → Answers
OfRings t limit Later a = (rings : List (List ℕ)) × RingListing (Bonded t) (limit_of limit) rings × Later rings a

-- the right inputs of the numbered checks
abbrev pub RightLimit : ℕ → Type 0
RightLimit limit = (limit ≡ 0) ⊎ ((ring_least ≤ limit) × (limit ≤ ring_most))

abbrev pub RightAllowance : ℕ → Type 0
RightAllowance allowance = (1 ≤ allowance) × (allowance ≤ allowance_most)

-- 1, 4, 7 to 11
abbrev pub ValidateSays : ℕ → List ℕ → Answers
ValidateSays n t =
    Sizes n t (λ Later. Later)
    (Table n t
    Accepted)

-- 1, 4, 5, 7 to 11
abbrev pub DistancesSays : ℕ → List ℕ → List ℕ → Answers
DistancesSays n t dist =
    Sizes n t (λ Later. Later)
    (Check 5 (length dist ≡ n * n)
    (Table n t
    Accepted))

-- 1, 4, 5, 7 to 11, 14, 15, 16, 17
abbrev pub CandidateSays : ℕ → List ℕ → List ℕ → List ℕ → Answers
CandidateSays n t r dist =
    Sizes n t (λ Later. Later)
    (Check 5 (length dist ≡ n * n)
    (Table n t
    (Check 14 (Sized (length r))
    (PlaceByPlace 15 (NotAtom n r) (length r)
    (PlaceByPlace 16 (Repeated r) (length r)
    (PlaceByPlace 17 (Unbonded t r) (length r)
    Accepted))))))

-- 1, 2, 3, 4, 5, 7 to 11: the checks before a search
abbrev pub SearchSays : ℕ → List ℕ → ℕ → ℕ → List ℕ → Answers → Answers
SearchSays n t limit allowance dist Later =
    Sizes n t (λ Rest. Check 2 (RightLimit limit) (Check 3 (RightAllowance allowance) Rest))
    (Check 5 (length dist ≡ n * n)
    (Table n t
    Later))

-- these, and 12
abbrev pub CountSays : ℕ → List ℕ → ℕ → ℕ → List ℕ → Answers
CountSays n t limit allowance dist =
    SearchSays n t limit allowance dist
    (OfRings t limit λ rings.
    Check 12 (length rings ≤ allowance)
    Accepted)

-- these, 12 and 13
abbrev pub ListSays : ℕ → List ℕ → ℕ → ℕ → List ℕ → List ℕ → Answers
ListSays n t limit allowance dist list =
    SearchSays n t limit allowance dist
    (OfRings t limit λ rings.
    Check 12 (length rings ≤ allowance) (Check 13 (words_of rings ≤ length list) Accepted))

-- 1, 4, 6, 7 to 11, 18
abbrev pub RenumberSays : ℕ → List ℕ → List ℕ → List ℕ → Answers
RenumberSays n t names renamed =
    Sizes n t (λ Later. Later)
    (Check 6 ((length names ≡ n) × (length renamed ≡ places * n))
    (Table n t
    (PlaceByPlace 18 (BadName n names) n
    Accepted)))

-- 1, 4, 7 to 11, 28
abbrev pub WriteSays : ℕ → List ℕ → List ℕ → Answers
WriteSays n t file =
    Sizes n t (λ Later. Later)
    (Table n t
    (Check 28 (length (file_of n (bonds_of t)) ≤ length file)
    Accepted))
