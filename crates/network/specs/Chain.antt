-- The answers that a call may give, as a chain of its checks in the order in which they are made: bad input gets its numbered refusal,
-- naming the first fault (document 01, "Numbered refusals").
--
--   Answers                     the answers that a chain of checks may give
--   OneAnswer Gives             it gives no two answers
--   Check c Right Later a       c where the input is not right; else it is right, and what comes later says
--   Sizes n t Between Later a   what every call with a table begins with: 1, what is checked between, 4, and what comes later
--   Table n t Later a           the first of 7 to 11 in the table; else it is the table of a network, and what comes later says
--   PlaceByPlace c Bad k Later a    c at row 0 and the first bad of k places; else none is bad, and what comes later says
--   Accepted a                  accepted: 0 at row 0, place 0
use Rattle.std.specs.Prelude.{◌≡◌, ◌⊎◌, List, ℕ, ◌*◌, ◌<◌, length}
use Rattle.network.specs.declared.Answer.{Answer}
use Rattle.network.specs.Maxima.{places}
use Rattle.network.specs.Network.{Counted, IsNetwork}
use Rattle.network.specs.Verdict.{answer, accepted, refusal}
use Rattle.network.specs.FirstFault.{NamesFirst}

abbrev pub Answers : Type 1
Answers = Answer → Type 0

abbrev pub OneAnswer : Answers → Type 0
OneAnswer Gives = (a b : Answer) → Gives a → Gives b → a ≡ b

unfoldable pub Check : ℕ → Type 0 → Answers → Answers
Check c Right Later a = ((Right → ⊥) × (a ≡ refusal c)) ⊎ (Right × Later a)

abbrev pub Sizes : ℕ → List ℕ → (Answers → Answers) → Answers → Answers
Sizes n t Between Later = Check 1 (Counted n) (Between (Check 4 (length t ≡ places * n) Later))

unfoldable pub Table : ℕ → List ℕ → Answers → Answers
Table n t Later a = NamesFirst n t a ⊎ (IsNetwork n t × Later a)

unfoldable pub PlaceByPlace : ℕ → (ℕ → Type 0) → ℕ → Answers → Answers
PlaceByPlace c Bad k Later a =
    ((p : ℕ) × (p < k) × Bad p × ((i : ℕ) → i < p → Bad i → ⊥) × (a ≡ answer c 0 p))
    ⊎ (((i : ℕ) → i < k → Bad i → ⊥) × Later a)

abbrev pub Accepted : Answers
Accepted a = a ≡ accepted
