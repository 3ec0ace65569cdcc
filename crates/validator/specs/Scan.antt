-- A search for the first fault among words, whatever a fault is.
use Rattle.std.specs.Prelude.{◌≡◌, ℕ, ◌<◌, Option}
use Rattle.network.specs.declared.Answer.{Answer}
use Rattle.network.specs.declared.refusals.Reason.{Reason}
use Rattle.network.specs.Refusals.{number_or_0}
use Rattle.network.specs.Verdict.{first_fault, accepted}

-- whatever number of a fault the tests answer at each word, the answer is the first
abbrev pub FirstOf : (ℕ → Option Reason → Type 0) → ℕ → Answer → Type 0
FirstOf Says words answer = (fault : ℕ → ℕ) → ((i : ℕ) → i < words → (r : Option Reason) → Says i r → number_or_0 r ≡ fault i) → answer ≡ first_fault fault words 0 accepted
