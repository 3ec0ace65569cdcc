-- What comes of renumbering: the answer, and the lent table before and after.
--
--   renumber_verdict n t names before   1, 4, 6, then 7 to 11, then 18
--   Renumbered n t names after          after is the table of a network in which y' stands in row x' exactly when y stands in row x of t
--   RenumberOutcome n t names before after a    refused, not one word is changed; accepted, the table is the renumbered one
use Rattle.std.specs.Prelude.{◌≡◌, ◌↔◌, ◌||◌, List, ℕ, ◌*◌, ◌<◌, length}
use Rattle.network.specs.declared.Answer.{Answer}
use Rattle.network.specs.Maxima.{places}
use Rattle.network.specs.Network.{Bonded, IsNetwork}
use Rattle.network.specs.Verdict.{check, not_long, sizes, faults, accepted}
use Rattle.names.specs.Names.{name, name_faults}

unfoldable pub renumber_verdict : ℕ → List ℕ → List ℕ → List ℕ → Answer
renumber_verdict n t names before =
    sizes n t (λ a. a) (check 6 (not_long names n || not_long before (places * n)) (faults n t (name_faults n names (length names) 0 accepted)))

pub record Renumbered (n : ℕ) (t names after : List ℕ) : Type 0 where
  pub network : IsNetwork n after
  pub bonds : (x y : ℕ) → x < n → y < n → Bonded after (name names x) (name names y) ↔ Bonded t x y

pub record RenumberOutcome (n : ℕ) (t names before after : List ℕ) (a : Answer) : Type 0 where
  pub answer : a ≡ renumber_verdict n t names before
  pub refused : (a.code ≡ 0 → ⊥) → after ≡ before
  pub renumbered : a.code ≡ 0 → Renumbered n t names after
