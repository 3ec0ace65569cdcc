-- New numbers for atoms: word i of `names` is the new number of atom i (document 01, "What an accepted call says").
--
--   name names x                   the new number of atom x
--   OneToOne n names               a renumbering of n atoms: n names, each below n, no two equal
--   BadName n names i              18 at place i: its name is not below n, or was seen earlier
--   bad_name n names i             the same as BadName, computed
--   name_faults n names k i later  18 at the first bad name among the k from place i on, else what comes later
use Rattle.std.specs.Prelude.{◌≡◌, ◌==◌, ◌⊎◌, ◌||◌, Bool, cond, List, ℕ, zero, suc, ◌+◌, ◌≤◌, ◌<◌, leb, length, get_or, take}
use Rattle.std.specs.List.{list_any}
use Rattle.network.specs.declared.Answer.{Answer}
use Rattle.network.specs.Verdict.{answer}

abbrev pub name : List ℕ → ℕ → ℕ
name names x = get_or names x 0

pub record OneToOne (n : ℕ) (names : List ℕ) : Type 0 where
  pub long : length names ≡ n
  pub below : (x : ℕ) → x < n → name names x < n
  pub apart : (x y : ℕ) → x < y → y < n → name names x ≡ name names y → ⊥

abbrev pub BadName : ℕ → List ℕ → ℕ → Type 0
BadName n names i = (n ≤ name names i) ⊎ ((j : ℕ) × (j < i) × (name names j ≡ name names i))

unfoldable pub bad_name : ℕ → List ℕ → ℕ → Bool
bad_name n names i = leb n (name names i) || list_any (λ w. w == name names i) (take i names)

unfoldable pub name_faults : ℕ → List ℕ → ℕ → ℕ → Answer → Answer
name_faults n names zero i later = later
name_faults n names (suc k) i later = cond (bad_name n names i) (answer 18 0 i) (name_faults n names k (i + 1) later)
