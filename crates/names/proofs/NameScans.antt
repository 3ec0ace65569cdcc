-- The scan of the names, from the start and from where a loop stands.
use Rattle.std.proofs.Common.{◌≡◌, refl, sym, ◌∙◌, ◌==◌, Bool, true, false, List, ℕ, suc, ◌+◌, ◌-◌, ◌≤◌, ◌<◌, take, arith, le-leb}
use Rattle.std.proofs.lemmas.Bool.{lt-leb}
use Rattle.std.specs.List.{list_any}
use Rattle.network.specs.declared.Answer.{Answer}
use Rattle.network.specs.Verdict.{answer}
use Rattle.names.specs.Names.{name, bad_name, name_faults}

module _ (n : ℕ) (names : List ℕ) (i : ℕ) where
  pub bad_high : n ≤ name names i → bad_name n names i ≡ true
  unfolding bad_name
  bad_high l = rw (le-leb _ _ l) refl

  pub bad_seen : (b seen : Bool) → name names i < n → seen ≡ list_any (λ w. w == name names i) (take i names) → seen ≡ b → bad_name n names i ≡ b
  unfolding bad_name
  bad_seen b seen l e h = rw (lt-leb _ _ l) (sym e ∙ h)

module _ (n : ℕ) (names : List ℕ) (m i : ℕ) (later : Answer) (so_far : name_faults n names m 0 later ≡ name_faults n names (m - i) i later) where
  pub faults_here : i < m → bad_name n names i ≡ true → answer 18 0 i ≡ name_faults n names m 0 later
  unfolding name_faults
  faults_here l h = let e : m - i ≡ suc (m - (i + 1)) = omega arith in sym (so_far ∙ rw (e, h) refl)

  pub faults_next : i < m → bad_name n names i ≡ false → name_faults n names m 0 later ≡ name_faults n names (m - (i + 1)) (i + 1) later
  unfolding name_faults
  faults_next l h = let e : m - i ≡ suc (m - (i + 1)) = omega arith in so_far ∙ rw (e, h) refl

  pub faults_never : m ≤ i → later ≡ name_faults n names m 0 later
  unfolding name_faults
  faults_never l = let e : m - i ≡ 0 = omega arith in sym (so_far ∙ rw e refl)
