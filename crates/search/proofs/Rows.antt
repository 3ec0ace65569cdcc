-- The row of the path's last atom: where the search goes on, and where the row ends.
use Rattle.std.proofs.Common.{◌≡◌, refl, subst, Bool, true, false, ◌&&◌, cond, ⊎_elim, List, [], ◌∷◌, ◌++◌, ℕ, zero, suc, ◌-◌, ◌<◌, ◌≤◌, length, arith, sub-one, length-append}
use Rattle.std.proofs.lemmas.Bool.{lt-ltb, le-ltb}
use native.Mathlib.Nat.{eq-or-lt_of_le}
use native.Mathlib.Decide.{ℕ_discrete}
use Rattle.network.specs.Network.{word, IsNetwork}
use Rattle.network.specs.Maxima.{places, free}
use Rattle.paths.specs.Search.{gather_below, next_word, goes_on, follows, ended, extend, branch, is_ring}
use Rattle.paths.specs.Turn.{may_follow}
use Rattle.paths.specs.Shown.{Ends}
use Rattle.paths.proofs.Below.{gather_rest}
use Rattle.search.specs.declared.net.Net.{Net}
use Rattle.search.specs.Given.{Given}
use Rattle.search.specs.State.{rings_on}

-- in a network's row no atom stands after a free place
pub ends_of : {n : ℕ} {table : List ℕ} → IsNetwork n table → Ends n table
ends_of {n} {table} N x i j l k m h =
    elim (ℕ_discrete (word table x j) free) [
      | yes e ↦ omega (arith, e, N.counted.most)
      | no e ↦ absurd (omega (arith, N.below x i l (omega arith) (N.first x i j l k m e)))
    ]

-- the rings that go on with a place of the row
abbrev pub rings_by : Net → ℕ → List ℕ → ℕ → List (List ℕ)
rings_by m k path = branch (may_follow m.n m.dist.now k) m.n m.table.now m.dist.now k (k - length path - 1) path

no_branch : {A : Type 0} (b : Bool) (x : List A) → cond (b && false) x [] ≡ []
no_branch true x = refl
no_branch false x = refl

module _ (m : Net) (k : ℕ) (path : List ℕ) where
  -- a whole path
  module _ (e : length path ≡ k) where
    pub whole_ring : is_ring m.n m.dist.now k path ≡ true → rings_on m k path ≡ path ∷ []
    unfolding extend ended
    whole_ring h = let z : k - length path ≡ 0 = omega arith in rw (z, h)

    pub whole_other : is_ring m.n m.dist.now k path ≡ false → rings_on m k path ≡ []
    unfolding extend ended
    whole_other h = let z : k - length path ≡ 0 = omega arith in rw (z, h)

  -- a path that lacks atoms goes on with each place of the row
  pub rings_row : length path < k → rings_on m k path ≡ gather_below places (rings_by m k path)
  unfolding extend branch
  rings_row h = some (k - length path) (omega arith)
    where
      some : (left : ℕ) → 0 < left → extend (may_follow m.n m.dist.now k) m.n m.table.now m.dist.now k left path ≡ gather_below places (branch (may_follow m.n m.dist.now k) m.n m.table.now m.dist.now k (left - 1) path)
      some zero h = absurd (omega arith)
      some (suc left) h = rw (sub-one (suc left))

  module _ (i w : ℕ) (e : w ≡ next_word m.table.now path i) where
    pub branch_no : follows (may_follow m.n m.dist.now k) path w ≡ false → rings_by m k path i ≡ []
    unfolding branch goes_on
    branch_no h = rw (← e, h) (no_branch _ _)

    pub branch_yes : (p : List ℕ) → w < m.n → follows (may_follow m.n m.dist.now k) path w ≡ true → p ≡ path ++ (w ∷ []) → rings_by m k path i ≡ rings_on m k p
    unfolding branch goes_on
    branch_yes p lt h e' =
        let z : k - length path - 1 ≡ k - length (path ++ (w ∷ [])) = omega (arith, length-append path (w ∷ [])) in
        rw (← e, lt-ltb w m.n lt, h, e', z)

    -- a row ends at its first free place
    pub row_ends : Given m.n k path → i < places → m.n ≤ w → gather_below i (rings_by m k path) ≡ gather_below places (rings_by m k path)
    unfolding branch goes_on
    row_ends g lt le =
        gather_rest (rings_by m k path) i places (omega arith) (λ j ge l. rw (le-ltb (next_word m.table.now path j) m.n (out j ge l)))
      where
        out : (j : ℕ) → i ≤ j → j < places → m.n ≤ next_word m.table.now path j
        out j ge l =
            ⊎_elim
            (λ q. subst (λ (x : ℕ). m.n ≤ next_word m.table.now path x) q (rw (← e) le))
            (λ l'. m.packed _ i j (g.below (length path - 1) (let z = g.begun in omega arith)) l' l (rw (← e) le))
            (eq-or-lt_of_le ge)
