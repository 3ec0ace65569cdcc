-- The partners of an atom, bond by bond.
use Rattle.std.proofs.Common.{◌≡◌, refl, sym, ◌∙◌, ap, ap₂, subst, List, [], ◌∷◌, ◌++◌, ℕ, zero, suc, ◌+◌, ◌-◌, ◌*◌, ◌≤◌, ◌<◌, add-one, arith, length, replicate, length-append, eq-eqb, ne_eqb}
use native.Mathlib.Decide.{ℕ_discrete}
use Rattle.std.proofs.lemmas.List.{length-replicate}
use Rattle.graph.specs.Lists.{gather, numbers_from}
use Rattle.network.specs.Maxima.{places, free}
use Rattle.bonds.specs.Bonds.{Bond, partner, partners, row_of, table_of, bonds_below}
use Rattle.bonds.proofs.Runs.{gather_one, gather_more, gather_map, gather_fits, map_more}

-- `partner` at each way through its tests
module _ (x : ℕ) (b : Bond) (f : ℕ) (e : f ≡ b.first) where
  pub partner_first : f ≡ x → partner x b ≡ b.second ∷ []
  unfolding partner
  partner_first h = rw (eq-eqb _ _ (sym e ∙ h))

  module _ (h : f ≡ x → ⊥) (s : ℕ) (d : s ≡ b.second) where
    pub partner_second : s ≡ x → partner x b ≡ b.first ∷ []
    unfolding partner
    partner_second g = rw (ne_eqb _ _ (λ k. h (e ∙ k)), eq-eqb _ _ (sym d ∙ g))

    pub partner_none : (s ≡ x → ⊥) → partner x b ≡ []
    unfolding partner
    partner_none g = rw (ne_eqb _ _ (λ k. h (e ∙ k)), ne_eqb _ _ (λ k. g (d ∙ k)))

-- one bond more
module _ (bond : ℕ → Bond) (x : ℕ) where
  pub partners_start : 0 ≡ length (partners (bonds_below bond 0) x)
  unfolding partners
  partners_start = refl

  pub partners_more : (k : ℕ) → partners (bonds_below bond (k + 1)) x ≡ partners (bonds_below bond k) x ++ partner x (bond k)
  unfolding partners
  partners_more k = ap (gather (partner x)) (map_more bond k) ∙ gather_one (partner x) (bonds_below bond k) (bond k)

  partners_as : (k : ℕ) → partners (bonds_below bond k) x ≡ gather (λ j. partner x (bond j)) (numbers_from k 0)
  unfolding partners
  partners_as k = gather_map (partner x) bond (numbers_from k 0)

  pub partners_fit : (k bonds : ℕ) → k < bonds → length (partners (bonds_below bond k) x) + length (partner x (bond k)) ≤ length (partners (bonds_below bond bonds) x)
  partners_fit k bonds h = rw (partners_as k, partners_as bonds) (gather_fits (λ j. partner x (bond j)) k bonds h)

-- where each bond finds room in the rows of both its atoms, no row is overfull
pub rooms : (bond : ℕ → Bond) (m : ℕ)
    → ((k : ℕ) → k < m → (length (partners (bonds_below bond k) (bond k).first) < places) × (length (partners (bonds_below bond k) (bond k).second) < places))
    → (x k : ℕ) → k ≤ m → length (partners (bonds_below bond k) x) ≤ places
rooms bond m room x zero h = omega (arith, partners_start bond x)
rooms bond m room x (suc k) h =
    subst (λ (xs : List ℕ). length xs ≤ places) (sym (rw add-one at (partners_more bond x k)))
    (rw (length-append (partners (bonds_below bond k) x) (partner x (bond k)))
    (go (ℕ_discrete (bond k).first x) (ℕ_discrete (bond k).second x) (rooms bond m room x k (omega arith))))
  where
    go : Dec ((bond k).first ≡ x) → Dec ((bond k).second ≡ x) → length (partners (bonds_below bond k) x) ≤ places → length (partners (bonds_below bond k) x) + length (partner x (bond k)) ≤ places
    go (yes e) _ ih = omega (arith, ap length (partner_first x (bond k) _ refl e), subst (λ (y : ℕ). length (partners (bonds_below bond k) y) < places) e (room k h).0)
    go (no e) (yes d) ih = omega (arith, ap length (partner_second x (bond k) _ refl e _ refl d), subst (λ (y : ℕ). length (partners (bonds_below bond k) y) < places) d (room k h).1)
    go (no e) (no d) ih = omega (arith, ap length (partner_none x (bond k) _ refl e _ refl d))

-- the table, row by row
module _ (bonds : List Bond) where
  pub row_length : (x : ℕ) → length (partners bonds x) ≤ places → length (row_of bonds x) ≡ places
  unfolding row_of
  row_length x h = length-append (partners bonds x) (replicate (places - length (partners bonds x)) free) ∙ omega (arith, length-replicate (places - length (partners bonds x)) free)

  pub table_more : (n : ℕ) → table_of (n + 1) bonds ≡ table_of n bonds ++ row_of bonds n
  unfolding table_of
  table_more n = gather_more (row_of bonds) n

  module _ (eight : (x : ℕ) → length (partners bonds x) ≤ places) where
    pub table_length : (n : ℕ) → length (table_of n bonds) ≡ places * n
    unfolding table_of
    table_length zero = refl
    table_length (suc n) =
        ap length (rw add-one at (table_more n)) ∙ length-append (table_of n bonds) (row_of bonds n)
        ∙ (let e : places * n + places ≡ places * suc n = omega arith in ap₂ ◌+◌ (table_length n) (row_length n (eight n)) ∙ e)
