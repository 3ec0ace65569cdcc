-- What each way through the tests of a pass fills.
use Rattle.std.proofs.Common.{◌≡◌, refl, sym, ◌∙◌, Bool, true, false, cond, ◌||◌, eqb, List, ℕ, suc, ◌+◌, ◌-◌, ◌≤◌, ◌<◌, arith, length, get_or, set, replicate, length-set, eq-eqb, ne_eqb}
use Rattle.std.proofs.lemmas.List.{length-replicate, get_or-replicate}
use Rattle.std.proofs.lemmas.List.Sums.{sum_by-set}
use Rattle.std.proofs.lemmas.List.Folds.{sum_by-replicate}
use Rattle.network.specs.Maxima.{places, free}
use Rattle.network.specs.Network.{word}
use Rattle.distance.specs.Distances.{no_path}
use Rattle.distance.specs.Levels.{offer, give, visit, level, first_row, unreached, PassFilled}

module _ (e : ℕ) (row : List ℕ) (w : ℕ) where
  pub offer_taken : (get_or row w 0 ≡ no_path → ⊥) → offer e row w ≡ row
  unfolding offer
  offer_taken h = simp (ne_eqb _ _ h)

  pub offer_set : get_or row w 0 ≡ no_path → offer e row w ≡ set row w e
  unfolding offer
  offer_set h = simp (eq-eqb _ _ h)

-- atoms without an entry
unreached_set : (row : List ℕ) (w e : ℕ) → w < length row → get_or row w 0 ≡ no_path → (e ≡ no_path → ⊥) → unreached (set row w e) + 1 ≡ unreached row
unfolding unreached
unreached_set row w e l h d = omega (arith, rw (h, ne_eqb _ _ d) at (sum_by-set (λ a. cond (eqb a no_path) 1 0) row w e 0 l))

pub unreached_start : (n s : ℕ) → s < n → unreached (first_row n s) + 1 ≡ n
unfolding unreached
unreached_start n s l =
    unreached_set (replicate n no_path) s 0 (rw length-replicate l) (get_or-replicate n s no_path 0 l) (omega arith)
    ∙ rw (sum_by-replicate (λ a. cond (eqb a no_path) 1 0) n no_path) (omega arith)

pub start_long : (n s : ℕ) → length (first_row n s) ≡ n
start_long n s = simp (length-set, length-replicate)

pub filled_none : (row : List ℕ) → PassFilled row row false
filled_none row = record { long = refl; fewer = λ z. absurd cc; same = λ _. refl }

pub filled_one : (row : List ℕ) (w e : ℕ) → w < length row → get_or row w 0 ≡ no_path → e < no_path → PassFilled row (set row w e) true
filled_one row w e l h d = record {
  long = length-set row w e;
  fewer = λ _. omega (arith, unreached_set row w e l h (omega arith));
  same = λ z. absurd cc;
}

pub filled_more : (a b c : List ℕ) (f g : Bool) → PassFilled a b f → PassFilled b c g → PassFilled a c (f || g)
filled_more a b c false g p q = rw (p.same refl) at q
filled_more a b c true true p q = record { long = q.long ∙ p.long; fewer = λ _. omega (arith, p.fewer refl, q.fewer refl); same = λ z. absurd cc }
filled_more a b c true false p q = rw (q.same refl) p

-- from the start and from where a loop stands
module _ (t : List ℕ) (v e p : ℕ) (first row : List ℕ) (so_far : give t v e places 0 first ≡ give t v e (places - p) p row) where
  pub give_free : p < places → word t v p ≡ free → row ≡ give t v e places 0 first
  unfolding give
  give_free l z = let d : places - p ≡ suc (places - (p + 1)) = omega arith in sym (so_far ∙ rw d (simp (eq-eqb _ _ z)))

  pub give_next : p < places → (word t v p ≡ free → ⊥) → (new : List ℕ) → new ≡ offer e row (word t v p) → give t v e places 0 first ≡ give t v e (places - (p + 1)) (p + 1) new
  unfolding give
  give_next l z new h = let d : places - p ≡ suc (places - (p + 1)) = omega arith in so_far ∙ rw (d, h) (simp (ne_eqb _ _ z))

  pub give_end : places ≤ p → row ≡ give t v e places 0 first
  unfolding give
  give_end l = let d : places - p ≡ 0 = omega arith in sym (so_far ∙ rw d)

module _ (t : List ℕ) (d n v : ℕ) (first row : List ℕ) (so_far : level t d n 0 first ≡ level t d (n - v) v row) where
  pub level_next : v < n → (new : List ℕ) → new ≡ visit t d v row → level t d n 0 first ≡ level t d (n - (v + 1)) (v + 1) new
  unfolding level
  level_next l new h = let e : n - v ≡ suc (n - (v + 1)) = omega arith in so_far ∙ rw (e, h)

  pub level_end : n ≤ v → row ≡ level t d n 0 first
  unfolding level
  level_end l = let e : n - v ≡ 0 = omega arith in sym (so_far ∙ rw e)

pub visit_gives : (t : List ℕ) (d v : ℕ) (row new : List ℕ) → get_or row v 0 ≡ d → new ≡ give t v (d + 1) places 0 row → new ≡ visit t d v row
unfolding visit
visit_gives t d v row new e h = h ∙ sym (simp (eq-eqb _ _ e))

pub visit_not : (t : List ℕ) (d v : ℕ) (row : List ℕ) → (get_or row v 0 ≡ d → ⊥) → row ≡ visit t d v row
unfolding visit
visit_not t d v row e = sym (simp (ne_eqb _ _ e))
