-- Bonds of an accepted network are answered, join two of its atoms, are the bonds of a finite graph, and determine the table.
use mathlib.Core.Path.{◌≡◌, refl, sym, ◌∙◌, ap, subst}
use mathlib.Core.Logic.{◌↔◌}
use mathlib.Core.Bool.{not}
use mathlib.Core.List.{List}
use Prim.Native.Nat.{ℕ, zero, suc, ◌+◌, ◌-◌, ◌*◌, ◌/◌, ◌%◌, ◌≤◌, ◌<◌, min}
use native.Mathlib.Omega.{arith}
use native.Mathlib.Decide.{dec_lt, ℕ_discrete}
use lib.Dec.{T, eqb, eqb→eq, eqb_refl, T_not, not_T}
use lib.ListN.{length, get_or, take, drop, length-take, length-drop}
use lib.Seq.{get_or-take, get_or-drop, ext_get_or}
use Rattle.graph.specs.Lists.{◌∈◌}
use Rattle.graph.proofs.Lists.{keep_of, keep_has, keep_ascends, place_of, at_place}
use Rattle.graph.specs.Graph.{Ring}
use Rattle.graph.specs.Finite.{BondedBy, FiniteNetwork}
use Rattle.network.specs.Maxima.{places, free}
use Rattle.network.specs.Network.{word, Holds, Bonded, IsNetwork, neighbours}

module _ (t : List ℕ) (x : ℕ) where
  row_length : length (take places (drop (x * places) t)) ≡ min places (length t - x * places)
  row_length = length-take places (drop (x * places) t) ∙ ap (min places) (length-drop (x * places) t)

  row_at : (p : ℕ) → p < places → get_or (take places (drop (x * places) t)) p 0 ≡ word t x p
  row_at p l = get_or-take places (drop (x * places) t) p 0 l ∙ get_or-drop (x * places) t p 0

  pub bonded_neighbour : (y : ℕ) → Bonded t x y → y ∈ neighbours t x
  bonded_neighbour y b =
      keep_has (λ w. not (eqb w free))
      (subst (λ w. w ∈ take places (drop (x * places) t)) (row_at b.place b.within_row ∙ b.stands)
      (at_place 0 (take places (drop (x * places) t)) b.place (omega (arith, row_length, b.within_row, b.in_table))))
      (not_T (eqb y free) (λ e. b.atom (eqb→eq y free e)))

  pub neighbour_bonded : (y : ℕ) → y ∈ neighbours t x → Bonded t x y
  neighbour_bonded y m =
      let k = keep_of (λ w. not (eqb w free)) (take places (drop (x * places) t)) m in
      let q = place_of 0 k.0 in
      let l : q.0 < places = omega (arith, q.1, row_length) in
      record {
        place = q.0;
        within_row = l;
        in_table = omega (arith, q.1, row_length);
        stands = sym (row_at q.0 l) ∙ q.2;
        atom = λ e. T_not (eqb y free) k.1 (subst (λ w. T (eqb y w)) e (eqb_refl y));
      }

-- the bridge: table bonds are the bonds of the graph of lists
pub bonded_by : (t : List ℕ) (x y : ℕ) → BondedBy (neighbours t) x y ↔ Bonded t x y
bonded_by t x y = (neighbour_bonded t x y, bonded_neighbour t x y)

module _ (n : ℕ) (t : List ℕ) (N : IsNetwork n t) where
  holds : (x y : ℕ) (b : Bonded t x y) → Holds t x b.place
  holds x y b e = b.atom (sym b.stands ∙ e)

  pub bonded_from : (x y : ℕ) → Bonded t x y → x < n
  bonded_from x y b = omega (arith, b.in_table, N.whole)

  pub bonded_to : (x y : ℕ) → Bonded t x y → y < n
  bonded_to x y b = subst (λ w. w < n) b.stands (N.below x b.place (bonded_from x y b) b.within_row (holds x y b))

  -- the atoms of a ring are atoms of the network: each is bonded to the next, the last to the first
  pub ring_atoms : (r : List ℕ) → Ring (Bonded t) 0 r → (i : ℕ) → i < length r → get_or r i 0 < n
  ring_atoms r R i l =
      elim (dec_lt (suc i) (length r)) [
        | yes m ↦ bonded_from _ _ (R.next i m)
        | no m ↦ (let e : i ≡ length r - 1 = omega arith in rw e (bonded_from _ _ R.closes))
      ]

  -- a bond is answered
  pub bonded_back : (x y : ℕ) → Bonded t x y → Bonded t y x
  bonded_back x y b = subst (λ w. Bonded t w x) b.stands (N.answered x b.place (bonded_from x y b) b.within_row (holds x y b))

  -- no atom is bonded to itself
  pub bonded_other : (x : ℕ) → Bonded t x x → ⊥
  bonded_other x b = N.other x b.place (bonded_from x x b) b.within_row (holds x x b) b.stands

  pub finite : FiniteNetwork n (neighbours t)
  finite = record {
    inside = λ x y m. bonded_to x y (neighbour_bonded t x y m);
    back = λ x y m. bonded_neighbour t y x (bonded_back x y (neighbour_bonded t x y m));
    ascends = λ x. keep_ascends ◌<◌ 0 (λ w. not (eqb w free)) (take places (drop (x * places) t)) (up x);
  }
    where
      up : (x i j : ℕ) → i < j → j < length (take places (drop (x * places) t)) → T (not (eqb (get_or (take places (drop (x * places) t)) i 0) free))
          → T (not (eqb (get_or (take places (drop (x * places) t)) j 0) free)) → get_or (take places (drop (x * places) t)) i 0 < get_or (take places (drop (x * places) t)) j 0
      up x i j l k ti tj =
          let kj : j < places = omega (arith, row_length t x) in
          let h : Holds t x j = λ e. T_not (eqb (get_or (take places (drop (x * places) t)) j 0) free) tj
          (subst (λ w. T (eqb (get_or (take places (drop (x * places) t)) j 0) w)) (row_at t x j kj ∙ e) (eqb_refl (get_or (take places (drop (x * places) t)) j 0))) in
          omega (arith, row_at t x i (omega arith), row_at t x j kj, N.ascends x i j (omega (arith, row_length t x, N.whole)) l kj h)

-- a network's table is determined by its bonds, since its rows ascend
module _ (n : ℕ) where
  -- where the words before are the same, a neighbour at place p has one at p in the other table, not above it
  not_above : (t u : List ℕ) → IsNetwork n t → IsNetwork n u → (x p : ℕ) → x < n → p < places → ((y : ℕ) → Bonded t x y → Bonded u x y)
      → ((q : ℕ) → q < p → word t x q ≡ word u x q) → Holds t x p → Holds u x p × (word u x p ≤ word t x p)
  not_above t u N U x p l m there before h = go (dec_lt b.place p) (dec_lt p b.place)
    where
      b : Bonded u x (word t x p)
      b = there (word t x p) (record { place = p; within_row = m; in_table = omega (arith, N.whole); stands = refl; atom = h })

      held : Holds u x b.place
      held e = h (sym b.stands ∙ e)

      go : Dec (b.place < p) → Dec (p < b.place) → Holds u x p × (word u x p ≤ word t x p)
      go (yes k) _ = absurd (omega (arith, before b.place k, b.stands, N.ascends x b.place p l k m h))
      go (no k) (yes s) = (U.first x p b.place l s b.within_row held, omega (arith, b.stands, U.ascends x p b.place l s b.within_row held))
      go (no k) (no s) =
          let e : b.place ≡ p = omega arith in
          (subst (λ (q : ℕ). Holds u x q) e held, omega (arith, b.stands, ap (word u x) e))

  module _ (t u : List ℕ) (N : IsNetwork n t) (U : IsNetwork n u) (same : (x y : ℕ) → Bonded t x y ↔ Bonded u x y) where
    same_words : (x k : ℕ) → x < n → k ≤ places → (p : ℕ) → p < k → word t x p ≡ word u x p
    same_words x zero l m p h = absurd (omega arith)
    same_words x (suc k) l m p h = pick (same_words x k l (omega arith))
      where
        pick : ((q : ℕ) → q < k → word t x q ≡ word u x q) → word t x p ≡ word u x p
        pick before = elim (ℕ_discrete p k) [ yes e ↦ rw e (here (ℕ_discrete (word t x k) free) (ℕ_discrete (word u x k) free)) | no e ↦ before p (omega arith) ]
          where
            here : Dec (word t x k ≡ free) → Dec (word u x k ≡ free) → word t x k ≡ word u x k
            here (yes e) (yes f) = e ∙ sym f
            here (yes e) (no f) = absurd ((not_above u t U N x k l (omega arith) (λ y. (same x y).1) (λ q r. sym (before q r)) f).0 e)
            here (no e) (yes f) = absurd ((not_above t u N U x k l (omega arith) (λ y. (same x y).0) before e).0 f)
            here (no e) (no f) =
                let there : word u x k ≤ word t x k = (not_above t u N U x k l (omega arith) (λ y. (same x y).0) before e).1 in
                let back : word t x k ≤ word u x k = (not_above u t U N x k l (omega arith) (λ y. (same x y).1) (λ q r. sym (before q r)) f).1 in
                omega arith

    pub network_unique : t ≡ u
    network_unique =
        ext_get_or 0 t u (N.whole ∙ sym U.whole)
        (λ i l.
        let e : i ≡ i / places * places + i % places = omega arith in
        rw e (same_words (i / places) places (omega (arith, N.whole)) (omega arith) (i % places) (omega arith)))
