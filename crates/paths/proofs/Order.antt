-- The search's definition lists the rings in order, so none twice.
use mathlib.Core.Path.{◌≡◌, refl, sym, ◌∙◌, subst}
use mathlib.Core.Bool.{Bool, true, false, cond, and-eq-true_iff}
use mathlib.Core.Logic.{inl, inr}
use mathlib.Core.List.Memᴰ
use mathlib.Core.List.{List, [], ◌∷◌, ◌++◌, append-nil}
use Prim.Native.Nat.{ℕ, zero, suc, ◌+◌, ◌-◌, ◌<◌}
use native.Mathlib.Nat.{lt-suc_self, lt_trans}
use native.Mathlib.Omega.{arith}
use lib.ListN.{length, get_or, length-append}
use lib.Seq.{append_snoc}
use borrow.Author.Tests.{ltb-true}
use Rattle.graph.specs.Lists.{◌∈◌, Ascending}
use Rattle.graph.specs.Listing.{Lex, Before}
use Rattle.graph.proofs.Lists.{append_ascending}
use Rattle.network.specs.Maxima.{places}
use Rattle.network.specs.Network.{word, IsNetwork}
use Rattle.ring.specs.Maxima.{ring_least}
use Rattle.paths.specs.Search.{Test, Tests, gather_below, is_ring, next_word, goes_on, ended, extend, rings_from, rings_of, rings_up_to}
use Rattle.paths.proofs.Below.{gather_elim}
use Rattle.paths.proofs.Members.{at_last, listed_only}

less_at : (p : List ℕ) {a b : ℕ} (s t : List ℕ) → a < b → Lex ◌<◌ (p ++ (a ∷ s)) (p ++ (b ∷ t))
less_at [] s t h = inl h
less_at (x ∷ p) s t h = inr (refl, less_at p s t h)

-- the atoms of a row ascend
abbrev Rows : ℕ → List ℕ → Type 0
Rows n table = (x i j : ℕ) → x < n → i < j → j < places → word table x j < n → word table x i < word table x j

pub rows_of : (n : ℕ) (table : List ℕ) → IsNetwork n table → Rows n table
rows_of n table N x i j l k m h = N.ascends x i j l k m (λ e. omega (arith, N.counted.most))

module _ (R : List ℕ → List ℕ → Type 0) where
  gather_asc : (f : ℕ → List (List ℕ)) (n : ℕ) → ((i : ℕ) → i < n → Ascending R (f i)) → ((i j : ℕ) → i < j → j < n → (x y : List ℕ) → x ∈ (f i) → y ∈ (f j) → R x y) → Ascending R (gather_below n f)
  unfolding gather_below
  gather_asc f zero each across = tt
  gather_asc f (suc n) each across =
      append_ascending R (gather_below n f) (f n)
      (gather_asc f n (λ i l. each i (lt_trans l (lt-suc_self n))) (λ i j l h. across i j l (lt_trans h (lt-suc_self n))))
      (each n (lt-suc_self n))
      (λ x y m m'. let g = gather_elim f n m in across g.0 n g.1 (lt-suc_self n) x y g.2 m')

module _ (n : ℕ) (table dist : List ℕ) (k : ℕ) (may : Test) where
  -- what is listed from a path begins with it
  pub begins : (left : ℕ) (p r : List ℕ) → r ∈ (extend may n table dist k left p) → (s : List ℕ) × (r ≡ p ++ s)
  unfolding extend ended
  begins zero p r m = go (is_ring n dist k p) m
    where
      go : (b : Bool) → r ∈ (cond b (p ∷ []) []) → (s : List ℕ) × (r ≡ p ++ s)
      go true m' = ([], Memᴰ.eq_of_singleton m' ∙ sym (append-nil p))
      go false m' = absurd (Memᴰ.not-nil m')
  begins (suc left) p r m =
      let g = gather_elim _ places m in go (λ p' m'. begins left p' r m') g.0 (goes_on may n table p g.0) g.2
    where
      go : ((p' : List ℕ) → r ∈ (extend may n table dist k left p') → (s : List ℕ) × (r ≡ p' ++ s)) → (j : ℕ) (b : Bool)
          → r ∈ (cond b (extend may n table dist k left (p ++ (next_word table p j ∷ []))) []) → (s : List ℕ) × (r ≡ p ++ s)
      go rec j true m' = let q = rec _ m' in (next_word table p j ∷ q.0, q.1 ∙ append_snoc p (next_word table p j) q.0)
      go rec j false m' = absurd (Memᴰ.not-nil m')

  branch_of : (left : ℕ) (p r : List ℕ) (j : ℕ) → r ∈ (cond (goes_on may n table p j) (extend may n table dist k left (p ++ (next_word table p j ∷ []))) [])
      → (s : List ℕ) × (r ≡ p ++ (next_word table p j ∷ s)) × (next_word table p j < n)
  unfolding goes_on
  branch_of left p r j m = go (goes_on may n table p j) refl m
    where
      go : (b : Bool) → goes_on may n table p j ≡ b → r ∈ (cond b (extend may n table dist k left (p ++ (next_word table p j ∷ []))) []) → (s : List ℕ) × (r ≡ p ++ (next_word table p j ∷ s)) × (next_word table p j < n)
      go true e m' = let q = begins left _ r m' in (q.0, q.1 ∙ append_snoc p (next_word table p j) q.0, ltb-true _ _ ((and-eq-true_iff _ _).0 e).0)
      go false e m' = absurd (Memᴰ.not-nil m')

  module _ (rows : Rows n table) where
    extend_asc : (left : ℕ) (p : List ℕ) → get_or p (length p - 1) 0 < n → Ascending (Lex ◌<◌) (extend may n table dist k left p)
    unfolding extend ended goes_on
    extend_asc zero p h = go (is_ring n dist k p)
      where
        go : (b : Bool) → Ascending (Lex ◌<◌) (cond b (p ∷ []) [])
        go true = ((λ y m. absurd (Memᴰ.not-nil m)), tt)
        go false = tt
    extend_asc (suc left) p h =
        gather_asc (Lex ◌<◌) _ places
        (λ i l. go (λ p' h'. extend_asc left p' h') i (goes_on may n table p i) refl)
        (λ i j l lt x y m m'.
        let a = branch_of left p x i m in
        let b = branch_of left p y j m' in
        subst (λ (z : List ℕ). (Lex ◌<◌) z y) (sym a.1) (subst (λ (z : List ℕ). (Lex ◌<◌) (p ++ (next_word table p i ∷ a.0)) z) (sym b.1) (less_at p a.0 b.0 (rows _ i j h l lt b.2))))
      where
        last_of : (a : ℕ) → get_or (p ++ (a ∷ [])) (length (p ++ (a ∷ [])) - 1) 0 ≡ a
        last_of a = let e : length (p ++ (a ∷ [])) - 1 ≡ length p = omega (arith, length-append p (a ∷ [])) in rw e (at_last p a [])

        go : ((p' : List ℕ) → get_or p' (length p' - 1) 0 < n → Ascending (Lex ◌<◌) (extend may n table dist k left p')) → (i : ℕ) (b : Bool) → goes_on may n table p i ≡ b
            → Ascending (Lex ◌<◌) (cond b (extend may n table dist k left (p ++ (next_word table p i ∷ []))) [])
        go rec i true e = rec _ (rw (last_of (next_word table p i)) (ltb-true _ _ ((and-eq-true_iff _ _).0 e).0))
        go rec i false e = tt

pub rings_asc : (n : ℕ) (table dist : List ℕ) (k : ℕ) (may : Tests) → Rows n table → Ascending (Lex ◌<◌) (rings_of may n table dist k)
unfolding rings_of rings_from
rings_asc n table dist k may rows =
    gather_asc (Lex ◌<◌) _ n (λ a l. extend_asc n table dist k (may n dist k) rows (k - 1) (a ∷ []) l)
    (λ i j l lt x y m m'.
    let a = begins n table dist k (may n dist k) (k - 1) (i ∷ []) x m in
    let b = begins n table dist k (may n dist k) (k - 1) (j ∷ []) y m' in
    subst (λ (z : List ℕ). (Lex ◌<◌) z y) (sym a.1) (subst (λ (z : List ℕ). (Lex ◌<◌) (i ∷ a.0) z) (sym b.1) (inl l)))

weaken : (xs : List (List ℕ)) → ((x y : List ℕ) → x ∈ xs → y ∈ xs → length x ≡ length y) → Ascending (Lex ◌<◌) xs → Ascending (Before ◌<◌) xs
weaken [] h a = tt
weaken (x ∷ xs) h a = (
  (λ y m. inr (h x y (Memᴰ.head refl) (Memᴰ.tail m), a.0 y m)),
  weaken xs (λ x' y m m'. h x' y (Memᴰ.tail m) (Memᴰ.tail m')) a.1,
)

-- the whole list: shorter rings first
pub all_asc : (may : Tests) (n : ℕ) (table dist : List ℕ) (m : ℕ) → Rows n table → Ascending (Before ◌<◌) (rings_up_to may n table dist m)
unfolding rings_up_to
all_asc may n table dist m rows =
    gather_asc (Before ◌<◌) _ m
    (λ i l. weaken _ (λ x y mx my. size i x mx ∙ sym (size i y my)) (rings_asc n table dist (i + ring_least) may rows))
    (λ i j l lt x y mx my. inl (rw (size i x mx, size j y my) (omega arith)))
  where
    size : (i : ℕ) (x : List ℕ) → x ∈ (rings_of may n table dist (i + ring_least)) → length x ≡ i + ring_least
    size i x mx = (listed_only n table dist (i + ring_least) may x (omega arith) mx).size
