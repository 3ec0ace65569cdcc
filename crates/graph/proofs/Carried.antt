-- A renaming carries the listing, over any form of network: the rings of the other network are the renamed rings, each in its one writing, and as
-- many of each mark that they keep.
use mathlib.Core.Path.{◌≡◌, refl, sym, ◌∙◌, ap, subst}
use mathlib.Core.Logic.{◌≢◌}
use mathlib.Core.List.{List, [], map}
use Prim.Native.Nat.{ℕ, suc, ◌≤◌, ◌<◌}
use native.Mathlib.Decide.{dec_lt}
use native.Mathlib.Omega.{arith}
use lib.Dec.{T, eqb, eqb→eq, eqb_refl}
use lib.ListN.{length, get_or, length-map}
use lib.Seq.{ext_get_or}
use Rattle.graph.specs.Lists.{◌∈◌, Ascending, keep}
use Rattle.graph.specs.Graph.{Ring}
use Rattle.graph.specs.Listing.{Before, Listing, Listed}
use Rattle.graph.specs.Standing.{OneEach}
use Rattle.graph.specs.Counts.{having}
use Rattle.graph.specs.Carried.{Renaming, WritingOf, KeptBy, CarriedTo}
use Rattle.graph.proofs.Lists.{keep_of, keep_has, keep_ascending, get_or_map, place_of, at_place, apart_places}
use Rattle.graph.proofs.Pigeons.{pigeons}
use Rattle.graph.proofs.Renamings.{ring_there}
use Rattle.graph.proofs.Counts.{same_sums, sum_of_ones}

-- each member of xs has a member of ys, and no two have the same: there are no more of them
no_more : {A : Type 0} (R : A → A → Type 0) (irr : (a : A) → R a a → ⊥) (d : A) (Rel : A → A → Type 0) (xs ys : List A) → Ascending R xs
    → ((a : A) → a ∈ xs → (b : A) × (b ∈ ys) × Rel a b) → ((a a' b : A) → a ∈ xs → a' ∈ xs → Rel a b → Rel a' b → a ≡ a') → length xs ≤ length ys
no_more R irr d Rel xs ys up φ one = pigeons (length ys) (length xs) (λ i. pick i (dec_lt i (length xs))) (λ i l. low i (dec_lt i (length xs)) l) (λ i j l k. far i j l k (dec_lt i (length xs)) (dec_lt j (length xs)))
  where
    put : (i : ℕ) → i < length xs → (p : ℕ) × (p < length ys) × Rel (get_or xs i d) (get_or ys p d)
    put i l = let b = φ (get_or xs i d) (at_place d xs i l) in let t = place_of d b.1 in (t.0, t.1, subst (λ z. Rel (get_or xs i d) z) (sym t.2) b.2)

    pick : (i : ℕ) → Dec (i < length xs) → ℕ
    pick i (yes l) = (put i l).0
    pick i (no l) = 0

    low : (i : ℕ) (c : Dec (i < length xs)) → i < length xs → pick i c < length ys
    low i (yes c) l = (put i c).1
    low i (no c) l = absurd (c l)

    far : (i j : ℕ) → i < j → j < length xs → (c : Dec (i < length xs)) (e : Dec (j < length xs)) → pick i c ≢ pick j e
    far i j l k (yes c) (yes e) h =
        apart_places R irr d xs up i j l k
        (one (get_or xs i d) (get_or xs j d) (get_or ys (put i c).0 d) (at_place d xs i c) (at_place d xs j e) (put i c).2 (subst (λ p. Rel (get_or xs j d) (get_or ys p d)) (sym h) (put j e).2))
    far i j l k (no c) e h = c (omega arith)
    far i j l k (yes c) (no e) h = e k

-- one way: f renames, g names back, and what is one ring stays one under both
module _ {A : Type 0} {o : A} {◌≺◌ : A → A → Type 0} (strict : (r : List A) → Before ◌≺◌ r r → ⊥) {Same : List A → List A → Type 0} {Written : List A → Type 0}
    {Bonded Bonded' : A → A → Type 0} (W : OneEach Bonded o Same Written) (W' : OneEach Bonded' o Same Written)
    {f g : A → A} (F : Renaming Bonded Bonded' f g) (back' : (x y : A) → Bonded' x y → Bonded' y x)
    (named : (r s : List A) → Same r s → Same (map g r) (map g s)) (limit : ℕ) where
  home_again : (r : List A) → Ring Bonded o r → map g (map f r) ≡ r
  home_again r R =
      ext_get_or o (map g (map f r)) r (length-map (map f r) g ∙ length-map r f)
      (λ i l. at i (omega (arith, length-map (map f r) g, length-map r f)) (dec_lt (suc i) (length r)))
    where
      same : (i : ℕ) → i < length r → Dec (suc i < length r) → g (f (get_or r i o)) ≡ get_or r i o
      same i l (yes k) = F.undone (get_or r i o) (get_or r (suc i) o) (R.next i k)
      same i l (no k) = F.undone (get_or r i o) (get_or r 0 o) (subst (λ n. Bonded (get_or r n o) (get_or r 0 o)) (omega arith) R.closes)

      at : (i : ℕ) → i < length r → Dec (suc i < length r) → get_or (map g (map f r)) i o ≡ get_or r i o
      at i l d = get_or_map g (map f r) i o o (omega (arith, length-map r f)) ∙ ap g (get_or_map f r i o o l) ∙ same i l d

  -- the one writing of a listed ring, renamed, is listed
  pub carried : (r s : List A) → Listed Bonded o Written limit r → Same (map f r) s → Written s → Listed Bonded' o Written limit s
  carried r s L R w = record {
    within = omega (arith, L.within, W'.alike (map f r) s R, length-map r f);
    shortest = W'.shortest (map f r) s R (ring_there F back' o o r L.shortest);
    written = w;
  }

  -- every listed ring, renamed, has a writing
  pub carries : (r : List A) → Listed Bonded o Written limit r → (s : List A) × Same (map f r) s × Written s
  carries r L = W'.exists (map f r) (ring_there F back' o o r L.shortest).ring

  -- and what is read from it can be read from it again, named back
  pub named_back : (r s : List A) → Listed Bonded o Written limit r → Same (map f r) s → Same (map g s) r
  named_back r s L R = W.back r (map g s) (subst (λ q. Same q (map g s)) (home_again r L.shortest.ring) (named (map f r) s R))

  -- what is carried to one ring is one ring
  pub carried_once : (r r' s : List A) → Listed Bonded o Written limit r → Listed Bonded o Written limit r' → Same (map f r) s → Same (map f r') s → r ≡ r'
  carried_once r r' s L L' R R' =
      W.unique (map g s) r r' (omega (arith, L.shortest.ring.three, length-map s g, W'.alike (map f r) s R, length-map r f))
      (named_back r s L R) (named_back r' s L' R') L.written L'.written

  -- a number that a ring keeps under its new name: no more rings here have it than there
  no_more_of : (mark mark' : List A → ℕ) (xs ys : List (List A)) → Listing (Before ◌≺◌) (Listed Bonded o Written limit) xs → Listing (Before ◌≺◌) (Listed Bonded' o Written limit) ys
      → ((r s : List A) → r ∈ xs → s ∈ ys → Same (map f r) s → mark' s ≡ mark r) → (k : ℕ) → having mark k xs ≤ having mark' k ys
  no_more_of mark mark' xs ys X Y keeps k =
      no_more (Before ◌≺◌) strict [] (λ r s. Same (map f r) s) (keep (λ r. eqb (mark r) k) xs) (keep (λ r. eqb (mark' r) k) ys)
      (keep_ascending (Before ◌≺◌) (λ r. eqb (mark r) k) xs X.ascending) to one
    where
      to : (r : List A) → r ∈ keep (λ r. eqb (mark r) k) xs → (s : List A) × (s ∈ keep (λ r. eqb (mark' r) k) ys) × Same (map f r) s
      to r m =
          let w = keep_of (λ r. eqb (mark r) k) xs m in
          let L = X.sound r w.0 in
          let s = carries r L in
          let there = Y.complete s.0 (carried r s.0 L s.1 s.2) in
          let e : k ≡ mark' s.0 = omega (arith, eqb→eq (mark r) k w.1, keeps r s.0 w.0 there s.1) in
          (s.0, keep_has (λ r. eqb (mark' r) k) there (subst (λ n. T (eqb (mark' s.0) n)) (sym e) (eqb_refl (mark' s.0))), s.1)

      one : (r r' s : List A) → r ∈ keep (λ r. eqb (mark r) k) xs → r' ∈ keep (λ r. eqb (mark r) k) xs → Same (map f r) s → Same (map f r') s → r ≡ r'
      one r r' s m m' = carried_once r r' s (X.sound r (keep_of (λ r. eqb (mark r) k) xs m).0) (X.sound r' (keep_of (λ r. eqb (mark r) k) xs m').0)

-- both ways
module _ {A : Type 0} {o : A} {◌≺◌ : A → A → Type 0} (strict : (r : List A) → Before ◌≺◌ r r → ⊥) {Same : List A → List A → Type 0} {Written : List A → Type 0}
    {Bonded Bonded' : A → A → Type 0} (W : OneEach Bonded o Same Written) (W' : OneEach Bonded' o Same Written)
    {f g : A → A} (F : Renaming Bonded Bonded' f g) (G : Renaming Bonded' Bonded g f)
    (back : (x y : A) → Bonded x y → Bonded y x) (back' : (x y : A) → Bonded' x y → Bonded' y x)
    (there : (r s : List A) → Same r s → Same (map f r) (map f s)) (named : (r s : List A) → Same r s → Same (map g r) (map g s))
    (limit : ℕ) (xs ys : List (List A)) (X : Listing (Before ◌≺◌) (Listed Bonded o Written limit) xs) (Y : Listing (Before ◌≺◌) (Listed Bonded' o Written limit) ys) where
  same_marks : (mark mark' : List A → ℕ) → KeptBy Same Written f xs ys mark mark' → (k : ℕ) → having mark k xs ≡ having mark' k ys
  same_marks mark mark' keeps k = omega (
    arith,
    no_more_of strict W W' F back' named limit mark mark' xs ys X Y (λ r s m n R. keeps r s m n (R, (Y.sound s n).written)) k,
    no_more_of strict W' W G back there limit mark' mark ys xs Y X
        (λ s r n m R. sym (keeps r s m n (named_back strict W' W G back there limit s r (Y.sound s n) R, (Y.sound s n).written))) k,
  )

  pub carried_to : CarriedTo Same Written f xs ys
  carried_to = record {
    exactly = λ s. (from s, λ h. Y.complete s (carried strict W W' F back' named limit h.0 s (X.sound h.0 h.1) h.2.0 h.2.1));
    one = λ r m.
        let L = X.sound r m in
        let s = carries strict W W' F back' named limit r L in (
          s.0,
          Y.complete s.0 (carried strict W W' F back' named limit r s.0 L s.1 s.2),
          (s.1, s.2),
          λ u R. W'.unique (map f r) u s.0 (omega (arith, L.shortest.ring.three, length-map r f)) R.0 s.1 R.1 s.2,
        );
    once = λ r q s m n R Q. carried_once strict W W' F back' named limit r q s (X.sound r m) (X.sound q n) R.0 Q.0;
    total = sym (sum_of_ones xs) ∙ same_sums (λ _. 1) (λ _. 1) xs ys (same_marks (λ _. 1) (λ _. 1) (λ _ _ _ _ _. refl)) ∙ sum_of_ones ys;
    marks = same_marks;
    sums = λ mark mark' keeps. same_sums mark mark' xs ys (same_marks mark mark' keeps);
  }
    where
      from : (s : List A) → s ∈ ys → (r : List A) × (r ∈ xs) × WritingOf Same Written (map f r) s
      from s m =
          let L = Y.sound s m in
          let r = carries strict W' W G back there limit s L in
          (r.0, X.complete r.0 (carried strict W' W G back there limit s r.0 L r.1 r.2), (named_back strict W' W G back there limit s r.0 L r.1, L.written))
