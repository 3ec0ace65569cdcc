-- In the listing of a network's rings stands exactly what is to stand there, over any form of network; and a list of which that is so is the listing.
use mathlib.Core.Path.{◌≡◌, sym, ◌∙◌, subst}
use mathlib.Core.List.{List, []}
use Prim.Native.Nat.{ℕ, ◌≤◌, ◌<◌}
use native.Mathlib.Omega.{arith}
use native.Mathlib.Decide.{dec_lt}
use lib.ListN.{length, get_or}
use Rattle.graph.specs.Lists.{◌∈◌, Ascending}
use Rattle.graph.specs.Graph.{Ring, RoundIsDistance}
use Rattle.graph.specs.Listing.{Before, Listing, Listed}
use Rattle.graph.specs.Standing.{StandsOnce, StandExactly, OneEach}
use Rattle.graph.proofs.Lists.{place_of, at_place, apart_places}

module _ {A : Type 0} {◌≺◌ : A → A → Type 0} (strict : (r : List A) → Before ◌≺◌ r r → ⊥) where
  -- in list order no ring has two places
  one_place : (rings : List (List A)) → Ascending (Before ◌≺◌) rings → (i j : ℕ) → i < length rings → j < length rings → get_or rings i [] ≡ get_or rings j [] → i ≡ j
  one_place rings order i j l k e = go (dec_lt i j) (dec_lt j i)
    where
      apart : (i j : ℕ) → i < j → j < length rings → get_or rings i [] ≡ get_or rings j [] → ⊥
      apart = apart_places (Before ◌≺◌) strict [] rings order

      go : Dec (i < j) → Dec (j < i) → i ≡ j
      go (yes h) _ = absurd (apart i j h k e)
      go (no g) (yes h) = absurd (apart j i h l (sym e))
      go (no g) (no h) = omega arith

  module _ {o : A} {Same : List A → List A → Type 0} {Written : List A → Type 0} {Bonded : A → A → Type 0} (limit : ℕ) (rings : List (List A)) where
    module _ (W : OneEach Bonded o Same Written) (X : Listing (Before ◌≺◌) (Listed Bonded o Written limit) rings) where
      stands_once : (r : List A) → Ring Bonded o r → length r ≤ limit → RoundIsDistance Bonded o r → StandsOnce Same rings r
      stands_once r R l h =
          let w = W.exists r R in
          let s = W.shortest r w.0 w.1 (record { ring = R; shortest = h }) in
          let p = place_of [] (X.complete w.0 (record { within = omega (arith, W.alike r w.0 w.1); shortest = s; written = w.2 })) in
          record {
            writing = w.0;
            reading = w.1;
            place = p.0;
            in_list = p.1;
            stands = p.2;
            only = λ u i U k e.
                let m : u ∈ rings = subst (λ v. v ∈ rings) e (at_place [] rings i k) in
                let q : u ≡ w.0 = W.unique r u w.0 R.three U w.1 (X.sound u m).written w.2 in
                (q, one_place rings X.ascending i p.0 k p.1 (e ∙ q ∙ sym p.2));
          }

      stood : (r : List A) → StandsOnce Same rings r → RoundIsDistance Bonded o r
      stood r S =
          let m : S.writing ∈ rings = subst (λ v. v ∈ rings) S.stands (at_place [] rings S.place S.in_list) in
          (W.shortest S.writing r (W.back r S.writing S.reading) (X.sound S.writing m).shortest).shortest

      pub stand_exactly : StandExactly Bonded o ◌≺◌ Same Written limit rings
      stand_exactly = record {
        exactly = λ r R l. (stands_once r R l, stood r);
        cycles = λ r m. ((X.sound r m).shortest.ring, (X.sound r m).within);
        written = λ r m. (X.sound r m).written;
        order = X.ascending;
      }

    -- a list in which exactly these rings stand is their listing
    module _ (self : (r : List A) → 3 ≤ length r → Same r r) (unique : (r s u : List A) → 3 ≤ length r → Same r s → Same r u → Written s → Written u → s ≡ u)
        (S : StandExactly Bonded o ◌≺◌ Same Written limit rings) where
      itself : (r : List A) → r ∈ rings → StandsOnce Same rings r
      itself r m =
          let R = (S.cycles r m).0 in
          let p = place_of [] m in
          record {
            writing = r;
            reading = self r R.three;
            place = p.0;
            in_list = p.1;
            stands = p.2;
            only = λ s i U k e.
                let q : s ≡ r = unique r s r R.three U (self r R.three) (S.written s (subst (λ v. v ∈ rings) e (at_place [] rings i k))) (S.written r m) in
                (q, one_place rings S.order i p.0 k p.1 (e ∙ q ∙ sym p.2));
          }

      pub listing_of : Listing (Before ◌≺◌) (Listed Bonded o Written limit) rings
      listing_of = record {
        sound = λ r m. (let C = S.cycles r m in record { within = C.1; shortest = record { ring = C.0; shortest = (S.exactly r C.0 C.1).1 (itself r m) }; written = S.written r m });
        complete = λ r L.
            let R = L.shortest.ring in
            let O = (S.exactly r R L.within).0 L.shortest.shortest in
            let m : O.writing ∈ rings = subst (λ v. v ∈ rings) O.stands (at_place [] rings O.place O.in_list) in
            subst (λ v. v ∈ rings) (unique r O.writing r R.three O.reading (self r R.three) (S.written O.writing m) L.written) m;
        ascending = S.order;
      }
