-- A renumbering carries the listing of a network's rings to that of the renumbered network.
use Rattle.std.proofs.Common.{◌≡◌, sym, ◌∙◌, ap, subst₂, List, ℕ, suc, length}
use Rattle.std.proofs.lemmas.List.{length-map}
use Rattle.graph.specs.Writing.{RingReading, OneWriting}
use Rattle.graph.specs.Listing.{RingListing}
use Rattle.graph.specs.Carried.{Renaming, KeptBy, CarriedTo}
use Rattle.graph.proofs.Writings.{one_each}
use Rattle.graph.proofs.Carried.{carried_to}
use Rattle.graph.proofs.Listings.{ring_order_strict}
use Rattle.graph.proofs.Readings.{reading_map}
use Rattle.network.specs.declared.Answer.{Answer}
use Rattle.network.specs.Network.{Bonded, IsNetwork}
use Rattle.network.proofs.Bonds.{bonded_from, bonded_to, bonded_back}
use Rattle.names.specs.Names.{name, OneToOne}
use Rattle.renumber.specs.Outcome.{Renumbered, RenumberOutcome}
use Rattle.renumber.specs.Carried.{RingsRenumbered, home_names}
use Rattle.renumber.proofs.Outcomes.{accepts}
use Rattle.renumber.proofs.Home.{inverse_exists, home_below, home_named}

module _ (n : ℕ) (t names after : List ℕ) (N : IsNetwork n t) (O : OneToOne n names) (R : Renumbered n t names after) where
  -- the two networks are bonded alike
  pub renaming : Renaming (Bonded t) (Bonded after) (name names) (name (home_names n names))
  renaming = record {
    there = λ x y b. (R.bonds x y (bonded_from n t N x y b) (bonded_to n t N x y b)).1 b;
    home = λ x y b.
        let l = bonded_from n after R.network x y b in
        let m = bonded_to n after R.network x y b in
        let I = inverse_exists n names O in
        (R.bonds (name (home_names n names) x) (name (home_names n names) y) (home_below n names O (home_names n names) I x l) (home_below n names O (home_names n names) I y m)).0
        (subst₂ (λ p q. Bonded after p q) (sym (home_named n names O (home_names n names) I x l)) (sym (home_named n names O (home_names n names) I y m)) b);
    undone = λ x y b. (inverse_exists n names O).undone x (bonded_from n t N x y b);
  }

  pub renaming_home : Renaming (Bonded after) (Bonded t) (name (home_names n names)) (name names)
  renaming_home = record {
    there = renaming.home;
    home = renaming.there;
    undone = λ x y b. home_named n names O (home_names n names) (inverse_exists n names O) x (bonded_from n after R.network x y b);
  }

  module _ (limit : ℕ) (xs ys : List (List ℕ)) (X : RingListing (Bonded t) limit xs) (Y : RingListing (Bonded after) limit ys) where
    pub rings_renumbered : RingsRenumbered names xs ys
    rings_renumbered = record {
      carried = carried;
      counts = carried.marks length length long;
      lengths = carried.sums length length long;
      words = carried.sums (λ r. suc (length r)) (λ r. suc (length r)) (λ r s m n w. ap suc (long r s m n w));
    }
      where
        back : (x y : ℕ) → Bonded t x y → Bonded t y x
        back = bonded_back n t N

        back' : (x y : ℕ) → Bonded after x y → Bonded after y x
        back' = bonded_back n after R.network

        carried : CarriedTo (RingReading 0) OneWriting (name names) xs ys
        carried = carried_to ring_order_strict (one_each (Bonded t) back) (one_each (Bonded after) back') renaming renaming_home back back'
            (reading_map (name names) 0 0) (reading_map (name (home_names n names)) 0 0) limit xs ys X Y

        -- a ring keeps its length
        long : KeptBy (RingReading 0) OneWriting (name names) xs ys length length
        long r s m n w = w.0.alike ∙ length-map r (name names)

-- the same of a call that is accepted
pub call_carries : (n : ℕ) (t names before after : List ℕ) (a : Answer) → RenumberOutcome n t names before after a → a.code ≡ 0
    → (limit : ℕ) (xs ys : List (List ℕ)) → RingListing (Bonded t) limit xs → RingListing (Bonded after) limit ys → RingsRenumbered names xs ys
call_carries n t names before after a H z =
    let given = (accepts n t names before).0 (ap (λ (x : Answer). x.code) (sym H.answer) ∙ z) in
    rings_renumbered n t names after given.0 given.1 (H.renumbered z)
