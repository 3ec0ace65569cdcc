-- Rows of neighbours under their new names, ascending, are the table of the renumbered network.
use Rattle.std.proofs.Common.{◌≡◌, refl, sym, ◌∙◌, subst, List, ℕ, ◌*◌, ◌<◌, length, arith}
use Rattle.network.specs.Maxima.{places}
use Rattle.network.specs.Network.{word, Holds, Bonded, IsNetwork}
use Rattle.network.proofs.Bonds.{bonded_to, bonded_back, bonded_other}
use Rattle.names.specs.Names.{name, OneToOne}
use Rattle.renumber.specs.Rows.{table_row, NewRow}
use Rattle.renumber.specs.Outcome.{Renumbered}
use Rattle.names.proofs.Naming.{same_name, named}
use Rattle.renumber.proofs.PutRows.{row_word}

module _ (n : ℕ) (t names after : List ℕ) (N : IsNetwork n t) (O : OneToOne n names) where
  -- one row
  module _ (x : ℕ) (l : x < n) (F : NewRow names (table_row t x) (table_row after (name names x))) where
    -- a word of the new row is the name of a neighbour
    neighbour_of : (p : ℕ) → p < places → Holds after (name names x) p → (y : ℕ) × Bonded t x y × (name names y ≡ word after (name names x) p)
    neighbour_of p m h =
        let new = row_word after (name names x) p m in
        let f = F.from p m (λ e. h (sym new ∙ e)) in
        let old = row_word t x f.0 f.1 in
        (word t x f.0, record { place = f.0; within_row = f.1; in_table = omega (arith, N.whole, f.1); stands = refl; atom = λ e. f.2 (old ∙ e) }, rw (← old, f.3) new)

    low : (p : ℕ) → p < places → Holds after (name names x) p → word after (name names x) p < n
    low p m h =
        let y = neighbour_of p m h in
        subst (λ (k : ℕ). k < n) y.2 (O.below y.0 (bonded_to n t N x y.0 y.1))

    chain : (p q : ℕ) → p < q → q < places → Holds after (name names x) q → Holds after (name names x) p × (word after (name names x) p < word after (name names x) q)
    chain p q s m h =
        let a = row_word after (name names x) p (omega arith) in
        let b = row_word after (name names x) q m in
        let rises : word after (name names x) p < word after (name names x) q = omega (arith, F.rises p q s m (λ e. h (sym b ∙ e)), a, b) in
        (omega (arith, rises, low q m h, N.counted.most), rises)

    -- every neighbour's name has its place
    has_place : (y : ℕ) → Bonded t x y → (p : ℕ) × (p < places) × (word after (name names x) p ≡ name names y)
    has_place y b =
        let old = row_word t x b.place b.within_row ∙ b.stands in
        let p = F.to b.place b.within_row (λ e. b.atom (sym old ∙ e)) in
        (p.0, p.1, sym (row_word after (name names x) p.0 p.1) ∙ p.2 ∙ rw old refl)

  -- all rows
  module _ (whole : length after ≡ places * n) (F : (x : ℕ) → x < n → NewRow names (table_row t x) (table_row after (name names x))) where
    there : (x y : ℕ) → x < n → Bonded t x y → Bonded after (name names x) (name names y)
    there x y l b =
        let p = has_place x l (F x l) y b in
        record {
          place = p.0;
          within_row = p.1;
          in_table = omega (arith, p.1, O.below x l);
          stands = p.2;
          atom = omega (arith, O.below y (bonded_to n t N x y b), N.counted.most);
        }

    -- the neighbour whose name is that of y is y
    is_bonded : (x y p : ℕ) → x < n → y < n → p < places → Holds after (name names x) p → word after (name names x) p ≡ name names y → Bonded t x y
    is_bonded x y p l k m h e =
        let z = neighbour_of x l (F x l) p m h in
        subst (λ (z : ℕ). Bonded t x z) (same_name n names O z.0 y (bonded_to n t N x z.0 z.1) k (z.2 ∙ e)) z.1

    back : (x y : ℕ) → x < n → y < n → Bonded after (name names x) (name names y) → Bonded t x y
    back x y l k b = is_bonded x y b.place l k b.within_row (λ e. b.atom (sym b.stands ∙ e)) b.stands

    -- what holds of the row of every name holds of every row
    every_row : (P : ℕ → Type 0) → ((x : ℕ) → x < n → P (name names x)) → (z : ℕ) → z < n → P z
    every_row P f z l = let x = named n names O z l in subst P x.2 (f x.0 x.1)

    pub renumbered : Renumbered n t names after
    renumbered = record {
      network = record {
        counted = N.counted;
        whole = whole;
        below = λ z p l m. every_row (λ z. Holds after z p → word after z p < n) (λ x k. low x k (F x k) p m) z l;
        other = λ z p l m. every_row (λ z. Holds after z p → word after z p ≡ z → ⊥) (λ x k h e. bonded_other n t N x (is_bonded x x p k k m h e)) z l;
        first = λ z p q l s m. every_row (λ z. Holds after z q → Holds after z p) (λ x k h. (chain x k (F x k) p q s m h).0) z l;
        ascends = λ z p q l s m. every_row (λ z. Holds after z q → word after z p < word after z q) (λ x k h. (chain x k (F x k) p q s m h).1) z l;
        answered = λ z p l m. every_row (λ z. Holds after z p → Bonded after (word after z p) z) (λ x k. reply x k p m) z l;
      };
      bonds = λ x y l m. (back x y l m, there x y l);
    }
      where
        reply : (x : ℕ) → x < n → (p : ℕ) → p < places → Holds after (name names x) p → Bonded after (word after (name names x) p) (name names x)
        reply x l p m h =
            let y = neighbour_of x l (F x l) p m h in
            subst (λ (z : ℕ). Bonded after z (name names x)) y.2
            (there y.0 x (bonded_to n t N x y.0 y.1) (bonded_back n t N x y.0 y.1))
