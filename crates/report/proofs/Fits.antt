-- The text of every file fits, and what is used of the lent bytes lies within them.
use Rattle.std.proofs.Common.{◌≡◌, refl, ap, List, ◌++◌, ℕ, ◌+◌, ◌*◌, ◌≤◌, arith, eq-eqb, ne_eqb, length, take, length-append}
use native.Mathlib.Decide.{ℕ_discrete, dec_le}
use Rattle.graph.specs.Lists.{◌∈◌, gather}
use Rattle.graph.specs.Counts.{of_length}
use Rattle.graph.specs.Listing.{RingListing}
use Rattle.graph.proofs.Lists.{place_of, length_made}
use Rattle.network.specs.declared.Answer.{Answer}
use Rattle.network.specs.Maxima.{places}
use Rattle.network.specs.Network.{Bonded, IsNetwork}
use Rattle.network.proofs.Bonds.{ring_atoms}
use Rattle.ring.specs.Maxima.{ring_most, allowance_most}
use Rattle.census.specs.Census.{limit_of, encode, counts_by, counts_of, after_list}
use Rattle.census.proofs.Passed.{limit_default_lem}
use Rattle.census.proofs.Settled.{room_enough, encode_words}
use Rattle.bonds.specs.declared.Reading.{Reading}
use Rattle.bonds.specs.Bonds.{Bond, table_of}
use Rattle.bonds.proofs.Tables.{table_network}
use Rattle.text.specs.Lines.{sizes_text, ring_text, counts_text, total_text}
use Rattle.text.proofs.Lengths.{Short, sizes_length, rings_length, counts_length, total_length, refusal_length}
use Rattle.report.specs.Report.{list_words, text_bytes, rings_text, ListingText, ReadingText, ReadText, Responds}

counts_length_all : (rings : List (List ℕ)) → length (counts_of rings) ≡ ring_most + 1
unfolding counts_by
counts_length_all rings = length_made (λ k. of_length k rings) (ring_most + 1)

module _ (n : ℕ) (t : List ℕ) (N : IsNetwork n t) (rings : List (List ℕ)) (listing : RingListing (Bonded t) (limit_of 0) rings) where
  -- the line of a listed ring takes at most five bytes for each of its words
  short : (r : List ℕ) → r ∈ rings → Short r
  short r m =
      let L = listing.sound r m in
      let few : length r ≤ ring_most = omega (arith, L.within, limit_default_lem 0 refl) in
      record {
        three = L.shortest.ring.three;
        few = omega arith;
        atoms = λ a h.
            let p = place_of 0 h in
            omega (arith, p.2, ring_atoms n t N r L.shortest.ring p.0 p.1, N.counted.most);
      }

  -- the lines of a listing that fits its list buffer
  rings_fit : (bonds : ℕ) → length (encode rings) ≤ list_words → length (rings_text n bonds rings) ≤ text_bytes
  unfolding rings_text
  rings_fit bonds h =
      omega (
        arith,
        length-append (sizes_text n bonds) (gather ring_text rings ++ (counts_text 0 (counts_of rings) ++ total_text (length rings))),
        length-append (gather ring_text rings) (counts_text 0 (counts_of rings) ++ total_text (length rings)),
        length-append (counts_text 0 (counts_of rings)) (total_text (length rings)),
        sizes_length n bonds,
        rings_length rings short,
        counts_length 0 (counts_of rings),
        counts_length_all rings,
        total_length (length rings),
        encode_words rings,
      )

-- the text of a network
pub listing_text_fits : (n bonds : ℕ) (t text : List ℕ) → IsNetwork n t → ListingText n bonds t text → length text ≤ text_bytes
listing_text_fits n bonds t text N L =
    let a = after_list allowance_most list_words L.rings in
    elim (ℕ_discrete a.code 0) [
      | yes y ↦ omega (arith, ap length (rw (eq-eqb a.code 0 y) at L.says), rings_fit n t N L.rings L.listing bonds (room_enough encode allowance_most L.rings list_words y))
      | no y ↦ omega (arith, ap length (rw (ne_eqb a.code 0 y) at L.says), refusal_length a)
    ]

-- the text of a reading
pub reading_text_fits : (r : Reading) (table text : List ℕ) → (r.answer.code ≡ 0 → IsNetwork r.atoms (take (places * r.atoms) table)) → ReadingText r table text → length text ≤ text_bytes
reading_text_fits r table text networks T =
    elim (ℕ_discrete r.answer.code 0) [
      | yes z ↦ listing_text_fits r.atoms r.bonds (take (places * r.atoms) table) text (networks z) (T.listed z)
      | no z ↦ omega (arith, ap length (T.refused z), refusal_length r.answer)
    ]

-- the text of a file
pub read_text_fits : {says : Answer} {Gives : ℕ → List Bond → Type 0} (text : List ℕ) → ReadText says Gives text → length text ≤ text_bytes
read_text_fits {says = says} text F =
    elim (ℕ_discrete says.code 0) [
      | yes y ↦ (let A = F.accepted y in listing_text_fits A.atoms (length A.bonds) (table_of A.atoms A.bonds) text (table_network A.atoms A.bonds A.counted A.valid) A.lists)
      | no y ↦ omega (arith, ap length (F.refused y), refusal_length says)
    ]

-- what is answered lies within the bytes lent
pub responds_inside : {Text : List ℕ → Type 0} {before after : List ℕ} {bytes : ℕ} → ((text : List ℕ) → Text text → length text ≤ text_bytes) → Responds Text before after bytes → bytes ≤ length before
responds_inside {before = before} fits R =
    elim (dec_le text_bytes (length before)) [
      | yes room ↦ (let W = R.written room in omega (arith, W.2.long, fits W.0 W.1))
      | no room ↦ omega (arith, (R.short (omega arith)).0)
    ]
