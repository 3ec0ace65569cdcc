-- Fields of a file: the signed reading.
use Rattle.std.proofs.Common.{◌≡◌, refl, true, false, ℕ, suc, ◌-◌, ◌≤◌, ◌<◌, pos, negsuc, ◌-ℤ◌, to_z, w16, arith, lt-ltb, le-ltb, le-leb}
use Rattle.std.proofs.Math.Bool.{and-false}
use Rattle.std.proofs.lemmas.Bool.{lt-leb}
use native.Mathlib.Decide.{dec_lt}
use Rattle.bnw.specs.Reading.{signed, out_of_range}

module _ (v : ℕ) (h : v < 65536) where
  below_zero : pos v -ℤ pos 65536 ≡ negsuc (65536 - suc v)
  below_zero = rw (lt-ltb v 65536 h)

  -- the number of 16 bits is signed in the same way
  pub signed_is : to_z w16 v ≡ signed v
  unfolding signed
  signed_is = elim (dec_lt v 32768) [ yes l ↦ rw (lt-ltb v 32768 l) refl | no l ↦ rw (le-ltb v 32768 (omega arith), below_zero) refl ]

-- a count that is negative is out of range, as one that is too great is
module _ (low high v : ℕ) where
  signed_pos : v < 32768 → signed v ≡ pos v
  unfolding signed
  signed_pos l = rw (lt-ltb v 32768 l)

  pub below_outside : v < low → high < 32768 → low ≤ high → out_of_range low high (signed v) ≡ true
  unfolding out_of_range
  below_outside h l k = rw (signed_pos (omega arith), lt-leb _ _ h)

  pub above_outside : v < 65536 → high < v → out_of_range low high (signed v) ≡ true
  unfolding out_of_range signed
  above_outside l h = go (dec_lt v 32768)
    where
      go : Dec (v < 32768) → out_of_range low high (signed v) ≡ true
      go (yes k) = rw (signed_pos k, lt-leb _ _ h) (simp and-false)
      go (no k) = rw (le-ltb v 32768 (omega arith), below_zero v l)

  pub not_outside : high < 32768 → low ≤ v → v ≤ high → out_of_range low high (signed v) ≡ false
  unfolding out_of_range
  not_outside k l h = rw (signed_pos (omega arith), le-leb _ _ l, le-leb _ _ h)
