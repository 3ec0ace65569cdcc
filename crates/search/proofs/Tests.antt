-- A test of each number below a bound, as `all` answers it.
use Rattle.std.proofs.Common.{◌≡◌, sym, Bool, true, false, ℕ, ◌<◌, length, zero-add, arith}
use Rattle.std.specs.Prelude.{MatchBool}
use Rattle.std.specs.List.{AllWithin, HoldsAt, range_with_len}
use Rattle.std.proofs.lemmas.List.FromFn.{get_or-range_with_len, length-range_with_len}
use Rattle.paths.specs.Search.{all_below}
use Rattle.paths.proofs.Below.{all_fails, all_intro}

pub told_all : (f : ℕ → Bool) (n : ℕ) (r : Bool)
    → MatchBool r (AllWithin (λ i. f i ≡ true) (range_with_len 0 n) 0 (length (range_with_len 0 n))) ((k : ℕ) × (k < length (range_with_len 0 n)) × HoldsAt (λ i. f i ≡ false) (range_with_len 0 n) k)
    → r ≡ all_below n f
told_all f n true h = sym (all_intro f n (λ i lt. rw (get_or-range_with_len 0 n i 0, zero-add) at (h i 0 (omega arith) (rw length-range_with_len lt))))
told_all f n false h = let lt = rw length-range_with_len at h.1 in sym (all_fails f n h.0 lt (rw (get_or-range_with_len 0 n h.0 0, zero-add) at (h.2 0)))
