use Rattle.std.proofs.Common.{◌≡◌, ◌+◌, ◌-◌, refl, ◌∙◌, zero-le, arith}
use Rattle.ring.specs.Maxima.{ring_least}
use Rattle.paths.specs.Search.{gather_below, rings_up_to, counts_up_to, lengths_up_to}
use Rattle.search.proofs.Steps.{noted_none, turn_rings, turn_more, turn_counts, turn_lengths, turn_bounded}
use Rattle.search.proofs.grow.each_length.Goals as goal

pub loop-k-init : goal.loop-k-init
unfolding rings_up_to counts_up_to lengths_up_to gather_below
loop-k-init c = record { noted = noted_none _; same_list = refl; each = λ _. refl; bounded = zero-le; sum = λ _. refl }

pub overflow_sub-more : goal.overflow_sub-more
overflow_sub-more c = turn_more _ _ _ _ (c.loop-k.k - ring_least) _ (omega arith) _ _ c.from_each.ensures.noted

pub overflow_mul-lengths : goal.overflow_mul-lengths
overflow_mul-lengths c =
    let bounded = turn_bounded _ _ _ _ (c.loop-k.k - ring_least) _ (omega arith) _ _ c.from_each.ensures.noted _ (omega arith) c.loop-k.invariant.bounded in
    omega (arith, bounded)

pub overflow_add-lengths : goal.overflow_add-lengths
overflow_add-lengths c =
    let bounded = turn_bounded _ _ _ _ (c.loop-k.k - ring_least) _ (omega arith) _ _ c.from_each.ensures.noted _ (omega arith) c.loop-k.invariant.bounded in
    omega (arith, bounded)

pub loop-k-preserved : goal.loop-k-preserved
loop-k-preserved c =
    let v = c.loop-k in
    let next : v.k + 1 - ring_least ≡ v.k - ring_least + 1 = omega arith in
    let ek : v.k ≡ v.k - ring_least + ring_least = omega arith in
    rw next (record {
      noted = turn_rings _ _ _ _ _ _ ek _ _ c.from_each.ensures.noted _ v.invariant.noted;
      same_list = c.from_each.ensures.same_list ∙ v.invariant.same_list;
      each = turn_counts _ _ _ _ _ _ ek _ _ c.from_each.ensures.noted _ v.invariant.each;
      bounded = turn_bounded _ _ _ _ _ _ ek _ _ c.from_each.ensures.noted _ (omega arith) v.invariant.bounded;
      sum = turn_lengths _ _ _ _ _ _ ek _ _ c.from_each.ensures.noted _ v.invariant.sum;
    })

-- after the greatest length
pub returns-2 : goal.returns-2
returns-2 c =
    let v = c.loop-k in
    let next : c.args.limit + 1 - ring_least ≡ v.k - ring_least + 1 = omega arith in
    let ek : v.k ≡ v.k - ring_least + ring_least = omega arith in
    rw next (record {
      noted = turn_rings _ _ _ _ _ _ ek _ _ c.from_each.ensures.noted _ v.invariant.noted;
      same_list = c.from_each.ensures.same_list ∙ v.invariant.same_list;
      tallied = record {
        each = turn_counts _ _ _ _ _ _ ek _ _ c.from_each.ensures.noted _ v.invariant.each;
        bounded = turn_bounded _ _ _ _ _ _ ek _ _ c.from_each.ensures.noted _ (omega arith) v.invariant.bounded;
        sum = turn_lengths _ _ _ _ _ _ ek _ _ c.from_each.ensures.noted _ v.invariant.sum;
      };
    })
