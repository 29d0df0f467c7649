use Rattle.std.proofs.Common.{◌==◌, ℕ, ◌∙◌, ◌<◌, List, get_or, subst, sym, arith}
use Rattle.std.specs.List.{All}
use Rattle.std.proofs.lemmas.List.{length-set, get_or_default}
use Rattle.lifetimes.proofs.TallyFacts.{count_by-first, tally_more}
use Rattle.lifetimes.proofs.tallies.tally.Goals as goal

pub overflow_add-index_mut : goal.overflow_add-index_mut
overflow_add-index_mut c =
    let i = c.loop-number.number-index in
    let numbers : List ℕ = c.deref-number-items.result.now in
    let within : get_or numbers i 0 < c.args.limit = subst (λ (ns : List ℕ). All (λ n. n < c.args.limit) ns) (sym c.deref-number-items.ensures.value) c.requires.within i 0 c.loop-number-test.true in
    let value = c.index_mut.ensures.value ∙ get_or_default c.loop-number.counts.items (get_or numbers i 0) c.index_mut.result.now 0 (omega (arith, within, c.loop-number.invariant.one_each)) in
    omega (
      arith,
      value,
      c.loop-number.invariant.counts (get_or numbers i 0) within,
      count_by-first (λ n. n == get_or numbers i 0) numbers i,
      c.loop-number-test.true,
      c.deref-number-items.ensures.len,
      c.args.numbers.ok.0,
      c.requires.few,
    )

pub loop-number-preserved : goal.loop-number-preserved
loop-number-preserved c =
    let i = c.loop-number.number-index in
    let numbers : List ℕ = c.deref-number-items.result.now in
    let within : get_or numbers i 0 < c.args.limit = subst (λ (ns : List ℕ). All (λ n. n < c.args.limit) ns) (sym c.deref-number-items.ensures.value) c.requires.within i 0 c.loop-number-test.true in
    record {
      one_each = length-set c.loop-number.counts.items (get_or numbers i 0) _ ∙ c.loop-number.invariant.one_each;
      counts = tally_more c.loop-number.counts.items numbers i c.args.limit 0 c.loop-number-test.true within c.loop-number.invariant.one_each c.loop-number.invariant.counts c.index_mut.result.now c.index_mut.ensures.value;
    }
