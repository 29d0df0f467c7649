use Rattle.std.proofs.Common.{arith, sym, subst, ◌∙◌, ◌≡◌, ◌<◌, length, get_or, refl}
use Rattle.std.proofs.lemmas.List.{get_or_default, length-map}
use Rattle.pool_waves.specs.Exchanges.{IsDistinct, desks}
use Rattle.pool_waves.specs.declared.job.Desk.{Desk}
use Rattle.pool_waves.proofs.SwapFacts.{distinct_at}
use Rattle.pool_waves.proofs.ExchangeFacts.{trading_none, trading_more, traded, waiting, desk_at}
use Rattle.pool_waves.proofs.exchanges.exchange.Goals as goal

pub loop-i-init : goal.loop-i-init
loop-i-init g c = trading_none c.args.jobs.now c.args.pool.now

pub trade-requires-clause-outs : goal.trade-requires-clause-outs
trade-requires-clause-outs g c =
    let w = waiting c.args.jobs.now c.args.pool.now c.loop-i.i c.loop-i.jobs c.loop-i.pool c.index-jobs-i.result c.index-jobs-i.result c.loop-i-test.true c.loop-i.invariant in
    subst (λ (v : Desk). length v.outs.items ≡ length v.homes.items) (sym w) (c.requires.outs c.loop-i.i c.index-jobs-i.result c.loop-i-test.true)

pub trade-requires-clause-within : goal.trade-requires-clause-within
trade-requires-clause-within g c = λ o e.
    let w = waiting c.args.jobs.now c.args.pool.now c.loop-i.i c.loop-i.jobs c.loop-i.pool c.index-jobs-i.result c.index-jobs-i.result c.loop-i-test.true c.loop-i.invariant in
    subst (λ (v : Desk). o < length v.homes.items → (get_or v.homes.items o e).buffer < length c.loop-i.pool) (sym w)
    (λ h. subst (λ z. (get_or (get_or c.args.jobs.now c.loop-i.i c.index-jobs-i.result).desk.homes.items o e).buffer < z) (sym c.loop-i.invariant.exchanging.pool_len) (c.requires.within c.loop-i.i o c.index-jobs-i.result e c.loop-i-test.true h))

pub trade-requires-clause-distinct : goal.trade-requires-clause-distinct
trade-requires-clause-distinct g c =
    let d = c.index-jobs-i.result in
    let w = waiting c.args.jobs.now c.args.pool.now c.loop-i.i c.loop-i.jobs c.loop-i.pool c.index-jobs-i.result c.index-jobs-i.result c.loop-i-test.true c.loop-i.invariant in
    let lt : c.loop-i.i < length (desks c.args.jobs.now)
    = subst (λ z. c.loop-i.i < z) (sym (length-map c.args.jobs.now _)) c.loop-i-test.true in
    subst (λ (v : Desk). IsDistinct v.homes.items) (desk_at c.args.jobs.now c.loop-i.i c.index-jobs-i.result c.index-jobs-i.result.desk c.loop-i-test.true ∙ sym w)
    (distinct_at (desks c.args.jobs.now) c.loop-i.i c.index-jobs-i.result.desk lt c.requires.apart)

pub loop-i-preserved : goal.loop-i-preserved
loop-i-preserved g c =
    let lt : c.loop-i.i < length c.loop-i.jobs = subst (λ z. c.loop-i.i < z) (sym c.loop-i.invariant.same.len) c.loop-i-test.true in
    trading_more c.args.jobs.now c.args.pool.now c.loop-i.i c.loop-i.jobs c.loop-i.pool (get_or c.loop-i.jobs c.loop-i.i c.index-jobs-i.result) _ c.trade.new.pool
    c.requires.apart c.loop-i-test.true (get_or_default c.loop-i.jobs c.loop-i.i c.index-jobs-i.result _ lt) refl refl refl c.trade.ensures.homes c.trade.ensures.swapped c.loop-i.invariant

pub returns-clause-exchanged : goal.returns-clause-exchanged
returns-clause-exchanged g c = traded c.args.jobs.now c.args.pool.now c.loop-i.i c.loop-i.jobs c.loop-i.pool (omega arith) (omega arith) c.loop-i.invariant
