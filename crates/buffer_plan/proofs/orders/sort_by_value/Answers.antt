use Rattle.std.proofs.Common.{rules, get_or}
use Rattle.std.proofs.lemmas.Result.{on_ok_weaker}
use Rattle.buffer_plan.specs.declared.packing.Placed.{Placed}
use Rattle.buffer_plan.proofs.SortFacts.{pairs_from_sort_by_key, by_name_and_channel_total, not_before}
use Rattle.buffer_plan.proofs.orders.sort_by_value.Goals as goal

pub returns-clause-sorted : goal.returns-clause-sorted
returns-clause-sorted c =
    on_ok_weaker c.sort_by_key.result
    (λ up i j d l lj. not_before (get_or c.sort_by_key.new.self.items j d).life (get_or c.sort_by_key.new.self.items i d).life
    (pairs_from_sort_by_key by_name_and_channel_total (λ (z : Placed). (z.life.uid.0, z.life.channel)) c.sort_by_key.new.self.items up (λ a r q k. search rules) i j d l lj))
    c.sort_by_key.ensures.sorted
