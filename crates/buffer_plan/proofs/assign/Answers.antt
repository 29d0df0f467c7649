use Rattle.std.proofs.Common.{◌<◌, ◌∙◌, All, ap, map, refl, subst, sym}
use Rattle.plan_model.specs.declared.buffers.Life.{Life}
use Rattle.buffer_plan.specs.Packed.{home_of}
use Rattle.buffer_plan.proofs.AssignFacts.{all_packed, few_buffers, is_assignment, is_least, is_peak, none_needs_more}
use Rattle.buffer_plan.proofs.assign.Goals as goal

pub pack-requires-clause-lasting : goal.pack-requires-clause-lasting
pack-requires-clause-lasting c =
    subst (All (λ (x : Life). x.born < x.dies)) (sym c.as_slice.ensures) (λ k d l. (c.requires.lives.within k d l).0)

pub channels-requires : goal.channels-requires
channels-requires c = record {
  few = few_buffers
      (all_packed c.as_slice.result.now c.requires.lives c.as_slice.ensures c.in_ok-packing.ensures.all c.in_ok-packing.ensures.packed refl)
      c.requires.few;
}

pub returns-clause-assignment : goal.returns-clause-assignment
returns-clause-assignment c =
    is_assignment
    (all_packed c.as_slice.result.now c.requires.lives c.as_slice.ensures c.in_ok-packing.ensures.all c.in_ok-packing.ensures.packed c.channels.ensures)
    c.sort_by_value.new.placed.items c.in_ok-sort_by_value.ensures.permutation c.in_ok-sort_by_value.ensures.sorted
    c.in_ok-homes_of.field-0 (c.in_ok-homes_of.ensures ∙ ap (map home_of) c.deref.ensures.value)

pub returns-clause-least : goal.returns-clause-least
returns-clause-least c =
    is_least
    (all_packed c.as_slice.result.now c.requires.lives c.as_slice.ensures c.in_ok-packing.ensures.all c.in_ok-packing.ensures.packed c.channels.ensures)

pub returns-clause-greatest_need : goal.returns-clause-greatest_need
returns-clause-greatest_need c =
    none_needs_more
    (all_packed c.as_slice.result.now c.requires.lives c.as_slice.ensures c.in_ok-packing.ensures.all c.in_ok-packing.ensures.packed c.channels.ensures)

pub returns-clause-peak : goal.returns-clause-peak
returns-clause-peak c =
    is_peak
    (all_packed c.as_slice.result.now c.requires.lives c.as_slice.ensures c.in_ok-packing.ensures.all c.in_ok-packing.ensures.packed c.channels.ensures)
    c.from.result c.from.ensures c.requires.some_wave
