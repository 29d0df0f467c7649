use Rattle.buffer_plan.proofs.StepFacts.{packed_none}
use Rattle.buffer_plan.proofs.packing.Packing.new.Goals as goal

pub returns-clause-packed : goal.returns-clause-packed
returns-clause-packed c = rw (c.new-2.ensures.items, c.new.ensures.items) packed_none
