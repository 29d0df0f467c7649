use Rattle.std.proofs.Common.{◌≡◌, [], take, replicate}
use Rattle.schedule.specs.Groups.{AreGroups}
use Rattle.schedule.proofs.groups.grouped.Given as goal

abbrev pub invariant-loop : goal.invariant-loop
invariant-loop g l = l.groups.items ≡ replicate l.counter []

abbrev pub invariant-loop-entry : goal.invariant-loop-entry
invariant-loop-entry g l = AreGroups l.count (take l.entry-index l.entries) l.groups.items
