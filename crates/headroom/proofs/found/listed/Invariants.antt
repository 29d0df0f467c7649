use Rattle.std.proofs.Common.{◌≡◌, ◌++◌}
use Rattle.headroom.proofs.found.listed.Given as goal

-- those taken so far, and then the rest
abbrev pub invariant-loop-item : goal.invariant-loop-item
invariant-loop-item l = l.list ++ l.item-iterator.rest.items ≡ l.fn.items.items
