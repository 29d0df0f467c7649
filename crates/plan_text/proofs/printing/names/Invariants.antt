use Rattle.std.proofs.Common.{◌≡◌, true, take}
use Rattle.std.specs.List.{list_all}
use Rattle.plan_text.specs.Lines.{is_small}
use Rattle.plan_text.specs.Texts.{names_of}
use Rattle.plan_text.proofs.printing.names.Given as goal

abbrev pub invariant-loop-node : goal.invariant-loop-node
invariant-loop-node l = (l.names ≡ names_of (take l.node-index l.nodes)) × (list_all is_small l.names ≡ true)
