use Rattle.std.proofs.Common.{◌≡◌, take}
use Rattle.plan_text.specs.Texts.{names_of}
use Rattle.plan_text.proofs.rows.nodes.Given as goal

abbrev pub invariant-loop-number : goal.invariant-loop-number
invariant-loop-number l = names_of l.nodes ≡ take l.number-index l.numbers
