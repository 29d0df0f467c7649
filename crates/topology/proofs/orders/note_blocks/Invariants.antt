use Rattle.std.proofs.Common.{◌≡◌, ℕ, ◌<◌, None}
use Rattle.topology.specs.Blocks.{BlocksUpTo, block_of}
use Rattle.topology.proofs.orders.note_blocks.Given as goal

abbrev pub invariant-loop-block : goal.invariant-loop-block
invariant-loop-block l = (v : ℕ) → v < l.block-index → block_of l.blocks v ≡ None

abbrev pub invariant-loop-e : goal.invariant-loop-e
invariant-loop-e l = BlocksUpTo l.links l.taken l.blocks l.e
