use Rattle.std.proofs.Common.{◌∙◌, arith}
use Rattle.graph_model.proofs.PlanarLaws.{one_within}
use Rattle.fixed_kernels.proofs.BlockFacts.{frames_of_block}
use Rattle.fixed_kernels.proofs.kernel.Kernel.frame.Goals as goal

pub process_block-requires : goal.process_block-requires
process_block-requires g c = record {
  ins = omega (arith, c.requires.ins);
  outs = omega (arith, c.requires.outs);
  within = one_within _ _ c.args.ins.now c.requires.ins c.requires.within;
}

pub returns : goal.returns
returns g c =
    frames_of_block _ _ c.args.ins.now c.process_block.new.outs c.requires.ins (c.process_block.auto.outs ∙ c.requires.outs) c.process_block.ensures
