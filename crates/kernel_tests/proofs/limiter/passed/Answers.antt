use Rattle.std.proofs.Common.{rules, sym, ◌∙◌}
use Rattle.kernel_tests.proofs.LimiterFacts.{open_frame}
use Rattle.kernel_tests.proofs.limiter.passed.Goals as goal

pub frame-requires : goal.frame-requires
frame-requires c = record {
  ins = c.requires.frame ∙ sym c.requires.ins;
  outs = search rules;
  within = open_frame c.args.channels c.args.limiter.now.bound.ins c.args.frame.now c.requires.bound c.requires.frame c.requires.small;
}
