use Rattle.std.proofs.Common.{arith, ◌≡◌, ◌∙◌, ap, length}
use Rattle.graph_model.specs.Kinds.{ins_of, outs_of}
use Rattle.graph_model.specs.Kernels.{KernelState}
use Rattle.limiter_kernel.proofs.BlockLaws.{goes_all}
use Rattle.limiter_kernel.proofs.limiter.LimiterKernel.process_block.Goals as goal

pub returns-else-frames-le64 : goal.returns-else-frames-le64
returns-else-frames-le64 c =
    let k = c.self.inside in
    let count : c.len-channels.result ≡ length k.lines.items = omega (arith, c.len-channels.ensures, k.lines.ok.0) in
    let seen
    = goes_all c.len-channels.result c.args.frames c.args.ins.now c.args.self.now c.frame_by_frame.new.limiter c.frame_by_frame.new.outs
    (count ∙ ap (λ (v : KernelState). ins_of v.kind) c.self.view_is) (count ∙ ap (λ (v : KernelState). outs_of v.kind) c.self.view_is) c.frame_by_frame.ensures in
    seen
