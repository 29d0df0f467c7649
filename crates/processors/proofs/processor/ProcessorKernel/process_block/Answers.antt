use Rattle.std.proofs.Common.{◌≡◌, ℕ, List, ℤ, sym, ap, ◌∙◌, subst}
use Rattle.graph_model.specs.Kernels.{KernelState}
use Rattle.fixed_kernels.specs.Kernels.{IsNextBlock}
use Rattle.processors.specs.States.{state_of}
use Rattle.processors.specs.declared.processor.Processor.TheInside.{Inside}
use Rattle.processors.proofs.processor.ProcessorKernel.process_block.Goals.{in-Gain, in-Mixer, in-Fir, in-Biquad, in-Hold, in-Limiter}
use Rattle.processors.proofs.processor.ProcessorKernel.process_block.Goals as goal

-- what the kernel that serves has done, as the processor shows it
served : (n : ℕ) (ins : List ℤ) (old now new view : KernelState) (given outs : List ℤ) → old ≡ now → view ≡ new → outs ≡ given
    → IsNextBlock old new n ins given → IsNextBlock now view n ins outs
served n ins old now new view given outs e f o done =
    subst (λ (k : KernelState). IsNextBlock k view n ins outs) e
    (subst (λ (k : KernelState). IsNextBlock old k n ins outs) (sym f)
    (subst (λ (ys : List ℤ). IsNextBlock old new n ins ys) (sym o) done))

pub returns : goal.returns
returns c =
    let n : ℕ = c.args.frames in
    let ins : List ℤ = c.args.ins.now in
    let now : KernelState = c.args.self.now in
    let view : KernelState = state_of c.match-self.self-inside.server in
    let outs : List ℤ = c.match-self.outs in
    elim c.match-self.branch [
      | in-Gain w ↦ served n ins w.in-Gain.gain now w.process_block.new.self view w.process_block.new.outs outs
          (sym (ap state_of w.in-Gain.is) ∙ c.self.view_is) (ap (λ (i : Inside). state_of i.server) w.self-inside-is) w.outs-is w.process_block.ensures
      | in-Mixer w ↦ served n ins w.in-Mixer.mixer now w.process_block-in-Mixer.new.self view w.process_block-in-Mixer.new.outs outs
          (sym (ap state_of w.in-Mixer.is) ∙ c.self.view_is) (ap (λ (i : Inside). state_of i.server) w.self-inside-is) w.outs-is w.process_block-in-Mixer.ensures
      | in-Fir w ↦ served n ins w.in-Fir.fir now w.process_block-in-Fir.new.self view w.process_block-in-Fir.new.outs outs
          (sym (ap state_of w.in-Fir.is) ∙ c.self.view_is) (ap (λ (i : Inside). state_of i.server) w.self-inside-is) w.outs-is w.process_block-in-Fir.ensures
      | in-Biquad w ↦ served n ins w.in-Biquad.biquad now w.process_block-in-Biquad.new.self view w.process_block-in-Biquad.new.outs outs
          (sym (ap state_of w.in-Biquad.is) ∙ c.self.view_is) (ap (λ (i : Inside). state_of i.server) w.self-inside-is) w.outs-is w.process_block-in-Biquad.ensures
      | in-Hold w ↦ served n ins w.in-Hold.hold now w.process_block-in-Hold.new.self view w.process_block-in-Hold.new.outs outs
          (sym (ap state_of w.in-Hold.is) ∙ c.self.view_is) (ap (λ (i : Inside). state_of i.server) w.self-inside-is) w.outs-is w.process_block-in-Hold.ensures
      | in-Limiter w ↦ served n ins w.in-Limiter.limiter now w.process_block-in-Limiter.new.self view w.process_block-in-Limiter.new.outs outs
          (sym (ap state_of w.in-Limiter.is) ∙ c.self.view_is) (ap (λ (i : Inside). state_of i.server) w.self-inside-is) w.outs-is w.process_block-in-Limiter.ensures
    ]
