use Rattle.std.proofs.Common.{rules, ◌≡◌, ℕ, ◌*◌, ◌≤◌, List, ℤ, get_or, length, sym, ap, ◌∙◌, subst, w32, FitsSigned}
use Rattle.std.proofs.lemmas.Int.{to_z-of_z}
use Rattle.graph_model.specs.Bounds.{IsWithin}
use Rattle.graph_model.specs.Kinds.{ins_of}
use Rattle.graph_model.specs.Blocks.{planar}
use Rattle.graph_model.specs.Kernels.{KernelState}
use Rattle.fixed_kernels.specs.Kernels.{IsNextBlock}
use Rattle.fixed_kernels.proofs.GainFacts.{gain_block_fits, gain_blocks, gain_within}
use Rattle.fixed_kernels.proofs.gain.GainKernel.process_block.Goals as goal

pub scale-requires-clause-fits : goal.scale-requires-clause-fits
scale-requires-clause-fits c =
    let k = c.self.inside in
    let ins : List ℤ = c.args.ins.now in
    let within : IsWithin k.bound.ins (planar k.channels c.args.frames ins)
    = subst (λ (v : KernelState). IsWithin v.bound.ins (planar (ins_of v.kind) c.args.frames ins)) (sym c.self.view_is) c.requires.within in
    let count : length ins ≡ k.channels * c.args.frames = c.requires.ins ∙ sym (ap (λ (v : KernelState). ins_of v.kind * c.args.frames) c.self.view_is) in
    let fits : FitsSigned w32 k.gain = search rules in
    rw (to_z-of_z w32 k.gain fits) (gain_block_fits k.channels c.args.frames k.gain k.bound c.self.invariant ins count within)

pub scale-requires-clause-within : goal.scale-requires-clause-within
scale-requires-clause-within c =
    let k = c.self.inside in
    let ins : List ℤ = c.args.ins.now in
    let within : IsWithin k.bound.ins (planar k.channels c.args.frames ins)
    = subst (λ (v : KernelState). IsWithin v.bound.ins (planar (ins_of v.kind) c.args.frames ins)) (sym c.self.view_is) c.requires.within in
    let count : length ins ≡ k.channels * c.args.frames = c.requires.ins ∙ sym (ap (λ (v : KernelState). ins_of v.kind * c.args.frames) c.self.view_is) in
    let above : (d : ℕ) → get_or k.bound.ins d 0 ≤ c.greatest-most.result = rw c.as_slice.ensures at c.greatest-most.ensures in
    gain_within k.channels c.args.frames k.gain k.bound c.self.invariant ins count within c.greatest-most.result above

pub returns : goal.returns
returns c =
    let k = c.self.inside in
    let ins : List ℤ = c.args.ins.now in
    let outs : List ℤ = c.scale.new.outs in
    let within : IsWithin k.bound.ins (planar k.channels c.args.frames ins)
    = subst (λ (v : KernelState). IsWithin v.bound.ins (planar (ins_of v.kind) c.args.frames ins)) (sym c.self.view_is) c.requires.within in
    let count : length ins ≡ k.channels * c.args.frames = c.requires.ins ∙ sym (ap (λ (v : KernelState). ins_of v.kind * c.args.frames) c.self.view_is) in
    let fits : FitsSigned w32 k.gain = search rules in
    let values = rw (to_z-of_z w32 k.gain fits) at c.scale.ensures in
    let inside = gain_blocks k.channels c.args.frames k.gain k.bound c.self.invariant ins count within outs values in
    let seen = subst (λ (v : KernelState). IsNextBlock v v c.args.frames ins outs) c.self.view_is inside in
    seen
