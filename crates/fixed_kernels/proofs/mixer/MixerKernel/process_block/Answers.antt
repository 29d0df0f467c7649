use Rattle.std.proofs.Common.{◌≡◌, ℕ, ◌+◌, ◌*◌, ◌<◌, ◌≤◌, length, get_or, List, ℤ, pos, sym, ap, ◌∙◌, subst}
use Rattle.graph_model.specs.Bounds.{IsWithin}
use Rattle.graph_model.specs.Filters.{products, gains_to}
use Rattle.graph_model.specs.Kinds.{ins_of}
use Rattle.graph_model.specs.Rounding.{rounded}
use Rattle.graph_model.specs.Blocks.{planar, planar_frame}
use Rattle.graph_model.specs.Kernels.{KernelState}
use Rattle.fixed_kernels.specs.Kernels.{IsNextBlock}
use Rattle.fixed_kernels.proofs.MixerFacts.{mixer_blocks, mixer_fits, mixer_within}
use Rattle.fixed_kernels.proofs.mixer.MixerKernel.process_block.Goals as goal

pub mix_rows-requires-clause-fits : goal.mix_rows-requires-clause-fits
mix_rows-requires-clause-fits c =
    let k = c.self.inside in
    let n : ℕ = c.args.frames in
    let ins : List ℤ = c.args.ins.now in
    let within : IsWithin k.bound.ins (planar k.ins n ins)
    = subst (λ (v : KernelState). IsWithin v.bound.ins (planar (ins_of v.kind) n ins)) (sym c.self.view_is) c.requires.within in
    rw c.as_slice-2.ensures (mixer_fits k.ins k.outs k.gains k.bound c.self.invariant n ins within)

pub mix_rows-requires-clause-within : goal.mix_rows-requires-clause-within
mix_rows-requires-clause-within c =
    let k = c.self.inside in
    let n : ℕ = c.args.frames in
    let ins : List ℤ = c.args.ins.now in
    let within : IsWithin k.bound.ins (planar k.ins n ins)
    = subst (λ (v : KernelState). IsWithin v.bound.ins (planar (ins_of v.kind) n ins)) (sym c.self.view_is) c.requires.within in
    let count : length ins ≡ k.ins * n = c.requires.ins ∙ sym (ap (λ (v : KernelState). ins_of v.kind * n) c.self.view_is) in
    let above : (d : ℕ) → get_or k.bound.ins d 0 ≤ c.greatest-most.result = rw c.as_slice.ensures at c.greatest-most.ensures in
    mixer_within k.ins k.outs k.gains k.bound c.self.invariant n ins within count c.greatest-most.result above

pub returns : goal.returns
returns c =
    let k = c.self.inside in
    let n : ℕ = c.args.frames in
    let ins : List ℤ = c.args.ins.now in
    let outs : List ℤ = c.mix_rows.new.outs in
    let within : IsWithin k.bound.ins (planar k.ins n ins)
    = subst (λ (v : KernelState). IsWithin v.bound.ins (planar (ins_of v.kind) n ins)) (sym c.self.view_is) c.requires.within in
    let values : (o t : ℕ) → o < k.outs → t < n → get_or outs (o * n + t) (pos 0) ≡ rounded (products (gains_to k.ins k.gains o) (planar_frame k.ins n ins t)) 16
    = rw c.as_slice-2.ensures at c.mix_rows.ensures in
    let inside = mixer_blocks k.ins k.outs k.gains k.bound c.self.invariant n ins within outs values in
    let seen = subst (λ (v : KernelState). IsNextBlock v v n ins outs) c.self.view_is inside in
    seen
