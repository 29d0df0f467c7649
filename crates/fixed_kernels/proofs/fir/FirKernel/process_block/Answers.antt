use Rattle.std.proofs.Common.{◌≡◌, ℕ, ◌+◌, ◌*◌, ◌++◌, ◌<◌, length, take, drop, get_or, List, ℤ, pos, sym, ap, ◌∙◌, subst}
use Rattle.std.proofs.lemmas.List.{take_at}
use Rattle.graph_model.specs.Bounds.{IsWithin}
use Rattle.graph_model.specs.Histories.{frame_in}
use Rattle.graph_model.specs.Kinds.{ins_of}
use Rattle.graph_model.specs.Blocks.{planar}
use Rattle.graph_model.specs.Kernels.{KernelState}
use Rattle.fixed_kernels.specs.Kernels.{IsNextBlock}
use Rattle.fixed_kernels.specs.Rows.{AreFedRows, filtered_at}
use Rattle.fixed_kernels.specs.States.{fir_state}
use Rattle.fixed_kernels.proofs.FirFacts.{fir_blocks, fir_fits, fir_kernel}
use Rattle.fixed_kernels.proofs.fir.FirKernel.process_block.Goals as goal

pub filter_rows-requires-clause-fits : goal.filter_rows-requires-clause-fits
filter_rows-requires-clause-fits c =
    let k = c.self.inside in
    let inv = c.self.invariant in
    let ins : List ℤ = c.args.ins.now in
    let within : IsWithin k.bound.ins (planar k.channels c.args.frames ins)
    = subst (λ (v : KernelState). IsWithin v.bound.ins (planar (ins_of v.kind) c.args.frames ins)) (sym c.self.view_is) c.requires.within in
    let count : length ins ≡ k.channels * c.args.frames = c.requires.ins ∙ sym (ap (λ (v : KernelState). ins_of v.kind * c.args.frames) c.self.view_is) in
    rw (c.as_slice.ensures.value, c.deref_mut.ensures.value)
    (fir_fits k.backward.items k.shift k.latency k.bound k.channels k.past.items inv.0 c.args.frames ins count within)

pub invariant_of-self : goal.invariant_of-self
invariant_of-self c =
    let k = c.self.inside in
    let inv = c.self.invariant in
    let ins : List ℤ = c.args.ins.now in
    let new : List ℤ = c.filter_rows.new.past in
    let within : IsWithin k.bound.ins (planar k.channels c.args.frames ins)
    = subst (λ (v : KernelState). IsWithin v.bound.ins (planar (ins_of v.kind) c.args.frames ins)) (sym c.self.view_is) c.requires.within in
    let count : length ins ≡ k.channels * c.args.frames = c.requires.ins ∙ sym (ap (λ (v : KernelState). ins_of v.kind * c.args.frames) c.self.view_is) in
    let back : take k.past.len (new ++ drop (length new) k.past.items) ≡ new
    = take_at new (drop (length new) k.past.items) k.past.len (c.filter_rows.auto.past ∙ c.deref_mut.ensures.len) in
    let room : take k.line.len (c.filter_rows.new.line ++ drop (length c.filter_rows.new.line) k.line.items) ≡ c.filter_rows.new.line
    = take_at c.filter_rows.new.line (drop (length c.filter_rows.new.line) k.line.items) k.line.len (c.filter_rows.auto.line ∙ c.deref_mut-2.ensures.len) in
    let fed : AreFedRows k.channels (length k.backward.items) k.past.items c.args.frames ins new
    = rw (c.as_slice.ensures.value, c.deref_mut.ensures.value) at c.filter_rows.ensures.past in
    rw (back, room) (
      fir_kernel k.backward.items k.shift k.latency k.bound k.channels k.past.items inv.0 c.args.frames ins count within new fed,
      c.filter_rows.auto.past ∙ ap length c.deref_mut.ensures.value ∙ inv.1,
      c.filter_rows.auto.line ∙ ap length c.deref_mut-2.ensures.value ∙ inv.2,
    )

pub returns : goal.returns
returns c =
    let k = c.self.inside in
    let inv = c.self.invariant in
    let ins : List ℤ = c.args.ins.now in
    let outs : List ℤ = c.filter_rows.new.outs in
    let new : List ℤ = c.filter_rows.new.past in
    let within : IsWithin k.bound.ins (planar k.channels c.args.frames ins)
    = subst (λ (v : KernelState). IsWithin v.bound.ins (planar (ins_of v.kind) c.args.frames ins)) (sym c.self.view_is) c.requires.within in
    let count : length ins ≡ k.channels * c.args.frames = c.requires.ins ∙ sym (ap (λ (v : KernelState). ins_of v.kind * c.args.frames) c.self.view_is) in
    let back : take k.past.len (new ++ drop (length new) k.past.items) ≡ new
    = take_at new (drop (length new) k.past.items) k.past.len (c.filter_rows.auto.past ∙ c.deref_mut.ensures.len) in
    let fed : AreFedRows k.channels (length k.backward.items) k.past.items c.args.frames ins new
    = rw (c.as_slice.ensures.value, c.deref_mut.ensures.value) at c.filter_rows.ensures.past in
    let values : (d t : ℕ) → d < k.channels → t < c.args.frames → get_or outs (d * c.args.frames + t) (pos 0)
    ≡ filtered_at k.backward.items k.shift (frame_in (length k.backward.items) k.past.items d ++ frame_in c.args.frames ins d) t
    = rw (c.as_slice.ensures.value, c.deref_mut.ensures.value) at c.filter_rows.ensures.values in
    let inside = fir_blocks k.backward.items k.shift k.latency k.bound k.channels k.past.items inv.0 c.args.frames ins count within new fed outs values in
    let seen = subst (λ (v : KernelState). IsNextBlock v (fir_state k.backward.items k.shift k.latency k.bound k.channels new) c.args.frames ins outs) c.self.view_is inside in
    rw back seen
