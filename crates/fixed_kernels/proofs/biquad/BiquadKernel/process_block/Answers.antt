use Rattle.std.proofs.Common.{◌≡◌, ℕ, ◌+◌, ◌*◌, ◌++◌, ◌<◌, ◌≤◌, length, take, drop, get_or, List, ℤ, pos, sym, ap, ◌∙◌, subst}
use Rattle.std.proofs.lemmas.List.{take_at}
use Rattle.graph_model.specs.Bounds.{IsWithin}
use Rattle.graph_model.specs.Histories.{frame_in}
use Rattle.graph_model.specs.Kinds.{ins_of}
use Rattle.graph_model.specs.Blocks.{planar}
use Rattle.graph_model.specs.Kernels.{KernelState}
use Rattle.fixed_kernels.specs.Kernels.{IsNextBlock}
use Rattle.fixed_kernels.specs.Sections.{AreStepped, next_out, tail_at, tail_upto}
use Rattle.fixed_kernels.specs.States.{biquad_state}
use Rattle.fixed_kernels.specs.declared.section.Tail.{Tail}
use Rattle.fixed_kernels.proofs.BiquadFacts.{biquad_blocks, biquad_kernel, biquad_within}
use Rattle.fixed_kernels.proofs.biquad.BiquadKernel.process_block.Goals as goal

pub step_rows-requires-clause-within : goal.step_rows-requires-clause-within
step_rows-requires-clause-within c =
    let k = c.self.inside in
    let n : ℕ = c.args.frames in
    let ins : List ℤ = c.args.ins.now in
    let tails : List Tail = k.tails.items in
    let within : IsWithin k.bound.ins (planar (length tails) n ins)
    = subst (λ (v : KernelState). IsWithin v.bound.ins (planar (ins_of v.kind) n ins)) (sym c.self.view_is) c.requires.within in
    let count : length ins ≡ length tails * n = c.requires.ins ∙ sym (ap (λ (v : KernelState). ins_of v.kind * n) c.self.view_is) in
    let above : (d : ℕ) → get_or k.bound.ins d 0 ≤ c.greatest-most.result = rw c.as_slice.ensures at c.greatest-most.ensures in
    biquad_within k.section k.bound tails c.self.invariant n ins count within c.greatest-most.result above

pub invariant_of-self : goal.invariant_of-self
invariant_of-self c =
    let k = c.self.inside in
    let n : ℕ = c.args.frames in
    let ins : List ℤ = c.args.ins.now in
    let tails : List Tail = k.tails.items in
    let new : List Tail = c.step_rows.new.tails in
    let within : IsWithin k.bound.ins (planar (length tails) n ins)
    = subst (λ (v : KernelState). IsWithin v.bound.ins (planar (ins_of v.kind) n ins)) (sym c.self.view_is) c.requires.within in
    let count : length ins ≡ length tails * n = c.requires.ins ∙ sym (ap (λ (v : KernelState). ins_of v.kind * n) c.self.view_is) in
    let moved : AreStepped k.section tails n ins new = subst (λ (ts : List Tail). AreStepped k.section ts n ins new) c.deref_mut.ensures.value c.step_rows.ensures.tails in
    let back : take k.tails.len (new ++ drop (length new) tails) ≡ new
    = take_at new (drop (length new) tails) k.tails.len (c.step_rows.auto.tails ∙ c.deref_mut.ensures.len) in
    rw back (biquad_kernel k.section k.bound tails c.self.invariant n ins count within new moved)

pub returns : goal.returns
returns c =
    let k = c.self.inside in
    let n : ℕ = c.args.frames in
    let ins : List ℤ = c.args.ins.now in
    let outs : List ℤ = c.step_rows.new.outs in
    let tails : List Tail = k.tails.items in
    let new : List Tail = c.step_rows.new.tails in
    let within : IsWithin k.bound.ins (planar (length tails) n ins)
    = subst (λ (v : KernelState). IsWithin v.bound.ins (planar (ins_of v.kind) n ins)) (sym c.self.view_is) c.requires.within in
    let count : length ins ≡ length tails * n = c.requires.ins ∙ sym (ap (λ (v : KernelState). ins_of v.kind * n) c.self.view_is) in
    let moved : AreStepped k.section tails n ins new = subst (λ (ts : List Tail). AreStepped k.section ts n ins new) c.deref_mut.ensures.value c.step_rows.ensures.tails in
    let back : take k.tails.len (new ++ drop (length new) tails) ≡ new
    = take_at new (drop (length new) tails) k.tails.len (c.step_rows.auto.tails ∙ c.deref_mut.ensures.len) in
    let values : (d t : ℕ) → d < length tails → t < n
    → get_or outs (d * n + t) (pos 0) ≡ next_out k.section (tail_upto k.section (tail_at tails d) (frame_in n ins d) t) (get_or (frame_in n ins d) t (pos 0))
    = subst (λ (ts : List Tail). (d t : ℕ) → d < length ts → t < n
    → get_or outs (d * n + t) (pos 0) ≡ next_out k.section (tail_upto k.section (tail_at ts d) (frame_in n ins d) t) (get_or (frame_in n ins d) t (pos 0)))
    c.deref_mut.ensures.value c.step_rows.ensures.values in
    let inside = biquad_blocks k.section k.bound tails c.self.invariant n ins count within new moved outs values in
    let seen = subst (λ (v : KernelState). IsNextBlock v (biquad_state k.section k.bound new) n ins outs) c.self.view_is inside in
    let written = subst (λ (ts : List Tail). IsNextBlock c.args.self.now (biquad_state k.section k.bound ts) n ins outs) (sym back) seen in
    written
