use Rattle.std.proofs.Common.{◌≡◌, ℕ, ◌+◌, ◌*◌, ◌++◌, ◌<◌, length, take, drop, get_or, List, [], ℤ, pos, sym, ap, ◌∙◌, subst}
use Rattle.std.proofs.lemmas.List.{take_at}
use Rattle.graph_model.specs.Bounds.{IsWithin}
use Rattle.graph_model.specs.Histories.{frame_in}
use Rattle.graph_model.specs.Kinds.{ins_of, outs_of}
use Rattle.graph_model.specs.Blocks.{planar}
use Rattle.graph_model.specs.Kernels.{KernelState}
use Rattle.fixed_kernels.specs.Kernels.{IsNextBlock}
use Rattle.fixed_kernels.specs.States.{hold_state}
use Rattle.fixed_kernels.proofs.HoldFacts.{hold_blocks, hold_count, hold_kernel, hold_outs}
use Rattle.fixed_kernels.proofs.hold.HoldKernel.process_block.Goals as goal

pub pass_rows-requires-clause-ins : goal.pass_rows-requires-clause-ins
pass_rows-requires-clause-ins c =
    let k = c.self.inside in
    let inv = c.self.invariant in
    let lines : List (List ℤ) = k.lines.items in
    let count : length lines ≡ ins_of k.kind = hold_count k.kind k.bound lines inv.0 inv.1 in
    c.requires.ins ∙ sym (ap (λ (v : KernelState). ins_of v.kind * c.args.frames) c.self.view_is)
    ∙ ap (λ m. m * c.args.frames) (sym count ∙ sym (ap length c.deref_mut.ensures.value))

pub pass_rows-requires-clause-outs : goal.pass_rows-requires-clause-outs
pass_rows-requires-clause-outs c =
    let k = c.self.inside in
    let inv = c.self.invariant in
    let lines : List (List ℤ) = k.lines.items in
    let count : length lines ≡ ins_of k.kind = hold_count k.kind k.bound lines inv.0 inv.1 in
    c.requires.outs ∙ sym (ap (λ (v : KernelState). outs_of v.kind * c.args.frames) c.self.view_is)
    ∙ ap (λ m. m * c.args.frames) (hold_outs k.kind inv.0 ∙ sym count ∙ sym (ap length c.deref_mut.ensures.value))

pub invariant_of-self : goal.invariant_of-self
invariant_of-self c =
    let k = c.self.inside in
    let inv = c.self.invariant in
    let ins : List ℤ = c.args.ins.now in
    let lines : List (List ℤ) = k.lines.items in
    let new : List (List ℤ) = c.pass_rows.new.lines in
    let within : IsWithin k.bound.ins (planar (ins_of k.kind) c.args.frames ins)
    = subst (λ (v : KernelState). IsWithin v.bound.ins (planar (ins_of v.kind) c.args.frames ins)) (sym c.self.view_is) c.requires.within in
    let count : length ins ≡ ins_of k.kind * c.args.frames = c.requires.ins ∙ sym (ap (λ (v : KernelState). ins_of v.kind * c.args.frames) c.self.view_is) in
    let back : take k.lines.len (new ++ drop (length new) lines) ≡ new
    = take_at new (drop (length new) lines) k.lines.len (c.pass_rows.auto.lines ∙ c.deref_mut.ensures.len) in
    let fed : (d : ℕ) → d < length lines → get_or new d [] ≡ drop c.args.frames (get_or lines d [] ++ frame_in c.args.frames ins d)
    = subst (λ (ls : List (List ℤ)). (d : ℕ) → d < length ls → get_or new d [] ≡ drop c.args.frames (get_or ls d [] ++ frame_in c.args.frames ins d))
    c.deref_mut.ensures.value c.pass_rows.ensures.lines in
    let many : length new ≡ length lines = c.pass_rows.auto.lines ∙ ap length c.deref_mut.ensures.value in
    rw back (inv.0, hold_kernel k.kind k.bound lines inv.0 inv.1 c.args.frames ins count within new many fed)

pub returns : goal.returns
returns c =
    let k = c.self.inside in
    let inv = c.self.invariant in
    let ins : List ℤ = c.args.ins.now in
    let outs : List ℤ = c.pass_rows.new.outs in
    let lines : List (List ℤ) = k.lines.items in
    let new : List (List ℤ) = c.pass_rows.new.lines in
    let within : IsWithin k.bound.ins (planar (ins_of k.kind) c.args.frames ins)
    = subst (λ (v : KernelState). IsWithin v.bound.ins (planar (ins_of v.kind) c.args.frames ins)) (sym c.self.view_is) c.requires.within in
    let count : length ins ≡ ins_of k.kind * c.args.frames = c.requires.ins ∙ sym (ap (λ (v : KernelState). ins_of v.kind * c.args.frames) c.self.view_is) in
    let back : take k.lines.len (new ++ drop (length new) lines) ≡ new
    = take_at new (drop (length new) lines) k.lines.len (c.pass_rows.auto.lines ∙ c.deref_mut.ensures.len) in
    let fed : (d : ℕ) → d < length lines → get_or new d [] ≡ drop c.args.frames (get_or lines d [] ++ frame_in c.args.frames ins d)
    = subst (λ (ls : List (List ℤ)). (d : ℕ) → d < length ls → get_or new d [] ≡ drop c.args.frames (get_or ls d [] ++ frame_in c.args.frames ins d))
    c.deref_mut.ensures.value c.pass_rows.ensures.lines in
    let values : (d t : ℕ) → d < length lines → t < c.args.frames
    → get_or outs (d * c.args.frames + t) (pos 0) ≡ get_or (get_or lines d [] ++ frame_in c.args.frames ins d) t (pos 0)
    = subst (λ (ls : List (List ℤ)). (d t : ℕ) → d < length ls → t < c.args.frames
    → get_or outs (d * c.args.frames + t) (pos 0) ≡ get_or (get_or ls d [] ++ frame_in c.args.frames ins d) t (pos 0))
    c.deref_mut.ensures.value c.pass_rows.ensures.values in
    let many : length new ≡ length lines = c.pass_rows.auto.lines ∙ ap length c.deref_mut.ensures.value in
    let inside = hold_blocks k.kind k.bound lines inv.0 inv.1 c.args.frames ins count within new many fed outs values in
    let seen = subst (λ (v : KernelState). IsNextBlock v (hold_state k.kind k.bound new) c.args.frames ins outs) c.self.view_is inside in
    rw back seen
