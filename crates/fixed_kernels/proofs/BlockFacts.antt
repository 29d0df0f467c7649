-- What a kernel of any kind owes when a block of planar samples comes in.
use Rattle.std.proofs.Common.{◌≡◌, ℕ, suc, ◌+◌, ◌*◌, ◌^◌, ◌<◌, ◌≤◌, List, [], ◌++◌, length, take, get_or, ℤ, pos, false, sym, ap, ◌∙◌, subst, arith}
use Rattle.std.specs.Prelude.{unsigned_abs}
use Rattle.std.proofs.lemmas.List.FromFn.{get_or-map-range_with_len}
use Rattle.graph_model.specs.Histories.{Frame, History, before}
use Rattle.graph_model.specs.Kinds.{ins_of, outs_of, rule_of, stream_of}
use Rattle.graph_model.specs.Graphs.{is_input}
use Rattle.graph_model.specs.Bounds.{IsWithin}
use Rattle.graph_model.proofs.BoundLaws.{rule_bounded}
use Rattle.graph_model.proofs.BlockLaws.{before-same}
use Rattle.graph_model.specs.Blocks.{planar_frame, planar}
use Rattle.graph_model.specs.Kernels.{KernelState, IsFrameWithin}
use Rattle.graph_model.proofs.PlanarLaws.{take-stream, within-before, within_upto, one_planar}
use Rattle.graph_model.proofs.StreamFacts.{frame_within}
use Rattle.fixed_kernels.specs.Kernels.{Keeps, IsKernel, IsNextFrame, IsNextBlock}
use Rattle.fixed_kernels.proofs.KernelFacts.{bound_at}

module _ (k : KernelState) (kernel : IsKernel k) (isnt : is_input k.kind ≡ false) (n : ℕ) (ins : List ℤ)
    (first : IsWithin k.bound.ins (planar (ins_of k.kind) n ins)) where
  abbrev x : ℕ → Frame
  x = planar_frame (ins_of k.kind) n ins

  -- each frame that goes out, where the kernel's own history stood before
  pub out_within : (t : ℕ) → t < n → IsFrameWithin k.bound.outs (rule_of k.kind (before x (suc t) ++ kernel.history))
  out_within t lt =
      subst (λ bs. IsFrameWithin bs (rule_of k.kind (before x (suc t) ++ kernel.history))) (sym kernel.bound.outs)
      (rule_bounded k.kind k.bound.ins (before x (suc t) ++ kernel.history) isnt kernel.bound.ins
      (within_upto k.bound.ins x n kernel.history first kernel.within (suc t) (omega arith)))

  pub out_fits : (t : ℕ) → t < n → (c : ℕ) → unsigned_abs (get_or (rule_of k.kind (before x (suc t) ++ kernel.history)) c (pos 0)) ≤ 2 ^ 46
  out_fits t lt c =
      let small = out_within t lt c in
      let most = bound_at k.bound.outs kernel.bound.bounded.1 c in
      omega arith

  -- each sample that comes in
  pub in_within : (c t : ℕ) → c < ins_of k.kind → t < n → unsigned_abs (get_or ins (c * n + t) (pos 0)) ≤ get_or k.bound.ins c 0
  in_within c t lc lt =
      subst (λ y. unsigned_abs y ≤ get_or k.bound.ins c 0)
      (get_or-map-range_with_len (λ d. get_or ins (d * n + t) (pos 0)) 0 (ins_of k.kind) c c (pos 0) lc (omega arith))
      (frame_within k.bound.ins x n t first lt c)

  pub block_kernel : (new : KernelState) → new.kind ≡ k.kind → new.bound ≡ k.bound → Keeps new (before x n ++ kernel.history) → IsKernel new
  block_kernel new kind bound stands = record {
    range = rw kind kernel.range;
    bound = rw (kind, bound) kernel.bound;
    history = before x n ++ kernel.history;
    stands = stands;
    within = rw bound (within_upto k.bound.ins x n kernel.history first kernel.within n (omega arith));
  }

  pub blocks : (new : KernelState) (outs : List ℤ) → new.kind ≡ k.kind → new.bound ≡ k.bound
      → ((h : History) → Keeps k h → Keeps new (before x n ++ h))
      → ((h : History) → Keeps k h → (t : ℕ) → t < n → planar_frame (outs_of k.kind) n outs t ≡ rule_of k.kind (before x (suc t) ++ h))
      → IsNextBlock k new n ins outs
  blocks new outs kind bound stands values = record {
    stands = stands;
    last = λ h at. before-same (planar_frame (outs_of k.kind) n outs) (λ t. rule_of k.kind (before x (suc t) ++ h)) n (values h at)
        ∙ sym (take-stream (rule_of k.kind) x n h);
    within = within-before k.bound.outs (planar_frame (outs_of k.kind) n outs) n
        (λ t lt. subst (λ (f : Frame). IsFrameWithin k.bound.outs f) (sym (values kernel.history kernel.stands t lt)) (out_within t lt));
    kind = kind;
    bound = bound;
  }

pub frames_of_block : (k new : KernelState) (f outs : Frame) → length f ≡ ins_of k.kind → length outs ≡ outs_of k.kind → IsNextBlock k new 1 f outs → IsNextFrame k new f outs
frames_of_block k new f outs count same b = record {
  stands = λ h at. subst (λ (g : History). Keeps new (g ++ h)) (one_planar (ins_of k.kind) f count) (b.stands h at);
  last = λ h at.
      ap (λ (g : History). get_or g 0 [])
      (sym (one_planar (outs_of k.kind) outs same) ∙ b.last h at ∙ ap (λ (g : History). take 1 (stream_of k.kind (g ++ h))) (one_planar (ins_of k.kind) f count));
  within = λ c. subst (λ (g : History). IsWithin k.bound.outs g) (one_planar (outs_of k.kind) outs same) b.within c 0;
  kind = b.kind;
  bound = b.bound;
}
