use Rattle.std.proofs.Common.{arith, ◌≡◌, ℕ, List, [], ◌∷◌, ◌++◌, ℤ, length, take, drop, pos, sym, ap, ◌∙◌, subst, inl}
use Rattle.std.proofs.lemmas.List.{length-take-le, take_at}
use Rattle.graph_model.specs.Histories.{Frame}
use Rattle.graph_model.specs.Kinds.{ins_of, outs_of}
use Rattle.graph_model.specs.declared.kind.Kind.{Kind}
use Rattle.graph_model.specs.declared.graph.Bound.{Bound}
use Rattle.graph_model.specs.Blocks.{planar_frame}
use Rattle.graph_model.specs.Kernels.{IsFrameWithin}
use Rattle.graph_model.proofs.StreamFacts.{frame_within}
use Rattle.limiter_kernel.proofs.BlockLaws.{goes_more}
use Rattle.limiter_kernel.proofs.limiter.frame_by_frame.Goals as goal

abbrev zeros : List ℤ
zeros = pos 0 ∷ pos 0 ∷ pos 0 ∷ pos 0 ∷ pos 0 ∷ pos 0 ∷ pos 0 ∷ pos 0 ∷ pos 0 ∷ pos 0 ∷ pos 0 ∷ pos 0 ∷ pos 0 ∷ pos 0 ∷ pos 0 ∷ pos 0 ∷ pos 0 ∷ pos 0 ∷ pos 0 ∷ pos 0 ∷ pos 0 ∷ pos 0 ∷ pos 0 ∷ pos 0 ∷ pos 0 ∷ pos 0 ∷ pos 0 ∷ pos 0 ∷ pos 0 ∷ pos 0 ∷ pos 0 ∷ pos 0 ∷ []

pub frame-requires : goal.frame-requires
frame-requires c =
    let m : ℕ = c.args.channels in
    let n : ℕ = c.args.frames in
    let t : ℕ = c.loop-t.t in
    let ins : List ℤ = c.args.ins.now in
    let wide : length (take m zeros) ≡ m = length-take-le m zeros (omega arith) in
    let size : length c.gather.new.frame ≡ m = c.gather.auto.frame ∙ wide in
    let is : c.gather.new.frame ≡ planar_frame m n ins t = c.gather.ensures ∙ ap (λ w. planar_frame w n ins t) wide in
    let whole : take m (c.gather.new.frame ++ drop m zeros) ≡ planar_frame m n ins t = take_at c.gather.new.frame (drop m zeros) m size ∙ is in
    let first : IsFrameWithin c.args.limiter.now.bound.ins (planar_frame m n ins t)
    = frame_within c.args.limiter.now.bound.ins (planar_frame m n ins) n t c.requires.within (omega arith) in
    let now : IsFrameWithin c.loop-t.limiter.bound.ins (planar_frame m n ins t)
    = subst (λ (b : Bound). IsFrameWithin b.ins (planar_frame m n ins t)) (sym c.loop-t.invariant.bound) first in
    record {
      ins = ap length (take_at c.gather.new.frame (drop m zeros) m size) ∙ size ∙ c.requires.ins_of ∙ sym (ap (λ (k : Kind). ins_of k) c.loop-t.invariant.kind);
      outs = wide ∙ c.requires.outs_of ∙ sym (ap (λ (k : Kind). outs_of k) c.loop-t.invariant.kind);
      within = subst (λ (g : Frame). IsFrameWithin c.loop-t.limiter.bound.ins g) (sym whole) now;
    }

pub loop-t-preserved : goal.loop-t-preserved
loop-t-preserved c =
    let m : ℕ = c.args.channels in
    let n : ℕ = c.args.frames in
    let t : ℕ = c.loop-t.t in
    let ins : List ℤ = c.args.ins.now in
    let after : List ℤ = c.scatter.new.outs in
    let to : Frame = c.frame.new.outs in
    let wide : length (take m zeros) ≡ m = length-take-le m zeros (omega arith) in
    let size : length c.gather.new.frame ≡ m = c.gather.auto.frame ∙ wide in
    let is : c.gather.new.frame ≡ planar_frame m n ins t = c.gather.ensures ∙ ap (λ w. planar_frame w n ins t) wide in
    let whole : take m (c.gather.new.frame ++ drop m zeros) ≡ planar_frame m n ins t = take_at c.gather.new.frame (drop m zeros) m size ∙ is in
    let width : length to ≡ m = c.frame.auto.outs ∙ wide in
    let all : take m (to ++ drop m zeros) ≡ to = take_at to (drop m zeros) m width in
    let many : length (take m (to ++ drop m zeros)) ≡ m = ap length all ∙ width in
    let here : planar_frame m n after t ≡ to = ap (λ w. planar_frame w n after t) (sym many) ∙ c.scatter.ensures.here ∙ all in
    goes_more m n ins t c.args.limiter.now c.loop-t.limiter c.frame.new.self c.loop-t.outs after (take m (c.gather.new.frame ++ drop m zeros)) to
    whole c.loop-t.invariant c.frame.ensures.next.stands c.frame.ensures.next.last c.frame.ensures.next.within c.frame.ensures.next.kind c.frame.ensures.next.bound here
    (λ s lt. subst (λ w. planar_frame w n after s ≡ planar_frame w n c.loop-t.outs s) many (c.scatter.ensures.others s (omega arith) (inl lt)))
