use Rattle.std.proofs.Common.{◌≡◌, suc, ◌+◌, ◌-◌, ◌*◌, ◌/◌, ◌<◌, ◌∷◌, ◌++◌, length, take, drop, sym, ◌∙◌, ap, subst, arith}
use Rattle.std.proofs.lemmas.List.{with_items_is}
use Rattle.graph_model.specs.Histories.{Frame, History, before, frame_in, interleaved, newest}
use Rattle.graph_model.specs.Kinds.{ins_of, outs_of, stream_of}
use Rattle.graph_model.specs.declared.graph.Bound.{Bound}
use Rattle.graph_model.specs.Kernels.{IsFrameWithin}
use Rattle.fixed_kernels.specs.Kernels.{Keeps}
use Rattle.graph_model.proofs.BlockLaws.{length-frame_in}
use Rattle.graph_model.proofs.StreamFacts.{frame_is, frame_within, frames_whole}
use Rattle.renderer.proofs.streams.outgoing.Goals as goal

pub frame-requires : goal.frame-requires
frame-requires c =
    let cut : Frame = take c.ins-ins.result (take (length c.args.incoming.now - c.loop-time.time * c.ins-ins.result) (drop (c.loop-time.time * c.ins-ins.result) c.args.incoming.now)) in
    let seen : cut ≡ frame_in (ins_of c.args.kind.now) c.args.incoming.now c.loop-time.time =
    frame_is c.ins-ins.result c.loop-time.time c.args.incoming.now ∙ ap (λ m. frame_in m c.args.incoming.now c.loop-time.time) c.ins-ins.ensures in
    let early : c.loop-time.time < length c.args.incoming.now / ins_of c.args.kind.now =
    subst (λ m. c.loop-time.time < length c.args.incoming.now / m) c.ins-ins.ensures c.loop-time-test.true in
    let within : IsFrameWithin c.args.bound.now.ins (frame_in (ins_of c.args.kind.now) c.args.incoming.now c.loop-time.time) =
    frame_within c.args.bound.now.ins (frame_in (ins_of c.args.kind.now) c.args.incoming.now) (length c.args.incoming.now / ins_of c.args.kind.now) c.loop-time.time c.requires.within early in
    record {
      ins = ap length seen ∙ length-frame_in (ins_of c.args.kind.now) (length c.args.incoming.now / ins_of c.args.kind.now) c.args.incoming.now c.loop-time.time
          (frames_whole (length c.args.incoming.now) (ins_of c.args.kind.now) c.requires.whole) early
          ∙ ap ins_of (sym c.loop-time.invariant.kind);
      outs = ap (λ xs. length xs) c.deref_mut.ensures.value ∙ c.loop-time.invariant.wide ∙ ap outs_of (sym c.loop-time.invariant.kind);
      within = subst (λ (b : Bound). IsFrameWithin b.ins cut) (sym c.loop-time.invariant.bound) (subst (IsFrameWithin c.args.bound.now.ins) (sym seen) within);
    }

pub loop-time-preserved : goal.loop-time-preserved
loop-time-preserved c =
    let h : History = before (frame_in (ins_of c.args.kind.now) c.args.incoming.now) c.loop-time.time in
    let cut : Frame = take c.ins-ins.result (take (length c.args.incoming.now - c.loop-time.time * c.ins-ins.result) (drop (c.loop-time.time * c.ins-ins.result) c.args.incoming.now)) in
    let seen : cut ≡ frame_in (ins_of c.args.kind.now) c.args.incoming.now c.loop-time.time =
    frame_is c.ins-ins.result c.loop-time.time c.args.incoming.now ∙ ap (λ m. frame_in m c.args.incoming.now c.loop-time.time) c.ins-ins.ensures in
    let next : suc c.loop-time.time ≡ c.loop-time.time + 1 = omega arith in
    let longer : cut ∷ h ≡ before (frame_in (ins_of c.args.kind.now) c.args.incoming.now) (c.loop-time.time + 1) =
    ap (λ f. f ∷ h) seen ∙ ap (before (frame_in (ins_of c.args.kind.now) c.args.incoming.now)) next in
    let written : take c.loop-time.frame.len (c.frame.new.outs ++ drop (length c.frame.new.outs) c.loop-time.frame.items) ≡ c.frame.new.outs =
    with_items_is c.loop-time.frame c.frame.new.outs (c.frame.auto.outs ∙ c.deref_mut.ensures.len) in
    let given : c.frame.new.outs ≡ newest (stream_of c.args.kind.now (cut ∷ h)) =
    c.frame.ensures.last h c.loop-time.invariant.stands ∙ ap (λ k. newest (stream_of k (cut ∷ h))) c.loop-time.invariant.kind in
    record {
      kind = c.frame.ensures.kind ∙ c.loop-time.invariant.kind;
      bound = c.frame.ensures.bound ∙ c.loop-time.invariant.bound;
      stands = subst (Keeps c.frame.new.self) longer (c.frame.ensures.stands h c.loop-time.invariant.stands);
      wide = ap (λ xs. length xs) written ∙ c.frame.auto.outs ∙ ap (λ xs. length xs) c.deref_mut.ensures.value ∙ c.loop-time.invariant.wide;
      outgoing = c.in_ok-append.ensures ∙ ap (λ xs. c.loop-time.outgoing ++ xs) (c.deref.ensures.value ∙ written ∙ given)
          ∙ ap (λ xs. xs ++ newest (stream_of c.args.kind.now (cut ∷ h))) c.loop-time.invariant.outgoing
          ∙ ap (λ g. interleaved (stream_of c.args.kind.now g)) longer;
    }
