use Rattle.std.proofs.Common.{rules, arith, ◌≡◌, ℕ, ◌+◌, ◌*◌, ◌<◌, List, ℤ, length, get_or, pos, refl, sym, ap, ◌∙◌, w64, FitsSigned, to_z, of_z, ⊎_elim, inl, inr}
use Rattle.std.specs.Prelude.{slice_set}
use Rattle.std.proofs.lemmas.Bool.{cases_lt}
use Rattle.std.proofs.lemmas.Int.{to_z-of_z}
use Rattle.std.proofs.lemmas.List.{get_or-set_same, get_or-set_other}
use Rattle.std.proofs.lemmas.List.FromFn.{fill_by_all, get_or-map-range_with_len, length-map-range_with_len}
use Rattle.graph_model.specs.Blocks.{planar_frame}
use Rattle.graph_model.proofs.PlanarLaws.{in_rows}
use Rattle.limiter_kernel.proofs.BlockLaws.{apart, same_frames}
use Rattle.limiter_kernel.proofs.limiter.scatter.Goals as goal

pub loop-c-preserved : goal.loop-c-preserved
loop-c-preserved c =
    let i : ℕ = c.loop-c.c in
    let n : ℕ = c.args.frames in
    let t : ℕ = c.args.t in
    let frame : List ℤ = c.args.frame.now in
    let outs : List ℤ = c.loop-c.outs in
    let fits : FitsSigned w64 (get_or frame i (pos 0)) = search rules in
    let put : to_z w64 (of_z w64 (get_or frame i (pos 0))) ≡ get_or frame i (pos 0) = to_z-of_z w64 (get_or frame i (pos 0)) fits in
    let room : i * n + t < length outs = omega (arith, in_rows (length frame) n i t (omega arith) c.requires.frame, c.loop-c.auto.outs, c.requires.outs) in
    rw put (record {
      here = λ k lt.
          ⊎_elim
          (λ (less : k < i). get_or-set_other outs (i * n + t) (k * n + t) (get_or frame i (pos 0)) (pos 0) (apart n i k t t c.requires.frame c.requires.frame (inl less)) ∙ c.loop-c.invariant.here k less)
          (λ le. let same : k ≡ i = omega arith in
          ap (λ j. get_or (slice_set outs (i * n + t) (get_or frame i (pos 0))) (j * n + t) (pos 0)) same ∙ get_or-set_same outs (i * n + t) (get_or frame i (pos 0)) (pos 0) room
          ∙ ap (λ j. get_or frame j (pos 0)) (sym same))
          (cases_lt k i);
      others = λ k s ls other. get_or-set_other outs (i * n + t) (k * n + s) (get_or frame i (pos 0)) (pos 0) (apart n i k t s c.requires.frame ls (inr other)) ∙ c.loop-c.invariant.others k s ls other;
    })

pub returns : goal.returns
returns c = record {
  here = same_frames (length c.args.frame.now) c.args.frames c.loop-c.outs c.args.t c.args.frame.now refl (λ k lt. c.loop-c.invariant.here k (omega arith));
  others = λ s ls other.
      fill_by_all (λ k. get_or c.args.outs.now (k * c.args.frames + s) (pos 0)) (planar_frame (length c.args.frame.now) c.args.frames c.loop-c.outs s) (length c.args.frame.now) (pos 0)
      (length-map-range_with_len (λ k. get_or c.loop-c.outs (k * c.args.frames + s) (pos 0)) 0 (length c.args.frame.now))
      (λ k lt. get_or-map-range_with_len (λ j. get_or c.loop-c.outs (j * c.args.frames + s) (pos 0)) 0 (length c.args.frame.now) k k (pos 0) lt (omega arith)
      ∙ c.loop-c.invariant.others k s ls other);
}
