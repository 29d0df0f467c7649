use Rattle.std.proofs.Common.{◌≡◌, ◌+◌, ◌*◌, [], length, replicate, reverse, pos, refl, sym, ap, ◌∙◌, subst, arith}
use Rattle.std.proofs.lemmas.List.{length-replicate}
use Rattle.graph_model.specs.Ranges.{HasRange}
use Rattle.graph_model.specs.declared.kind.Kind.{Kind}
use Rattle.graph_model.specs.declared.kind.Kind.TheVariants.{Fir}
use Rattle.graph_model.specs.declared.graph.Bound.{Bound}
use Rattle.graph_model.specs.Kernels.{IsBoundOf, KernelState}
use Rattle.fixed_kernels.specs.Kernels.{Keeps}
use Rattle.fixed_kernels.proofs.FirFacts.{fir_made, fir_new}
use Rattle.fixed_kernels.proofs.fir.Fir.make.Goals as goal

pub invariant_of-result : goal.invariant_of-result
invariant_of-result c =
    let k = c.in-Fir in
    let bound : Bound = c.in_ok-copy.field-0 in
    let turned : c.reverse.new.self.items ≡ reverse k.taps = c.reverse.ensures.items ∙ ap reverse (c.in_ok-backward.ensures.items ∙ c.as_slice.ensures) in
    let len : c.len.result ≡ length c.reverse.new.self.items = omega (arith, c.len.ensures, c.reverse.new.self.ok.0) in
    let zeros : c.in_ok-past.past.items ≡ replicate (k.channels * length c.reverse.new.self.items) (pos 0)
    = c.in_ok-past.ensures.items_if_clones_equal (λ y e. e) ∙ ap (λ n. replicate (k.channels * n) (pos 0)) len in
    let size : length c.in_ok-past.past.items ≡ k.channels * length c.reverse.new.self.items
    = ap length zeros ∙ length-replicate (k.channels * length c.reverse.new.self.items) (pos 0) in
    let room : length c.in_ok-line.line.items ≡ length c.reverse.new.self.items + 64
    = omega (arith, c.in_ok-line.ensures.len, c.in_ok-line.line.ok.0, c.len-2.ensures, c.reverse.new.self.ok.0) in
    let same : c.args.kind.now ≡ Fir k.channels k.taps k.shift k.latency = k.is in (
      fir_new k.taps c.reverse.new.self.items k.shift k.latency k.channels bound c.in_ok-past.past.items turned zeros
          (subst HasRange same c.requires.range)
          (subst (λ (z : Kind). IsBoundOf z bound) same (subst (IsBoundOf c.args.kind.now) (sym c.in_ok-copy.ensures) c.requires.bound)),
      size,
      room,
    )

pub returns : goal.returns
returns c =
    let k = c.in-Fir in
    let bound : Bound = c.in_ok-copy.field-0 in
    let turned : c.reverse.new.self.items ≡ reverse k.taps = c.reverse.ensures.items ∙ ap reverse (c.in_ok-backward.ensures.items ∙ c.as_slice.ensures) in
    let len : c.len.result ≡ length c.reverse.new.self.items = omega (arith, c.len.ensures, c.reverse.new.self.ok.0) in
    let zeros : c.in_ok-past.past.items ≡ replicate (k.channels * length c.reverse.new.self.items) (pos 0)
    = c.in_ok-past.ensures.items_if_clones_equal (λ y e. e) ∙ ap (λ n. replicate (k.channels * n) (pos 0)) len in
    let made = fir_made k.taps c.reverse.new.self.items k.shift k.latency k.channels bound c.in_ok-past.past.items turned zeros in
    record {
      kind = ap (λ (v : KernelState). v.kind) made ∙ sym k.is;
      bound = c.in_ok-copy.ensures;
      stands = subst (λ (v : KernelState). Keeps v []) (sym made) refl;
    }
