use Rattle.std.proofs.Common.{◌≡◌, ◌+◌, ◌-◌, ◌*◌, ◌^◌, ◌/◌, ◌%◌, ◌++◌, ◌<◌, ◌≤◌, List, ℤ, length, take, drop, min, sym, ap, ◌∙◌, subst, arith}
use Rattle.std.specs.Prelude.{unsigned_abs}
use Rattle.std.proofs.lemmas.List.{length-take, length-drop}
use Rattle.fixed_kernels.specs.Rows.{filtered_at, kept_after}
use Rattle.fixed_kernels.proofs.RowFacts.{IsRowPart, is_row_part, kept_last, kept_more, kept_none, part_value, put_more}
use Rattle.fixed_kernels.proofs.fir.filter_row.Goals as goal

pub loop-part-init : goal.loop-part-init
loop-part-init c = record {
  past = kept_none c.args.past.now c.args.ins.now (min 0 (length c.args.ins.now)) (omega arith);
  values = λ t lt. absurd (omega (arith, lt));
}

pub filter_part-requires-clause-fits : goal.filter_part-requires-clause-fits
filter_part-requires-clause-fits c = λ t lt.
    let taps : List ℤ = c.args.taps.now in
    let ins : List ℤ = c.args.ins.now in
    let old : List ℤ = c.args.past.now in
    let p : IsRowPart (length ins) c.loop-part.part c.min-end.result = is_row_part (length ins) c.loop-part.part c.min-end.result (omega (arith, c.div_ceil-part-end.ensures)) c.min-end.ensures in
    let early : t < c.min-end.result - c.loop-part.part * 64 = omega (arith, lt, length-take (c.min-end.result - c.loop-part.part * 64) (drop (c.loop-part.part * 64) ins)) in
    let value
    = ap (λ (zs : List ℤ). filtered_at taps c.args.shift (zs ++ take (c.min-end.result - c.loop-part.part * 64) (drop (c.loop-part.part * 64) ins)) t)
    (c.loop-part.invariant.past ∙ ap (kept_after old ins) p.start)
    ∙ part_value taps c.args.shift old ins (c.loop-part.part * 64) (c.min-end.result - c.loop-part.part * 64) t c.requires.past early in
    subst (λ (y : ℤ). unsigned_abs y ≤ 2 ^ 46) (sym value) (c.requires.fits (c.loop-part.part * 64 + t) (omega (arith, p.inside)))

pub loop-part-preserved : goal.loop-part-preserved
loop-part-preserved c =
    let taps : List ℤ = c.args.taps.now in
    let ins : List ℤ = c.args.ins.now in
    let old : List ℤ = c.args.past.now in
    let outs : List ℤ = c.loop-part.outs in
    let p : IsRowPart (length ins) c.loop-part.part c.min-end.result = is_row_part (length ins) c.loop-part.part c.min-end.result (omega (arith, c.div_ceil-part-end.ensures)) c.min-end.ensures in
    let stood : c.loop-part.past ≡ kept_after old ins (c.loop-part.part * 64) = c.loop-part.invariant.past ∙ ap (kept_after old ins) p.start in
    let many : length (take (c.min-end.result - c.loop-part.part * 64) (drop (c.loop-part.part * 64) ins)) ≡ c.min-end.result - c.loop-part.part * 64
    = omega (arith, p.inside, length-take (c.min-end.result - c.loop-part.part * 64) (drop (c.loop-part.part * 64) ins), length-drop (c.loop-part.part * 64) ins) in
    let size : length c.filter_part.new.outs ≡ c.min-end.result - c.loop-part.part * 64 = omega (arith, p.inside, many) in
    let fits : c.loop-part.part * 64 + (c.min-end.result - c.loop-part.part * 64) ≤ length outs = omega (arith, p.inside, c.loop-part.auto.outs, c.requires.outs) in
    record {
      past = c.filter_part.ensures.past
          ∙ (λ i. drop (many i) (stood i ++ take (c.min-end.result - c.loop-part.part * 64) (drop (c.loop-part.part * 64) ins)))
          ∙ kept_more old ins (c.loop-part.part * 64) (c.min-end.result - c.loop-part.part * 64)
          ∙ ap (kept_after old ins) p.next;
      values = λ t lt.
          put_more (c.loop-part.part * 64) (c.min-end.result - c.loop-part.part * 64) (filtered_at taps c.args.shift (old ++ ins)) outs c.filter_part.new.outs fits size
          (λ s ls. c.loop-part.invariant.values s (omega (arith, p.start)))
          (λ s ls. c.filter_part.ensures.values s (omega (arith, many))
          ∙ ap (λ (zs : List ℤ). filtered_at taps c.args.shift (zs ++ take (c.min-end.result - c.loop-part.part * 64) (drop (c.loop-part.part * 64) ins)) s) stood
          ∙ part_value taps c.args.shift old ins (c.loop-part.part * 64) (c.min-end.result - c.loop-part.part * 64) s c.requires.past ls)
          t (omega (arith, lt, p.next));
    }

pub returns-clause-past : goal.returns-clause-past
returns-clause-past c =
    let parts : c.div_ceil-part-end.result ≡ length c.args.ins.now / 64 + min 1 (length c.args.ins.now % 64) = c.div_ceil-part-end.ensures in
    c.loop-part.invariant.past
    ∙ kept_last c.args.past.now c.args.ins.now (min (c.loop-part.part * 64) (length c.args.ins.now)) (omega (arith, parts))

pub returns-clause-values : goal.returns-clause-values
returns-clause-values c = λ t lt.
    let parts : c.div_ceil-part-end.result ≡ length c.args.ins.now / 64 + min 1 (length c.args.ins.now % 64) = c.div_ceil-part-end.ensures in
    c.loop-part.invariant.values t (omega (arith, lt, parts))
