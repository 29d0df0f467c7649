use Rattle.std.proofs.Common.{◌≡◌, ◌-◌, ◌*◌, ◌≤◌, ◌^◌, ℕ, arith, ap, ◌∙◌, sym, subst, map, min, length, get_or, replicate, rules, inl, inr}
use Rattle.std.specs.Prelude.{unsigned_abs}
use Rattle.std.specs.List.{range_with_len}
use Rattle.std.proofs.lemmas.Int.{to_z-of_z}
use mir.Syntax.{w32}
use mir.Val.{SFits}
use Rattle.graph_model.specs.Bounds.{out_bounds, weight, weighed}
use Rattle.graph_model.specs.Filters.{gains_to}
use Rattle.graph_model.specs.Kinds.{ins_of}
use Rattle.graph_model.specs.Ranges.{HasRange}
use Rattle.graph_model.specs.Rounding.{rounded_nat}
use Rattle.graph_model.specs.declared.kind.Kind.{Kind}
use Rattle.headroom.specs.Loud.{kept}
use Rattle.headroom.proofs.OutputFacts.{ok_same, kept_each, kept_same, kept_copies, copies_each, limited_fits, power_small, power_fits}
use Rattle.headroom.proofs.outputs.outputs_of.Goals as goal

pub returns-in-Gain : goal.returns-in-Gain
returns-in-Gain c =
    let fits : SFits w32 c.in-Gain.gain = search rules in
    let size : c.unsigned_abs.result ≡ unsigned_abs c.in-Gain.gain = c.unsigned_abs.ensures.value ∙ ap unsigned_abs (to_z-of_z w32 c.in-Gain.gain fits) in
    let same : map (λ b. kept (rounded_nat (c.unsigned_abs.result * b) 16)) c.args.ins.now ≡ map kept (out_bounds c.args.kind.now c.args.ins.now)
    = (λ i. map (λ b. kept (rounded_nat (size i * b) 16)) c.args.ins.now) ∙ kept_each (λ b. rounded_nat (unsigned_abs c.in-Gain.gain * b) 16) c.args.ins.now
    ∙ sym (ap (λ (k : Kind). map kept (out_bounds k c.args.ins.now)) c.in-Gain.is) in
    ok_same c.scaled.result _ _ c.scaled.ensures same

pub returns-in-Mixer : goal.returns-in-Mixer
returns-in-Mixer c =
    let count : length c.args.ins.now ≡ c.in-Mixer.ins = c.requires.ins ∙ ap ins_of c.in-Mixer.is in
    let same : map (λ o. kept (rounded_nat (weighed (gains_to (length c.args.ins.now) c.as_slice.result.now o) c.args.ins.now) 16)) (range_with_len 0 c.in-Mixer.outs)
    ≡ map kept (out_bounds c.args.kind.now c.args.ins.now)
    = (λ i. map (λ o. kept (rounded_nat (weighed (gains_to (count i) (c.as_slice.ensures i) o) c.args.ins.now) 16)) (range_with_len 0 c.in-Mixer.outs))
    ∙ kept_each (λ o. rounded_nat (weighed (gains_to c.in-Mixer.ins c.in-Mixer.gains o) c.args.ins.now) 16) (range_with_len 0 c.in-Mixer.outs)
    ∙ sym (ap (λ (k : Kind). map kept (out_bounds k c.args.ins.now)) c.in-Mixer.is) in
    ok_same c.mixed.result _ _ c.mixed.ensures same

pub returns-in-Fir : goal.returns-in-Fir
returns-in-Fir c =
    let size : c.weight_of.result ≡ weight c.in-Fir.taps = c.weight_of.ensures.value ∙ ap weight c.as_slice-in-Fir.ensures in
    let same : map (λ b. kept (rounded_nat (c.weight_of.result * b) c.in-Fir.shift)) c.args.ins.now ≡ map kept (out_bounds c.args.kind.now c.args.ins.now)
    = (λ i. map (λ b. kept (rounded_nat (size i * b) c.in-Fir.shift)) c.args.ins.now) ∙ kept_each (λ b. rounded_nat (weight c.in-Fir.taps * b) c.in-Fir.shift) c.args.ins.now
    ∙ sym (ap (λ (k : Kind). map kept (out_bounds k c.args.ins.now)) c.in-Fir.is) in
    ok_same c.scaled-in-Fir.result _ _ c.scaled-in-Fir.ensures same

pub returns-in-Biquad : goal.returns-in-Biquad
returns-in-Biquad c =
    let range = subst HasRange c.in-Biquad.is c.requires.range in
    let small = power_small c.in-Biquad.bits range.7.1 in
    let bound : 2 ^ c.in-Biquad.bits - 1 ≤ 2 ^ 64 - 1 = omega arith in
    ok_same c.same_for_all-in-Biquad.result _ _ c.same_for_all-in-Biquad.ensures
    (ap (λ p. replicate (length c.args.ins.now) (p - 1)) (power_fits c.in-Biquad.bits range.7.1) ∙ kept_copies (length c.args.ins.now) (2 ^ c.in-Biquad.bits - 1) bound
    ∙ ap (map kept) (copies_each (2 ^ c.in-Biquad.bits - 1) c.args.ins.now) ∙ sym (ap (λ (k : Kind). map kept (out_bounds k c.args.ins.now)) c.in-Biquad.is))

pub returns-in-Limiter : goal.returns-in-Limiter
returns-in-Limiter c =
    let fits : (i : ℕ) → get_or c.args.ins.now i 0 ≤ 2 ^ 64 - 1 = λ i. let f = c.type_inv.ins i in omega arith in
    let same : map (λ b. min b c.in-Limiter.threshold) c.args.ins.now ≡ map kept (out_bounds c.args.kind.now c.args.ins.now)
    = sym (kept_same (map (λ b. min b c.in-Limiter.threshold) c.args.ins.now) (limited_fits c.in-Limiter.threshold c.args.ins.now fits))
    ∙ sym (ap (λ (k : Kind). map kept (out_bounds k c.args.ins.now)) c.in-Limiter.is) in
    ok_same c.at_most.result _ _ c.at_most.ensures same

pub returns-in-Delay : goal.returns-in-Delay
returns-in-Delay c =
    let fits : (i : ℕ) → get_or c.args.ins.now i 0 ≤ 2 ^ 64 - 1 = λ i. let f = c.type_inv.ins i in omega arith in
    let same : map kept c.args.ins.now ≡ map kept (out_bounds c.args.kind.now c.args.ins.now)
    = elim c.in-Delay.is [
      | inl delay ↦ sym (ap (λ (k : Kind). map kept (out_bounds k c.args.ins.now)) delay.2)
      | inr insert ↦ sym (ap (λ (k : Kind). map kept (out_bounds k c.args.ins.now)) insert.2)
    ] in
    ok_same c.from_slice.result _ _ c.from_slice.ensures (sym (kept_same c.args.ins.now fits) ∙ same)
