use Rattle.std.proofs.Common.{◌≡◌, ◌==◌, ◌∙◌, sym, ap, arith, false, below_more, Some}
use Rattle.std.specs.Prelude.{slice_get}
use Rattle.std.specs.List.{list_any}
use Rattle.std.proofs.lemmas.Option.{slice_get_within}
use Rattle.graph_model.specs.declared.graph.Uid.{Uid}
use Rattle.plan_model.specs.declared.schedule.Wave.{Wave}
use Rattle.plan_checker.proofs.WaveFacts.{at_place, stands_in, stands_nowhere}
use Rattle.plan_checker.proofs.waves.stands.Goals as goal

pub returns-then-has : goal.returns-then-has
returns-then-has c =
    let v = c.args.uid in
    stands_in c.args.waves.now c.loop-wave.wave-index c.wave-item.result v (at_place c.args.waves.now c.loop-wave.wave-index c.wave-item.result (omega arith) c.wave-item.is)
    (ap (λ us. list_any (λ (u : Uid). u.0 == v) us) (sym c.as_slice.ensures) ∙ sym c.has.ensures ∙ c.if-has.true)

pub loop-wave-preserved : goal.loop-wave-preserved
loop-wave-preserved c =
    let v = c.args.uid in
    let at = at_place c.args.waves.now c.loop-wave.wave-index c.wave-item.result (omega arith) c.wave-item.is in
    below_more (λ k. (w : Wave) → slice_get c.args.waves.now k ≡ Some w → list_any (λ u. u.0 == v) w.nodes ≡ false) c.loop-wave.wave-index c.loop-wave.invariant
    (λ w here.
    let same : w ≡ c.wave-item.result = cc in
    ap (λ (x : Wave). list_any (λ u. u.0 == v) x.nodes) same ∙ ap (λ us. list_any (λ (u : Uid). u.0 == v) us) (sym c.as_slice.ensures) ∙ sym c.has.ensures ∙ c.if-has.false)

pub returns : goal.returns
returns c =
    stands_nowhere c.args.waves.now c.args.uid (λ k w at. let l = slice_get_within c.args.waves.now k w at in c.loop-wave.invariant k (omega arith) w at)
