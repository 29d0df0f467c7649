use Rattle.std.proofs.Common.{◌≡◌, length, take, subst, arith, below_more, Some}
use Rattle.std.specs.Prelude.{slice_get}
use Rattle.std.proofs.lemmas.Option.{slice_get_within}
use Rattle.plan_model.specs.Places.{IsNextWave, IsWaveAt}
use Rattle.plan_model.specs.declared.schedule.Wave.{Wave}
use Rattle.plan_model.proofs.WaveLaws.{waves_by_entries}
use Rattle.plan_checker.proofs.WaveFacts.{at_place, waves_before, all_waves, bad_wave, missing_node}
use Rattle.plan_checker.proofs.waves.waves.Goals as goal

pub returns-then-not-is_next : goal.returns-then-not-is_next
returns-then-not-is_next c =
    let g = c.args.g.now in
    let ws = c.args.waves.now in
    let k = c.loop-k.k in
    let bad : IsWaveAt g ws k → ⊥ = bad_wave g ws k c.index-waves-k.result (at_place ws k c.index-waves-k.result c.loop-k-test.true c.index-waves-k.is) c.if-not-is_next.ensures in
    ((λ s. bad ((waves_by_entries g ws c.requires.sound).1 s k)), (waves_before g ws k (omega arith) c.loop-k.invariant, bad))

pub loop-k-preserved : goal.loop-k-preserved
loop-k-preserved c =
    let g = c.args.g.now in
    let ws = c.args.waves.now in
    let k = c.loop-k.k in
    let at = at_place ws k c.index-waves-k.result c.loop-k-test.true c.index-waves-k.is in
    below_more (λ j. (w : Wave) → slice_get ws j ≡ Some w → IsNextWave g (take j ws) w) k c.loop-k.invariant
    (λ w here. let same : c.index-waves-k.result ≡ w = cc in subst (IsNextWave g (take k ws)) same c.if-not-is_next.ensures)

pub returns-then-not-all_stand : goal.returns-then-not-all_stand
returns-then-not-all_stand c =
    let g = c.args.g.now in
    let ws = c.args.waves.now in
    let bad : IsWaveAt g ws (length ws) → ⊥ = missing_node g c.args.live.now c.requires.live ws c.if-not-all_stand.ensures in (
      (λ s. bad ((waves_by_entries g ws c.requires.sound).1 s (length ws))),
      (waves_before g ws (length ws) (omega arith) (λ j lt w at. c.loop-k.invariant j (omega arith) w at), bad),
    )

pub returns : goal.returns
returns c =
    let g = c.args.g.now in
    let ws = c.args.waves.now in
    (waves_by_entries g ws c.requires.sound).0
    (all_waves g c.args.live.now c.requires.live ws (λ j w at. let l = slice_get_within ws j w at in c.loop-k.invariant j (omega arith) w at) c.if-not-all_stand.ensures)
