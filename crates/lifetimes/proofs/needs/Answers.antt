use Rattle.std.proofs.Common.{◌≡◌, ◌<◌, ◌≤◌, ◌+◌, ◌∷◌, [], ◌∙◌, List, count_by, length, slice_index, sym, ap, subst, arith}
use Rattle.std.specs.List.{All}
use Rattle.std.proofs.lemmas.List.{length-append}
use Rattle.plan_model.specs.Buffers.{is_born, is_dying, need_of_wave, AreLives}
use Rattle.plan_model.specs.declared.buffers.Life.{Life}
use Rattle.plan_model.proofs.CountFacts.{is_before}
use Rattle.lifetimes.proofs.NeedFacts.{alive_few, alive_found, counted, dead_fits, need_found, needs_more, none_before, saved_fits, takers_within}
use Rattle.lifetimes.proofs.needs.Goals as goal

pub births-requires-2-clause-within : goal.births-requires-2-clause-within
births-requires-2-clause-within c =
    let ls : List Life = c.as_slice-lives.result.now in
    let h : AreLives c.as_slice-lives.result.now c.args.waves = subst (λ l. AreLives l c.args.waves) (sym c.as_slice-lives.ensures) c.requires.lives in
    subst (All (λ (x : Life). x.born < c.args.waves)) (sym c.deref.ensures.value) (takers_within c.as_slice-lives.result.now c.args.waves h c.in_ok-takers.takers.items c.in_ok-takers.ensures.among)

pub loop-wave-init : goal.loop-wave-init
loop-wave-init c = record { one_each = ap length c.new-needs.ensures; needs = λ s l. absurd (omega arith); alive = none_before c.args.lives.now }

pub overflow_add-alive : goal.overflow_add-alive
overflow_add-alive c =
    let ls : List Life = c.as_slice-lives.result.now in
    let w = c.loop-wave.wave in
    let lt = c.loop-wave-test.true in
    let alive : c.loop-wave.alive ≡ count_by (is_before c.loop-wave.wave) ls = c.loop-wave.invariant.alive ∙ ap (λ l. count_by (is_before c.loop-wave.wave) l) (sym c.as_slice-lives.ensures) in
    let born = counted c.in_ok-born.born.items w c.index.result.now (count_by (is_born w) ls) c.index.ensures (omega (arith, lt, c.in_ok-born.ensures.one_each)) (c.in_ok-born.ensures.births w lt) in
    omega (arith, alive_few ls w c.loop-wave.alive c.index.result.now alive born (subst (λ (l : List Life). length l ≤ 16384) (sym c.as_slice-lives.ensures) c.requires.few))

pub overflow_sub-alive : goal.overflow_sub-alive
overflow_sub-alive c =
    let ls : List Life = c.as_slice-lives.result.now in
    let w = c.loop-wave.wave in
    let lt = c.loop-wave-test.true in
    let alive : c.loop-wave.alive ≡ count_by (is_before c.loop-wave.wave) ls = c.loop-wave.invariant.alive ∙ ap (λ l. count_by (is_before c.loop-wave.wave) l) (sym c.as_slice-lives.ensures) in
    let born = counted c.in_ok-born.born.items w c.index.result.now (count_by (is_born w) ls) c.index.ensures (omega (arith, lt, c.in_ok-born.ensures.one_each)) (c.in_ok-born.ensures.births w lt) in
    let h : AreLives ls c.args.waves = subst (λ l. AreLives l c.args.waves) (sym c.as_slice-lives.ensures) c.requires.lives in
    let t = c.in_ok-takers.ensures in
    let takers : List Life = c.in_ok-takers.takers.items in
    let saving : slice_index c.in_ok-saved.saved.items w ≡ count_by (is_born w) takers = c.in_ok-saved.ensures.births w lt ∙ ap (λ l. count_by (is_born c.loop-wave.wave) l) c.deref.ensures.value in
    let saved = counted c.in_ok-saved.saved.items w c.index-in-loop-wave.result.now (count_by (is_born w) takers) c.index-in-loop-wave.ensures (omega (arith, lt, c.in_ok-saved.ensures.one_each)) saving in
    saved_fits ls c.args.waves h takers t.among t.taken w c.loop-wave.alive c.index.result.now c.index-in-loop-wave.result.now alive born saved

pub overflow_sub-alive-in-loop-wave : goal.overflow_sub-alive-in-loop-wave
overflow_sub-alive-in-loop-wave c =
    let ls : List Life = c.as_slice-lives.result.now in
    let w = c.loop-wave.wave in
    let lt = c.loop-wave-test.true in
    let alive : c.loop-wave.alive ≡ count_by (is_before c.loop-wave.wave) ls = c.loop-wave.invariant.alive ∙ ap (λ l. count_by (is_before c.loop-wave.wave) l) (sym c.as_slice-lives.ensures) in
    let born = counted c.in_ok-born.born.items w c.index.result.now (count_by (is_born w) ls) c.index.ensures (omega (arith, lt, c.in_ok-born.ensures.one_each)) (c.in_ok-born.ensures.births w lt) in
    let h : AreLives ls c.args.waves = subst (λ l. AreLives l c.args.waves) (sym c.as_slice-lives.ensures) c.requires.lives in
    let t = c.in_ok-takers.ensures in
    let dead = counted c.in_ok-dead.dead.items w c.index-in-loop-wave-2.result.now (count_by (is_dying w) ls) c.index-in-loop-wave-2.ensures (omega (arith, lt, c.in_ok-dead.ensures.one_each)) (c.in_ok-dead.ensures.deaths w lt) in
    dead_fits ls c.args.waves h w c.loop-wave.alive c.index.result.now c.index-in-loop-wave-2.result.now alive born dead

pub loop-wave-preserved : goal.loop-wave-preserved
loop-wave-preserved c =
    let ls : List Life = c.as_slice-lives.result.now in
    let w = c.loop-wave.wave in
    let lt = c.loop-wave-test.true in
    let alive : c.loop-wave.alive ≡ count_by (is_before c.loop-wave.wave) ls = c.loop-wave.invariant.alive ∙ ap (λ l. count_by (is_before c.loop-wave.wave) l) (sym c.as_slice-lives.ensures) in
    let born = counted c.in_ok-born.born.items w c.index.result.now (count_by (is_born w) ls) c.index.ensures (omega (arith, lt, c.in_ok-born.ensures.one_each)) (c.in_ok-born.ensures.births w lt) in
    let h : AreLives ls c.args.waves = subst (λ l. AreLives l c.args.waves) (sym c.as_slice-lives.ensures) c.requires.lives in
    let t = c.in_ok-takers.ensures in
    let takers : List Life = c.in_ok-takers.takers.items in
    let saving : slice_index c.in_ok-saved.saved.items w ≡ count_by (is_born w) takers = c.in_ok-saved.ensures.births w lt ∙ ap (λ l. count_by (is_born c.loop-wave.wave) l) c.deref.ensures.value in
    let saved = counted c.in_ok-saved.saved.items w c.index-in-loop-wave.result.now (count_by (is_born w) takers) c.index-in-loop-wave.ensures (omega (arith, lt, c.in_ok-saved.ensures.one_each)) saving in
    let dead = counted c.in_ok-dead.dead.items w c.index-in-loop-wave-2.result.now (count_by (is_dying w) ls) c.index-in-loop-wave-2.ensures (omega (arith, lt, c.in_ok-dead.ensures.one_each)) (c.in_ok-dead.ensures.deaths w lt) in
    let need = need_found ls c.args.waves h takers t.among t.taken w c.loop-wave.alive c.index.result.now c.index-in-loop-wave.result.now alive born saved ∙ ap (λ l. need_of_wave l c.loop-wave.wave) c.as_slice-lives.ensures in
    let after = alive_found ls c.args.waves h w c.loop-wave.alive c.index.result.now c.index-in-loop-wave-2.result.now alive born dead ∙ ap (λ l. count_by (is_before (c.loop-wave.wave + 1)) l) c.as_slice-lives.ensures in
    let long = c.loop-wave.invariant.one_each in
    record {
      one_each = ap length c.in_ok-push.ensures.ok ∙ length-append c.loop-wave.needs (_ ∷ []) ∙ omega (arith, long);
      needs = needs_more c.args.lives.now c.loop-wave.needs c.push.new.self c.loop-wave.wave _ long c.loop-wave.invariant.needs need c.in_ok-push.ensures.ok;
      alive = after;
    }
