use Rattle.std.proofs.Common.{◌≡◌, ◌==◌, ◌&&◌, ◌∙◌, refl, Bool, true, false, List, get_or, ap, arith, rules, unwrap_or, None}
use Rattle.plan_model.specs.Buffers.{is_freed, is_reader}
use Rattle.plan_model.specs.declared.buffers.Life.{Life}
use Rattle.plan_model.proofs.CountFacts.{bit}
use Rattle.std.specs.HashMap.{get}
use Rattle.lifetimes.specs.declared.taken.Turn.{Turn}
use Rattle.lifetimes.specs.Turns.{same_turn, count_in}
use Rattle.lifetimes.proofs.TallyFacts.{count_by-first, count_by-more}
use Rattle.lifetimes.proofs.TurnFacts.{one_more}
use Rattle.lifetimes.proofs.taken.freed.Goals as goal
use Rattle.lifetimes.proofs.taken.freed.Goals.{in-Some+in_ok-insert, in_default}

abbrev nobody : Life
nobody = record { uid = record { 0 = 0 }; channel = 0; born = 0; dies = 0; reader = None }

pub overflow_add-others : goal.overflow_add-others
overflow_add-others c =
    let life : Life = get_or c.args.lives.now c.loop-life.life-index nobody in
    let value : c.unwrap_or-others.result ≡ count_in c.loop-life.freed life.dies c.in-Some.reader.0 = search rules in
    omega (
      arith,
      value,
      c.loop-life.invariant life.dies c.in-Some.reader.0,
      count_by-first (is_freed life.dies c.in-Some.reader.0) c.args.lives.now c.loop-life.life-index,
      c.loop-life-test.true,
      c.requires,
    )

pub loop-life-preserved : goal.loop-life-preserved
loop-life-preserved c = λ s a.
    let lives : List Life = c.args.lives.now in
    let i = c.loop-life.life-index in
    let life : Life = get_or lives i nobody in
    let more = count_by-more (is_freed s a) lives i nobody c.loop-life-test.true in
    let before = c.loop-life.invariant s a in
    elim c.match-life.branch [
      | in-Some+in_ok-insert w ↦
          let turn : Turn = record { wave = life.dies; uid = w.in-Some.reader.0 } in
          let value : w.unwrap_or-others.result ≡ unwrap_or (get same_turn c.loop-life.freed turn) 0 = search rules in
          let now = one_more c.loop-life.freed w.insert.new.self turn w.unwrap_or-others.result value w.in_ok-insert.ensures.updates.0 s a in
          let same : bit (is_freed s a life) ≡ bit (same_turn turn (record { wave = s; uid = a })) = ap (λ r. bit ((life.dies == s) && is_reader a r)) w.in-Some.is in
          omega (arith, ap (λ m. count_in m s a) w.freed-is)
      | in_default w ↦
          let none : bit (is_freed s a life) ≡ 0 = ap (λ r. bit ((life.dies == s) && is_reader a r)) w.in_default.is ∙ no_bit (life.dies == s) in
          omega (arith, ap (λ m. count_in m s a) w.freed-is)
    ]
  where
    no_bit : (b : Bool) → bit (b && false) ≡ 0
    no_bit true = refl
    no_bit false = refl
