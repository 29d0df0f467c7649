use Rattle.std.proofs.Common.{◌≡◌, ◌≤◌, ◌+◌, ◌∷◌, [], ◌++◌, ◌∙◌, cond, List, None, get_or, length, count_by, min, sym, ap, subst, arith}
use Rattle.std.specs.List.{All, Contains}
use Rattle.std.proofs.lemmas.List.{take_all, length-append}
use Rattle.std.proofs.lemmas.List.Elements.{All-push, Contains-get_or}
use Rattle.plan_model.specs.Buffers.{is_born_of, is_freed}
use Rattle.plan_model.specs.declared.buffers.Life.{Life}
use Rattle.lifetimes.specs.Turns.{count_in}
use Rattle.lifetimes.proofs.TurnFacts.{left_more, taken_more}
use Rattle.lifetimes.proofs.taken.takers.Goals as goal
use Rattle.lifetimes.proofs.taken.takers.Goals.{then-take+in_ok-push, else-take}

abbrev nobody : Life
nobody = record { uid = record { 0 = 0 }; channel = 0; born = 0; dies = 0; reader = None }

pub loop-life-preserved : goal.loop-life-preserved
loop-life-preserved c =
    let lives : List Life = c.args.lives.now in
    let i = c.loop-life.life-index in
    let x : Life = get_or lives i nobody in
    let takers : List Life = c.loop-life.takers.items in
    let h = c.loop-life.invariant in
    let lt = c.loop-life-test.true in
    let more : (c.if-take.takers.items ≡ cond c.take.result (takers ++ x ∷ []) takers) × All (Contains lives) c.if-take.takers.items × (length c.if-take.takers.items ≤ i + 1) =
    elim c.if-take.branch [
      | then-take+in_ok-push w ↦
          let is : c.if-take.takers.items ≡ takers ++ x ∷ [] = ap (λ v. v.items) w.takers-is ∙ w.in_ok-push.ensures.items in (
            is ∙ sym (ap (λ b. cond b (takers ++ x ∷ []) takers) w.if-take.true),
            subst (All (Contains lives)) (sym is) (All-push (Contains lives) takers x h.among (Contains-get_or lives i nobody lt)),
            omega (arith, ap (λ l. length l) is, length-append takers (x ∷ []), h.few),
          )
      | else-take w ↦
          let is : c.if-take.takers.items ≡ takers = ap (λ v. v.items) w.takers-is in (
            is ∙ sym (ap (λ b. cond b (takers ++ x ∷ []) takers) w.if-take.false),
            subst (All (Contains lives)) (sym is) h.among,
            omega (arith, ap (λ l. length l) is, h.few),
          )
    ] in
    record {
      taken = taken_more lives i nobody lt (count_in c.loop-life.free) (count_in c.take.new.free) c.take.result h.left c.take.ensures.some c.take.ensures.left takers c.if-take.takers.items h.taken more.0;
      left = left_more lives i nobody lt (count_in c.loop-life.free) (count_in c.take.new.free) c.take.result h.left c.take.ensures.some c.take.ensures.left;
      among = more.1;
      few = more.2;
    }

pub returns-clause-taken : goal.returns-clause-taken
returns-clause-taken c = λ s a.
    c.loop-life.invariant.taken s a
    ∙ ap (λ l. min (count_by (is_born_of s a) l) (count_by (is_freed s a) c.args.lives.now)) (take_all c.loop-life.life-index c.args.lives.now c.loop-life-test.false)
