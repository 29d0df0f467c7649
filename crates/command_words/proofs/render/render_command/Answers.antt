use Rattle.std.proofs.lemmas.Result.{IfOk-weaker}
use Rattle.command_words.proofs.TakenLaws.{adds}
use Rattle.command_words.proofs.render.render_command.Goals as goal

pub returns : goal.returns
returns c =
    let e1 = adds _ c.in_ok-arg.field-0 _ _ _ c.in_ok-arg.ensures c.positional.ensures.local c.new.ensures.app c.positional.ensures.rule in
    let e2 = adds _ c.in_ok-arg-2.field-0 _ _ _ c.in_ok-arg-2.ensures c.positional-2.ensures.local e1 c.positional-2.ensures.rule in
    let e3 = adds _ c.in_ok-arg-3.field-0 _ _ _ c.in_ok-arg-3.ensures c.positional-3.ensures.local e2 c.positional-3.ensures.rule in
    let e4 = adds _ c.in_ok-arg-4.field-0 _ _ _ c.in_ok-arg-4.ensures c.option.ensures.local e3 c.option.ensures.rule in
    let e5 = adds _ c.in_ok-arg-5.field-0 _ _ _ c.in_ok-arg-5.ensures c.option-2.ensures.local e4 c.option-2.ensures.rule in
    let e6 = adds _ c.in_ok-arg-6.field-0 _ _ _ c.in_ok-arg-6.ensures c.option-3.ensures.local e5 c.option-3.ensures.rule in
    let e7 = adds _ c.in_ok-arg-7.field-0 _ _ _ c.in_ok-arg-7.ensures c.flag.ensures.local e6 c.flag.ensures.rule in
    let e8 = adds _ c.in_ok-arg-8.field-0 _ _ _ c.in_ok-arg-8.ensures c.flag-2.ensures.local e7 c.flag-2.ensures.rule in
    IfOk-weaker c.arg-9.result _ _ (λ made h. adds _ made _ _ _ h c.option-4.ensures.local e8 c.option-4.ensures.rule) c.arg-9.ensures
