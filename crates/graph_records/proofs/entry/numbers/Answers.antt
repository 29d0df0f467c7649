use Rattle.std.proofs.Common.{◌≡◌, ◌∷◌, ◌++◌, [], ◌∙◌, sym, ap, rules, ℕ, to_z, of_z, w32}
use Rattle.std.proofs.lemmas.Int.{ints}
use Rattle.serde_json.specs.Data.{Data}
use Rattle.serde_json.specs.View.{view}
use Rattle.graph_records.specs.Numbers.{signed_in, whole_of}
use Rattle.graph_records.proofs.ListFacts.{read_none, read_more, read_fails, read_all, gives_fault}
use Rattle.graph_records.proofs.entry.numbers.Goals as goal

pub loop-value-init : goal.loop-value-init
loop-value-init c = rw c.new-numbers.ensures (read_none _ view c.args.values.now)

pub loop-value-preserved : goal.loop-value-preserved
loop-value-preserved c =
    let back : to_z w32 (of_z w32 c.in_ok-number.number) ≡ c.in_ok-number.number = search (rules, ints) in
    let grown : c.push.new.self ≡ c.loop-value.numbers ++ to_z w32 (of_z w32 c.in_ok-number.number) ∷ [] = search rules in
    rw (grown, back) (read_more _ view c.args.values.now c.loop-value.value-index c.value-item.result c.loop-value.numbers _
    c.loop-value.invariant c.loop-value-test.true c.value-item.is (sym (ap (signed_in c.args.place) c.whole.ensures) ∙ sym c.in_ok-number.ensures))

pub returns-in_err-number : goal.returns-in_err-number
returns-in_err-number c =
    gives_fault _ c.in_err-number.field-0.0 c.from_residual.result
    (read_fails (λ (i : ℕ) (d : Data). signed_in c.args.place (whole_of d)) view c.args.values.now c.loop-value.value-index c.value-item.result c.loop-value.numbers c.in_err-number.field-0.0
    c.loop-value.invariant c.loop-value-test.true c.value-item.is (sym (ap (signed_in c.args.place) c.whole.ensures) ∙ sym c.in_err-number.ensures))
    c.from_residual.ensures.1

pub returns : goal.returns
returns c = read_all _ view c.args.values.now c.loop-value.value-index c.loop-value.numbers c.loop-value.invariant c.loop-value-test.false
