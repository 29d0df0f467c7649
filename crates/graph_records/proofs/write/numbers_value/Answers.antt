use Rattle.std.proofs.Common.{◌≡◌, ◌∙◌, ◌∷◌, ◌++◌, [], get_or, pos, rules, to_z, of_z, w32, FitsSigned}
use Rattle.std.proofs.lemmas.Int.{to_z-of_z}
use Rattle.std.proofs.lemmas.List.{get_or_default}
use Rattle.serde_json.proofs.Views.{view-Array}
use Rattle.graph_records.specs.Typed.{IsI32}
use Rattle.graph_records.specs.Written.{signed_data}
use Rattle.graph_records.proofs.WrittenListFacts.{all_written, is_i32, more_hold, more_written}
use Rattle.graph_records.proofs.write.numbers_value.Goals as goal

pub loop-number-preserved : goal.loop-number-preserved
loop-number-preserved c =
    let x = get_or c.args.numbers.now c.loop-number.number-index (pos 0) in
    let here : x ≡ get_or c.args.numbers.now c.loop-number.number-index x = get_or_default _ _ _ _ c.loop-number-test.true in
    let fits : FitsSigned w32 x = search rules in
    let back : to_z w32 (of_z w32 x) ≡ x = to_z-of_z w32 x fits in
    let grown : c.push.new.self.items ≡ c.loop-number.values.items ++ c.from.result ∷ [] = c.in_ok-push.ensures.items in
    record {
      written = rw grown (more_written signed_data c.args.numbers.now c.loop-number.number-index x c.loop-number.values.items c.from.result
          c.loop-number.invariant.written c.loop-number-test.true here (rw back at c.from.ensures));
      typed = more_hold IsI32 c.args.numbers.now c.loop-number.number-index x c.loop-number.invariant.typed c.loop-number-test.true here (is_i32 x fits);
    }

pub returns-clause-value : goal.returns-clause-value
returns-clause-value c =
    view-Array c.loop-number.values ∙ all_written signed_data c.args.numbers.now c.loop-number.number-index c.loop-number.values.items c.loop-number.invariant.written c.loop-number-test.false
