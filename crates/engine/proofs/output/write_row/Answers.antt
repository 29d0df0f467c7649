use Rattle.std.proofs.Common.{rules, ◌≡◌, ℕ, suc, ◌+◌, ◌-◌, ◌*◌, List, ℤ, pos, length, get_or, sym, ◌∙◌, subst, w64, FitsSigned, to_z, of_z, add-one}
use Rattle.std.specs.Prelude.{slice_set}
use Rattle.std.proofs.lemmas.Int.{to_z-of_z}
use Rattle.engine.proofs.WrittenFacts.{WritingRow, row_more}
use Rattle.engine.proofs.output.write_row.Goals as goal

pub loop-k-preserved : goal.loop-k-preserved
loop-k-preserved c =
    let line : List ℤ = c.args.line.now in
    let n : ℕ = c.args.frames in
    let k : ℕ = c.loop-k.k in
    let place : ℕ = k * c.args.channels + c.args.channel in
    let fits : FitsSigned w64 c.before-in-loop-k.result = search rules in
    let value : to_z w64 (of_z w64 c.before-in-loop-k.result) ≡ get_or line (length line - (n - k)) (pos 0)
    = to_z-of_z w64 c.before-in-loop-k.result fits ∙ c.before-in-loop-k.ensures in
    subst (λ j. WritingRow line n c.args.channel c.args.channels c.args.output.now j (slice_set c.loop-k.output place (to_z w64 (of_z w64 c.before-in-loop-k.result)))) (sym (add-one k))
    (subst (λ (y : ℤ). WritingRow line n c.args.channel c.args.channels c.args.output.now (suc k) (slice_set c.loop-k.output place y)) (sym value)
    (row_more line n c.args.channel c.args.channels c.args.output.now k c.loop-k.output c.loop-k.invariant c.requires.channel c.loop-k-test.true c.requires.held c.requires.room))
