use Rattle.std.proofs.Common.{◌≡◌, ◌+◌, ◌*◌, ◌≤◌, ◌^◌, arith, ap, sym, ◌∙◌, get_or, pos, rules}
use Rattle.std.specs.Prelude.{unsigned_abs}
use Rattle.std.proofs.lemmas.Int.{to_z-of_z}
use Rattle.std.proofs.Math.Nat.{mul-le-mul}
use mir.Syntax.{w32}
use mir.Val.{SFits}
use Rattle.headroom.proofs.OutputFacts.{weighed_more}
use Rattle.headroom.proofs.outputs.weighed_by.Goals as goal

pub loop-input-preserved : goal.loop-input-preserved
loop-input-preserved c =
    let more = weighed_more c.args.gains.now c.args.bounds.now c.loop-input.input (omega arith) (omega arith) in
    let fits : SFits w32 (get_or c.args.gains.now c.loop-input.input (pos 0)) = search rules in
    let size : c.unsigned_abs.result ≡ unsigned_abs (get_or c.args.gains.now c.loop-input.input (pos 0)) = c.unsigned_abs.ensures.value ∙ ap unsigned_abs (to_z-of_z w32 _ fits) in
    let small : get_or c.args.bounds.now c.loop-input.input 0 ≤ 2 ^ 64 = (let f = c.type_inv.bounds c.loop-input.input in omega arith) in
    let product : c.unsigned_abs.result * get_or c.args.bounds.now c.loop-input.input 0 ≤ 2 ^ 31 * 2 ^ 64 = mul-le-mul c.unsigned_abs.ensures.bound small in
    record {
      value = (λ i. c.loop-input.invariant.value i + size i * get_or c.args.bounds.now c.loop-input.input 0) ∙ sym more;
      small = let s = c.loop-input.invariant.small in omega arith;
    }
