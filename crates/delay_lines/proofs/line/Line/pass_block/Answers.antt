use Rattle.std.proofs.Common.{◌≡◌, ◌++◌, ◌-◌, List, length, drop, min, ℤ, ℕ, ap, ◌∙◌}
use Rattle.circular_buffer.specs.Buffer.{Buffer}
use Rattle.delay_lines.proofs.PassedFacts.{passed_all}
use Rattle.delay_lines.proofs.line.Line.pass_block.Goals as goal

pub returns-clause-passed : goal.returns-clause-passed
returns-clause-passed c =
    let h : ℕ = c.min-held.result in
    let items : List ℤ = c.self.inside.held.items in
    let from : List ℤ = c.args.from.now in
    let kept : c.extend_from_slice.new.self.items
    ≡ drop (length (drop c.read_into.result items ++ c.split_at.result.1.now) - c.self.inside.held.capacity) (drop c.read_into.result items ++ c.split_at.result.1.now)
    = rw c.read_into.ensures.items at (ap (λ (b : Buffer ℤ). b.items) c.extend_from_slice.ensures) in
    passed_all items from c.args.into.now c.read_into.new.dst c.copy_from_slice.new.self c.split_at.result.1.now c.extend_from_slice.new.self.items h c.read_into.result
    c.self.inside.held.capacity c.self.invariant (c.min-held.ensures ∙ ap (λ n. min (length from) n) c.len.ensures.len) c.requires c.read_into.ensures.count
    c.read_into.ensures.read (c.copy_from_slice.ensures.after ∙ c.split_at.ensures.front) c.split_at.ensures.back kept
    ∙ ap (λ (zs : List ℤ). zs ++ from) c.self.view_is
