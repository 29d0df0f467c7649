use Rattle.std.proofs.Common.{◌≡◌, ℕ, ◌-◌, ◌<◌, ◌≤◌, List, pos, Some, length, slice_index_or, slice_index, cond, nat_eq, true, false, ap, ◌∙◌, arith, slice_get}
use Rattle.std.proofs.lemmas.Option.{slice_get-get_or}
use Rattle.std.proofs.lemmas.Bool.Decides.{nat_tests}
use Rattle.shortest_paths.specs.declared.edges.Edge.{Edge}
use Rattle.shortest_paths.specs.Usable.{limited, usable, loop_at}
use Rattle.shortest_paths.proofs.UsableLaws.{usable_free, usable_limited}
use Rattle.shortest_paths.proofs.heap.usable_edge.Goals as goal

pub returns-then-index-free : goal.returns-then-index-free
returns-then-index-free c =
    let edges = c.args.edges.now in
    let limits = c.args.limits.now in
    let at = slice_get-get_or edges c.args.index (record { tail = 0; head = 0; cost = pos 0 }) c.requires.index in
    usable_free (length edges - length limits) edges limits c.args.index _ c.if-index-free.true at

limited_here : (edges : List Edge) (limits : List ℕ) (k : ℕ) (d : Edge) → length limits ≤ length edges → k < length edges → length edges - length limits ≤ k →
    slice_get (usable edges limits) k ≡ Some (limited (slice_index limits (k - (length edges - length limits))) (slice_index_or edges k d))
limited_here edges limits k d le l ge =
    let n = length edges - length limits in
    usable_limited n edges limits k (k - n) (slice_index_or edges k d) (omega arith) (omega arith) (slice_get-get_or edges k d l)

test_zero : (n : ℕ) → n ≡ 0 → nat_eq n 0 ≡ true
test_zero n e = grind (arith, nat_tests)

test_some : (n : ℕ) → 0 < n → nat_eq n 0 ≡ false
test_some n e = grind (arith, nat_tests)

pub returns-then-limits-index-gt0 : goal.returns-then-limits-index-gt0
returns-then-limits-index-gt0 c =
    let edges = c.args.edges.now in
    let limits = c.args.limits.now in
    let h = limited_here edges limits c.args.index (record { tail = 0; head = 0; cost = pos 0 }) c.requires.limits c.requires.index (let t = c.if-index-free.false in omega arith) in
    let some = c.if-limits-index-gt0.true in
    h ∙ ap (λ b. Some (cond b (loop_at (slice_index_or edges c.args.index (record { tail = 0; head = 0; cost = pos 0 }))) (slice_index_or edges c.args.index (record { tail = 0; head = 0; cost = pos 0 })))) (test_some _ some)

pub returns-else-limits-index-gt0 : goal.returns-else-limits-index-gt0
returns-else-limits-index-gt0 c =
    let edges = c.args.edges.now in
    let limits = c.args.limits.now in
    let h = limited_here edges limits c.args.index (record { tail = 0; head = 0; cost = pos 0 }) c.requires.limits c.requires.index (let t = c.if-index-free.false in omega arith) in
    let none = c.if-limits-index-gt0.false in
    h ∙ ap (λ b. Some (cond b (loop_at (slice_index_or edges c.args.index (record { tail = 0; head = 0; cost = pos 0 }))) (slice_index_or edges c.args.index (record { tail = 0; head = 0; cost = pos 0 })))) (test_zero _ (omega arith))
