-- Sorted reads ascend by (uid, channel).
use Rattle.std.proofs.Common.{◌≡◌, List, AllPairs, true, false, get_or, sym, ◌∙◌, ⊎_elim, arith, Ordering, nat_cmp}
use Rattle.std.specs.Cmp.{IsTotalOrder}
use Rattle.std.specs.List.Sorted.{IsSorted}
use Rattle.std.specs.Ordering.{is_lt, ordering_then}
use Rattle.std.proofs.lemmas.Bool.{true≢false, eq-eqb, le-ltb, lt-ltb}
use Rattle.std.proofs.lemmas.List.Sorted.{ranks_by, sorted_far}
use Rattle.lifetimes.specs.Reads.{ReadBefore}
use Rattle.lifetimes.specs.declared.reads.Read.{Read}

-- by all members in their order
abbrev pub read_order : Read → Read → Ordering
read_order x y =
    ordering_then (nat_cmp x.uid.0 y.uid.0)
    (ordering_then (nat_cmp x.channel y.channel)
    (ordering_then (nat_cmp x.born y.born) (ordering_then (nat_cmp x.reader.0 y.reader.0) (nat_cmp x.wave y.wave))))

not_before : (r q : Read) → is_lt (read_order q r) ≡ false → ¬ ReadBefore q r
not_before r q h b =
    ⊎_elim
    (λ lt. let less : is_lt (read_order q r) ≡ true = rw (lt-ltb q.uid.0 r.uid.0 lt) in true≢false (sym less ∙ h))
    (λ e. let less : is_lt (read_order q r) ≡ true = rw (le-ltb q.uid.0 r.uid.0 (omega (arith, e.0)), eq-eqb q.uid.0 r.uid.0 e.0, lt-ltb q.channel r.channel e.1) in true≢false (sym less ∙ h))
    b

pub reads_ascend : IsTotalOrder read_order → (reads : List Read) → IsSorted read_order reads → AllPairs (λ r q. ¬ ReadBefore q r) reads
reads_ascend total reads up = λ i j d l lj.
    not_before (get_or reads i d) (get_or reads j d)
    (sorted_far (λ x y. is_lt (read_order x y)) (ranks_by total (λ (x : Read). x)) reads up i j d (omega arith) lj)
