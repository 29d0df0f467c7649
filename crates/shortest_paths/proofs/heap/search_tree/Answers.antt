use Rattle.std.proofs.Common.{◌^◌, length, sym, subst, ◌∙◌, arith}
use Rattle.std.specs.BinaryHeap.{heap_items}
use Rattle.shortest_paths.specs.Walks.{IsWithin}
use Rattle.shortest_paths.specs.Search.{IsSearched}
use Rattle.shortest_paths.specs.Usable.{usable}
use Rattle.shortest_paths.specs.Nearest.{AllWait, IsCut}
use Rattle.shortest_paths.proofs.EndFacts.{found_within}
use Rattle.shortest_paths.proofs.RoundFacts.{searched_first}
use Rattle.shortest_paths.proofs.WaitFacts.{waits_first}
use Rattle.shortest_paths.proofs.CutLaws.{permits_new, start_new, ends_new, tree_new}
use Rattle.shortest_paths.proofs.StopFacts.{read_limit, stop_far, stop_small, stop_reached}
use Rattle.shortest_paths.proofs.heap.search_tree.Goals as goal

pub settle-requires-clause-searched : goal.settle-requires-clause-searched
settle-requires-clause-searched c =
    let edges = usable c.args.edges.now c.args.limits.now in
    (c.args.from, subst (λ b. IsSearched edges c.args.from b) (sym c.in_ok-begin.ensures.best) (searched_first edges (length c.args.best.now) c.args.from c.requires.start))

pub settle-requires-clause-waits : goal.settle-requires-clause-waits
settle-requires-clause-waits c =
    let edges = usable c.args.edges.now c.args.limits.now in
    subst (λ b. AllWait b c.args.numbers.now (heap_items c.begin.new.waiting) edges) (sym c.in_ok-begin.ensures.best)
    (waits_first edges c.args.numbers.now (length c.args.best.now) c.args.from (heap_items c.begin.new.waiting) c.requires.start c.in_ok-begin.ensures.waits)

pub cut-requires-clause-limit : goal.cut-requires-clause-limit
cut-requires-clause-limit c =
    let edges = usable c.args.edges.now c.args.limits.now in
    let n = length c.args.best.now in
    let len = c.settle.auto.best ∙ c.begin.auto.best in
    let s = c.in_ok-stop.ensures.kept c.args.from (subst (λ b. IsSearched edges c.args.from b) (sym c.in_ok-begin.ensures.best) (searched_first edges n c.args.from c.requires.start)) in
    let within = stop_small edges n c.args.from c.settle.new.best c.args.numbers.now c.args.wanted.now c.in_ok-stop.stop.limit c.requires.points len c.requires.ends c.requires.costs s c.requires.small c.requires.permits c.in_ok-stop.stop.point c.in_ok-stop.ensures.stop in
    subst (λ z. IsWithin (2 ^ 62) z) (sym (read_limit c.in_ok-stop.stop.limit within)) within

pub returns-clause-permits : goal.returns-clause-permits
returns-clause-permits c =
    let edges = usable c.args.edges.now c.args.limits.now in
    let n = length c.args.best.now in
    let len = c.settle.auto.best ∙ c.begin.auto.best in
    let s = c.in_ok-stop.ensures.kept c.args.from (subst (λ b. IsSearched edges c.args.from b) (sym c.in_ok-begin.ensures.best) (searched_first edges n c.args.from c.requires.start)) in
    let stop = c.in_ok-stop.stop in
    let within = stop_small edges n c.args.from c.settle.new.best c.args.numbers.now c.args.wanted.now stop.limit c.requires.points len c.requires.ends c.requires.costs s c.requires.small c.requires.permits stop.point c.in_ok-stop.ensures.stop in
    let far = stop_far edges n c.args.from c.settle.new.best c.args.numbers.now c.args.wanted.now stop.limit c.requires.points len c.requires.ends c.requires.costs s c.requires.small c.requires.permits stop.point c.in_ok-stop.ensures.stop in
    let cut = subst (λ z. IsCut c.settle.new.best z c.args.numbers.now c.cut.new.numbers c.cut.new.last) (read_limit stop.limit within) c.cut.ensures in
    let len_last = c.cut.auto.last ∙ c.requires.lasts in
    permits_new edges n c.args.from c.settle.new.best stop.limit c.args.numbers.now c.cut.new.numbers c.cut.new.last len len_last c.requires.start c.requires.ends s c.requires.permits c.in_ok-stop.ensures.settled far cut

pub returns-clause-start : goal.returns-clause-start
returns-clause-start c =
    let edges = usable c.args.edges.now c.args.limits.now in
    let n = length c.args.best.now in
    let len = c.settle.auto.best ∙ c.begin.auto.best in
    let s = c.in_ok-stop.ensures.kept c.args.from (subst (λ b. IsSearched edges c.args.from b) (sym c.in_ok-begin.ensures.best) (searched_first edges n c.args.from c.requires.start)) in
    let stop = c.in_ok-stop.stop in
    let within = stop_small edges n c.args.from c.settle.new.best c.args.numbers.now c.args.wanted.now stop.limit c.requires.points len c.requires.ends c.requires.costs s c.requires.small c.requires.permits stop.point c.in_ok-stop.ensures.stop in
    let far = stop_far edges n c.args.from c.settle.new.best c.args.numbers.now c.args.wanted.now stop.limit c.requires.points len c.requires.ends c.requires.costs s c.requires.small c.requires.permits stop.point c.in_ok-stop.ensures.stop in
    let cut = subst (λ z. IsCut c.settle.new.best z c.args.numbers.now c.cut.new.numbers c.cut.new.last) (read_limit stop.limit within) c.cut.ensures in
    let len_last = c.cut.auto.last ∙ c.requires.lasts in
    (start_new edges n c.args.from c.settle.new.best stop.limit c.args.numbers.now c.cut.new.numbers c.cut.new.last len len_last c.requires.start c.requires.ends s c.requires.permits c.in_ok-stop.ensures.settled far cut).0

pub returns-clause-none_at_from : goal.returns-clause-none_at_from
returns-clause-none_at_from c =
    let edges = usable c.args.edges.now c.args.limits.now in
    let n = length c.args.best.now in
    let len = c.settle.auto.best ∙ c.begin.auto.best in
    let s = c.in_ok-stop.ensures.kept c.args.from (subst (λ b. IsSearched edges c.args.from b) (sym c.in_ok-begin.ensures.best) (searched_first edges n c.args.from c.requires.start)) in
    let stop = c.in_ok-stop.stop in
    let within = stop_small edges n c.args.from c.settle.new.best c.args.numbers.now c.args.wanted.now stop.limit c.requires.points len c.requires.ends c.requires.costs s c.requires.small c.requires.permits stop.point c.in_ok-stop.ensures.stop in
    let far = stop_far edges n c.args.from c.settle.new.best c.args.numbers.now c.args.wanted.now stop.limit c.requires.points len c.requires.ends c.requires.costs s c.requires.small c.requires.permits stop.point c.in_ok-stop.ensures.stop in
    let cut = subst (λ z. IsCut c.settle.new.best z c.args.numbers.now c.cut.new.numbers c.cut.new.last) (read_limit stop.limit within) c.cut.ensures in
    let len_last = c.cut.auto.last ∙ c.requires.lasts in
    (start_new edges n c.args.from c.settle.new.best stop.limit c.args.numbers.now c.cut.new.numbers c.cut.new.last len len_last c.requires.start c.requires.ends s c.requires.permits c.in_ok-stop.ensures.settled far cut).1

pub returns-clause-last : goal.returns-clause-last
returns-clause-last c =
    let edges = usable c.args.edges.now c.args.limits.now in
    let n = length c.args.best.now in
    let len = c.settle.auto.best ∙ c.begin.auto.best in
    let s = c.in_ok-stop.ensures.kept c.args.from (subst (λ b. IsSearched edges c.args.from b) (sym c.in_ok-begin.ensures.best) (searched_first edges n c.args.from c.requires.start)) in
    let stop = c.in_ok-stop.stop in
    let within = stop_small edges n c.args.from c.settle.new.best c.args.numbers.now c.args.wanted.now stop.limit c.requires.points len c.requires.ends c.requires.costs s c.requires.small c.requires.permits stop.point c.in_ok-stop.ensures.stop in
    let far = stop_far edges n c.args.from c.settle.new.best c.args.numbers.now c.args.wanted.now stop.limit c.requires.points len c.requires.ends c.requires.costs s c.requires.small c.requires.permits stop.point c.in_ok-stop.ensures.stop in
    let cut = subst (λ z. IsCut c.settle.new.best z c.args.numbers.now c.cut.new.numbers c.cut.new.last) (read_limit stop.limit within) c.cut.ensures in
    let len_last = c.cut.auto.last ∙ c.requires.lasts in
    ends_new edges n c.args.from c.settle.new.best stop.limit c.args.numbers.now c.cut.new.numbers c.cut.new.last len len_last c.requires.start c.requires.ends s c.requires.permits c.in_ok-stop.ensures.settled far cut

pub returns-clause-tree : goal.returns-clause-tree
returns-clause-tree c =
    let edges = usable c.args.edges.now c.args.limits.now in
    let n = length c.args.best.now in
    let len = c.settle.auto.best ∙ c.begin.auto.best in
    let s = c.in_ok-stop.ensures.kept c.args.from (subst (λ b. IsSearched edges c.args.from b) (sym c.in_ok-begin.ensures.best) (searched_first edges n c.args.from c.requires.start)) in
    let stop = c.in_ok-stop.stop in
    let within = stop_small edges n c.args.from c.settle.new.best c.args.numbers.now c.args.wanted.now stop.limit c.requires.points len c.requires.ends c.requires.costs s c.requires.small c.requires.permits stop.point c.in_ok-stop.ensures.stop in
    let far = stop_far edges n c.args.from c.settle.new.best c.args.numbers.now c.args.wanted.now stop.limit c.requires.points len c.requires.ends c.requires.costs s c.requires.small c.requires.permits stop.point c.in_ok-stop.ensures.stop in
    let cut = subst (λ z. IsCut c.settle.new.best z c.args.numbers.now c.cut.new.numbers c.cut.new.last) (read_limit stop.limit within) c.cut.ensures in
    let len_last = c.cut.auto.last ∙ c.requires.lasts in
    tree_new edges n c.args.from c.settle.new.best stop.limit c.args.numbers.now c.cut.new.numbers c.cut.new.last len len_last c.requires.start c.requires.ends s c.requires.permits c.in_ok-stop.ensures.settled far cut

pub returns-clause-stop : goal.returns-clause-stop
returns-clause-stop c =
    let edges = usable c.args.edges.now c.args.limits.now in
    let n = length c.args.best.now in
    let len = c.settle.auto.best ∙ c.begin.auto.best in
    let s = c.in_ok-stop.ensures.kept c.args.from (subst (λ b. IsSearched edges c.args.from b) (sym c.in_ok-begin.ensures.best) (searched_first edges n c.args.from c.requires.start)) in
    let stop = c.in_ok-stop.stop in
    let within = stop_small edges n c.args.from c.settle.new.best c.args.numbers.now c.args.wanted.now stop.limit c.requires.points len c.requires.ends c.requires.costs s c.requires.small c.requires.permits stop.point c.in_ok-stop.ensures.stop in
    let far = stop_far edges n c.args.from c.settle.new.best c.args.numbers.now c.args.wanted.now stop.limit c.requires.points len c.requires.ends c.requires.costs s c.requires.small c.requires.permits stop.point c.in_ok-stop.ensures.stop in
    let cut = subst (λ z. IsCut c.settle.new.best z c.args.numbers.now c.cut.new.numbers c.cut.new.last) (read_limit stop.limit within) c.cut.ensures in
    let len_last = c.cut.auto.last ∙ c.requires.lasts in
    stop_reached edges n c.args.from c.settle.new.best c.args.numbers.now c.args.wanted.now stop.limit c.requires.points len c.requires.ends c.requires.costs s c.requires.small c.requires.permits
    c.cut.new.numbers c.cut.new.last len_last c.requires.start c.in_ok-stop.ensures.settled cut stop.point c.in_ok-stop.ensures.stop c.requires.reached

pub cut-requires-clause-bounded : goal.cut-requires-clause-bounded
cut-requires-clause-bounded c v b l f =
    let edges = usable c.args.edges.now c.args.limits.now in
    let n = length c.args.best.now in
    let len = c.settle.auto.best ∙ c.begin.auto.best in
    let s = c.in_ok-stop.ensures.kept c.args.from (subst (λ b. IsSearched edges c.args.from b) (sym c.in_ok-begin.ensures.best) (searched_first edges n c.args.from c.requires.start)) in
    found_within edges n c.args.from c.settle.new.best v b c.requires.points c.requires.ends c.requires.costs s (omega (arith, l, len)) f
