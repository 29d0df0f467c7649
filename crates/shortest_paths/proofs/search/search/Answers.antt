use Rattle.std.proofs.Common.{pos, Some, None, sym, ◌∙◌, subst, set}
use Rattle.shortest_paths.specs.Search.{IsSearched, AreSettled}
use Rattle.shortest_paths.proofs.RoundFacts.{searched_first, written_back}
use Rattle.shortest_paths.proofs.search.search.Goals as goal

pub loop-init : goal.loop-init
loop-init c =
    let items = c.in_ok-best.ensures.items in
    record {
      points = c.in_ok-best.ensures.len;
      searched = subst (λ x. IsSearched c.args.edges.now c.args.from (set x c.args.from (Some (record { cost = pos 0; last = None })))) (sym items)
          (searched_first c.args.edges.now c.args.points c.args.from c.requires.start);
    }

pub loop-preserved : goal.loop-preserved
loop-preserved c =
    let inv = c.loop.invariant in
    let back = written_back c.loop.best.len c.relax_all.new.best c.loop.best.items (c.relax_all.auto.best ∙ c.deref_mut.ensures.len) in
    record {
      points = inv.points;
      searched = subst (λ x. IsSearched c.args.edges.now c.args.from x) (sym back)
          (c.relax_all.ensures.kept c.args.from (subst (λ x. IsSearched c.args.edges.now c.args.from x) (sym c.deref_mut.ensures.value) inv.searched));
    }

pub returns-clause-searched : goal.returns-clause-searched
returns-clause-searched c =
    let inv = c.loop.invariant in
    let back = written_back c.loop.best.len c.relax_all.new.best c.loop.best.items (c.relax_all.auto.best ∙ c.deref_mut.ensures.len) in
    subst (λ x. IsSearched c.args.edges.now c.args.from x) (sym back)
    (c.relax_all.ensures.kept c.args.from (subst (λ x. IsSearched c.args.edges.now c.args.from x) (sym c.deref_mut.ensures.value) inv.searched))

pub returns-clause-settled : goal.returns-clause-settled
returns-clause-settled c =
    let back = written_back c.loop.best.len c.relax_all.new.best c.loop.best.items (c.relax_all.auto.best ∙ c.deref_mut.ensures.len) in
    subst (λ x. AreSettled x c.args.edges.now) (sym back) (c.relax_all.ensures.settled c.loop-test.false)
