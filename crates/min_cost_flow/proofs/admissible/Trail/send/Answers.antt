use Rattle.std.proofs.Common.{false, length, length-set, subst, ◌∙◌, arith}
use Rattle.min_cost_flow.specs.Search.{potential_of}
use Rattle.min_cost_flow.proofs.AdmissibleFacts.{IsSpread, IsSpread-next, last_of, last_within}
use Rattle.min_cost_flow.proofs.admissible.Trail.send.Goals as goal

pub bounds-flow-index : goal.bounds-flow-index
bounds-flow-index c =
    let h = c.requires.path in
    let arcs = c.args.net.now.arcs in
    let p = potential_of c.args.walks.now.search.numbers.items in
    let total = length c.args.self.now.path.items in
    let s = subst (λ x. IsSpread arcs p c.args.flow.now h.0 h.1 c.args.units total c.loop-index.flow x) c.in-Some.ensures.items (c.loop-index.invariant.spread h.0 h.1 h.2) in
    last_within arcs p c.args.flow.now h.0 h.1 c.args.units total c.loop-index.flow c.pop.new.self.items c.in-Some.index c.requires.each s

pub bounds-flow-index-in-Some : goal.bounds-flow-index-in-Some
bounds-flow-index-in-Some c =
    let h = c.requires.path in
    let arcs = c.args.net.now.arcs in
    let p = potential_of c.args.walks.now.search.numbers.items in
    let total = length c.args.self.now.path.items in
    let s = subst (λ x. IsSpread arcs p c.args.flow.now h.0 h.1 c.args.units total c.loop-index.flow x) c.in-Some.ensures.items (c.loop-index.invariant.spread h.0 h.1 h.2) in
    last_within arcs p c.args.flow.now h.0 h.1 c.args.units total c.loop-index.flow c.pop.new.self.items c.in-Some.index c.requires.each s

pub index-requires : goal.index-requires
index-requires c =
    let h = c.requires.path in
    let s = c.loop-index.invariant.spread h.0 h.1 h.2 in
    let q = last_of c.args.net.now c.args.walks.now c.requires.network c.requires.ready h.0 s.at c.in-Some.index c.loop-index.self.path.items c.pop.new.self.items c.in-Some.ensures.items s.left in
    let l = q.in_edges in
    let len = c.args.walks.now.residual.edges.ok.0 in
    omega (arith, l, len)

pub index_mut-requires : goal.index_mut-requires
index_mut-requires c =
    let h = c.requires.path in
    let s = c.loop-index.invariant.spread h.0 h.1 h.2 in
    let q = last_of c.args.net.now c.args.walks.now c.requires.network c.requires.ready h.0 s.at c.in-Some.index c.loop-index.self.path.items c.pop.new.self.items c.in-Some.ensures.items s.left in
    let is = q.tail_is c.index.result.now c.index.ensures in
    let l = q.inside in
    let each = c.loop-index.invariant.trail.marks_each in
    let len = c.loop-index.self.is_on_path.ok.0 in
    omega (arith, is, l, each, len)

pub loop-index-preserved : goal.loop-index-preserved
loop-index-preserved c =
    let arcs = c.args.net.now.arcs in
    let p = potential_of c.args.walks.now.search.numbers.items in
    let total = length c.args.self.now.path.items in
    let trail = c.loop-index.invariant.trail in
    record {
      trail = record {
        current_each = trail.current_each;
        marks_each = length-set c.loop-index.self.is_on_path.items c.index.result.now.tail false ∙ trail.marks_each;
        current = trail.current;
      };
      spread = λ from to h.
          let s = subst (λ x. IsSpread arcs p c.args.flow.now from to c.args.units total c.loop-index.flow x) c.in-Some.ensures.items (c.loop-index.invariant.spread from to h) in
          IsSpread-next arcs p c.args.flow.now from to c.args.units total c.loop-index.flow c.pop.new.self.items c.in-Some.index c.requires.each s;
    }
