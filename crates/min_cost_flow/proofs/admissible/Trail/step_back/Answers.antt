use Rattle.std.proofs.Common.{false, length-set, sym, subst, ◌∙◌, arith}
use Rattle.shortest_paths.proofs.WalkLaws.{some_same}
use Rattle.min_cost_flow.specs.Search.{potential_of}
use Rattle.min_cost_flow.specs.Admissible.{IsAdmissiblePath, LeavesAt}
use Rattle.min_cost_flow.proofs.AdmissibleFacts.{last_of, leaves_older, current_set}
use Rattle.min_cost_flow.proofs.admissible.Trail.step_back.Goals as goal

pub index-requires : goal.index-requires
index-requires c =
    let h = c.requires.path in
    let q = last_of c.args.net.now c.args.walks.now c.requires.network c.requires.ready h.0 c.args.at c.in_ok-index.index c.args.self.now.path.items c.pop.new.self.items c.in_ok-index.ensures.items h.1 in
    let l = q.in_edges in
    let len = c.args.walks.now.residual.edges.ok.0 in
    omega (arith, l, len)

pub older-requires : goal.older-requires
older-requires c =
    let h = c.requires.path in
    let q = last_of c.args.net.now c.args.walks.now c.requires.network c.requires.ready h.0 c.args.at c.in_ok-index.index c.args.self.now.path.items c.pop.new.self.items c.in_ok-index.ensures.items h.1 in
    let l = q.in_edges in
    let len = c.requires.ready.2.leaving.older_each in
    record { index = omega (arith, l, len) }

pub index_mut-requires-2 : goal.index_mut-requires-2
index_mut-requires-2 c =
    let h = c.requires.path in
    let q = last_of c.args.net.now c.args.walks.now c.requires.network c.requires.ready h.0 c.args.at c.in_ok-index.index c.args.self.now.path.items c.pop.new.self.items c.in_ok-index.ensures.items h.1 in
    let is = q.tail_is c.index.result.now c.index.ensures in
    let l = q.inside in
    let each = c.requires.trail.current_each in
    let len = c.args.self.now.current.ok.0 in
    omega (arith, is, l, each, len)

pub returns-clause-trail : goal.returns-clause-trail
returns-clause-trail c =
    let h = c.requires.path in
    let w = c.args.walks.now in
    let t = c.args.self.now in
    let k = c.in_ok-index.index in
    let e = c.index.result.now in
    let edges = w.residual.edges.items in
    let q = last_of c.args.net.now w c.requires.network c.requires.ready h.0 c.args.at k t.path.items c.pop.new.self.items c.in_ok-index.ensures.items h.1 in
    let is = q.tail_is e c.index.ensures in
    let l = q.inside in
    let each = c.requires.trail.current_each in
    record {
      current_each = length-set t.current.items e.tail c.older.result ∙ each;
      marks_each = length-set t.is_on_path.items c.args.at false ∙ c.requires.trail.marks_each;
      current = current_set edges t.current.items e.tail c.older.result (omega (arith, is, l, each)) c.requires.trail.current
          (λ j named. subst (λ x. LeavesAt edges x j) (sym is) (leaves_older c.args.net.now.points edges w.leaving q.tail k j c.requires.ready.2.leaving q.leaves (sym c.older.ensures ∙ named)).0);
    }

pub returns-clause-inside : goal.returns-clause-inside
returns-clause-inside c to named =
    let h = c.requires.path in
    let q = last_of c.args.net.now c.args.walks.now c.requires.network c.requires.ready h.0 c.args.at c.in_ok-index.index c.args.self.now.path.items c.pop.new.self.items c.in_ok-index.ensures.items h.1 in
    let is = q.tail_is c.index.result.now c.index.ensures in
    let l = q.inside in
    let same = some_same c.index.result.now.tail to named in
    omega (arith, is, l, same)

pub returns-clause-path : goal.returns-clause-path
returns-clause-path c from to named h =
    let net = c.args.net.now in
    let w = c.args.walks.now in
    let rest = c.pop.new.self.items in
    let q = last_of net w c.requires.network c.requires.ready from c.args.at c.in_ok-index.index c.args.self.now.path.items rest c.in_ok-index.ensures.items h in
    subst (λ x. IsAdmissiblePath net.arcs (potential_of w.search.numbers.items) from rest x) (sym (q.tail_is c.index.result.now c.index.ensures) ∙ some_same c.index.result.now.tail to named) q.left
