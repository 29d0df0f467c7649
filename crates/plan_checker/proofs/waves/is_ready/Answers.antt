use Rattle.std.proofs.Common.{◌≡◌, ◌==◌, ◌∙◌, get_or, ap, sym, subst, true, false, Contains, MatchBool}
use Rattle.std.specs.List.{list_any, flat_map}
use Rattle.std.proofs.lemmas.Option.{slice_get-get_or}
use Rattle.graph_model.specs.declared.graph.Connection.{Connection}
use Rattle.graph_model.specs.declared.graph.Graph.{Graph}
use Rattle.plan_model.specs.Schedules.{names}
use Rattle.plan_checker.proofs.SameTestFacts.{same_test}
use Rattle.plan_checker.proofs.WaveFacts.{ready_beside, ready_idle, ready_from, comes_from}
use Rattle.plan_checker.proofs.waves.is_ready.Goals as goal

abbrev any : Connection
any = record { src = record { 0 = 0 }; src_channel = 0; dst = record { 0 = 0 }; dst_channel = 0 }

pub returns-then-not-has : goal.returns-then-not-has
returns-then-not-has c =
    let g = c.args.g.now in
    let nodes = c.args.nodes.now in
    let k = c.args.connection in
    let all : c.as_slice.result.now ≡ g.connections = c.as_slice.ensures ∙ ap (λ (h : Graph). h.connections) c.graph.ensures.same in
    let none : list_any (λ u. u.0 == (get_or g.connections k any).dst.0) nodes ≡ false =
    ap (λ cs. list_any (λ u. u.0 == (get_or cs k any).dst.0) nodes) (sym all) ∙ sym c.has.ensures ∙ c.if-not-has.true in
    ready_beside g c.args.before.now nodes k (get_or g.connections k any) (slice_get-get_or g.connections k any c.requires) none

pub returns-then-not-leads_to_live : goal.returns-then-not-leads_to_live
returns-then-not-leads_to_live c =
    let g = c.args.g.now in
    let k = c.args.connection in
    ready_idle g c.args.before.now c.args.nodes.now k (get_or g.connections k any) (slice_get-get_or g.connections k any c.requires)
    (sym (c.leads_to_live.ensures any) ∙ c.if-not-leads_to_live.true)

pub returns : goal.returns
returns c =
    let g = c.args.g.now in
    let nodes = c.args.nodes.now in
    let k = c.args.connection in
    let at = slice_get-get_or g.connections k any c.requires in
    let all : c.as_slice.result.now ≡ g.connections = c.as_slice.ensures ∙ ap (λ (h : Graph). h.connections) c.graph.ensures.same in
    let into : list_any (λ u. u.0 == (get_or g.connections k any).dst.0) nodes ≡ true =
    ap (λ cs. list_any (λ u. u.0 == (get_or cs k any).dst.0) nodes) (sym all) ∙ sym c.has.ensures ∙ c.if-not-has.false in
    same_test c.stands.result
    (subst (λ cs. MatchBool c.stands.result (Contains (flat_map names c.args.before.now) (get_or cs k any).src.0) (Contains (flat_map names c.args.before.now) (get_or cs k any).src.0 → ⊥))
    all c.stands.ensures)
    (ready_from g c.args.before.now nodes k (get_or g.connections k any) at)
    (comes_from g c.args.before.now nodes k (get_or g.connections k any) at into (sym (c.leads_to_live.ensures any) ∙ c.if-not-leads_to_live.false))
