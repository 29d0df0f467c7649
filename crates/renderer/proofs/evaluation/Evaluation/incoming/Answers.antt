use Rattle.std.proofs.Common.{◌≡◌, ◌≤◌, ◌*◌, ◌+◌, ◌^◌, get_or, Vec, Global, ℤ, length, replicate, pos, sym, ◌∙◌, ap, subst, arith}
use Rattle.std.proofs.lemmas.List.{with_items_is}
use Rattle.graph_model.specs.Kinds.{ins_of}
use Rattle.graph_model.specs.Graphs.{ins_at}
use Rattle.graph_model.specs.Paths.{live_connections}
use Rattle.graph_model.specs.declared.graph.Node.{Node}
use Rattle.graph_model.specs.declared.graph.Graph.{Graph}
use Rattle.graph_model.specs.Named.{uid_at}
use Rattle.graph_model.proofs.NodeFacts.{ins_is}
use Rattle.graph_model.specs.Bounds.{AreUpTo}
use Rattle.renderer.specs.Routes.{IsAdded}
use Rattle.topology.proofs.LinkFacts.{any_connection}
use Rattle.renderer.proofs.SumFacts.{AreSums, no_sums, sums_same, sums_more, sums_small, sums_all, route_place, route_at, from_within, to_within, to_channels, stream_outgoing, stream_long, stream_small, any_route, source_within}
use Rattle.renderer.proofs.evaluation.Evaluation.incoming.Goals as goal
use Rattle.renderer.proofs.evaluation.Evaluation.incoming.Goals.{then-route-node, else-route-node}

pub loop-route-init : goal.loop-route-init
loop-route-init c =
    let node : Node = c.index-as_slice-node.result in
    let nodes : c.as_slice.result.now ≡ c.args.self.now.graph.now.nodes = c.as_slice.ensures ∙ ap (λ (g : Graph). g.nodes) c.graph.ensures.same in
    let channels : c.ins-channels.result ≡ ins_at c.args.self.now.graph.now (uid_at c.args.self.now.graph.now c.args.node) =
    c.ins-channels.ensures ∙ ap (λ (n : Node). ins_of n.kind) (c.index-as_slice-node.is ∙ ap (λ ns. get_or ns c.args.node node) nodes)
    ∙ sym (ins_is c.args.self.now.graph.now c.requires.state.sound c.args.node node c.requires.node) in
    subst (AreSums c.args.self.now c.args.node 0)
    (sym (c.in_ok-sums.ensures ∙ ap (λ n. replicate (c.args.self.now.frames * n) (pos 0)) channels))
    (no_sums c.args.self.now c.requires.state c.args.node c.requires.node)

pub bounds-streams-route : goal.bounds-streams-route
bounds-streams-route c =
    let l = source_within c.args.self.now c.requires.state c.deref-route-items.result.now c.deref-route-items.ensures.value c.loop-route.route-index any_route c.loop-route-test.true in
    let n = c.requires.count in
    omega arith

pub offset_bounds-streams-route : goal.offset_bounds-streams-route
offset_bounds-streams-route c =
    let l = source_within c.args.self.now c.requires.state c.deref-route-items.result.now c.deref-route-items.ensures.value c.loop-route.route-index any_route c.loop-route-test.true in
    let n = c.requires.state.sound.fits.0 in
    omega arith

pub add-requires-clause-from : goal.add-requires-clause-from
add-requires-clause-from c = from_within c.args.self.now c.requires.state c.deref-route-items.result.now c.deref-route-items.ensures.value c.loop-route.route-index any_route c.loop-route-test.true

pub add-requires-clause-to : goal.add-requires-clause-to
add-requires-clause-to c = to_within c.args.self.now c.requires.state c.deref-route-items.result.now c.deref-route-items.ensures.value c.loop-route.route-index any_route c.loop-route-test.true

pub add-requires-clause-stream : goal.add-requires-clause-stream
add-requires-clause-stream c =
    stream_long c.args.self.now c.requires.state c.deref-route-items.result.now c.deref-route-items.ensures.value c.loop-route.route-index any_route c.loop-route-test.true c.args.node c.if-route-node.true
    c.args.streams.now c.index-streams-route.result c.as_slice-stream.result.now c.requires.sources c.index-streams-route.is c.requires.count c.as_slice-stream.ensures

pub add-requires-clause-sums : goal.add-requires-clause-sums
add-requires-clause-sums c =
    ap (λ xs. length xs) c.deref_mut.ensures.value ∙ c.loop-route.invariant.count
    ∙ ap (λ n. c.args.self.now.frames * n)
    (sym (to_channels c.args.self.now c.requires.state c.deref-route-items.result.now c.deref-route-items.ensures.value c.loop-route.route-index any_route c.loop-route-test.true c.args.node c.if-route-node.true))

pub add-requires-clause-small : goal.add-requires-clause-small
add-requires-clause-small c =
    stream_small c.args.self.now c.requires.state c.deref-route-items.result.now c.deref-route-items.ensures.value c.loop-route.route-index any_route c.loop-route-test.true c.args.node c.if-route-node.true
    c.args.streams.now c.index-streams-route.result c.as_slice-stream.result.now c.requires.sources c.index-streams-route.is c.requires.count c.as_slice-stream.ensures

pub add-requires-clause-room : goal.add-requires-clause-room
add-requires-clause-room c =
    subst (AreUpTo (2 ^ 60)) (sym c.deref_mut.ensures.value)
    (sums_small c.args.self.now c.requires.state c.args.node c.requires.node c.loop-route.route-index c.loop-route.sums.items c.loop-route.invariant)

pub loop-route-preserved : goal.loop-route-preserved
loop-route-preserved c =
    elim c.if-route-node.branch [
      | then-route-node w ↦
          (let e = c.args.self.now in
          let r = get_or c.deref-route-items.result.now c.loop-route.route-index any_route in
          let back : c.if-route-node.sums.items ≡ w.add.new.sums = ap (λ (v : Vec ℤ Global). v.items) w.sums-is ∙ with_items_is c.loop-route.sums w.add.new.sums (w.add.auto.sums ∙ w.deref_mut.ensures.len) in
          let added : IsAdded c.args.self.now.frames (get_or c.deref-route-items.result.now c.loop-route.route-index any_route) w.as_slice-stream.result.now c.loop-route.sums.items w.add.new.sums =
          subst (λ xs. IsAdded c.args.self.now.frames (get_or c.deref-route-items.result.now c.loop-route.route-index any_route) w.as_slice-stream.result.now xs w.add.new.sums) w.deref_mut.ensures.value w.add.ensures in
          subst (AreSums c.args.self.now c.args.node (c.loop-route.route-index + 1)) (sym back)
          (sums_more c.args.self.now c.requires.state c.args.node c.requires.node c.loop-route.route-index any_connection (get_or c.deref-route-items.result.now c.loop-route.route-index any_route)
          w.as_slice-stream.result.now c.loop-route.sums.items w.add.new.sums
          (route_place c.args.self.now c.requires.state c.deref-route-items.result.now c.deref-route-items.ensures.value c.loop-route.route-index any_route c.loop-route-test.true)
          (route_at c.args.self.now c.requires.state c.deref-route-items.result.now c.deref-route-items.ensures.value c.loop-route.route-index any_route c.loop-route-test.true any_connection)
          w.if-route-node.true
          (stream_outgoing c.args.self.now c.requires.state c.deref-route-items.result.now c.deref-route-items.ensures.value c.loop-route.route-index any_route c.loop-route-test.true c.args.node w.if-route-node.true
          c.args.streams.now w.index-streams-route.result w.as_slice-stream.result.now c.requires.sources w.index-streams-route.is c.requires.count w.as_slice-stream.ensures)
          (w.add.auto.sums ∙ ap (λ xs. length xs) w.deref_mut.ensures.value) added c.loop-route.invariant))
      | else-route-node w ↦
          subst (λ v. AreSums c.args.self.now c.args.node (c.loop-route.route-index + 1) v.items) (sym w.sums-is)
          (sums_same c.args.self.now c.requires.state c.args.node c.requires.node c.loop-route.route-index any_connection (get_or c.deref-route-items.result.now c.loop-route.route-index any_route) c.loop-route.sums.items
          (route_place c.args.self.now c.requires.state c.deref-route-items.result.now c.deref-route-items.ensures.value c.loop-route.route-index any_route c.loop-route-test.true)
          (route_at c.args.self.now c.requires.state c.deref-route-items.result.now c.deref-route-items.ensures.value c.loop-route.route-index any_route c.loop-route-test.true any_connection)
          w.if-route-node.false c.loop-route.invariant)
    ]

pub returns : goal.returns
returns c =
    let past : length (live_connections c.args.self.now.graph.now) ≤ c.loop-route.route-index =
    (let same = ap (λ rs. length rs) c.deref-route-items.ensures.value in let n = c.requires.state.routes.count in let end = c.loop-route-test.false in omega arith) in
    sums_all c.args.self.now c.requires.state c.args.node c.requires.node c.requires.live c.loop-route.route-index c.loop-route.sums.items past c.loop-route.invariant
