use Rattle.std.proofs.Common.{◌∙◌, ap, sym, map, get_or, arith}
use Rattle.std.proofs.lemmas.List.{take_all}
use Rattle.std.proofs.lemmas.Simd.{map-map}
use Rattle.graph_model.specs.Graphs.{latency_at}
use Rattle.graph_model.specs.declared.graph.Graph.{Graph}
use Rattle.alignment.specs.Mirrors.{mirror_link}
use Rattle.alignment.specs.Values.{port}
use Rattle.alignment.specs.declared.values.Value.{Value}
use Rattle.alignment.proofs.LinkFacts.{found_there, found_as}
use Rattle.alignment.proofs.MirrorFacts.{listed_point, listed_node, mirror_step}
use Rattle.alignment.proofs.ValueListFacts.{few_values, as_many}
use Rattle.alignment.proofs.mirrors.mirror_links.Goals as goal

pub unwrap-tail-requires : goal.unwrap-tail-requires
unwrap-tail-requires c =
    found_there _ _ c.point_of.result c.point_of.ensures
    (listed_point c.args.graph.now c.args.points.now c.requires.sound c.requires.points c.args.values.now c.requires.values c.loop-index.index (record { uid = 0; channel = 0 }) c.loop-index-test.true)

pub overflow_cast-index : goal.overflow_cast-index
overflow_cast-index c = omega (arith, few_values c.args.graph.now c.requires.sound, as_many c.args.graph.now c.args.values.now c.requires.values, c.loop-index-test.true)

pub overflow_cast-points : goal.overflow_cast-points
overflow_cast-points c = omega (arith, few_values c.args.graph.now c.requires.sound, as_many c.args.graph.now c.args.values.now c.requires.values, c.loop-index-test.true, c.requires.points.few)

pub latency_of-requires : goal.latency_of-requires
latency_of-requires c =
    rw (c.graph.ensures.same)
    (listed_node c.args.graph.now c.args.points.now c.requires.sound c.requires.points c.args.values.now c.requires.values c.loop-index.index (record { uid = 0; channel = 0 }) c.loop-index-test.true)

pub loop-index-preserved : goal.loop-index-preserved
loop-index-preserved c =
    let tail = found_as _ _ c.point_of.result c.unwrap-tail.result c.point_of.ensures c.unwrap-tail.ensures in
    mirror_step c.args.graph.now c.args.points.now c.requires.sound c.requires.points c.args.values.now c.requires.values c.loop-index.links.items c.push.new.self.items c.loop-index.index (record { uid = 0; channel = 0 })
    c.unwrap-tail.result c.latency_of.result c.loop-index-test.true tail.0 tail.1
    (c.latency_of.ensures ∙ ap (λ (h : Graph). latency_at h (get_or c.args.values.now c.loop-index.index (record { uid = 0; channel = 0 })).uid) c.graph.ensures.same) c.in_ok-push.ensures.items c.loop-index.invariant

pub returns : goal.returns
returns c =
    let g = c.args.graph.now in
    c.loop-index.invariant
    ∙ ap (map (λ (x : Value). mirror_link g c.args.points.now (port x))) (take_all c.loop-index.index c.args.values.now c.loop-index-test.false)
    ∙ sym (map-map (mirror_link g c.args.points.now) port c.args.values.now)
    ∙ ap (map (mirror_link g c.args.points.now)) c.requires.values
