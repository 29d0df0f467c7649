use Rattle.std.proofs.Common.{◌≡◌, ◌∙◌, ◌∷◌, [], ◌++◌, ◌<◌, List, cond, get_or, length, sym, ap, subst}
use Rattle.graph_model.specs.Paths.{is_live}
use Rattle.graph_model.specs.declared.graph.Connection.{Connection}
use Rattle.graph_model.specs.declared.graph.Graph.{Graph}
use Rattle.lifetimes.proofs.LifeFacts.{reads_more, wave_at}
use Rattle.lifetimes.specs.Reads.{read_by}
use Rattle.lifetimes.specs.declared.reads.Read.{Read}
use Rattle.lifetimes.proofs.reads.reads.Goals as goal
use Rattle.lifetimes.proofs.reads.reads.Goals.{then-is_live+in_ok-push, else-is_live}

abbrev unjoined : Connection
unjoined = record { src = record { 0 = 0 }; src_channel = 0; dst = record { 0 = 0 }; dst_channel = 0 }

pub loop-index-preserved : goal.loop-index-preserved
loop-index-preserved c = λ waves given.
    let g : Graph = c.args.graph.now in
    let i = c.loop-index.index in
    let same : c.as_slice-connection-items.result.now ≡ g.connections = c.as_slice-connection-items.ensures ∙ ap (λ (h : Graph). h.connections) c.graph.ensures.same in
    let lt : i < length g.connections = subst (λ (cs : List Connection). i < length cs) same c.loop-index-test.true in
    let e = c.ends-ends.ensures in
    let k : Connection = get_or g.connections i unjoined in
    let live : c.is_live.result ≡ is_live g k.dst.0 = c.is_live.ensures ∙ ap (is_live g) (e.destination unjoined) in
    let item = ap (λ (cs : List Connection). get_or cs i unjoined) same in
    let born = wave_at g waves c.args.node_waves.now given c.ends-ends.result.source k.src.0 e.source_within (e.source unjoined) in
    let wave = wave_at g waves c.args.node_waves.now given c.ends-ends.result.destination k.dst.0 e.destination_within (e.destination unjoined) in
    let reads : List Read = c.loop-index.reads.items in
    let more : c.if-is_live.reads.items ≡ cond c.is_live.result (reads ++ read_by waves k ∷ []) reads = elim c.if-is_live.branch [
      | then-is_live+in_ok-push w ↦
          ap (λ v. v.items) w.reads-is
          ∙ w.in_ok-push.ensures.items
          ∙ (λ j. reads ++ record { uid = (item j).src; channel = (item j).src_channel; born = born j; reader = (item j).dst; wave = wave j } ∷ [])
          ∙ sym (ap (λ b. cond b (reads ++ read_by waves k ∷ []) reads) w.if-is_live.true)
      | else-is_live w ↦ ap (λ v. v.items) w.reads-is ∙ sym (ap (λ b. cond b (reads ++ read_by waves k ∷ []) reads) w.if-is_live.false)
    ] in
    reads_more g waves i unjoined c.is_live.result reads c.if-is_live.reads.items lt live (c.loop-index.invariant waves given) more
