use Rattle.std.proofs.Common.{◌≡◌, ℕ, ◌<◌, ◌^◌, ◌∙◌, sym, ap, subst, List, [], ◌∷◌, ◌++◌, map, get_or}
use Rattle.std.proofs.lemmas.List.{map_push, append-nil}
use Rattle.graph_model.specs.Graphs.{output_name}
use Rattle.graph_model.specs.Paths.{IsPrinted}
use Rattle.graph_model.specs.declared.graph.Uid.{Uid}
use Rattle.graph_model.specs.Named.{uids_of, uid_at, latencies_of}
use Rattle.topology.proofs.PathFacts.{IsWalked, numbers_small, read_name, walk_ends, walk_goes_on, step_falls}
use Rattle.topology.proofs.reaches.path_back.Goals as goal

pub step_back-requires-clause-small : goal.step_back-requires-clause-small
step_back-requires-clause-small c =
    let g = c.args.graph.now in
    let fits : (i : ℕ) → get_or (latencies_of g) i 0 < 2 ^ 32 = λ i. subst (λ (xs : List ℕ). get_or xs i 0 < 2 ^ 32) c.requires.latencies (c.type_inv.latencies i).fits in
    numbers_small g c.requires.named c.requires.acyclic c.args.links.now c.requires.links c.args.at.now c.requires.at fits

pub loop-u-smaller : goal.loop-u-smaller
loop-u-smaller c =
    let g = c.args.graph.now in
    let uids_is : c.deref.result.now ≡ uids_of g = c.deref.ensures.value ∙ c.in_ok-uids.ensures in
    step_falls g c.requires.named c.requires.acyclic c.args.links.now c.requires.links c.args.at.now c.requires.at c.loop-u.v c.loop-u.invariant.node c.in-Some.u
    (rw (uids_is, c.requires.latencies) at c.in-Some.ensures)

pub loop-u-preserved : goal.loop-u-preserved
loop-u-preserved c =
    let g = c.args.graph.now in
    let u = c.in-Some.u in
    let path : List Uid = c.loop-u.path.items in
    let uids_is : c.deref.result.now ≡ uids_of g = c.deref.ensures.value ∙ c.in_ok-uids.ensures in
    let next : IsWalked g (map (λ (w : Uid). w.0) path ++ uid_at g u ∷ []) u =
    walk_goes_on g c.requires.named c.requires.acyclic c.args.links.now c.requires.links c.args.at.now c.requires.at c.loop-u.v c.loop-u.invariant.node
    (map (λ (w : Uid). w.0) path) u c.loop-u.invariant (rw (uids_is, c.requires.latencies) at c.in-Some.ensures) in
    let name : c.index-in-Some.result.now ≡ uid_at g u = read_name g c.in_ok-uids.uids.items c.in_ok-uids.ensures u c.index-in-Some.result.now next.node c.index-in-Some.ensures in
    let pushed : map (λ (w : Uid). w.0) c.push-in-Some.new.self.items ≡ map (λ (w : Uid). w.0) path ++ uid_at g u ∷ [] =
    ap (map (λ (w : Uid). w.0)) c.in_ok-push-2.ensures.items ∙ map_push (λ (w : Uid). w.0) path (record { 0 = c.index-in-Some.result.now })
    ∙ ap (λ n. map (λ (w : Uid). w.0) path ++ n ∷ []) name in
    subst (λ names. IsWalked g names u) (sym pushed) next

pub returns : goal.returns
returns c =
    let g = c.args.graph.now in
    let inv = c.loop-u.invariant in
    let ends = walk_ends g c.requires.named c.requires.acyclic c.args.links.now c.requires.links c.args.at.now c.requires.at c.loop-u.v inv.node
    (rw c.requires.latencies at c.in_default.ensures) in
    (inv.after, subst (IsPrinted g (output_name g)) (append-nil inv.after) (inv.led [] ends), inv.whole)
