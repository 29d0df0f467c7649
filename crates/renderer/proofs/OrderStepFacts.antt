-- The streams of the live nodes, found in the order of the nodes.
use Rattle.std.proofs.Common.{◌≡◌, ℕ, ◌+◌, ◌<◌, ◌≤◌, true, false, List, [], length, map, get_or, set, ℤ, sym, ◌∙◌, ap, subst, arith, inl, inr}
use Rattle.std.specs.List.{Contains}
use Rattle.std.proofs.lemmas.Bool.{cases_eq, false≢true}
use Rattle.std.proofs.lemmas.List.{get_or-map, get_or-set_same, get_or-set_other, length-map, length-set}
use Rattle.std.proofs.lemmas.List.Elements.{All-contains, Contains-get_or}
use Rattle.graph_model.specs.Orders.{StandsBefore}
use Rattle.graph_model.specs.Paths.{is_live, live_connections}
use Rattle.graph_model.specs.declared.graph.Connection.{Connection}
use Rattle.graph_model.specs.Named.{uid_at}
use Rattle.topology.specs.Answers.{IsOrderOfNodes}
use Rattle.topology.proofs.LinkFacts.{any_connection}
use Rattle.graph_model.proofs.NameFacts.{is_node}
use Rattle.topology.proofs.OrderFacts.{stands_index}
use Rattle.renderer.specs.Routes.{IsRoute}
use Rattle.renderer.specs.Evaluations.{IsEvaluation, HasStream, HasSources, HasAll, positions_of, outgoing_at}
use Rattle.renderer.specs.declared.evaluation.Evaluation.{Evaluation}
use Rattle.renderer.specs.declared.routes.Route.{Route}
use Rattle.graph_model.proofs.NodeFacts.{named}
use Rattle.renderer.proofs.RouteFacts.{kept, source_live}

-- the live ones of the first k nodes of the order have their streams
pub record AreFound (e : Evaluation) (os : List ℕ) (k : ℕ) (streams : List (List ℤ)) : Type 0 where
  pub count : length streams ≡ length e.graph.now.nodes
  pub done : (j : ℕ) → j < k → is_live e.graph.now (uid_at e.graph.now (get_or os j 0)) ≡ true → HasStream e streams (get_or os j 0)

-- the live connection that a route follows
module _ (e : Evaluation) (s : IsEvaluation e) (m : ℕ) (d : Route) (lm : m < length e.routes.items) where
  place : m < length (live_connections e.graph.now)
  place = let n = s.routes.count in omega arith

  followed : IsRoute e.graph.now (positions_of e) (get_or (live_connections e.graph.now) m any_connection) (get_or e.routes.items m d)
  followed = s.routes.each m any_connection d lm

  followed_in : Contains e.graph.now.connections (get_or (live_connections e.graph.now) m any_connection)
  followed_in = (kept e.graph.now (get_or (live_connections e.graph.now) m any_connection) (Contains-get_or (live_connections e.graph.now) m any_connection place)).0

  source_is_live : is_live e.graph.now (uid_at e.graph.now (get_or e.routes.items m d).src) ≡ true
  source_is_live =
      ap (is_live e.graph.now) followed.source_name
      ∙ source_live e.graph.now s.sound (get_or (live_connections e.graph.now) m any_connection) (Contains-get_or (live_connections e.graph.now) m any_connection place)

module _ (e : Evaluation) (s : IsEvaluation e) (os : List ℕ) (order : IsOrderOfNodes e.graph.now os) where
  -- the sources of the next node have theirs
  pub sources_found : (k : ℕ) (streams : List (List ℤ)) → k < length os → AreFound e os k streams → HasSources e streams (get_or os k 0)
  sources_found k streams lt are m d lm into =
      let is : IsRoute e.graph.now (positions_of e) (get_or (live_connections e.graph.now) m any_connection) (get_or e.routes.items m d) = followed e s m d lm in
      let here : get_or (map (uid_at e.graph.now) os) k 0 ≡ uid_at e.graph.now (get_or os k 0) = get_or-map (uid_at e.graph.now) os k 0 0 lt in
      let leads : (get_or (live_connections e.graph.now) m any_connection).dst.0 ≡ get_or (map (uid_at e.graph.now) os) k 0 =
      sym is.destination_name ∙ ap (uid_at e.graph.now) into ∙ sym here in
      let ready : StandsBefore (map (uid_at e.graph.now) os) k (get_or (live_connections e.graph.now) m any_connection).src.0 =
      All-contains (λ (c : Connection). c.dst.0 ≡ get_or (map (uid_at e.graph.now) os) k 0 → StandsBefore (map (uid_at e.graph.now) os) k c.src.0) e.graph.now.connections
      (get_or (live_connections e.graph.now) m any_connection) (order.order.next k (omega (arith, length-map os (uid_at e.graph.now)))).ready (followed_in e s m d lm) leads in
      let stands : StandsBefore (map (uid_at e.graph.now) os) k (uid_at e.graph.now (get_or e.routes.items m d).src) =
      subst (StandsBefore (map (uid_at e.graph.now) os) k) (sym is.source_name) ready in
      let before = stands_index e.graph.now (named e.graph.now s.sound) os order.indexes k (get_or e.routes.items m d).src (omega arith) is.source stands in
      subst (HasStream e streams) before.2 (are.done before.0 before.1 (ap (λ i. is_live e.graph.now (uid_at e.graph.now i)) before.2 ∙ source_is_live e s m d lm))

  -- one node more, live or idle
  pub found_more : (k : ℕ) (streams : List (List ℤ)) (stream : List ℤ) → k < length os → AreFound e os k streams → stream ≡ outgoing_at e (get_or os k 0)
      → AreFound e os (k + 1) (set streams (get_or os k 0) stream)
  found_more k streams stream lt are is = record {
    count = length-set streams (get_or os k 0) stream ∙ are.count;
    done = λ j lj live.
        elim (cases_eq (get_or os j 0) (get_or os k 0)) [
          | inl same ↦
              (let l = order.indexes k 0 lt in
              subst (HasStream e (set streams (get_or os k 0) stream)) (sym same) (get_or-set_same streams (get_or os k 0) stream [] (let n = are.count in omega arith) ∙ is))
          | inr other ↦
              get_or-set_other streams (get_or os k 0) (get_or os j 0) stream [] other
              ∙ are.done j (elim (cases_eq j k) [ inl last ↦ absurd (other (ap (λ i. get_or os i 0) last)) | inr before ↦ omega arith ]) live
        ];
  }

  pub found_same : (k : ℕ) (streams : List (List ℤ)) → AreFound e os k streams → is_live e.graph.now (uid_at e.graph.now (get_or os k 0)) ≡ false → AreFound e os (k + 1) streams
  found_same k streams are idle = record {
    count = are.count;
    done = λ j lj live.
        elim (cases_eq j k) [
          | inl last ↦ absurd (false≢true (sym idle ∙ ap (λ i. is_live e.graph.now (uid_at e.graph.now (get_or os i 0))) (sym last) ∙ live))
          | inr before ↦ are.done j (omega arith) live
        ];
  }

  -- all nodes stand in the order
  pub found_all : (k : ℕ) (streams : List (List ℤ)) → length os ≤ k → AreFound e os k streams → HasAll e streams
  found_all k streams past are = record { count = are.count; each = found }
    where
      found : (i : ℕ) → i < length e.graph.now.nodes → is_live e.graph.now (uid_at e.graph.now i) ≡ true → HasStream e streams i
      found i li live =
          let stands = order.order.all (uid_at e.graph.now i) (is_node e.graph.now (named e.graph.now s.sound) i li) in
          let before = stands_index e.graph.now (named e.graph.now s.sound) os order.indexes (length (map (uid_at e.graph.now) os)) i (omega (arith, length-map os (uid_at e.graph.now))) li stands in
          subst (HasStream e streams) before.2 (are.done before.0 (omega (arith, before.1, length-map os (uid_at e.graph.now))) (ap (λ v. is_live e.graph.now (uid_at e.graph.now v)) before.2 ∙ live))

-- where all live nodes have their streams, the sources of any node do
pub all_sources : (e : Evaluation) → IsEvaluation e → (streams : List (List ℤ)) → HasAll e streams → (i : ℕ) → HasSources e streams i
all_sources e s streams all i m d lm into =
    all.each (get_or e.routes.items m d).src (followed e s m d lm).source (source_is_live e s m d lm)
