-- The clauses on histories from the clause on orders.
use Rattle.std.proofs.Common.{◌≡◌, ℕ, ◌+◌, ◌-◌, ◌*◌, ◌<◌, min, List, ◌++◌, length, map, take, get_or, ℤ, refl, sym, ap, ◌∙◌, subst, arith, true, Some}
use Rattle.std.specs.List.{All, flat_map, Contains}
use Rattle.std.proofs.lemmas.Bool.{cond-false}
use Rattle.std.proofs.lemmas.List.{append-nil}
use Rattle.std.proofs.lemmas.List.Elements.{Contains-get_or}
use Rattle.std.proofs.lemmas.List.Sorted.{Contains-permutation, IsPermutation-sym}
use Rattle.graph_model.specs.Histories.{Frame, History, shifted, silence, before, frame_in, frames_of}
use Rattle.graph_model.specs.Positions.{IsLaterBy}
use Rattle.graph_model.specs.Graphs.{IsRanked, node_named, is_input, ins_at, output_name, connections_into}
use Rattle.graph_model.specs.Paths.{reach, is_live, live_nodes, depth}
use Rattle.graph_model.specs.Answers.{answer}
use Rattle.graph_model.specs.Sound.{IsSound}
use Rattle.graph_model.specs.Kept.{StandsFor}
use Rattle.graph_model.specs.declared.graph.Node.{Node}
use Rattle.graph_model.proofs.BlockLaws.{length-before, length-frames_of}
use Rattle.graph_model.proofs.LiveLaws.{live_by, output_is_live}
use Rattle.graph_model.proofs.NodeFacts.{input_some}
use Rattle.graph_model.proofs.RankLaws.{sound_is_ranked}
use Rattle.graph_model.proofs.ReachLaws.{filter_from}
use Rattle.plan_model.specs.Certified.{IsCertified, positions}
use Rattle.plan_model.specs.Schedules.{names}
use Rattle.plan_model.specs.declared.plan.Plan.{Plan}
use Rattle.plan_model.specs.declared.rule.Rule.TheVariants.{Latency}
use Rattle.plan_model.proofs.CertifiedLaws.{alignment_of}
use Rattle.plan_model.proofs.ExampleTools.{listed}
use Rattle.plan_model.proofs.SavedLaws.{Contains-map}
use Rattle.plan_model.proofs.ShiftLaws.{later_by, latency_is_reach}
use Rattle.engine_model.specs.Machines.{Kept, delays_into, windows_on}
use Rattle.engine_model.specs.States.{kept_at}
use Rattle.engine_model.specs.Engines.{Job, Parts, JobStands, Stands, IsSame, ins, outs, came_in, gone_into}
use Rattle.engine_model.specs.Events.{JobIsLeft, IsLeftBy, AnyOrder, came_of, state_of, after_orders}
use Rattle.engine_model.specs.Laws.{OrdersGiveAnswers}
use Rattle.engine_model.proofs.OrderLaws.{one_thread, some_order}
use Rattle.engine_model.proofs.OutputFacts.{output_node}
use Rattle.engine_model.proofs.PlanLaws.{schedule}
use Rattle.engine_model.proofs.RenderLaws.{after_histories}
use Rattle.engine_model.proofs.RunLaws.{block_runs, some_node}
use Rattle.engine_model.proofs.StateTimeLaws.{state_by_time, windows_are}

shifted_none : (m : ℕ) (h : History) → shifted 0 m h ≡ h
shifted_none m h = let e : min 0 (length h) ≡ 0 = omega arith in ap (λ k. h ++ silence k m) e ∙ append-nil h

module _ (e e' : Parts) (n : ℕ) (input output : List ℤ) (h : History) (sound : IsSound e.graph) (c : IsCertified e.graph e.plan) (same : IsSame e e')
    (li : length input ≡ n * ins e) (nodes : map (λ (j : Job). j.node) e'.jobs ≡ map (λ (j : Job). j.node) e.jobs)
    (more : e'.frames ≡ e.frames + n) (stands : Stands e h) (any : AnyOrder e e' input output h) where
  ranked : IsRanked (depth e.graph) e.graph
  ranked = sound_is_ranked e.graph sound

  l : IsLaterBy e.graph (is_live e.graph) (reach e.graph) (positions e.plan)
  l = later_by e.graph (depth e.graph) sound ranked (positions e.plan) (alignment_of e.graph e.plan c)

  left : IsLeftBy e' n output (after_orders e input h (one_thread n e.plan.waves))
  left = any n (one_thread n e.plan.waves) li (some_order n e.plan.waves (schedule e.graph e.plan sound c).rising)

  -- a node that is live is there
  pub there : (v : ℕ) → is_live e.graph v ≡ true → (m : Node) × (node_named e.graph v ≡ Some m)
  there v live = some_node e.graph.nodes v (listed e.graph v (live_by e.graph sound v live))

  module _ (x : ℕ → Frame) (T : ℕ) (at : before x T ≡ h) (brings : (k : ℕ) → k < n → frame_in (ins e) input k ≡ x (T + k)) where
    -- after the block each live node has what the graph gives it
    kept_is : (v : ℕ) → is_live e.graph v ≡ true
        → (after_orders e input h (one_thread n e.plan.waves)).kept v ≡ kept_at e.graph (positions e.plan) x (T + n) v
    kept_is v live =
        block_runs e.graph e.plan sound c (positions e.plan) (frame_in (ins e) input) x T n brings
        (one_thread n e.plan.waves) (state_of e h) (some_order n e.plan.waves (schedule e.graph e.plan sound c).rising)
        (λ u on. let m = there u on in
        subst (λ k. (state_of e k).kept u ≡ kept_at e.graph (positions e.plan) x T u) at (state_by_time e.graph (positions e.plan) (depth e.graph) ranked l x T u m.0 m.1 on))
        v live

    to_history : (v : ℕ) (m : Node) → node_named e.graph v ≡ Some m → is_live e.graph v ≡ true
        → (after_orders e input h (one_thread n e.plan.waves)).kept v ≡ (state_of e (before x (T + n))).kept v
    to_history v m named live = kept_is v live ∙ sym (state_by_time e.graph (positions e.plan) (depth e.graph) ranked l x (T + n) v m named live)

    job_stands : (j : Job) → is_live e.graph j.node ≡ true → JobIsLeft e.graph (positions e.plan) ((after_orders e input h (one_thread n e.plan.waves)).kept j.node) j
        → JobStands e.graph (positions e.plan) (before x (T + n)) j
    job_stands j live left =
        let m = there j.node live in
        let is = to_history j.node m.0 m.1 live in
        record {
          kernel = λ k named i o. subst (λ z. StandsFor k.kind j.kernel z)
              (ap (λ (z : Kept). z.came) is ∙ ap (λ z. came_of e.graph (positions e.plan) (before x (T + n)) z j.node) named
              ∙ cond-false (is_input k.kind) (before x (T + n)) (came_in e.graph (positions e.plan) (before x (T + n)) j.node) i)
              (left.kernel k named i o);
          lines = left.lines ∙ ap (λ (z : Kept). windows_on (delays_into e.graph (positions e.plan) j.node) z.passed) is
              ∙ windows_are e.graph (positions e.plan) (gone_into e.graph (positions e.plan) (before x (T + n))) (connections_into e.graph j.node);
        }

    output_is : frames_of (outs e) output ≡ take n (answer e.graph (before x (T + n)))
    output_is =
        let o = output_node e.graph sound in
        let live : is_live e.graph (output_name e.graph) ≡ true = output_is_live e.graph sound in
        let at_end : positions e.plan (output_name e.graph) ≡ reach e.graph (output_name e.graph) = c Latency ∙ latency_is_reach e.graph e.plan sound c in
        let none : positions e.plan (output_name e.graph) - reach e.graph (output_name e.graph) ≡ 0 = omega (arith, at_end) in
        ap (λ g. frames_of (ins_at g (output_name g)) output) (sym same.graph)
        ∙ left.gave
        ∙ ap (λ g. take n ((after_orders e input h (one_thread n e.plan.waves)).kept (output_name g)).came) same.graph
        ∙ ap (λ (z : Kept). take n z.came) (to_history (output_name e.graph) o.0 o.1 live)
        ∙ ap (λ z. take n (came_of e.graph (positions e.plan) (before x (T + n)) z (output_name e.graph))) o.1
        ∙ ap (take n) (cond-false (is_input o.0.kind) (before x (T + n)) (came_in e.graph (positions e.plan) (before x (T + n)) (output_name e.graph)) o.3)
        ∙ ap (λ k. take n (shifted k (ins_at e.graph (output_name e.graph)) (answer e.graph (before x (T + n))))) none
        ∙ ap (take n) (shifted_none (ins_at e.graph (output_name e.graph)) (answer e.graph (before x (T + n))))

    nodes_live : All (λ (j : Job). is_live e.graph j.node ≡ true) e'.jobs
    nodes_live k d lt =
        let has : Contains (map (λ (j : Job). j.node) e'.jobs) (get_or e'.jobs k d).node = Contains-map (λ (j : Job). j.node) e'.jobs (get_or e'.jobs k d) (Contains-get_or e'.jobs k d lt) in
        let there = subst (λ vs. Contains vs (get_or e'.jobs k d).node) (nodes ∙ stands.nodes) has in
        (filter_from (is_live e.graph) (map (λ m. m.uid.0) e.graph.nodes) (get_or e'.jobs k d).node
        (Contains-permutation (flat_map names e.plan.waves) (live_nodes e.graph) (get_or e'.jobs k d).node
        (IsPermutation-sym (live_nodes e.graph) (flat_map names e.plan.waves) (schedule e.graph e.plan sound c).once) there)).1

    both : Stands e' (before x (T + n)) × (frames_of (outs e) output ≡ take n (answer e.graph (before x (T + n))))
    both = (
      record {
        frames = more ∙ ap (λ k. k + n) (stands.frames ∙ ap length (sym at) ∙ length-before x T) ∙ sym (length-before x (T + n));
        nodes = nodes ∙ stands.nodes ∙ ap (λ (q : Plan). flat_map names q.waves) (sym same.plan);
        jobs = λ k d lt.
            let j = get_or e'.jobs k d in
            subst (λ g. JobStands g (positions e'.plan) (before x (T + n)) (get_or e'.jobs k d)) (sym same.graph)
            (subst (λ (q : Plan). JobStands e.graph (positions q) (before x (T + n)) (get_or e'.jobs k d)) (sym same.plan)
            (job_stands (get_or e'.jobs k d) (nodes_live k d lt)
            (subst (λ (q : Plan). JobIsLeft e.graph (positions q) ((after_orders e input h (one_thread n e.plan.waves)).kept (get_or e'.jobs k d).node) (get_or e'.jobs k d)) same.plan
            (subst (λ g. JobIsLeft g (positions e'.plan) ((after_orders e input h (one_thread n e.plan.waves)).kept (get_or e'.jobs k d).node) (get_or e'.jobs k d)) same.graph
            (left.jobs k d lt)))));
      },
      output_is,
    )

pub orders_give : OrdersGiveAnswers
orders_give e e' n input output h sound c same li nodes more stands any =
    let r = after_histories (λ k. k ≡ h) (λ k. Stands e' k × (frames_of (outs e) output ≡ take n (answer e.graph k))) (ins e) n input (input_some e.graph sound) li
    (λ x T at brings. both e e' n input output h sound c same li nodes more stands any x T at (λ k lt. sym (brings k lt))) h refl in
    (r.0, r.1 ∙ ap (λ k. take k (answer e.graph (frames_of (ins e) input ++ h))) (sym (length-frames_of (ins e) n input (input_some e.graph sound) li)))
