-- A block of an engine.
use Rattle.std.proofs.Common.{◌≡◌, ℕ, ◌+◌, ◌-◌, ◌*◌, ◌/◌, ◌^◌, ◌<◌, ◌≤◌, ℤ, pos, List, [], ◌∷◌, ◌++◌, length, map, take, get_or, refl, sym, ◌∙◌, ap, subst, arith, true, Option, Some, None}
use Rattle.std.specs.Prelude.{unsigned_abs}
use Rattle.std.specs.List.{All}
use Rattle.std.proofs.lemmas.Bool.{cond-false}
use Rattle.std.proofs.lemmas.List.{ext_get_or, length-map, get_or-map}
use Rattle.std.proofs.lemmas.List.FromFn.{length-map-range_with_len}
use Rattle.graph_model.specs.Histories.{Frame, History, before, frame_in, frames_of}
use Rattle.graph_model.specs.Graphs.{IsRanked, node_named, ins_at, is_input, output_name, connections_to}
use Rattle.graph_model.specs.Kinds.{ins_of}
use Rattle.graph_model.specs.Answers.{sum_of}
use Rattle.graph_model.specs.Positions.{IsLaterBy}
use Rattle.graph_model.specs.Paths.{is_live, reach, depth}
use Rattle.graph_model.proofs.BlockLaws.{length-before, length-frames_of, whole}
use Rattle.graph_model.proofs.RankLaws.{sound_is_ranked}
use Rattle.graph_model.specs.declared.graph.Node.{Node}
use Rattle.graph_model.specs.declared.graph.Graph.{Graph}
use Rattle.plan_model.specs.Certified.{positions}
use Rattle.plan_model.specs.Schedules.{names}
use Rattle.plan_model.specs.declared.plan.Plan.{Plan}
use Rattle.plan_model.proofs.CertifiedLaws.{alignment_of}
use Rattle.plan_model.proofs.ShiftLaws.{later_by}
use Rattle.orders.specs.Orders as core
use Rattle.graph_model.specs.Streams.{in_at, out_at, tap}
use Rattle.engine_model.proofs.BlockLaws.{frame_at}
use Rattle.engine_model.specs.Machines.{Kept, machine}
use Rattle.engine_model.specs.States.{came_at, kept_at}
use Rattle.engine_model.specs.Engines.{Job as Seen, Stands, JobStands, Answers}
use Rattle.engine_model.specs.Events.{JobIsLeft, IsLeftBy, AnyOrder, state_of, after_orders}
use Rattle.graph_model.proofs.StreamTimeLaws.{sums_are}
use Rattle.engine_model.proofs.BlockLaws.{before_frames_append, frames_are}
use Rattle.engine_model.proofs.RenderLaws.{get_or-before, frame_after}
use Rattle.engine_model.proofs.OrderLaws.{one_thread, some_order, blocks_run}
use Rattle.engine_model.proofs.EngineLaws.{orders_give}
use Rattle.engine_model.proofs.StateTimeLaws.{state_by_time}
use Rattle.engine_model.proofs.PlanLaws.{schedule}
use Rattle.pool_waves.specs.declared.job.Job.{Job}
use Rattle.players.specs.declared.leaving.Leaving.{Leaving}
use Rattle.players.specs.declared.playing.Player.{Player}
use Rattle.players.specs.declared.playing.Server.{Server}
use Rattle.players.specs.declared.playing.Server.TheVariants.{Exit}
use Rattle.players.specs.Servers.{SameServer, ServerHolds, HasLeft}
use Rattle.players.specs.Plays.{Holds}
use Rattle.plan_jobs.specs.Jobs.{IsPlayerOf}
use Rattle.plan_jobs.specs.Hinges.{AreJobsOf, AreAt}
use Rattle.plan_jobs.specs.Blocks.{all_nodes, CanRunBlock, BlockHasRun}
use Rattle.engine.specs.Views.{kernel_of, seen, parts_of, began}
use Rattle.engine.specs.Working.{AreSmall, IsWorking, MayRender, IsRendered}
use Rattle.engine.specs.declared.shape.Shape.{Shape}
use Rattle.engine.specs.Outputs.{CanLeave, HasWritten}
use Rattle.engine_model.proofs.OutputFacts.{output_node}
use Rattle.engine.proofs.BeginFacts.{seen_began, player_began, exit_counts, exit_still}
use Rattle.engine.proofs.StandFacts.{kept_of, holds_at, left_at, is_exit, live_at, node_at, IsSmall, all_before, all_append, small_at, small_block, input_for}

pick : {X : Type 0} (xs : List X) (i : ℕ) → i < length xs → X
pick [] i lt = absurd (omega arith)
pick (x ∷ xs) i lt = x

-- ---- an engine, and the same with its sh.exit set
module _ (frames : ℕ) (sh : Shape) (graph : Graph) (plan : Plan) (block : ℕ) (jobs : List (Job Player)) (pool : List (List ℤ))
    (w : IsWorking graph plan block frames sh jobs pool)
    (jobs1 : List (Job Player)) (len1 : length jobs1 ≡ length jobs) (each1 : (i : ℕ) (d : Job Player) → i < length jobs → get_or jobs1 i d ≡ began frames (get_or jobs i d)) where
  abbrev p : ℕ → ℕ
  p v = positions plan v

  ranked : IsRanked (depth graph) graph
  ranked = sound_is_ranked graph w.sound

  late : IsLaterBy graph (is_live graph) (reach graph) (positions plan)
  late = later_by graph (depth graph) w.sound (sound_is_ranked graph w.sound) (positions plan) (alignment_of graph plan w.certified)

  pub jobs_are1 : AreJobsOf graph (positions plan) plan (all_nodes plan) jobs1
  jobs_are1 = record {
    len = len1 ∙ w.jobs_are.len;
    each = λ i d lt.
        let lj : i < length jobs = omega (arith, lt, len1) in
        subst (λ (j : Job Player). IsPlayerOf graph (positions plan) plan.homes (get_or (all_nodes plan) i 0) j.desk.homes.items j.part) (sym (each1 i d lj))
        (player_began graph (positions plan) plan.homes (get_or (all_nodes plan) i 0) frames (get_or jobs i d).desk.homes.items (get_or jobs i d) (w.jobs_are.each i d lj));
  }

  -- the node of a job
  job_node : (h : History) → Stands (parts_of graph plan block frames jobs pool) h → (i : ℕ) (d : Job Player) → i < length jobs → (get_or jobs i d).node ≡ get_or (all_nodes plan) i 0
  job_node h s i d lt =
      sym (get_or-map (λ (j : Seen). j.node) (map seen jobs) i (seen d) 0 (let l = length-map jobs (λ (j : Job Player). seen j) in omega arith)
      ∙ ap (λ (j : Seen). j.node) (get_or-map seen jobs i d (seen d) lt))
      ∙ ap (λ vs. get_or vs i 0) s.nodes

  -- the state that the jobs are in, where the engine stands for h
  pub at_start : (h : History) → Stands (parts_of graph plan block frames jobs pool) h → AreAt (all_nodes plan) jobs1 pool (state_of (parts_of graph plan block frames jobs pool) h)
  at_start h s = record {
    holds = λ i d lt.
        let lj : i < length jobs = omega (arith, lt, len1) in
        let ln : i < length (all_nodes plan) = let l = w.jobs_are.len in omega arith in
        let m = node_at graph plan w.sound w.certified (get_or (all_nodes plan) i 0) (live_at graph plan w.sound w.certified i ln) in
        let lm = length-map jobs (λ (j : Job Player). seen j) in
        let stands : JobStands graph (positions plan) h (seen (get_or jobs i d)) =
        subst (λ (j : Seen). JobStands graph (positions plan) h j) (get_or-map seen jobs i d (seen d) lj) (s.jobs i (seen d) (omega arith)) in
        subst (λ (j : Job Player). Holds j.part (kept_of graph (positions plan) h (get_or (all_nodes plan) i 0))) (sym (each1 i d lj))
        (holds_at graph (positions plan) plan.homes (get_or (all_nodes plan) i 0) (get_or jobs i d).desk.homes.items (began frames (get_or jobs i d)).part
        (player_began graph (positions plan) plan.homes (get_or (all_nodes plan) i 0) frames (get_or jobs i d).desk.homes.items (get_or jobs i d) (w.jobs_are.each i d lj))
        m.0 m.1 h (get_or jobs i d).node (kernel_of (get_or jobs i d).part.server) (job_node h s i d lj)
        (sym (ap (λ (j : Seen). j.kernel) (seen_began frames (get_or jobs i d)))) stands
        (λ e is. let f = exit_counts frames (get_or jobs i d).part.server e is in let t = s.frames in omega arith));
    samples = λ b k. refl;
  }

  -- ---- a block
  module _ (n : ℕ) (input : List ℤ) (li : length input ≡ n * sh.ins) (small : All (λ y. unsigned_abs y ≤ 2 ^ 31) input) (most : n ≤ block) where
    -- what came in, with the block
    abbrev then_came : History → History
    then_came h = frames_of sh.ins input ++ h

    pub small_then : (h : History) → AreSmall sh.ins h → AreSmall sh.ins (frames_of sh.ins input ++ h)
    small_then h s = all_append (IsSmall sh.ins) (frames_of sh.ins input) h (all_before (IsSmall sh.ins) (frame_in sh.ins input) (λ t. small_block sh.ins input t small) (length input / sh.ins)) s

    count : length input / sh.ins ≡ n
    count = whole sh.ins n (length input) w.some_in li

    brings : (h : History) (k : ℕ) → k < n → frame_in sh.ins input k ≡ frame_at (frames_of sh.ins input ++ h) (length h + k)
    brings h k lt =
        let long = length-frames_of sh.ins n input w.some_in li in
        sym (frame_after (frames_of sh.ins input) h k (omega (arith, long))
        ∙ ap (λ l. get_or (frames_of sh.ins input) (l - 1 - k) []) long
        ∙ ap (λ c. get_or (before (frame_in sh.ins input) c) (n - 1 - k) []) count
        ∙ get_or-before (frame_in sh.ins input) n k lt)

    -- the state by time
    by_time : (h : History) (v : ℕ) → is_live graph v ≡ true → kept_of graph (positions plan) h v ≡ kept_at graph (positions plan) (frame_at (frames_of sh.ins input ++ h)) (length h) v
    by_time h v live =
        let m = node_at graph plan w.sound w.certified v live in
        subst (λ k. kept_of graph (positions plan) k v ≡ kept_at graph (positions plan) (frame_at (frames_of sh.ins input ++ h)) (length h) v) (before_frames_append (frames_of sh.ins input) h)
        (state_by_time graph (positions plan) (depth graph) ranked late (frame_at (frames_of sh.ins input ++ h)) (length h) v m.0 m.1 live)

    pub can_run : CanRunBlock input sh.ins sh.ends.items n jobs1 pool
    can_run = record {
      graph = graph;
      plan = plan;
      sound = w.sound;
      certified = w.certified;
      x = frame_at (frames_of sh.ins input ++ w.history);
      time = length w.history;
      state = state_of (parts_of graph plan block frames jobs pool) w.history;
      brings = λ k lt. brings w.history k lt;
      small = λ t. input_for graph w.sound sh.ins w.ins_is (before (frame_at (frames_of sh.ins input ++ w.history)) t)
          (all_before (IsSmall sh.ins) (frame_at (frames_of sh.ins input ++ w.history)) (λ s. small_at sh.ins (frames_of sh.ins input ++ w.history) (length (frames_of sh.ins input ++ w.history) - 1 - s) (small_then w.history w.small)) t);
      jobs_are = jobs_are1;
      here = at_start w.history w.stands;
      stands = λ v live. by_time w.history v live;
      ends_are = w.ends_are;
      pool_len = w.pool_len;
      room = λ b lt. let r = w.room b lt in omega arith;
      size = let m = w.most in omega arith;
      entry = omega (arith, li);
      outs = λ i d lt.
          let lj : i < length jobs = omega (arith, lt, len1) in
          subst (λ (j : Job Player). length j.desk.outs.items ≡ length j.desk.homes.items) (sym (each1 i d lj)) (w.places i d lj);
      few = let f = w.few in omega (arith, len1);
    }

    -- ---- after it
    module _ (jobs' : List (Job Player)) (pool' : List (List ℤ)) (ran : BlockHasRun input sh.ins sh.ends.items n jobs1 pool jobs' pool') where
      pub len' : length jobs' ≡ length jobs
      len' = ran.jobs_len ∙ len1

      -- the sh.exit of a player of the output node
      pub exit_at : (i : ℕ) (d : Job Player) → i < length jobs → (js : List (Job Player)) → AreJobsOf graph (positions plan) plan (all_nodes plan) js → length js ≡ length jobs → get_or (all_nodes plan) i 0 ≡ output_name graph
          → (e : Leaving) × ((get_or js i d).part.server ≡ Exit e) × (length e.lines.items ≡ sh.outs) × ((c : ℕ) → c < length e.lines.items → length (get_or e.lines.items c []) ≡ 8192)
      exit_at i d lt js are l out =
          let o = output_node graph w.sound in
          let named = ap (node_named graph) out ∙ o.1 in
          let x = is_exit graph (positions plan) plan.homes (get_or (all_nodes plan) i 0) (get_or js i d).desk.homes.items (get_or js i d).part (are.each i d (omega (arith, lt, l))) o.0 named o.2 in
          let wide : ins_of o.0.kind ≡ sh.outs = sym (w.outs_is ∙ ap (λ (z : Option Node). or_zero_ins z) o.1) in
          (x.0, x.1, x.2 ∙ wide, x.3)
        where
          or_zero_ins : Option Node → ℕ
          or_zero_ins None = 0
          or_zero_ins (Some z) = ins_of z.kind

      module _ (h : History) (s : Stands (parts_of graph plan block frames jobs pool) h) (orders : List (List ℕ)) (o : core.AreOrdersOf n (map names plan.waves) orders) where
        abbrev state' : core.State Kept
        state' = core.after (machine graph (positions plan) plan.homes (frame_in sh.ins input)) orders (state_of (parts_of graph plan block frames jobs pool) h)

        after : AreJobsOf graph (positions plan) plan (all_nodes plan) jobs' × AreAt (all_nodes plan) jobs' pool' (core.after (machine graph (positions plan) plan.homes (frame_in sh.ins input)) orders (state_of (parts_of graph plan block frames jobs pool) h))
        after = ran.ran graph plan (state_of (parts_of graph plan block frames jobs pool) h) orders w.sound w.certified jobs_are1 (at_start h s) w.ends_are o

        node' : (i : ℕ) (d : Job Player) → i < length jobs → (get_or jobs' i d).node ≡ get_or (all_nodes plan) i 0
        node' i d lt =
            (ran.stays i d (omega (arith, lt, len1))).node ∙ ap (λ (j : Job Player). j.node) (each1 i d lt) ∙ job_node h s i d lt

        pub jobs_left : All (λ j. JobIsLeft graph (positions plan) ((core.after (machine graph (positions plan) plan.homes (frame_in sh.ins input)) orders (state_of (parts_of graph plan block frames jobs pool) h)).kept j.node) j) (map seen jobs')
        jobs_left i d' lt =
            let lm = length-map jobs' (λ (j : Job Player). seen j) in
            let l' : i < length jobs' = omega arith in
            let lj : i < length jobs = omega (arith, l', len') in
            let d = pick jobs' i l' in
            let ln : i < length (all_nodes plan) = let l = w.jobs_are.len in omega arith in
            let m = node_at graph plan w.sound w.certified (get_or (all_nodes plan) i 0) (live_at graph plan w.sound w.certified i ln) in
            subst (λ (j : Seen). JobIsLeft graph (positions plan) ((core.after (machine graph (positions plan) plan.homes (frame_in sh.ins input)) orders (state_of (parts_of graph plan block frames jobs pool) h)).kept j.node) j)
            (sym (get_or-map seen jobs' i (pick jobs' i l') d' l'))
            (subst (λ v. JobIsLeft graph (positions plan) ((core.after (machine graph (positions plan) plan.homes (frame_in sh.ins input)) orders (state_of (parts_of graph plan block frames jobs pool) h)).kept v) (seen (get_or jobs' i (pick jobs' i l')))) (sym (node' i (pick jobs' i l') lj))
            (left_at graph (positions plan) plan.homes (get_or (all_nodes plan) i 0) (get_or jobs' i (pick jobs' i l')).desk.homes.items (get_or jobs' i (pick jobs' i l')).part (after.0.each i (pick jobs' i l') l') m.0 m.1
            ((core.after (machine graph (positions plan) plan.homes (frame_in sh.ins input)) orders (state_of (parts_of graph plan block frames jobs pool) h)).kept (get_or (all_nodes plan) i 0))
            (get_or jobs' i (pick jobs' i l')).node (node' i (pick jobs' i l') lj) (after.1.holds i (pick jobs' i l') l')))

        -- what came into the output node, by time
        out_live : is_live graph (output_name graph) ≡ true
        out_live = subst (λ v. is_live graph v ≡ true) w.exit_is (live_at graph plan w.sound w.certified sh.exit (let l = w.jobs_are.len in let e = w.exit_in in omega arith))

        out_kept : (core.after (machine graph (positions plan) plan.homes (frame_in sh.ins input)) orders (state_of (parts_of graph plan block frames jobs pool) h)).kept (output_name graph)
            ≡ kept_at graph (positions plan) (frame_at (frames_of sh.ins input ++ h)) (length h + n) (output_name graph)
        out_kept = blocks_run graph plan (frame_at (frames_of sh.ins input ++ h)) (frame_in sh.ins input) (length h) n orders (state_of (parts_of graph plan block frames jobs pool) h) w.sound w.certified
            (λ k lt. brings h k lt) o (λ v live. by_time h v live) (output_name graph) out_live

        module _ (output' : List ℤ) (lo : length output' ≡ n * sh.outs) (d : Job Player) (written : (e : Leaving) → (get_or jobs' sh.exit d).part.server ≡ Exit e → HasWritten n sh.outs e output') where
          abbrev y : ℕ → Frame
          y t = came_at graph (positions plan) (frame_at (frames_of sh.ins input ++ h)) (node_named graph (output_name graph)) (output_name graph) t

          wide : (t : ℕ) → length (came_at graph (positions plan) (frame_at (frames_of sh.ins input ++ h)) (node_named graph (output_name graph)) (output_name graph) t) ≡ sh.outs
          wide t =
              let m = output_node graph w.sound in
              ap (λ z. length (came_at graph (positions plan) (frame_at (frames_of sh.ins input ++ h)) z (output_name graph) t)) m.1
              ∙ ap length (cond-false (is_input m.0.kind) (frame_at (frames_of sh.ins input ++ h) t) (in_at graph (positions plan) (frame_at (frames_of sh.ins input ++ h)) (output_name graph) t) m.3)
              ∙ ap length (sums_are graph (positions plan) (frame_at (frames_of sh.ins input ++ h)) (output_name graph) t)
              ∙ length-map-range_with_len (λ dd. sum_of (λ cc. tap graph (positions plan) (out_at graph (positions plan) (frame_at (frames_of sh.ins input ++ h))) cc t) (connections_to graph (output_name graph) dd)) 0 (ins_at graph (output_name graph))
              ∙ sym w.outs_is

          same : (k cc : ℕ) → k < n → cc < sh.outs → get_or output' (k * sh.outs + cc) (pos 0) ≡ get_or (came_at graph (positions plan) (frame_at (frames_of sh.ins input ++ h)) (node_named graph (output_name graph)) (output_name graph) (length h + k)) cc (pos 0)
          same k cc lk lc =
              let ex = exit_at sh.exit d w.exit_in jobs' after.0 len' w.exit_is in
              let l' : sh.exit < length jobs' = let e = w.exit_in in omega (arith, len') in
              let l1 : sh.exit < length jobs1 = let e = w.exit_in in omega (arith, len1) in
              let st : ex.0.start ≡ frames = exit_still frames (get_or jobs sh.exit d).part.server (get_or jobs' sh.exit d).part.server
              (subst (λ (j : Job Player). SameServer j.part.server (get_or jobs' sh.exit d).part.server) (each1 sh.exit d w.exit_in) (ran.stays sh.exit d l1).server) ex.0 ex.1 in
              let kept : Kept = kept_at graph (positions plan) (frame_at (frames_of sh.ins input ++ h)) (length h + n) (output_name graph) in
              let holds : ServerHolds (get_or jobs' sh.exit d).part.server (kept_at graph (positions plan) (frame_at (frames_of sh.ins input ++ h)) (length h + n) (output_name graph)).came =
              subst (λ (z : Kept). ServerHolds (get_or jobs' sh.exit d).part.server z.came) out_kept
              (subst (λ v. ServerHolds (get_or jobs' sh.exit d).part.server ((core.after (machine graph (positions plan) plan.homes (frame_in sh.ins input)) orders (state_of (parts_of graph plan block frames jobs pool) h)).kept v).came) w.exit_is
              (after.1.holds sh.exit d l').kernel) in
              let left : HasLeft ex.0 (kept_at graph (positions plan) (frame_at (frames_of sh.ins input ++ h)) (length h + n) (output_name graph)).came =
              subst (λ (z : Server). ServerHolds z (kept_at graph (positions plan) (frame_at (frames_of sh.ins input ++ h)) (length h + n) (output_name graph)).came) ex.1 holds in
              let lc' : cc < length ex.0.lines.items = let e = ex.2 in omega arith in
              let long = ex.3 cc lc' in
              let lb = length-before (came_at graph (positions plan) (frame_at (frames_of sh.ins input ++ h)) (node_named graph (output_name graph)) (output_name graph)) (length h + n) in
              let fr = s.frames in
              let mb = w.most in
              let place : n - 1 - k ≡ length h + n - 1 - (length h + k) = omega arith in
              written ex.0 ex.1 k cc lk lc
              ∙ left cc (n - 1 - k) lc' (omega arith) (omega arith)
              ∙ ap (λ z. get_or (get_or (before (came_at graph (positions plan) (frame_at (frames_of sh.ins input ++ h)) (node_named graph (output_name graph)) (output_name graph)) (length h + n)) z []) cc (pos 0)) place
              ∙ ap (λ (f : Frame). get_or f cc (pos 0)) (get_or-before (came_at graph (positions plan) (frame_at (frames_of sh.ins input ++ h)) (node_named graph (output_name graph)) (output_name graph)) (length h + n) (length h + k) (omega arith))

          pub gave : frames_of sh.outs output' ≡ take n ((core.after (machine graph (positions plan) plan.homes (frame_in sh.ins input)) orders (state_of (parts_of graph plan block frames jobs pool) h)).kept (output_name graph)).came
          gave =
              frames_are (came_at graph (positions plan) (frame_at (frames_of sh.ins input ++ h)) (node_named graph (output_name graph)) (output_name graph)) (length h) n sh.outs output' w.some_out lo (λ k lt. wide (length h + k)) same
              ∙ ap (λ (z : Kept). take n z.came) (sym out_kept)

      -- ---- the clauses
      module _ (output' : List ℤ) (lo : length output' ≡ n * sh.outs) (written : (d : Job Player) (e : Leaving) → (get_or jobs' sh.exit d).part.server ≡ Exit e → HasWritten n sh.outs e output') where
        pub any_order : (h : History) → Stands (parts_of graph plan block frames jobs pool) h → AnyOrder (parts_of graph plan block frames jobs pool) (parts_of graph plan block (frames + n) jobs' pool') input output' h
        any_order h s k orders lk o =
            let wide_in : length input ≡ k * sh.ins = lk ∙ ap (λ z. k * z) (sym w.ins_is) in
            let same : n ≡ k = sym (whole sh.ins n (length input) w.some_in li) ∙ whole sh.ins k (length input) w.some_in wide_in in
            let d = pick jobs sh.exit w.exit_in in
            subst (λ m. core.AreOrdersOf m (map names plan.waves) orders → IsLeftBy (parts_of graph plan block (frames + n) jobs' pool') m output' (after_orders (parts_of graph plan block frames jobs pool) input h orders)) same
            (λ on. subst (λ i. IsLeftBy (parts_of graph plan block (frames + n) jobs' pool') n output' (core.after (machine graph (positions plan) plan.homes (frame_in i input)) orders (state_of (parts_of graph plan block frames jobs pool) h))) w.ins_is
            (record {
              gave = subst (λ m. frames_of m output' ≡ take n ((core.after (machine graph (positions plan) plan.homes (frame_in sh.ins input)) orders (state_of (parts_of graph plan block frames jobs pool) h)).kept (output_name graph)).came) w.outs_is
                  (gave h s orders on output' lo (pick jobs sh.exit w.exit_in) (written (pick jobs sh.exit w.exit_in)));
              pool = λ b z. sym ((after h s orders on).1.samples b z);
              jobs = jobs_left h s orders on;
            })) o

        nodes_same : map (λ (j : Seen). j.node) (map seen jobs') ≡ map (λ (j : Seen). j.node) (map seen jobs)
        nodes_same =
            let a = length-map jobs' (λ (j : Job Player). seen j) in
            let b = length-map jobs (λ (j : Job Player). seen j) in
            let c = length-map (map seen jobs') (λ (j : Seen). j.node) in
            let e = length-map (map seen jobs) (λ (j : Seen). j.node) in
            ext_get_or 0 (map (λ (j : Seen). j.node) (map seen jobs')) (map (λ (j : Seen). j.node) (map seen jobs)) (omega (arith, len'))
            (λ i lt.
            let l' : i < length jobs' = omega arith in
            let lj : i < length jobs = omega (arith, l', len') in
            let d = pick jobs i lj in
            get_or-map (λ (j : Seen). j.node) (map seen jobs') i (seen (pick jobs i lj)) 0 (omega arith)
            ∙ ap (λ (j : Seen). j.node) (get_or-map seen jobs' i (pick jobs i lj) (seen (pick jobs i lj)) l')
            ∙ (ran.stays i (pick jobs i lj) (omega (arith, lj, len1))).node ∙ ap (λ (j : Job Player). j.node) (each1 i (pick jobs i lj) lj)
            ∙ sym (get_or-map (λ (j : Seen). j.node) (map seen jobs) i (seen (pick jobs i lj)) 0 (omega arith)
            ∙ ap (λ (j : Seen). j.node) (get_or-map seen jobs i (pick jobs i lj) (seen (pick jobs i lj)) lj)))

        pub both : (h : History) → Stands (parts_of graph plan block frames jobs pool) h
            → Stands (parts_of graph plan block (frames + n) jobs' pool') (frames_of sh.ins input ++ h) × Answers (parts_of graph plan block frames jobs pool) input output' h
        both h s =
            let r = orders_give (parts_of graph plan block frames jobs pool) (parts_of graph plan block (frames + n) jobs' pool') n input output' h w.sound w.certified (record { graph = refl; plan = refl; block = refl })
            (li ∙ ap (λ z. n * z) w.ins_is) nodes_same refl s (any_order h s) in
            (subst (λ i. Stands (parts_of graph plan block (frames + n) jobs' pool') (frames_of i input ++ h)) (sym w.ins_is) r.0, r.1)

        pub works : IsWorking graph plan block (frames + n) sh jobs' pool'
        works = record {
          sound = w.sound;
          certified = w.certified;
          history = frames_of sh.ins input ++ w.history;
          stands = (both w.history w.stands).0;
          small = small_then w.history w.small;
          jobs_are = (after w.history w.stands (one_thread n plan.waves) (some_order n plan.waves (schedule graph plan w.sound w.certified).rising)).0;
          ends_are = w.ends_are;
          pool_len = ran.pool_len ∙ w.pool_len;
          room = λ b lt. ran.lengths b ∙ w.room b (omega (arith, lt, ran.pool_len));
          places = ran.outs;
          few = let f = w.few in omega (arith, len');
          most = w.most;
          ins_is = w.ins_is;
          outs_is = w.outs_is;
          some_in = w.some_in;
          some_out = w.some_out;
          exit_in = let e = w.exit_in in omega (arith, len');
          exit_is = w.exit_is;
        }

      are' : AreJobsOf graph (positions plan) plan (all_nodes plan) jobs'
      are' = (ran.ran graph plan (state_of (parts_of graph plan block frames jobs pool) w.history) (one_thread n plan.waves) w.sound w.certified jobs_are1 (at_start w.history w.stands) w.ends_are
          (some_order n plan.waves (schedule graph plan w.sound w.certified).rising)).0

      pub can_leave : (d : Job Player) (e : Leaving) → (get_or jobs' sh.exit d).part.server ≡ Exit e → CanLeave n sh.outs e
      can_leave d e is =
          let x = exit_at sh.exit d w.exit_in jobs' are' len' w.exit_is in
          let same : Exit x.0 ≡ Exit e = sym x.1 ∙ is in
          let z : x.0 ≡ e = cc in
          let m = w.most in
          record {
            wide = subst (λ (y : Leaving). length y.lines.items ≡ sh.outs) z x.2;
            long = λ c lc. subst (λ (y : Leaving). n ≤ length (get_or y.lines.items c [])) z (let l = x.3 c (omega (arith, lc, x.2)) in omega arith);
          }

pub has_rendered : (frames : ℕ) (sh : Shape) (jobs : List (Job Player)) (pool : List (List ℤ)) (input output : List ℤ) → MayRender sh frames jobs pool input output
    → (jobs1 : List (Job Player)) → length jobs1 ≡ length jobs → ((i : ℕ) (d : Job Player) → i < length jobs → get_or jobs1 i d ≡ began frames (get_or jobs i d))
    → (jobs' : List (Job Player)) (pool' : List (List ℤ)) → BlockHasRun input sh.ins sh.ends.items (length input / sh.ins) jobs1 pool jobs' pool'
    → (output' : List ℤ) → length output' ≡ length output → ((d : Job Player) (e : Leaving) → (get_or jobs' sh.exit d).part.server ≡ Exit e → HasWritten (length input / sh.ins) sh.outs e output')
    → IsRendered sh frames jobs pool input jobs' pool' output'
has_rendered frames sh jobs pool input output can jobs1 len1 each1 jobs' pool' ran output' len written =
    let w = can.working in
    let li : length input ≡ (length input / sh.ins) * sh.ins = can.is_block.comes ∙ ap (λ z. (length input / sh.ins) * z) (sym w.ins_is) in
    let lo : length output' ≡ (length input / sh.ins) * sh.outs = len ∙ can.is_block.goes ∙ ap (λ z. (length input / sh.ins) * z) (sym w.outs_is) in
    record {
      jobs_len = ran.jobs_len ∙ len1;
      pool_len = ran.pool_len;
      output_len = lo;
      working = λ graph plan block v most. works frames sh graph plan block jobs pool v jobs1 len1 each1 (length input / sh.ins) input li can.is_block.small most jobs' pool' ran output' lo written;
      any = λ graph plan block v most h s. any_order frames sh graph plan block jobs pool v jobs1 len1 each1 (length input / sh.ins) input li can.is_block.small most jobs' pool' ran output' lo written h s;
      both = λ graph plan block v most h s. both frames sh graph plan block jobs pool v jobs1 len1 each1 (length input / sh.ins) input li can.is_block.small most jobs' pool' ran output' lo written h s;
    }

pub may_run : (frames : ℕ) (sh : Shape) (jobs : List (Job Player)) (pool : List (List ℤ)) (input output : List ℤ) → MayRender sh frames jobs pool input output
    → (jobs1 : List (Job Player)) → length jobs1 ≡ length jobs → ((i : ℕ) (d : Job Player) → i < length jobs → get_or jobs1 i d ≡ began frames (get_or jobs i d))
    → CanRunBlock input sh.ins sh.ends.items (length input / sh.ins) jobs1 pool
may_run frames sh jobs pool input output can jobs1 len1 each1 =
    let w = can.working in
    can_run frames sh can.graph can.plan can.block jobs pool w jobs1 len1 each1 (length input / sh.ins) input (can.is_block.comes ∙ ap (λ z. (length input / sh.ins) * z) (sym w.ins_is)) can.is_block.small can.is_block.most

pub may_leave : (frames : ℕ) (sh : Shape) (jobs : List (Job Player)) (pool : List (List ℤ)) (input output : List ℤ) → MayRender sh frames jobs pool input output
    → (jobs1 : List (Job Player)) → length jobs1 ≡ length jobs → ((i : ℕ) (d : Job Player) → i < length jobs → get_or jobs1 i d ≡ began frames (get_or jobs i d))
    → (jobs' : List (Job Player)) (pool' : List (List ℤ)) → BlockHasRun input sh.ins sh.ends.items (length input / sh.ins) jobs1 pool jobs' pool'
    → (d : Job Player) (e : Leaving) → (get_or jobs' sh.exit d).part.server ≡ Exit e → CanLeave (length input / sh.ins) sh.outs e
may_leave frames sh jobs pool input output can jobs1 len1 each1 jobs' pool' ran =
    let w = can.working in
    can_leave frames sh can.graph can.plan can.block jobs pool w jobs1 len1 each1 (length input / sh.ins) input (can.is_block.comes ∙ ap (λ z. (length input / sh.ins) * z) (sym w.ins_is)) can.is_block.small can.is_block.most jobs' pool' ran
