-- The jobs of a plan, one after another.
use Rattle.std.proofs.Common.{◌≡◌, ℕ, zero, suc, ◌<◌, ◌≤◌, ℤ, pos, List, [], ◌∷◌, length, map, take, replicate, get_or, refl, sym, ◌∙◌, ap, subst, arith, Bool, true, false, cond, Some, ◌==◌}
use Rattle.std.specs.List.{Contains, flat_map, filter, find, position}
use Rattle.std.specs.Prelude.{is_some, IsSome}
use Rattle.std.proofs.lemmas.Bool.{eqb-true}
use Rattle.std.proofs.lemmas.List.Quantifiers.{position-Some}
use Rattle.std.proofs.lemmas.List.Sorted.{Contains-permutation, length_permutation}
use Rattle.std.proofs.lemmas.List.{length-map, get_or-map, get_or_default, ext_get_or, get_or-replicate, length-replicate}
use Rattle.graph_model.specs.Histories.{window}
use Rattle.graph_model.specs.Graphs.{in_channels, out_channels, output_name, connections_into}
use Rattle.graph_model.specs.Answers.{delay}
use Rattle.graph_model.proofs.PathLaws.{same_name}
use Rattle.graph_model.proofs.LiveLaws.{live_by, output_is_live}
use Rattle.graph_model.proofs.ReachLaws.{filter_has}
use Rattle.graph_model.specs.declared.graph.Node.{Node}
use Rattle.graph_model.specs.declared.graph.Connection.{Connection}
use Rattle.plan_model.proofs.ExampleTools.{listed}
use Rattle.graph_model.proofs.NodeFacts.{has_place}
use Rattle.engine_model.specs.Engines.{Job as Seen, Stands, JobStands}
use Rattle.engine_model.specs.Machines.{windows_on, delays_into}
use Rattle.engine_model.proofs.NewJobLaws.{new_stand}
use Rattle.engine_model.proofs.StateTimeLaws.{windows_are}
use Rattle.engine.specs.Views.{seen, parts_of}
use Rattle.engine.specs.Working.{IsWorking}
use Rattle.engine.specs.declared.shape.Shape.{Shape}
use Rattle.engine.proofs.StandFacts.{live_at, node_at, left_at}
use Rattle.graph_model.specs.Paths.{is_live, live_nodes}
use Rattle.graph_model.specs.Sound.{IsSound}
use Rattle.graph_model.specs.declared.graph.Graph.{Graph}
use Rattle.plan_model.specs.Certified.{IsCertified, positions}
use Rattle.plan_model.specs.Schedules.{names}
use Rattle.plan_model.specs.declared.plan.Plan.{Plan}
use Rattle.engine_model.proofs.PlanLaws.{schedule}
use Rattle.pool_waves.specs.declared.job.Job.{Job}
use Rattle.players.specs.declared.playing.Player.{Player}
use Rattle.plan_jobs.specs.Blocks.{AreEnds, all_nodes}
use Rattle.plan_jobs.specs.Jobs.{AreNewJobs}

-- ---- the exit
any_job : (xs : List (Job Player)) (i : ℕ) → i < length xs → Job Player
any_job [] i lt = absurd (omega arith)
any_job (x ∷ xs) i lt = x

found_within : (p : Job Player → Bool) (xs : List (Job Player)) (i : ℕ) → position p xs ≡ Some i → 0 < length xs
found_within p [] i e = absurd (cc)
found_within p (x ∷ xs) i e = omega arith

find_some : {X : Type 0} (p : X → Bool) (xs : List X) (i : ℕ) (d : X) → i < length xs → p (get_or xs i d) ≡ true → IsSome (find p xs)
find_some p [] i d lt t = absurd (omega arith)
find_some p (x ∷ xs) zero d lt t = ap (λ b. is_some (cond b (Some x) (find p xs))) t
find_some p (x ∷ xs) (suc i) d lt t = elim (p x) as (λ b. is_some (cond b (Some x) (find p xs)) ≡ true) [ true ↦ refl | false ↦ find_some p xs i d (omega arith) t ]

pub has_exit : (g : Graph) (plan : Plan) → IsSound g → IsCertified g plan → (jobs : List (Job Player)) → AreNewJobs g plan (all_nodes plan) jobs → IsSome (position (λ (j : Job Player). j.node == output_name g) jobs)
has_exit g plan sound c jobs a =
    let v = output_name g in
    let live : is_live g (output_name g) ≡ true = output_is_live g sound in
    let there : Contains (live_nodes g) (output_name g) = filter_has (is_live g) (map (λ n. n.uid.0) g.nodes) (output_name g) (listed g (output_name g) (live_by g sound (output_name g) live)) live in
    let all : Contains (flat_map names plan.waves) (output_name g) = Contains-permutation (live_nodes g) (flat_map names plan.waves) (output_name g) (schedule g plan sound c).once there in
    let lt : all.0 < length jobs = let l = all.1 in omega (arith, a.len) in
    let name : get_or (all_nodes plan) all.0 0 ≡ output_name g = get_or_default (all_nodes plan) all.0 0 (output_name g) all.1 ∙ all.2 in
    has_place (λ (j : Job Player). j.node == output_name g) jobs
    (find_some (λ (j : Job Player). j.node == output_name g) jobs all.0 (any_job jobs all.0 lt) lt
    (ap (λ n. n == output_name g) ((a.each all.0 (any_job jobs all.0 lt) lt).node ∙ name) ∙ same_name (output_name g)))

-- ---- a new engine
windows_empty : (g : Graph) (p : ℕ → ℕ) (cs : List Connection) → map (λ c. window (delay g p c) []) cs ≡ map (λ c. replicate (delay g p c) (pos 0)) cs
windows_empty g p [] = refl
windows_empty g p (c ∷ cs) = ap (λ w. w ∷ map (λ e. window (delay g p e) []) cs) (whole (delay g p c)) ∙ ap (λ ws. replicate (delay g p c) (pos 0) ∷ ws) (windows_empty g p cs)
  where
    whole : (d : ℕ) → take d (replicate d (pos 0)) ≡ replicate d (pos 0)
    whole zero = refl
    whole (suc d) = ap (λ xs. pos 0 ∷ xs) (whole d)

module _ (g : Graph) (plan : Plan) (sound : IsSound g) (c : IsCertified g plan) (block : ℕ) (most : block ≤ 8192) (jobs : List (Job Player)) (a : AreNewJobs g plan (all_nodes plan) jobs)
    (sh : Shape) (e : AreEnds plan (length plan.waves) sh.ends.items) (pool : List (List ℤ)) (zeros : pool ≡ replicate plan.channels (replicate block (pos 0))) where
  nodes_are : map (λ (j : Seen). j.node) (map seen jobs) ≡ all_nodes plan
  nodes_are =
      let lm = length-map jobs (λ (j : Job Player). seen j) in
      let ln = length-map (map seen jobs) (λ (j : Seen). j.node) in
      ext_get_or 0 (map (λ (j : Seen). j.node) (map seen jobs)) (all_nodes plan) (omega (arith, a.len))
      (λ i lt.
      let lj : i < length jobs = omega arith in
      let d = pick jobs i lj in
      get_or-map (λ (j : Seen). j.node) (map seen jobs) i (seen (pick jobs i lj)) 0 (omega arith)
      ∙ ap (λ (j : Seen). j.node) (get_or-map seen jobs i (pick jobs i lj) (seen (pick jobs i lj)) lj)
      ∙ (a.each i (pick jobs i lj) lj).node)
    where
      pick : (xs : List (Job Player)) (i : ℕ) → i < length xs → Job Player
      pick [] i lt = absurd (omega arith)
      pick (x ∷ xs) i lt = x

  pub new_stands : Stands (parts_of g plan block 0 jobs pool) []
  new_stands = record {
    frames = refl;
    nodes = nodes_are;
    jobs = λ i d lt.
        let lm = length-map jobs (λ (j : Job Player). seen j) in
        let lj : i < length jobs = omega arith in
        let ln : i < length (all_nodes plan) = omega (arith, lj, a.len) in
        let j0 = some jobs i lj in
        let m = node_at g plan sound c (get_or (all_nodes plan) i 0) (live_at g plan sound c i ln) in
        let n = a.each i (some jobs i lj) lj in
        let left = left_at g (positions plan) plan.homes (get_or (all_nodes plan) i 0) (get_or jobs i (some jobs i lj)).desk.homes.items (get_or jobs i (some jobs i lj)).part n.player.is m.0 m.1
        (record { came = []; passed = map (λ (k : Connection). []) (connections_into g (get_or (all_nodes plan) i 0)) }) (get_or jobs i (some jobs i lj)).node n.node n.player.holds in
        subst (λ (j : Seen). JobStands g (positions plan) [] j) (sym (get_or-map seen jobs i (some jobs i lj) d lj))
        (new_stand g (positions plan) (seen (get_or jobs i (some jobs i lj))) left.kernel
        (left.lines
        ∙ ap (λ u. windows_on (delays_into g (positions plan) (get_or jobs i (some jobs i lj)).node) (map (λ (k : Connection). []) (connections_into g u))) (sym n.node)
        ∙ windows_are g (positions plan) (λ (k : Connection). []) (connections_into g (get_or jobs i (some jobs i lj)).node)
        ∙ windows_empty g (positions plan) (connections_into g (get_or jobs i (some jobs i lj)).node)));
  }
    where
      some : (xs : List (Job Player)) (i : ℕ) → i < length xs → Job Player
      some [] i lt = absurd (omega arith)
      some (x ∷ xs) i lt = x

  pub new_works : sh.ins ≡ in_channels g → 0 < sh.ins → sh.outs ≡ out_channels g → 0 < sh.outs → position (λ (j : Job Player). j.node == output_name g) jobs ≡ Some sh.exit
      → IsWorking g plan block 0 sh jobs pool
  new_works ins_is some_in outs_is some_out found =
      let d = any_job jobs 0 (found_within (λ (j : Job Player). j.node == output_name g) jobs sh.exit found) in
      let x = position-Some (λ (j : Job Player). j.node == output_name g) jobs sh.exit d found in
      record {
        sound = sound;
        certified = c;
        history = [];
        stands = new_stands;
        small = λ k f lt. absurd (omega arith);
        jobs_are = record { len = a.len; each = λ i k lt. (a.each i k lt).player.is };
        ends_are = e;
        pool_len = ap length zeros ∙ length-replicate plan.channels (replicate block (pos 0));
        room = λ b lt.
            let l : length pool ≡ plan.channels = ap length zeros ∙ length-replicate plan.channels (replicate block (pos 0)) in
            ap (λ (q : List (List ℤ)). length (get_or q b [])) zeros ∙ ap length (get_or-replicate plan.channels b (replicate block (pos 0)) [] (omega (arith, lt, l))) ∙ length-replicate block (pos 0);
        places = λ i k lt. (a.each i k lt).places;
        few =
            let once = length_permutation (live_nodes g) (flat_map names plan.waves) (schedule g plan sound c).once in
            let most_live = filter_most (is_live g) (map (λ n. n.uid.0) g.nodes) in
            let lm = length-map g.nodes (λ (n : Node). n.uid.0) in
            let f = sound.fits.0 in
            omega (arith, once, most_live, a.len);
        most = most;
        ins_is = ins_is;
        outs_is = outs_is;
        some_in = some_in;
        some_out = some_out;
        exit_in = x.0;
        exit_is = sym (a.each sh.exit d x.0).node ∙ eqb-true (get_or jobs sh.exit d).node (output_name g) x.1;
      }
    where
      filter_most : (p : ℕ → Bool) (xs : List ℕ) → length (filter p xs) ≤ length xs
      filter_most p [] = omega arith
      filter_most p (x ∷ xs) = let r = filter_most p xs in elim (p x) as (λ b. length (cond b (x ∷ filter p xs) (filter p xs)) ≤ length (x ∷ xs)) [ true ↦ omega (arith, r) | false ↦ omega (arith, r) ]
