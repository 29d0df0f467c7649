-- The jobs of a plan, one after another.
use Rattle.std.proofs.Common.{◌≡◌, ℕ, zero, suc, ◌+◌, ◌-◌, ◌<◌, ◌≤◌, List, [], ◌∷◌, ◌++◌, length, map, take, get_or, refl, sym, ◌∙◌, ap, subst, arith, add-one, true, Some, ◌==◌, ⊎_elim}
use Rattle.std.specs.List.{All, flat_map, position}
use Rattle.std.specs.Prelude.{is_some, IsSome}
use Rattle.std.proofs.lemmas.Bool.{cases_lt}
use Rattle.std.proofs.lemmas.List.{length-append, length-map, get_or_append_left, get_or-append_right, append-nil, take_all, get_or-map}
use Rattle.std.proofs.lemmas.List.Elements.{Contains-get_or}
use Rattle.std.proofs.lemmas.Option.{slice_get-get_or}
use Rattle.graph_model.specs.Histories.{Frame}
use Rattle.graph_model.specs.Graphs.{node_named}
use Rattle.graph_model.specs.Named.{uid_at}
use Rattle.graph_model.specs.Paths.{is_live}
use Rattle.graph_model.specs.Sound.{IsSound}
use Rattle.graph_model.specs.declared.graph.Uid.{Uid}
use Rattle.graph_model.specs.declared.graph.Node.{Node}
use Rattle.graph_model.specs.declared.graph.Graph.{Graph}
use Rattle.graph_model.proofs.LiveLaws.{live_by}
use Rattle.graph_model.proofs.NodeFacts.{has_place, position_found, place_is}
use Rattle.plan_model.specs.Certified.{IsCertified, positions}
use Rattle.plan_model.specs.Schedules.{names}
use Rattle.plan_model.specs.declared.plan.Plan.{Plan}
use Rattle.plan_model.specs.declared.schedule.Wave.{Wave}
use Rattle.plan_model.proofs.ExampleTools.{listed}
use Rattle.plan_model.proofs.SavedLaws.{Contains-map}
use Rattle.engine_model.proofs.PlanLaws.{is_in_of}
use Rattle.engine_model.proofs.RunLaws.{on_in, some_node}
use Rattle.pool_waves.specs.declared.job.Job.{Job}
use Rattle.players.specs.declared.playing.Player.{Player}
use Rattle.plan_jobs.specs.Blocks.{AreEnds, nodes_before, all_nodes}
use Rattle.plan_jobs.specs.Jobs.{IsNewJob, AreNewJobs}

pub none_made : (g : Graph) (plan : Plan) → AreNewJobs g plan [] []
none_made g plan = record { len = refl; each = λ i d lt. absurd (omega arith) }

pub one_made : (g : Graph) (plan : Plan) (vs : List ℕ) (jobs : List (Job Player)) (v : ℕ) (j : Job Player) → AreNewJobs g plan vs jobs → IsNewJob g plan v j → AreNewJobs g plan (vs ++ v ∷ []) (jobs ++ j ∷ [])
one_made g plan vs jobs v j a is = record {
  len = length-append jobs (j ∷ []) ∙ ap (λ n. n + 1) a.len ∙ sym (length-append vs (v ∷ []));
  each = λ i d lt.
      let l = length-append jobs (j ∷ []) in
      let al = a.len in
      ⊎_elim
      (λ (before : i < length jobs).
      subst (λ u. IsNewJob g plan u (get_or (jobs ++ j ∷ []) i d)) (sym (get_or_append_left vs (v ∷ []) 0 i (omega arith)))
      (subst (λ (k : Job Player). IsNewJob g plan (get_or vs i 0) k) (sym (get_or_append_left jobs (j ∷ []) d i before)) (a.each i d before)))
      (λ (last : length jobs ≤ i).
      let z : i - length jobs ≡ 0 = omega arith in
      subst (λ u. IsNewJob g plan u (get_or (jobs ++ j ∷ []) i d)) (sym (get_or-append_right vs (v ∷ []) (length jobs) i 0 (sym al) (omega arith) ∙ ap (λ k. get_or (v ∷ []) k 0) z))
      (subst (λ (k : Job Player). IsNewJob g plan v k) (sym (get_or-append_right jobs (j ∷ []) (length jobs) i d refl (omega arith) ∙ ap (λ k. get_or (j ∷ []) k d) z)) is))
      (cases_lt i (length jobs));
}

-- the next one of a list
pub take_more : {X : Type 0} (xs : List X) (i : ℕ) (d : X) → i < length xs → take (i + 1) xs ≡ take i xs ++ get_or xs i d ∷ []
take_more xs i d lt = subst (λ k. take k xs ≡ take i xs ++ get_or xs i d ∷ []) (sym (add-one i)) (go xs i lt)
  where
    go : (ys : List _) (k : ℕ) → k < length ys → take (suc k) ys ≡ take k ys ++ get_or ys k d ∷ []
    go [] k l = absurd (omega arith)
    go (y ∷ ys) zero l = refl
    go (y ∷ ys) (suc k) l = ap (λ z. y ∷ z) (go ys k (omega arith))

append_twice : (a b c : List ℕ) → (a ++ b) ++ c ≡ a ++ (b ++ c)
append_twice [] b c = refl
append_twice (x ∷ a) b c = ap (λ z. x ∷ z) (append_twice a b c)

-- the loop over the nodes of a wave
pub wave_more : (g : Graph) (plan : Plan) (first : List (Job Player)) (us : List Uid) (i : ℕ) (jobs : List (Job Player)) (j : Job Player) (d : Uid) → i < length us
    → ((vs : List ℕ) → AreNewJobs g plan vs first → AreNewJobs g plan (vs ++ take i (map (λ u. u.0) us)) jobs) → IsNewJob g plan (get_or us i d).0 j
    → (vs : List ℕ) → AreNewJobs g plan vs first → AreNewJobs g plan (vs ++ take (i + 1) (map (λ u. u.0) us)) (jobs ++ j ∷ [])
wave_more g plan first us i jobs j d lt so is vs a =
    let lm = length-map us (λ (u : Uid). u.0) in
    let at : get_or (map (λ (u : Uid). u.0) us) i 0 ≡ (get_or us i d).0 = get_or-map (λ (u : Uid). u.0) us i d 0 lt in
    subst (λ ws. AreNewJobs g plan ws (jobs ++ j ∷ []))
    (append_twice vs (take i (map (λ u. u.0) us)) ((get_or us i d).0 ∷ [])
    ∙ ap (λ z. vs ++ (take i (map (λ u. u.0) us) ++ z ∷ [])) (sym at)
    ∙ ap (λ z. vs ++ z) (sym (take_more (map (λ u. u.0) us) i 0 (omega arith))))
    (one_made g plan (vs ++ take i (map (λ u. u.0) us)) jobs (get_or us i d).0 j (so vs a) is)

pub wave_none : (g : Graph) (plan : Plan) (first : List (Job Player)) (ns : List ℕ) (vs : List ℕ) → AreNewJobs g plan vs first → AreNewJobs g plan (vs ++ take 0 ns) first
wave_none g plan first ns vs a = subst (λ z. AreNewJobs g plan z first) (sym (append-nil vs)) a

pub wave_all : (g : Graph) (plan : Plan) (first : List (Job Player)) (us : List Uid) (i : ℕ) (jobs : List (Job Player)) → length us ≤ i
    → ((vs : List ℕ) → AreNewJobs g plan vs first → AreNewJobs g plan (vs ++ take i (map (λ u. u.0) us)) jobs)
    → (vs : List ℕ) → AreNewJobs g plan vs first → AreNewJobs g plan (vs ++ map (λ u. u.0) us) jobs
wave_all g plan first us i jobs le so vs a =
    let lm = length-map us (λ (u : Uid). u.0) in
    subst (λ z. AreNewJobs g plan (vs ++ z) jobs) (take_all i (map (λ u. u.0) us) (omega arith)) (so vs a)

-- ---- the loop over the waves
pub flat_more : (ws : List Wave) (k : ℕ) (d : Wave) → k < length ws → flat_map names (take (k + 1) ws) ≡ flat_map names (take k ws) ++ names (get_or ws k d)
flat_more ws k d lt = subst (λ i. flat_map names (take i ws) ≡ flat_map names (take k ws) ++ names (get_or ws k d)) (sym (add-one k)) (go ws k lt)
  where
    go : (ws : List Wave) (k : ℕ) → k < length ws → flat_map names (take (suc k) ws) ≡ flat_map names (take k ws) ++ names (get_or ws k d)
    go [] k l = absurd (omega arith)
    go (w ∷ ws) zero l = append-nil (names w)
    go (w ∷ ws) (suc k) l = ap (λ z. names w ++ z) (go ws k (omega arith)) ∙ sym (append_twice (names w) (flat_map names (take k ws)) (names (get_or ws k d)))

pub waves_more : (g : Graph) (plan : Plan) (k : ℕ) (d : Wave) (jobs : List (Job Player)) → k < length plan.waves → AreNewJobs g plan (nodes_before plan k ++ names (get_or plan.waves k d)) jobs → AreNewJobs g plan (nodes_before plan (k + 1)) jobs
waves_more g plan k d jobs lt a = subst (λ z. AreNewJobs g plan z jobs) (sym (flat_more plan.waves k d lt)) a

pub waves_all : (g : Graph) (plan : Plan) (k : ℕ) (jobs : List (Job Player)) → length plan.waves ≤ k → AreNewJobs g plan (nodes_before plan k) jobs → AreNewJobs g plan (all_nodes plan) jobs
waves_all g plan k jobs le a = subst (λ ws. AreNewJobs g plan (flat_map names ws) jobs) (take_all k plan.waves le) a

pub no_ends : (plan : Plan) → AreEnds plan 0 []
no_ends plan = record { len = refl; at = λ i le. let z : i ≡ 0 = omega arith in subst (λ k. get_or (0 ∷ []) k 0 ≡ length (nodes_before plan k)) (sym z) refl }

pub one_end : (plan : Plan) (k : ℕ) (ends : List ℕ) (x : ℕ) → AreEnds plan k ends → x ≡ length (nodes_before plan (k + 1)) → AreEnds plan (k + 1) (ends ++ x ∷ [])
one_end plan k ends x e is = record {
  len = length-append ends (x ∷ []) ∙ ap (λ n. n + 1) e.len;
  at = λ i le.
      let l = length-append ends (x ∷ []) in
      let el = e.len in
      ⊎_elim
      (λ (less : i < length (0 ∷ ends)). get_or_append_left (0 ∷ ends) (x ∷ []) 0 i less ∙ e.at i (omega arith))
      (λ (last : length (0 ∷ ends) ≤ i).
      let z : i - length (0 ∷ ends) ≡ 0 = omega arith in
      let at : k + 1 ≡ i = omega arith in
      get_or-append_right (0 ∷ ends) (x ∷ []) (length (0 ∷ ends)) i 0 refl last ∙ ap (λ j. get_or (x ∷ []) j 0) z ∙ is ∙ ap (λ j. length (nodes_before plan j)) at)
      (cases_lt i (length (0 ∷ ends)));
}

-- the nodes of a wave are live
pub wave_live : (g : Graph) (plan : Plan) → IsSound g → IsCertified g plan → (k : ℕ) (d : Wave) → k < length plan.waves → All (λ (u : Uid). is_live g u.0 ≡ true) (get_or plan.waves k d).nodes
wave_live g plan sound c k d lt i u li =
    on_in g plan sound c (positions plan) (λ (_ : ℕ). no_frame) k (get_or (get_or plan.waves k d).nodes i u).0 (get_or plan.waves k d) (slice_get-get_or plan.waves k d lt)
    (is_in_of (get_or (get_or plan.waves k d).nodes i u).0 (names (get_or plan.waves k d))
    (Contains-map (λ (u : Uid). u.0) (get_or plan.waves k d).nodes (get_or (get_or plan.waves k d).nodes i u) (Contains-get_or (get_or plan.waves k d).nodes i u li)))
  where
    no_frame : Frame
    no_frame = []

-- ---- a node at its place
pub record IsAt (g : Graph) (v i : ℕ) (m : Node) : Type 0 where
  pub named : node_named g v ≡ Some m
  pub name : m.uid.0 ≡ v
  pub at : uid_at g i ≡ v
  pub within : i < length g.nodes

pub is_at : (g : Graph) → IsSound g → (v i : ℕ) (m : Node) → position (λ (n : Node). n.uid.0 == v) g.nodes ≡ Some i → m ≡ get_or g.nodes i m → IsAt g v i m
is_at g sound v i m e here =
    let p = position_found (λ (n : Node). n.uid.0 == v) g.nodes i m e in
    let q = place_is g sound v i m e in
    record {
      named = p.1 ∙ ap Some (sym here);
      name = ap (λ (n : Node). n.uid.0) here ∙ sym (get_or-map (λ (n : Node). n.uid.0) g.nodes i m 0 p.0) ∙ q.1;
      at = q.1;
      within = p.0;
    }

pub has_node : (g : Graph) → IsSound g → (v : ℕ) → is_live g v ≡ true → IsSome (position (λ (n : Node). n.uid.0 == v) g.nodes)
has_node g sound v live = let m = some_node g.nodes v (listed g v (live_by g sound v live)) in has_place (λ (n : Node). n.uid.0 == v) g.nodes (ap is_some m.1)
