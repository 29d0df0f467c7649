-- All but the flow and the buffers is a function of the graph, and of the mode where there is a schedule.
use Rattle.std.proofs.Common.{◌≡◌, ℕ, suc, ◌<◌, List, [], ◌∷◌, length, map, get_or, refl, sym, ap, subst, ◌∙◌, arith, inl, inr}
use Rattle.std.specs.List.{AllByRecursion}
use Rattle.std.specs.Prelude.{AllPairs, reverse, sum_by}
use Rattle.std.proofs.lemmas.Bool.{cases_lt, ne_eqb}
use Rattle.std.proofs.lemmas.List.Elements.{recursion_from_All}
use Rattle.std.proofs.lemmas.List.Kept.{AllPairs-from_increasing}
use Rattle.graph_model.specs.Graphs.{output_name}
use Rattle.graph_model.specs.Paths.{IsPrintedPath}
use Rattle.graph_model.specs.Sound.{IsSound}
use Rattle.graph_model.proofs.PathLaws.{same_name}
use Rattle.graph_model.specs.declared.graph.Uid.{Uid}
use Rattle.graph_model.specs.declared.graph.Graph.{Graph}
use Rattle.plan_model.specs.Alignments.{IsBestBy, position_in, lines, total}
use Rattle.plan_model.specs.Buffers.{IsAssignment}
use Rattle.plan_model.specs.Certified.{IsCertified, parts}
use Rattle.plan_model.specs.Lives.{lives_of, ports_of}
use Rattle.plan_model.specs.Results.{AlignmentIsOne, PlanIsOne}
use Rattle.plan_model.specs.Rules.{AreLiveNodes, IsPeak, Parts, IsOptimalBy}
use Rattle.plan_model.specs.declared.alignment.At.{At as Position}
use Rattle.plan_model.specs.declared.alignment.LineAt.{LineAt}
use Rattle.plan_model.specs.declared.buffers.Life.{Life}
use Rattle.plan_model.specs.declared.plan.Plan.{Plan}
use Rattle.plan_model.specs.declared.rule.Rule.TheVariants.{At, Lines, Total, Least, Homes, Peak}
use Rattle.plan_model.proofs.BestLaws.{best_is_one}
use Rattle.plan_model.proofs.CertifiedLaws.{certified_is_optimal}
use Rattle.graph_model.proofs.PrintedLaws.{printed_is_one}
use Rattle.plan_model.proofs.ScheduleLaws.{schedule_once, uids_same}
use Rattle.plan_model.proofs.ShiftLaws.{latency_is_reach}
use Rattle.plan_model.proofs.UniqueLaws.{live_nodes_are_unique, values_are_unique}

-- an entry at a place is that of its name, where names rise
abbrev stands : (ℕ → ℕ) → ℕ → Position
stands p v = record { uid = record { 0 = v }; at = p v }

map_same : {X : Type 0} (f h : ℕ → X) (vs : List ℕ) → AllByRecursion (λ v. f v ≡ h v) vs → map f vs ≡ map h vs
map_same f h [] same = refl
map_same f h (v ∷ vs) same = λ i. same.0 i ∷ map_same f h vs same.1 i

as_named : (at : List Position) → AllPairs (λ u v. u < v) (map (λ a. a.uid.0) at)
    → at ≡ map (stands (position_in at)) (map (λ a. a.uid.0) at)
as_named [] rising = refl
as_named (a ∷ at) rising =
    let first : stands (position_in (a ∷ at)) a.uid.0 ≡ a = rw (same_name a.uid.0) refl in
    let later : AllByRecursion (λ v. stands (position_in at) v ≡ stands (position_in (a ∷ at)) v) (map (λ b. b.uid.0) at)
    = recursion_from_All _ (map (λ b. b.uid.0) at) (λ k d lt.
    let less = rising 0 (suc k) d (omega arith) (omega arith) in
    rw (ne_eqb a.uid.0 (get_or (map (λ b. b.uid.0) at) k d) (λ e. omega (arith, less, e))) refl) in
    (λ i. sym first i ∷ (as_named at (λ i j d less l. rising (suc i) (suc j) d (omega arith) (omega arith)) ∙ map_same _ _ (map (λ b. b.uid.0) at) later) i)

-- the list of the positions of the best alignment, by whatever cost
pub places_once : (cost : (ℕ → ℕ) → ℕ) (g : Graph) (at other : List Position) → AreLiveNodes g (map (λ a. a.uid.0) at)
    → AreLiveNodes g (map (λ a. a.uid.0) other)
    → IsBestBy cost g (position_in at) → IsBestBy cost g (position_in other) → at ≡ other
places_once cost g at other nodes others a b =
    let names : map (λ (x : Position). x.uid.0) at ≡ map (λ (x : Position). x.uid.0) other = live_nodes_are_unique g _ _ nodes others in
    let same : AllByRecursion (λ v. stands (position_in at) v ≡ stands (position_in other) v) (map (λ x. x.uid.0) at)
    = recursion_from_All _ (map (λ x. x.uid.0) at) (λ k d lt.
    let v : ℕ = get_or (map (λ (x : Position). x.uid.0) at) k d in
    let here : ℕ → Position = λ n. record { uid = record { 0 = v }; at = n } in
    ap here (best_is_one cost g (position_in at) (position_in other) a b v (nodes.each k d lt))) in
    as_named at (AllPairs-from_increasing _ nodes.ascending) ∙ map_same _ _ (map (λ x. x.uid.0) at) same ∙ ap (map (stands (position_in other))) names
    ∙ sym (as_named other (AllPairs-from_increasing _ others.ascending))

pub alignment_is_one : AlignmentIsOne
alignment_is_one g at other delays others sum whole arcs flow bound least sound a b =
    let places : at ≡ other = places_once (total g) g at other a.nodes b.nodes a.best b.best in
    (places, a.lines ∙ ap (λ xs. lines g (position_in xs)) places ∙ sym b.lines, a.total ∙ ap (λ xs. total g (position_in xs)) places ∙ sym b.total)

-- ---- plans
pub printed_path_once : (g : Graph) (path other : List Uid) → IsPrintedPath g path → IsPrintedPath g other → path ≡ other
printed_path_once g path other (us, a, same) (ws, b, alike) =
    uids_same path other (same ∙ ap (λ vs. reverse (output_name g ∷ vs)) (printed_is_one g (output_name g) us ws a b) ∙ sym alike)

pub peak_once : (lives : List Life) (waves channels p q : ℕ) → IsPeak lives waves channels p → IsPeak lives waves channels q → p ≡ q
peak_once lives waves channels p q a b =
    elim (cases_lt p q) [
      | inl less ↦ absurd (b.first p less a.full)
      | inr le ↦
          elim (cases_lt q p) [
            | inl more ↦ absurd (a.first q more b.full)
            | inr ge ↦ omega arith
          ]
    ]

-- in either version, where the lives are the same
pub channels_once : (cost : (ℕ → ℕ) → ℕ) (g : Graph) (a b : Parts) → a.lives ≡ b.lives → IsOptimalBy cost g a → IsOptimalBy cost g b
    → a.channels ≡ b.channels
channels_once cost g a b same p q =
    let one = p.least_channels b.homes b.channels (subst (λ ls. IsAssignment ls b.homes b.channels) (sym same) q.assignment) in
    let two = q.least_channels a.homes a.channels (subst (λ ls. IsAssignment ls a.homes a.channels) same p.assignment) in
    omega arith

pub peak_alike : (a b : Parts) → a.waves ≡ b.waves → a.lives ≡ b.lives → a.channels ≡ b.channels
    → IsPeak a.lives (length a.waves) a.channels a.peak → IsPeak b.lives (length b.waves) b.channels b.peak → a.peak ≡ b.peak
peak_alike a b waves lives channels p q =
    peak_once b.lives (length b.waves) b.channels a.peak b.peak
    (subst (λ ws. IsPeak b.lives (length ws) b.channels a.peak) waves
    (subst (λ n. IsPeak b.lives (length a.waves) n a.peak) channels (subst (λ ls. IsPeak ls (length a.waves) a.channels a.peak) lives p))) q

module _ (g : Graph) (sound : IsSound g) (a b : Plan) (c : IsCertified g a) (d : IsCertified g b) (waves : a.waves ≡ b.waves) where
  same_ports : ports_of a.homes ≡ ports_of b.homes
  same_ports = values_are_unique g (ports_of a.homes) (ports_of b.homes) (c Homes) (d Homes)

  same_lives : lives_of g a.waves (ports_of a.homes) ≡ lives_of g b.waves (ports_of b.homes)
  same_lives = ap (λ ws. lives_of g ws (ports_of a.homes)) waves ∙ ap (lives_of g b.waves) same_ports

  pub same_channels : a.channels ≡ b.channels
  same_channels =
      channels_once (total g) g (parts g a) (parts g b) same_lives (certified_is_optimal g a sound c) (certified_is_optimal g b sound d)

  pub same_peak : a.peak ≡ b.peak
  same_peak = peak_alike (parts g a) (parts g b) waves same_lives same_channels (c Peak) (d Peak)

pub plan_is_one : PlanIsOne
plan_is_one g mode a b sound p q =
    let places : a.at ≡ b.at = places_once (total g) g a.at b.at (p.certified At) (q.certified At) p.best q.best in
    let delays : a.lines ≡ b.lines = p.certified Lines ∙ ap (λ xs. lines g (position_in xs)) places ∙ sym (q.certified Lines) in
    let whole : a.total ≡ b.total = sym (p.certified Total) ∙ ap (λ ls. sum_by (λ (l : LineAt). l.delay) ls) delays ∙ q.certified Total in
    let schedule : a.waves ≡ b.waves = schedule_once g sound mode a.waves b.waves p.schedule q.schedule in
    record {
      latency = latency_is_reach g a sound p.certified ∙ sym (latency_is_reach g b sound q.certified);
      path = printed_path_once g a.path b.path p.path q.path;
      at = places;
      lines = delays;
      total = whole;
      bound = sym (p.certified Least) ∙ whole ∙ q.certified Least;
      waves = schedule;
      values = values_are_unique g (ports_of a.homes) (ports_of b.homes) (p.certified Homes) (q.certified Homes);
      channels = same_channels g sound a b p.certified q.certified schedule;
      peak = same_peak g sound a b p.certified q.certified schedule;
    }
