-- What a rendering leaves, by how its output was written.
use Rattle.std.proofs.Common.{◌≡◌, ◌≢◌, ℕ, ℤ, ◌+◌, ◌≤◌, ◌<◌, List, length, take, Option, Some, None, refl, sym, ◌∙◌, ap, subst, inl, inr, arith}
use Rattle.std.proofs.Math.Seq.{take-length}
use Rattle.std.specs.Prelude.{◌⊎◌, Result, Ok, Err, OnOk, ⊤}
use Rattle.gh_outside.specs.Causes.{Rose}
use Rattle.gh_outside.specs.Holdings.{Holding, HeldBytes, Holds, IsPast, KeepsOthers, GainsAll}
use Rattle.graph_model.specs.Graphs.{in_channels, out_channels}
use Rattle.graph_model.specs.Sound.{IsSound}
use Rattle.graph_model.specs.declared.graph.Graph.{Graph}
use Rattle.plan_model.specs.declared.plan.Plan.{Plan}
use Rattle.wav_pcm.specs.Files.{data_size, recorded, IsHead}
use Rattle.wav_pcm.specs.declared.head.Head.{Head}
use Rattle.wav_pcm.proofs.OkLaws.{frames_are_there}
use Rattle.engine_model.specs.Engines.{IsSame, Parts, Stands}
use Rattle.streaming.specs.Appends.{IsPart}
use Rattle.streaming.specs.Blocks.{all_frames, first_frames, MayStream}
use Rattle.streaming.specs.declared.ends.StreamFault.{StreamFault}
use Rattle.streaming.specs.declared.ends.StreamFault.TheVariants.{Read, Write}
use Rattle.command_words.specs.Rendering.{RenderRequest}
use Rattle.command_words.specs.Requests.{render}
use Rattle.host_modes.specs.Asked.{mode_of}
use Rattle.host_modes.specs.Ends.{end_by}
use Rattle.host_modes.specs.Engines.{HasBroken, HasEngine, HasHalted, HasPlayed, IsEngineOf}
use Rattle.host_modes.specs.Files.{part_of, whole_of, IsBroken, IsReadyJob}
use Rattle.host_modes.specs.Outputs.{all_input, first_of, output_after, output_of, silent_frames}
use Rattle.host_modes.specs.Outside.{outside}
use Rattle.host_modes.specs.Plans.{IsBestPlan}
use Rattle.host_modes.specs.Readings.{FindsGraph, IsBegun, IsJob, IsWritten, MayBeReady}
use Rattle.host_modes.specs.Runs.{IsRun}
use Rattle.host_modes.specs.Works.{IsWork}
use Rattle.host_modes.specs.declared.ends.End.TheVariants.{Done, ReadFault, WriteFault}
use Rattle.host_modes.specs.declared.modes.render.Job.{Job}
use Rattle.host_modes.proofs.FileLaws.{first_long, history_all, history_first, part_is, part_is_first, part_of_more, whole_is, whole_splits}
use Rattle.host_modes.proofs.RunLaws.{render_words}

-- ---- what is found of a ready job
-- the bytes of its input
told : (name other : List ℕ) (files : Holding) (bytes : List ℕ) (P : List ℕ → Type 0) → name ≡ other → files other ≡ Some bytes → HeldBytes name (Some files) P → P bytes
told name other files bytes P same at is = subst (λ (o : Option (List ℕ)). HeldBytes name (Some (λ _. o)) P) (ap files same ∙ at) is

module _ (q : RenderRequest) (j : Job) (files : Holding) (ready : IsReadyJob q (Some files) j) where
  -- the request can be done
  pub job_is : IsJob q ready.g ready.head (recorded ready.head ready.input.found.0) files
  job_is = record {
    graph = ready.graph;
    recording = record { bytes = ready.input.found.0; held = ready.input.found.1; head_is = ready.input.found.2; samples_are = refl };
    short = ready.input.short;
  }

pub may_be_ready : (q : RenderRequest) (j : Job) (held : Option Holding) → IsReadyJob q held j → MayBeReady q held
may_be_ready q j None ready = tt
may_be_ready q j (Some files) ready = (ready.g, ready.head, recorded ready.head ready.input.found.0, job_is q j files ready)

-- what is ready, as a work
pub ready_work : (q : RenderRequest) (j : Job) (held : Option Holding) → q.input ≢ q.output → IsReadyJob q held j → IsWork (Ok (render q)) held j.plan j.text.items Done
ready_work q j held differs ready = ((ready.g, ready.sound, ready.graph, ready.job.best), ready.job.text, refl, (differs, may_be_ready q j held ready))

-- and as a stream
pub ready_stream : (q : RenderRequest) (j : Job) (held : Option Holding) → q.input ≢ q.output → IsReadyJob q held j → MayStream j.rendering.from j.rendering.to j.engine held
ready_stream q j held differs ready =
    let r = ready.job.rendering in
    record {
      differs = λ e. differs (sym r.input ∙ e ∙ r.output);
      head = subst (λ (h : Head). IsHead h) (sym r.head_is) ready.input.good;
      there = λ past. ready.input.there (subst (λ (h : Head). IsPast q.input (h.from + data_size h) held) r.head_is
          (subst (λ (n : List ℕ). IsPast n (j.rendering.from.head.from + data_size j.rendering.from.head) held) r.input past));
      size = r.size;
      sound = subst (λ (g : Graph). IsSound g) (sym ready.job.of_graph) ready.sound;
      come = ap in_channels ready.job.of_graph ∙ sym ready.input.channels ∙ sym (ap (λ (h : Head). h.channels) r.head_is);
      go = ap out_channels ready.job.of_graph ∙ sym r.channels;
      most = r.most;
      few = r.few;
    }

-- the engine is that of the request
pub engine_is : (q : RenderRequest) (j : Job) (held : Option Holding) (e : Parts) → IsReadyJob q held j → IsSame j.engine e → IsEngineOf q held (Some j.plan) e
engine_is q j held e ready same =
    let graph_is : ready.g ≡ e.graph = sym (same.graph ∙ ready.job.of_graph) in
    let plan_is : j.plan ≡ e.plan = sym (same.plan ∙ ready.job.by_plan) in
    record {
      sound = subst (λ (g : Graph). IsSound g) graph_is ready.sound;
      graph = subst (λ (g : Graph). FindsGraph q.graph g held) graph_is ready.graph;
      plan = ap Some plan_is;
      best = subst (λ (p : Plan). IsBestPlan e.graph (mode_of q.waves) p) plan_is (subst (λ (g : Graph). IsBestPlan g (mode_of q.waves) j.plan) graph_is ready.job.best);
    }

-- ---- what is told of the files
module _ (q : RenderRequest) (j : Job) (files held : Holding) (ready : IsReadyJob q (Some files) j) where
  -- its file, as it is read
  module _ (P : List ℕ → Type 0) (of : HeldBytes j.rendering.from.name.now (Some files) P) where
    pub of_file : P (ready.input.found.0)
    of_file = told j.rendering.from.name.now q.input files ready.input.found.0 P ready.job.rendering.input ready.input.found.1 of

  head_good : IsHead j.rendering.from.head
  head_good = subst (λ (h : Head). IsHead h) (sym ready.job.rendering.head_is) ready.input.good

  all_there : j.rendering.from.head.from + data_size j.rendering.from.head ≤ length (ready.input.found.0)
  all_there =
      subst (λ (h : Head). h.from + data_size h ≤ length (ready.input.found.0)) (sym ready.job.rendering.head_is)
      (frames_are_there (in_channels ready.g) ready.input.found.0 ready.head ready.input.found.2).4

  samples_are : recorded j.rendering.from.head ready.input.found.0 ≡ recorded ready.head ready.input.found.0
  samples_are = ap (λ (h : Head). recorded h ready.input.found.0) ready.job.rendering.head_is

  whole_so : whole_of j.rendering j.engine.graph ready.input.found.0 ≡ output_of q ready.g ready.head (recorded ready.head ready.input.found.0)
  whole_so =
      ap (λ (g : Graph). whole_of j.rendering g ready.input.found.0) ready.job.of_graph
      ∙ whole_is j.rendering ready.g ready.input.found.0 head_good all_there q ready.head ready.job.rendering ready.input.channels
      ∙ ap (output_of q ready.g ready.head) samples_are

  part_so : (k : ℕ) → k ≤ all_frames j.rendering.from → part_of j.rendering j.engine.graph ready.input.found.0 k ≡ output_after q ready.g ready.head (recorded ready.head ready.input.found.0) k
  part_so k within =
      ap (λ (g : Graph). part_of j.rendering g ready.input.found.0 k) ready.job.of_graph
      ∙ part_is j.rendering ready.g ready.input.found.0 head_good all_there q ready.head ready.job.rendering ready.input.channels k within
      ∙ ap (λ samples. output_after q ready.g ready.head samples k) samples_are

  history_all_so : first_frames j.rendering.from ready.input.found.0 (all_frames j.rendering.from) ≡ all_input q ready.g (recorded ready.head ready.input.found.0)
  history_all_so =
      history_all j.rendering ready.g ready.input.found.0 head_good all_there q ready.head ready.job.rendering ready.input.channels
      ∙ ap (all_input q ready.g) samples_are

  history_first_so : (k : ℕ) → k ≤ all_frames j.rendering.from → first_frames j.rendering.from ready.input.found.0 k ≡ first_of k (all_input q ready.g (recorded ready.head ready.input.found.0))
  history_first_so k within =
      history_first j.rendering ready.g ready.input.found.0 head_good all_there q ready.head ready.job.rendering ready.input.channels k within
      ∙ ap (λ samples. first_of k (all_input q ready.g samples)) samples_are

  begun_with : (bytes : List ℕ) (n : ℕ) → held q.output ≡ Some bytes → bytes ≡ take n (output_of q ready.g ready.head (recorded ready.head ready.input.found.0)) → IsBegun q (Some files) (Some held)
  begun_with bytes n holds first = inr (ready.g, ready.head, recorded ready.head ready.input.found.0, job_is q j files ready, (n, holds ∙ ap Some first))

  holds_so : (bytes : List ℕ) → held j.rendering.to.name.now ≡ Some bytes → held q.output ≡ Some bytes
  holds_so bytes holds = ap held (sym ready.job.rendering.output) ∙ holds

  -- all was written
  pub told_written : held j.rendering.to.name.now ≡ Some (whole_of j.rendering j.engine.graph ready.input.found.0) → IsWritten q (Some files) (Some held)
  told_written holds =
      (ready.g, ready.head, recorded ready.head ready.input.found.0, job_is q j files ready, holds_so (whole_of j.rendering j.engine.graph ready.input.found.0) holds ∙ ap Some whole_so)

  pub told_begun : held j.rendering.to.name.now ≡ Some (whole_of j.rendering j.engine.graph ready.input.found.0) → IsBegun q (Some files) (Some held)
  told_begun holds =
      let out = output_of q ready.g ready.head (recorded ready.head ready.input.found.0) in
      begun_with out (length out) (holds_so (whole_of j.rendering j.engine.graph ready.input.found.0) holds ∙ ap Some whole_so) (sym (take-length out))

  -- a part was
  pub told_part : IsPart j.rendering.to.name.now (whole_of j.rendering j.engine.graph ready.input.found.0) (Some files) (Some held) → IsBegun q (Some files) (Some held)
  told_part (inl same) = inl (ap held (sym ready.job.rendering.output) ∙ same ∙ ap files ready.job.rendering.output)
  told_part (inr (n, holds)) =
      begun_with (take n (whole_of j.rendering j.engine.graph ready.input.found.0)) n (holds_so (take n (whole_of j.rendering j.engine.graph ready.input.found.0)) holds) (ap (take n) whole_so)

  -- the first k frames were
  pub told_first : (k : ℕ) → k ≤ all_frames j.rendering.from → held j.rendering.to.name.now ≡ Some (part_of j.rendering j.engine.graph ready.input.found.0 k) → IsBegun q (Some files) (Some held)
  told_first k within holds =
      let part = part_of j.rendering j.engine.graph ready.input.found.0 k in
      begun_with part (length part) (holds_so part holds)
      (part_is_first j.rendering j.engine.graph ready.input.found.0 head_good all_there k within ∙ ap (take (length part)) whole_so)

  -- a write failed after the first k frames
  pub told_broken : (k : ℕ) → k ≤ all_frames j.rendering.from → IsBroken j.rendering j.engine.graph ready.input.found.0 k (Some files) (Some held) → IsBegun q (Some files) (Some held)
  told_broken k within (inl part) =
      let w = whole_splits j.rendering j.engine.graph ready.input.found.0 head_good all_there k within in
      told_part (subst (λ bytes. IsPart j.rendering.to.name.now bytes (Some files) (Some held)) (sym w.1)
      (part_of_more j.rendering.to.name.now (part_of j.rendering j.engine.graph ready.input.found.0 k) w.0 (Some files) (Some held) part))
  told_broken k within (inr (all, part)) = told_part part

  -- and what stands there
  abbrev Broken : Graph → ℕ → Type 0
  Broken g k =
      (held q.output ≡ files q.output)
      ⊎ (((n : ℕ) × (held q.output ≡ Some (take n (output_after q g ready.head (recorded ready.head ready.input.found.0) k))))
      ⊎ ((k ≡ ready.head.frames + silent_frames q g) × ((n : ℕ) × (held q.output ≡ Some (take n (output_of q g ready.head (recorded ready.head ready.input.found.0)))))))

  all_frames_so : all_frames j.rendering.from ≡ ready.head.frames + silent_frames q ready.g
  all_frames_so = ap (λ n. j.rendering.from.head.frames + n) ready.job.rendering.silent ∙ ap (λ (h : Head). h.frames + silent_frames q ready.g) ready.job.rendering.head_is

  broken_so : (k : ℕ) → k ≤ all_frames j.rendering.from → IsBroken j.rendering j.engine.graph ready.input.found.0 k (Some files) (Some held) → Broken ready.g k
  broken_so k within (inl (inl same)) = inl (ap held (sym ready.job.rendering.output) ∙ same ∙ ap files ready.job.rendering.output)
  broken_so k within (inl (inr (n, is))) =
      inr (inl (n, holds_so (take n (part_of j.rendering j.engine.graph ready.input.found.0 k)) is ∙ ap (λ bytes. Some (take n bytes)) (part_so k within)))
  broken_so k within (inr (all, inl same)) = inl (ap held (sym ready.job.rendering.output) ∙ same ∙ ap files ready.job.rendering.output)
  broken_so k within (inr (all, inr (n, is))) =
      inr (inr (all ∙ all_frames_so, (n, holds_so (take n (whole_of j.rendering j.engine.graph ready.input.found.0)) is ∙ ap (λ bytes. Some (take n bytes)) whole_so)))

  -- ---- the engine
  module _ (e : Parts) (same : IsSame j.engine e) where
    graph_so : ready.g ≡ e.graph
    graph_so = sym (same.graph ∙ ready.job.of_graph)

    pub told_played : Stands e (first_frames j.rendering.from ready.input.found.0 (all_frames j.rendering.from)) → HasPlayed q (Some files) e
    told_played stands =
        subst (λ (g : Graph). (head : Head) × (samples : List ℤ) × IsJob q g head samples files × Stands e (all_input q g samples)) graph_so
        (ready.head, recorded ready.head ready.input.found.0, job_is q j files ready, subst (Stands e) history_all_so stands)

    count_so : (k : ℕ) → k ≤ all_frames j.rendering.from → Stands e (first_frames j.rendering.from ready.input.found.0 k) → k ≡ e.frames
    count_so k within stands =
        sym (stands.frames ∙ first_long j.rendering ready.g ready.input.found.0 head_good all_there q ready.head ready.job.rendering ready.input.channels k within)

    pub told_halted : (k : ℕ) → k ≤ all_frames j.rendering.from → Stands e (first_frames j.rendering.from ready.input.found.0 k)
        → held j.rendering.to.name.now ≡ Some (part_of j.rendering j.engine.graph ready.input.found.0 k) → HasHalted q (Some files) (Some held) e
    told_halted k within stands holds =
        subst (λ (n : ℕ). (head : Head) × (samples : List ℤ) × IsJob q e.graph head samples files × Stands e (first_of n (all_input q e.graph samples))
        × (held q.output ≡ Some (output_after q e.graph head samples n))) (count_so k within stands)
        (subst (λ (g : Graph). (head : Head) × (samples : List ℤ) × IsJob q g head samples files × Stands e (first_of k (all_input q g samples))
        × (held q.output ≡ Some (output_after q g head samples k))) graph_so (
          ready.head,
          recorded ready.head ready.input.found.0,
          job_is q j files ready,
          subst (Stands e) (history_first_so k within) stands,
          holds_so (part_of j.rendering j.engine.graph ready.input.found.0 k) holds ∙ ap Some (part_so k within),
        ))

    abbrev HasSo : Graph → ℕ → Type 0
    HasSo g k =
        IsJob q g ready.head (recorded ready.head ready.input.found.0) files × Stands e (first_of k (all_input q g (recorded ready.head ready.input.found.0))) × Broken g k

    pub told_stands : (k : ℕ) → k ≤ all_frames j.rendering.from → Stands e (first_frames j.rendering.from ready.input.found.0 k)
        → IsBroken j.rendering j.engine.graph ready.input.found.0 k (Some files) (Some held) → HasBroken q (Some files) (Some held) e
    told_stands k within stands is =
        let so : HasSo e.graph e.frames =
        subst (λ (n : ℕ). HasSo e.graph n) (count_so k within stands)
        (subst (λ (g : Graph). HasSo g k) graph_so (job_is q j files ready, subst (Stands e) (history_first_so k within) stands, broken_so k within is)) in
        (ready.head, recorded ready.head ready.input.found.0, so.0, so.1, so.2)

-- ---- where it is told or not
module _ (q : RenderRequest) (j : Job) (e : Parts) (same : IsSame j.engine e) where
  pub written : (files held : Option Holding) → IsReadyJob q files j
      → HeldBytes j.rendering.from.name.now files (λ file. Stands e (first_frames j.rendering.from file (all_frames j.rendering.from)) × Holds j.rendering.to.name.now (whole_of j.rendering j.engine.graph file) held)
      → IsWritten q files held × IsBegun q files held × HasPlayed q files e
  written None held ready is = (tt, tt, tt)
  written (Some files) None ready is =
      (tt, tt, told_played q j files (λ _. None) ready e same (of_file q j files (λ _. None) ready (λ file. Stands e (first_frames j.rendering.from file (all_frames j.rendering.from)) × ⊤) is).0)
  written (Some files) (Some held) ready is =
      let w = of_file q j files held ready
      (λ file. Stands e (first_frames j.rendering.from file (all_frames j.rendering.from)) × Holds j.rendering.to.name.now (whole_of j.rendering j.engine.graph file) (Some held)) is in
      (told_written q j files held ready w.1, told_begun q j files held ready w.1, told_played q j files held ready e same w.0)

  pub halted : (files held : Option Holding) → IsReadyJob q files j → (k : ℕ) → k ≤ all_frames j.rendering.from
      → HeldBytes j.rendering.from.name.now files (λ file. Stands e (first_frames j.rendering.from file k) × Holds j.rendering.to.name.now (part_of j.rendering j.engine.graph file k) held)
      → IsBegun q files held × HasHalted q files held e
  halted None held ready k within is = (tt, tt)
  halted (Some files) None ready k within is = (tt, tt)
  halted (Some files) (Some held) ready k within is =
      let w = of_file q j files held ready
      (λ file. Stands e (first_frames j.rendering.from file k) × Holds j.rendering.to.name.now (part_of j.rendering j.engine.graph file k) (Some held)) is in
      (told_first q j files held ready k within w.1, told_halted q j files held ready e same k within w.0 w.1)

  pub broken : (files held : Option Holding) → IsReadyJob q files j → (k : ℕ) → k ≤ all_frames j.rendering.from
      → HeldBytes j.rendering.from.name.now files (λ file. Stands e (first_frames j.rendering.from file k) × IsBroken j.rendering j.engine.graph file k files held)
      → IsBegun q files held × HasBroken q files held e
  broken None held ready k within is = (tt, tt)
  broken (Some files) None ready k within is = (tt, tt)
  broken (Some files) (Some held) ready k within is =
      let w = of_file q j files held ready
      (λ file. Stands e (first_frames j.rendering.from file k) × IsBroken j.rendering j.engine.graph file k (Some files) (Some held)) is in
      (told_broken q j files held ready k within w.1, told_stands q j files held ready e same k within w.0 w.1)

-- ---- the run
module _ (q : RenderRequest) (j : Job) (files held : Option Holding) (reads later writes since : ℕ) (old new : Option (List ℕ)) (before after : ℕ) (e : Parts)
    (differs : q.input ≢ q.output) (ready : IsReadyJob q files j) (same : IsSame j.engine e) (others : KeepsOthers j.rendering.to.name.now files held)
    (gains : GainsAll j.text.items old new) (counted : before ≤ after) (more_reads : reads ≤ later) (more_writes : writes ≤ since) where
  keeps : KeepsOthers q.output files held
  keeps = subst (λ (name : List ℕ). KeepsOthers name files held) ready.job.rendering.output others

  engine_so : (P : Parts → Type 0) → P e → HasEngine q files (Some j.plan) P (Some e)
  engine_so P is = (e, refl, engine_is q j files e ready same, is)

  pub run_written : HeldBytes j.rendering.from.name.now files (λ file. Stands e (first_frames j.rendering.from file (all_frames j.rendering.from)) × Holds j.rendering.to.name.now (whole_of j.rendering j.engine.graph file) held)
      → IsRun (Ok (render q)) (outside files reads writes old before) (outside held later since new after) Done (Some j.plan) (Some e)
  run_written is =
      let all = written q j e same files held ready is in
      record {
        by_words = render_words q Done (λ e. absurd (cc)) (λ e. absurd (cc)) (λ e. absurd (cc)) differs;
        done = λ is. all.0;
        begun = all.1;
        others = keeps;
        untouched = inl tt;
        answered = (j.plan, j.text.items, refl, ready_work q j files differs ready, gains);
        played = engine_so (HasPlayed q files) all.2;
        cause = inl (inl (inr (differs, inr (refl, may_be_ready q j files ready))));
        reads = more_reads;
        writes = more_writes;
        unwritten = inl tt;
        reports = counted;
        unreported = inl (λ e. absurd (cc));
      }

  pub run_halted : Rose reads later → (k : ℕ) → k ≤ all_frames j.rendering.from
      → HeldBytes j.rendering.from.name.now files (λ file. Stands e (first_frames j.rendering.from file k) × Holds j.rendering.to.name.now (part_of j.rendering j.engine.graph file k) held)
      → IsRun (Ok (render q)) (outside files reads writes old before) (outside held later since new after) ReadFault (Some j.plan) (Some e)
  run_halted rose k within is =
      let all = halted q j e same files held ready k within is in
      record {
        by_words = render_words q ReadFault (λ e. absurd (cc)) (λ e. absurd (cc)) (λ e. absurd (cc)) differs;
        done = λ is. absurd (cc);
        begun = all.0;
        others = keeps;
        untouched = inl (λ e. absurd (cc));
        answered = inr (tt, (j.plan, j.text.items, refl, ready_work q j files differs ready, gains));
        played = inr (engine_so (HasHalted q files held) all.1);
        cause = inl (inr (inl (refl, (differs, rose))));
        reads = more_reads;
        writes = more_writes;
        unwritten = inl (λ e. absurd (cc));
        reports = counted;
        unreported = inl (λ e. absurd (cc));
      }

  pub run_broken : Rose writes since → (k : ℕ) → k ≤ all_frames j.rendering.from
      → HeldBytes j.rendering.from.name.now files (λ file. Stands e (first_frames j.rendering.from file k) × IsBroken j.rendering j.engine.graph file k files held)
      → IsRun (Ok (render q)) (outside files reads writes old before) (outside held later since new after) WriteFault (Some j.plan) (Some e)
  run_broken rose k within is =
      let all = broken q j e same files held ready k within is in
      record {
        by_words = render_words q WriteFault (λ e. absurd (cc)) (λ e. absurd (cc)) (λ e. absurd (cc)) differs;
        done = λ is. absurd (cc);
        begun = all.0;
        others = keeps;
        untouched = inl tt;
        answered = (j.plan, j.text.items, refl, ready_work q j files differs ready, gains);
        played = engine_so (HasBroken q files held) all.1;
        cause = inr (inl (refl, rose, (differs, may_be_ready q j files ready)));
        reads = more_reads;
        writes = more_writes;
        unwritten = inl tt;
        reports = counted;
        unreported = inl (λ e. absurd (cc));
      }

  -- by how the output was written
  pub run_by : (result : Result ⊤ StreamFault)
      → OnOk result (HeldBytes j.rendering.from.name.now files (λ file. Stands e (first_frames j.rendering.from file (all_frames j.rendering.from)) × Holds j.rendering.to.name.now (whole_of j.rendering j.engine.graph file) held))
      → (result ≡ Err Read → (k : ℕ) × (k < all_frames j.rendering.from)
      × HeldBytes j.rendering.from.name.now files (λ file. Stands e (first_frames j.rendering.from file k) × Holds j.rendering.to.name.now (part_of j.rendering j.engine.graph file k) held))
      → (result ≡ Err Read → Rose reads later)
      → (result ≡ Err Write → (k : ℕ) × (k ≤ all_frames j.rendering.from)
      × HeldBytes j.rendering.from.name.now files (λ file. Stands e (first_frames j.rendering.from file k) × IsBroken j.rendering j.engine.graph file k files held))
      → (result ≡ Err Write → Rose writes since)
      → IsRun (Ok (render q)) (outside files reads writes old before) (outside held later since new after) (end_by result) (Some j.plan) (Some e)
  run_by (Ok u) done unread read_failed broke write_failed = run_written done
  run_by (Err Read) done unread read_failed broke write_failed =
      let w = unread refl in let less = w.1 in run_halted (read_failed refl) w.0 (omega arith) w.2
  run_by (Err Write) done unread read_failed broke write_failed = let w = broke refl in run_broken (write_failed refl) w.0 w.1 w.2
