use Rattle.std.proofs.Common.{◌≡◌, ◌≤◌, ◌+◌, ◌*◌, ◌^◌, ◌++◌, ◌∙◌, ℕ, ℤ, List, length, pos, replicate, ap, subst, sum, sym, rules}
use Rattle.std.specs.Prelude.{IfOk, Result, Ok, Err}
use Rattle.command_words.specs.Demos.{DemoRequest}
use Rattle.graph_model.specs.Answers.{answer}
use Rattle.graph_model.specs.Bounds.{AreUpTo}
use Rattle.graph_model.specs.Graphs.{in_channels}
use Rattle.graph_model.specs.Histories.{frames_of, interleaved, silence}
use Rattle.graph_model.specs.declared.graph.Graph.{Graph}
use Rattle.graph_gen.specs.Draws.{samples_drawn}
use Rattle.graph_gen.proofs.SampleFacts.{samples_are_input}
use Rattle.plan_model.proofs.LatencyLaws.{few_frames_late}
use Rattle.wav_pcm.specs.Samples.{bytes_of}
use Rattle.command_words.specs.Demos.{demo_said}
use Rattle.engine_model.specs.Engines.{Stands}
use Rattle.streaming.proofs.AnswerLaws.{stands_for, went_is}
use Rattle.host_modes.specs.Demos.{demo_bytes, demo_frames, demo_input}
use Rattle.host_modes.proofs.DemoLaws.{demo_bytes_are, few_samples, history_is, ins_are, length_two, small}
use Rattle.host_modes.proofs.modes.demo.answer_sum.Goals as goal

-- what comes in: so many frames
input_long : (drawn samples : List ℤ) (n k m : ℕ) → length drawn ≡ n * 2 → samples ≡ drawn ++ replicate (k * 2) (pos 0) → m ≡ n → length samples ≡ (m + k) * 2
input_long drawn samples n k m long are same =
    ap length are ∙ input_sum ∙ ap (λ j. (j + k) * 2) (sym same)
  where
    input_sum : length (drawn ++ replicate (k * 2) (pos 0)) ≡ (n + k) * 2
    input_sum = length_two drawn n k long

pub input-requires : goal.input-requires
input-requires g c = rw c.requires.late (few_frames_late c.args.engine.now.graph c.requires.sound)

pub render_whole-requires-clause-comes : goal.render_whole-requires-clause-comes
render_whole-requires-clause-comes g c κs within =
    let seed = c.args.request.now.seed in
    let n = c.frames.result in
    input_long (samples_drawn seed (n * 2)) c.deref.result.now n c.args.latency c.frames-2.result (samples_are_input seed (n * 2)).0
    (c.deref.ensures.value ∙ c.in_ok-input.ensures) (c.frames-2.ensures.value ∙ sym c.frames.ensures.value)

pub render_whole-requires-clause-goes : goal.render_whole-requires-clause-goes
render_whole-requires-clause-goes g c κs within =
    let seed = c.args.request.now.seed in
    let n = c.frames.result in
    let came : length c.in_ok-input.input.items ≡ (c.frames-2.result + c.args.latency) * 2 =
    input_long (samples_drawn seed (n * 2)) c.in_ok-input.input.items n c.args.latency c.frames-2.result (samples_are_input seed (n * 2)).0
    c.in_ok-input.ensures (c.frames-2.ensures.value ∙ sym c.frames.ensures.value) in
    let as_long : length c.deref_mut-output.result.now ≡ length c.in_ok-input.input.items = search rules in
    as_long ∙ came

pub render_whole-requires-clause-small : goal.render_whole-requires-clause-small
render_whole-requires-clause-small g c κs within =
    let q = c.args.request.now in
    let n = c.frames.result in
    subst (λ (xs : List ℤ). AreUpTo (2 ^ 31) xs) (sym (c.deref.ensures.value ∙ c.in_ok-input.ensures))
    (small c.args.engine.now.graph (samples_drawn q.seed (n * 2)) n c.args.latency (ins_are c.args.engine.now.graph q.seed q.nodes c.requires.is c.requires.nodes)
    (samples_are_input q.seed (n * 2)).0 (samples_are_input q.seed (n * 2)).1)

-- what comes in is the input of the demonstration
came_is : (q : DemoRequest) (n k : ℕ) (input came : List ℤ) → came ≡ input → input ≡ samples_drawn q.seed (n * 2) ++ replicate (k * 2) (pos 0) → n ≡ demo_frames
    → came ≡ samples_drawn q.seed (demo_frames * 2) ++ replicate (k * 2) (pos 0)
came_is q n k input came is are frames = is ∙ are ∙ ap (λ m. samples_drawn q.seed (m * 2) ++ replicate (k * 2) (pos 0)) frames

pub byte_sum-requires : goal.byte_sum-requires
byte_sum-requires g c =
    let e = c.args.engine.now in
    let q = c.args.request.now in
    let n = c.frames.result in
    let came : length c.in_ok-input.input.items ≡ (c.frames-2.result + c.args.latency) * 2 =
    input_long (samples_drawn q.seed (n * 2)) c.in_ok-input.input.items n c.args.latency c.frames-2.result (samples_are_input q.seed (n * 2)).0
    c.in_ok-input.ensures (c.frames-2.ensures.value ∙ sym c.frames.ensures.value) in
    let as_long : length c.deref_mut-output.result.now ≡ length c.in_ok-input.input.items = search rules in
    let long : length c.render_whole.new.output ≡ (c.frames-2.result + c.args.latency) * 2 = c.render_whole.auto.output ∙ as_long ∙ came in
    few_samples c.frames-2.result c.args.latency (length c.render_whole.new.output) long c.frames-2.ensures.few
    (subst (λ n. n ≤ 2 ^ 26) (sym c.requires.late) (few_frames_late e.graph c.requires.sound))

pub returns-clause-sum : goal.returns-clause-sum
returns-clause-sum g c =
    let e = c.args.engine.now in
    let q = demo_said c.args.request.now in
    let rendered = c.render_whole.ensures in
    let came = came_is q c.frames.result c.args.latency c.in_ok-input.input.items c.deref.result.now c.deref.ensures.value c.in_ok-input.ensures c.frames.ensures.value in
    let answers : c.render_whole.new.output ≡ interleaved (answer e.graph (frames_of (in_channels e.graph) (samples_drawn q.seed (demo_frames * 2) ++ replicate (c.args.latency * 2) (pos 0)))) =
    went_is e c.render_whole.new.engine c.requires.sound c.requires.new c.deref.result.now c.render_whole.new.output rendered.frames.0 rendered.frames.2 rendered
    ∙ ap (λ (xs : List ℤ). interleaved (answer e.graph (frames_of (in_channels e.graph) xs))) came in
    let bytes : bytes_of 16 c.render_whole.new.output ≡ demo_bytes q =
    demo_bytes_are q e.graph c.args.latency c.render_whole.new.output c.requires.is c.requires.nodes c.requires.late answers in
    subst (λ (b : List ℕ). IfOk c.byte_sum.result (λ n. n ≡ sum b)) bytes c.byte_sum.ensures

always_ok : {T E : Type 0} (r : Result T E) (P : Type 0) → P → IfOk r (λ n. P)
always_ok (Ok x) P is = is
always_ok (Err e) P is = tt

pub returns-clause-stands : goal.returns-clause-stands
returns-clause-stands g c =
    let e = c.args.engine.now in
    let q = demo_said c.args.request.now in
    let came = came_is q c.frames.result c.args.latency c.in_ok-input.input.items c.deref.result.now c.deref.ensures.value c.in_ok-input.ensures c.frames.ensures.value in
    let two = ins_are e.graph q.seed q.nodes c.requires.is c.requires.nodes in
    let history : frames_of (in_channels e.graph) c.deref.result.now ≡ demo_input q c.args.latency =
    ap (frames_of (in_channels e.graph)) came
    ∙ history_is e.graph (samples_drawn q.seed (demo_frames * 2)) demo_frames c.args.latency two (samples_are_input q.seed (demo_frames * 2)).0
    ∙ ap (λ (x : Graph). silence c.args.latency (in_channels x) ++ frames_of (in_channels x) (samples_drawn q.seed (demo_frames * 2))) c.requires.is in
    always_ok c.byte_sum.result (Stands c.render_whole.new.engine (demo_input q c.args.latency))
    (subst (Stands c.render_whole.new.engine) history (stands_for e c.render_whole.new.engine c.requires.sound c.requires.new c.deref.result.now c.render_whole.new.output c.render_whole.ensures))
