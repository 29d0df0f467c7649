-- What a demonstration renders.
use Rattle.std.proofs.Common.{◌≡◌, ℕ, ℤ, pos, ◌+◌, ◌*◌, ◌%◌, ◌<◌, ◌≤◌, ◌^◌, List, ◌++◌, length, replicate, unsigned_abs, sym, ap, ◌∙◌, subst, refl, arith}
use Rattle.std.proofs.lemmas.List.{length-append, length-replicate}
use Rattle.std.proofs.lemmas.List.Elements.{All-append, All-replicate}
use Rattle.std.proofs.Math.Nat.{mul-mod_left}
use Rattle.graph_model.specs.Answers.{answer}
use Rattle.graph_model.specs.Bounds.{AreUpTo}
use Rattle.graph_model.specs.Graphs.{in_channels, out_channels}
use Rattle.graph_model.specs.Histories.{frames_of, interleaved, silence}
use Rattle.graph_model.specs.Paths.{latency_of_graph}
use Rattle.graph_model.specs.Sound.{IsSound}
use Rattle.graph_model.specs.declared.graph.Graph.{Graph}
use Rattle.graph_model.proofs.BlockLaws.{length-frames_of}
use Rattle.graph_gen.specs.Draws.{samples_drawn}
use Rattle.graph_gen.specs.Generated.{generated}
use Rattle.graph_gen.proofs.SampleFacts.{samples_are_input}
use Rattle.graph_gen.proofs.SoundnessLaws.{generated_is_as_wanted}
use Rattle.plan_model.specs.Certified.{IsCertified}
use Rattle.plan_model.specs.declared.plan.Plan.{Plan}
use Rattle.plan_model.proofs.LatencyLaws.{few_frames_late}
use Rattle.plan_model.proofs.ShiftLaws.{latency_is_reach}
use Rattle.wav_pcm.specs.Samples.{bytes_of}
use Rattle.command_words.specs.Demos.{DemoRequest}
use Rattle.host_modes.specs.Demos.{demo_bytes, demo_frames, demo_graph, demo_lines}
use Rattle.host_modes.specs.Outputs.{answered}
use Rattle.host_modes.specs.Plans.{IsBestPlan}
use Rattle.host_modes.specs.Works.{IsWork}
use Rattle.host_modes.specs.declared.ends.End.TheVariants.{Done}
use Rattle.command_words.specs.Requests.{demo}
use Rattle.plan_model.specs.declared.schedule.Mode.TheVariants.{OneByOne}
use Rattle.std.specs.Prelude.{None, Ok, sum}
use Rattle.host_modes.proofs.OutputLaws.{length-answer, with_silence}

pub few_late : (g : Graph) (plan : Plan) → IsSound g → IsCertified g plan → plan.latency ≤ 2 ^ 26
few_late g plan sound certified = subst (λ n. n ≤ 2 ^ 26) (sym (latency_is_reach g plan sound certified)) (few_frames_late g sound)

-- n frames of samples on two channels, and then k frames of silence
pub length_two : (drawn : List ℤ) (n k : ℕ) → length drawn ≡ n * 2 → length (drawn ++ replicate (k * 2) (pos 0)) ≡ (n + k) * 2
length_two drawn n k long =
    let zeros = length-replicate {A = ℤ} (k * 2) (pos 0) in
    let all = length-append drawn (replicate (k * 2) (pos 0)) in
    omega (arith, zeros, all, long)

module _ (g : Graph) (drawn : List ℤ) (n k : ℕ) (ins_two : in_channels g ≡ 2) (length_drawn : length drawn ≡ n * 2) where
  length_input : length (drawn ++ replicate (k * 2) (pos 0)) ≡ (n + k) * 2
  length_input = length_two drawn n k length_drawn

  pub whole : length (drawn ++ replicate (k * 2) (pos 0)) % in_channels g ≡ 0
  whole = ap (λ m. length (drawn ++ replicate (k * 2) (pos 0)) % m) ins_two ∙ ap (λ l. l % 2) length_input ∙ mul-mod_left (n + k) 2

  pub small : AreUpTo (2 ^ 31) drawn → AreUpTo (2 ^ 31) (drawn ++ replicate (k * 2) (pos 0))
  small few =
      All-append (λ x. unsigned_abs x ≤ 2147483648) drawn (replicate (k * 2) (pos 0)) few
      (All-replicate (λ x. unsigned_abs x ≤ 2147483648) (k * 2) (pos 0) (omega arith))

  pub long : out_channels g ≡ 2 → length (interleaved (answer g (frames_of (in_channels g) (drawn ++ replicate (k * 2) (pos 0))))) ≡ (n + k) * 2
  long outs_two =
      let input = drawn ++ replicate (k * 2) (pos 0) in
      let frames : length (frames_of (in_channels g) input) ≡ n + k =
      ap (λ m. length (frames_of m input)) ins_two ∙ length-frames_of 2 (n + k) input (omega arith) length_input in
      length-answer g (frames_of (in_channels g) input) ∙ ap (λ m. m * out_channels g) frames ∙ ap (λ m. (n + k) * m) outs_two

  -- the history that they make
  pub history_is : frames_of (in_channels g) (drawn ++ replicate (k * 2) (pos 0)) ≡ silence k (in_channels g) ++ frames_of (in_channels g) drawn
  history_is =
      ap (λ m. frames_of (in_channels g) (drawn ++ replicate (k * m) (pos 0))) (sym ins_two)
      ∙ with_silence (in_channels g) n k drawn (rw ins_two (omega arith)) (length_drawn ∙ ap (λ m. n * m) (sym ins_two))

  pub answer_is : interleaved (answer g (frames_of (in_channels g) (drawn ++ replicate (k * 2) (pos 0)))) ≡ answered g k drawn
  answer_is =
      ap (λ m. interleaved (answer g (frames_of (in_channels g) (drawn ++ replicate (k * m) (pos 0))))) (sym ins_two)
      ∙ ap (λ h. interleaved (answer g h)) (with_silence (in_channels g) n k drawn (rw ins_two (omega arith)) (length_drawn ∙ ap (λ m. n * m) (sym ins_two)))

-- a generated graph has two channels on either side, and its samples are as many as are wanted, none too large
pub ins_are : (g : Graph) (seed nodes : ℕ) → g ≡ generated seed nodes → 3 ≤ nodes → in_channels g ≡ 2
ins_are g seed nodes is some = ap in_channels is ∙ (generated_is_as_wanted seed nodes (omega (arith, some))).1

pub outs_are : (g : Graph) (seed nodes : ℕ) → g ≡ generated seed nodes → 3 ≤ nodes → out_channels g ≡ 2
outs_are g seed nodes is some = ap out_channels is ∙ (generated_is_as_wanted seed nodes (omega (arith, some))).2

pub few_samples : (n k samples : ℕ) → samples ≡ (n + k) * 2 → n ≤ 4800 → k ≤ 2 ^ 26 → samples < 2 ^ 32
few_samples n k samples is few late = omega (arith, is, few, late)

pub frames_are : 4800 ≡ demo_frames
unfolding demo_frames
frames_are = refl

-- the bytes of the answer are those of the demonstration
pub demo_bytes_are : (q : DemoRequest) (g : Graph) (k : ℕ) (answered_so : List ℤ) → g ≡ demo_graph q → 3 ≤ q.nodes → k ≡ latency_of_graph g
    → answered_so ≡ interleaved (answer g (frames_of (in_channels g) (samples_drawn q.seed (demo_frames * 2) ++ replicate (k * 2) (pos 0))))
    → bytes_of 16 answered_so ≡ demo_bytes q
unfolding demo_bytes
demo_bytes_are q g k answered_so is some late so =
    ap (bytes_of 16) (so ∙ answer_is g (samples_drawn q.seed (demo_frames * 2)) demo_frames k (ins_are g q.seed q.nodes is some) (samples_are_input q.seed (demo_frames * 2)).0)
    ∙ ap (λ n. bytes_of 16 (answered g n (samples_drawn q.seed (demo_frames * 2)))) late
    ∙ ap (λ (x : Graph). bytes_of 16 (answered x (latency_of_graph x) (samples_drawn q.seed (demo_frames * 2)))) is

-- what is made ready
pub demo_work : (q : DemoRequest) (g : Graph) (plan : Plan) (text : List ℕ) (n : ℕ) → g ≡ demo_graph q → IsBestPlan g OneByOne plan → text ≡ demo_lines g plan n
    → n ≡ sum (demo_bytes q) → IsWork (Ok (demo q)) None plan text Done
demo_work q g plan text n is best lines summed = (
  subst (λ (x : Graph). IsBestPlan x OneByOne plan) is best,
  lines ∙ ap (λ m. demo_lines g plan m) summed ∙ ap (λ (x : Graph). demo_lines x plan (sum (demo_bytes q))) is,
  refl,
)
