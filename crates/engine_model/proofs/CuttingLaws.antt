-- Blocks joined are as one block.
use Rattle.std.proofs.Common.{◌≡◌, ℕ, ◌+◌, ◌*◌, List, [], ◌∷◌, ◌++◌, length, take, drop, take_all, ℤ, refl, sym, ap, ◌∙◌, subst, arith}
use Rattle.std.proofs.lemmas.List.{append-nil, append_assoc, length-append}
use Rattle.std.proofs.Math.Nat.{add-mul, zero-div}
use Rattle.std.proofs.Math.Seq.{drop-append_seam, take-add}
use Rattle.graph_model.specs.Histories.{History, before, frame_in, frames_of}
use Rattle.graph_model.specs.Answers.{answer}
use Rattle.graph_model.specs.Graphs.{in_channels, out_channels, output_name}
use Rattle.graph_model.specs.Paths.{reach}
use Rattle.graph_model.specs.Sound.{IsSound}
use Rattle.graph_model.proofs.AnswerLaws.{in-causal}
use Rattle.graph_model.proofs.BlockLaws.{frames_of-append}
use Rattle.graph_model.proofs.NodeFacts.{input_some}
use Rattle.graph_model.proofs.StreamTimeLaws.{length-incoming}
use Rattle.engine_model.specs.Engines.{Parts, Stands, ins, outs}
use Rattle.engine_model.specs.Cuttings.{HasRendered, inputs, outputs, NoCuttingShows, OutputsAreAnswers}
use Rattle.engine_model.proofs.OutputFacts.{output_some}

-- two blocks
module _ (e f e' : Parts) (sound : IsSound e.graph) (i o i' o' : List ℤ) (one : HasRendered e i o f) (two : HasRendered f i' o' e') where
  -- the second block as one of e
  comes : (n : ℕ) × (length i' ≡ n * ins e) × (length o' ≡ n * outs e)
  comes =
      let w = two.frames in
      (w.0, w.1 ∙ ap (λ g. w.0 * in_channels g) one.same.graph, w.2 ∙ ap (λ g. w.0 * out_channels g) one.same.graph)

  came : frames_of (ins e) (i ++ i') ≡ frames_of (ins e) i' ++ frames_of (ins e) i
  came = frames_of-append (ins e) one.frames.0 comes.0 i i' (input_some e.graph sound) one.frames.1 comes.1

  went : frames_of (outs e) (o ++ o') ≡ frames_of (outs e) o' ++ frames_of (outs e) o
  went = frames_of-append (outs e) one.frames.0 comes.0 o o' (output_some e.graph sound) one.frames.2 comes.2

  -- and the histories
  all : (h : History) → frames_of (ins e) (i ++ i') ++ h ≡ frames_of (ins e) i' ++ (frames_of (ins e) i ++ h)
  all h = ap (λ a. a ++ h) came ∙ append_assoc (frames_of (ins e) i') (frames_of (ins e) i) h

  last_answer : (h : History) → Stands e h
      → frames_of (outs e) o' ≡ take (length (frames_of (ins e) i')) (answer e.graph (frames_of (ins e) i' ++ (frames_of (ins e) i ++ h)))
  last_answer h stands =
      subst (λ g. frames_of (out_channels g) o' ≡ take (length (frames_of (in_channels g) i')) (answer g (frames_of (in_channels g) i' ++ (frames_of (ins e) i ++ h))))
      one.same.graph (two.answers (frames_of (ins e) i ++ h) (one.stands h stands))

  -- the answer to the first block is what the answer to both drops
  first_answer : (h : History)
      → drop (length (frames_of (ins e) i')) (answer e.graph (frames_of (ins e) i' ++ (frames_of (ins e) i ++ h))) ≡ answer e.graph (frames_of (ins e) i ++ h)
  first_answer h =
      sym (in-causal e.graph (reach e.graph) (frames_of (ins e) i' ++ (frames_of (ins e) i ++ h)) (length (frames_of (ins e) i')) (output_name e.graph))
      ∙ ap (answer e.graph) (drop-append_seam (frames_of (ins e) i') (frames_of (ins e) i ++ h))

  pub joined : HasRendered e (i ++ i') (o ++ o') e'
  joined = record {
    same = record { graph = two.same.graph ∙ one.same.graph; plan = two.same.plan ∙ one.same.plan; block = two.same.block ∙ one.same.block };
    frames = (
      one.frames.0 + comes.0,
      length-append i i' ∙ ap (λ n. n + length i') one.frames.1 ∙ ap (λ n. one.frames.0 * ins e + n) comes.1 ∙ sym (add-mul one.frames.0 comes.0 (ins e)),
      length-append o o' ∙ ap (λ n. n + length o') one.frames.2 ∙ ap (λ n. one.frames.0 * outs e + n) comes.2 ∙ sym (add-mul one.frames.0 comes.0 (outs e)),
    );
    stands = λ h stands.
        subst (Stands e') (ap (λ g. frames_of (in_channels g) i' ++ (frames_of (ins e) i ++ h)) one.same.graph ∙ sym (all h)) (two.stands (frames_of (ins e) i ++ h) (one.stands h stands));
    answers = λ h stands.
        went
        ∙ ap (λ a. a ++ frames_of (outs e) o) (last_answer h stands)
        ∙ ap (λ a. take (length (frames_of (ins e) i')) (answer e.graph (frames_of (ins e) i' ++ (frames_of (ins e) i ++ h))) ++ a)
        (one.answers h stands ∙ ap (take (length (frames_of (ins e) i))) (sym (first_answer h)))
        ∙ sym (take-add (length (frames_of (ins e) i')) (length (frames_of (ins e) i)) (answer e.graph (frames_of (ins e) i' ++ (frames_of (ins e) i ++ h))))
        ∙ ap (λ n. take n (answer e.graph (frames_of (ins e) i' ++ (frames_of (ins e) i ++ h)))) (sym (length-append (frames_of (ins e) i') (frames_of (ins e) i)))
        ∙ ap (λ a. take (length a) (answer e.graph (frames_of (ins e) i' ++ (frames_of (ins e) i ++ h)))) (sym came)
        ∙ ap (λ a. take (length (frames_of (ins e) (i ++ i'))) (answer e.graph a)) (sym (all h));
  }

-- no block
no_frames : (m : ℕ) → frames_of m [] ≡ []
no_frames m = ap (λ n. before (frame_in m []) n) (zero-div m)

nothing : (e e' : Parts) → e ≡ e' → HasRendered e [] [] e'
nothing e e' is = subst (HasRendered e [] []) is (record {
  same = record { graph = refl; plan = refl; block = refl };
  frames = (0, omega arith, omega arith);
  stands = λ h stands. subst (λ a. Stands e (a ++ h)) (sym (no_frames (ins e))) stands;
  answers = λ h stands. no_frames (outs e) ∙ sym (ap (λ (a : History). take (length a) (answer e.graph (frames_of (ins e) [] ++ h))) (no_frames (ins e)));
})

pub no_cutting_shows : NoCuttingShows
no_cutting_shows e e' [] sound is = nothing e e' is
no_cutting_shows e e' (b ∷ bs) sound rendered =
    let f = rendered.0 in
    let one = rendered.1 in
    joined e rendered.0 e' sound b.0 b.1 (inputs bs) (outputs bs) one
    (no_cutting_shows rendered.0 e' bs (subst (λ g. IsSound g) (sym one.same.graph) sound) rendered.2)

pub outputs_are_answers : OutputsAreAnswers
outputs_are_answers e e' blocks sound new rendered =
    let all = no_cutting_shows e e' blocks sound rendered in
    let a = frames_of (ins e) (inputs blocks) in
    let same = append-nil (frames_of (ins e) (inputs blocks)) in
    all.answers [] new
    ∙ ap (λ h. take (length (frames_of (ins e) (inputs blocks))) (answer e.graph h)) same
    ∙ take_all (length (frames_of (ins e) (inputs blocks))) (answer e.graph (frames_of (ins e) (inputs blocks)))
    (omega (arith, length-incoming e.graph (reach e.graph) (frames_of (ins e) (inputs blocks)) (output_name e.graph)))
