-- What went out of an engine is the graph's answer to what came in.
use Rattle.std.proofs.Common.{◌≡◌, ℕ, ◌-◌, ◌*◌, ◌≤◌, ◌<◌, List, [], ◌∷◌, ◌++◌, length, take, drop, Option, Some, None, refl, sym, ◌∙◌, ap, subst, arith}
use Rattle.std.proofs.lemmas.List.Concat.{flat_map-append}
use Rattle.std.proofs.lemmas.List.{append-nil, append_assoc, length-drop, length-take-le, take-append-drop}
use Rattle.std.specs.Prelude.{ℤ}
use Rattle.gh_outside.specs.Holdings.{Holding, HeldBytes}
use Rattle.graph_model.specs.Answers.{answer}
use Rattle.graph_model.specs.Graphs.{output_name}
use Rattle.graph_model.specs.Histories.{History, frames_of, interleaved}
use Rattle.graph_model.specs.Paths.{reach}
use Rattle.graph_model.specs.Sound.{IsSound}
use Rattle.graph_model.specs.declared.graph.Graph.{Graph}
use Rattle.graph_model.proofs.AnswerLaws.{in-causal}
use Rattle.graph_model.proofs.BlockLaws.{frames_are_interleaved, frames_of-append, length-frames_of}
use Rattle.std.proofs.Math.Nat.{mul-le-mul_right}
use Rattle.std.proofs.Math.Seq.{drop-append_seam}
use Rattle.wav_pcm.specs.Samples.{bytes_of, written}
use Rattle.engine_model.specs.Cuttings.{HasRendered}
use Rattle.engine_model.specs.Engines.{ins, outs, Parts, Stands}
use Rattle.engine_model.proofs.CuttingLaws.{outputs_are_answers}
use Rattle.engine_model.proofs.OutputFacts.{output_some}
use Rattle.streaming.specs.Appends.{IsAppended, IsPartAppended}
use Rattle.streaming.specs.Blocks.{all_samples, answer_put, first_frames, first_samples, put_of, AreFrames, BreaksOff, Comes, HasPut, HasPutPart, HasStreamed}
use Rattle.streaming.specs.declared.ends.Incoming.{Incoming}
use Rattle.streaming.specs.declared.ends.Outgoing.{Outgoing}
use Rattle.streaming.proofs.StreamLaws.{drop-split, sub-mul}

-- ---- of a new engine
module _ (e e' : Parts) (sound : IsSound e.graph) (new : Stands e []) where
  -- the samples that went out are the answer
  pub went_is : (came went : List ℤ) (n : ℕ) → length went ≡ n * outs e → HasRendered e came went e' → went ≡ interleaved (answer e.graph (frames_of (ins e) came))
  went_is came went n gone rendered =
      let one = outputs_are_answers e e' ((came, went) ∷ []) sound new (e', rendered, refl) in
      sym (frames_are_interleaved (outs e) n went (output_some e.graph sound) gone)
      ∙ ap (λ xs. interleaved (frames_of (outs e) xs)) (sym (append-nil went))
      ∙ ap interleaved one
      ∙ ap (λ xs. interleaved (answer e.graph (frames_of (ins e) xs))) (append-nil came)

  pub stands_for : (came went : List ℤ) → HasRendered e came went e' → Stands e' (frames_of (ins e) came)
  stands_for came went rendered = subst (Stands e') (append-nil (frames_of (ins e) came)) (rendered.stands [] new)

  -- the frames are the first of all
  first_are : (i : Incoming) (file : List ℕ) (k : ℕ) (came : List ℤ) → came ≡ take (k * i.head.channels) (drop (0 * i.head.channels) (all_samples i file)) → came ≡ first_samples i file k
  first_are i file k came are =
      let none : 0 * i.head.channels ≡ 0 = omega arith in
      are ∙ ap (λ z. take (k * i.head.channels) (drop z (all_samples i file))) none

  module _ (i : Incoming) (o : Outgoing) (k : ℕ) (come : ins e ≡ i.head.channels) (came went : List ℤ) (old : Option Holding) (comes : Comes i 0 k came went old e e') where
    answers_so : (file : List ℕ) → came ≡ first_samples i file k → put_of o 0 went ≡ answer_put i o e.graph file k
    answers_so file are =
        ap (put_of o 0) (went_is came went k comes.gone comes.rendered ∙ ap (λ m. interleaved (answer e.graph (frames_of m came))) come
        ∙ ap (λ xs. interleaved (answer e.graph (frames_of i.head.channels xs))) are)

    stands_so : (file : List ℕ) → came ≡ first_samples i file k → Stands e' (first_frames i file k)
    stands_so file are = subst (Stands e') (ap (λ m. frames_of m came) come ∙ ap (frames_of i.head.channels) are) (stands_for came went comes.rendered)

  -- where the folder tells
  held_bytes : (i : Incoming) (k : ℕ) (came : List ℤ) (P : List ℕ → Type 0) (held : Option Holding) → AreFrames i 0 k came held → ((file : List ℕ) → came ≡ first_samples i file k → P file) → HeldBytes i.name.now held P
  held_bytes i k came P None are f = tt
  held_bytes i k came P (Some files) are f = of_file (files i.name.now) are
    where
      of_file : (o : Option (List ℕ)) → HeldBytes i.name.now (Some (λ _. o)) (λ file. came ≡ take (k * i.head.channels) (drop (0 * i.head.channels) (all_samples i file)))
          → HeldBytes i.name.now (Some (λ _. o)) P
      of_file None are = tt
      of_file (Some file) are = f file (first_are i file k came are)

  pub has_put : (i : Incoming) (o : Outgoing) (k : ℕ) (old held : Option Holding) → ins e ≡ i.head.channels → HasStreamed i o 0 k old e held e' → HasPut i o k old e held e'
  has_put i o k old held come (came, went, comes, appended) =
      held_bytes i k came (λ file. Stands e' (first_frames i file k) × IsAppended o.name.now (answer_put i o e.graph file k) old held) old comes.frames
      (λ file are. (stands_so i o k come came went old comes file are, subst (λ piece. IsAppended o.name.now piece old held) (answers_so i o k come came went old comes file are) appended))

  pub has_put_part : (i : Incoming) (o : Outgoing) (k : ℕ) (old held : Option Holding) → ins e ≡ i.head.channels → BreaksOff i o 0 k old e held e' → HasPutPart i o k old e held e'
  has_put_part i o k old held come (came, went, comes, appended) =
      held_bytes i k came (λ file. Stands e' (first_frames i file k) × IsPartAppended o.name.now (answer_put i o e.graph file k) old held) old comes.frames
      (λ file are. (stands_so i o k come came went old comes file are, subst (λ piece. IsPartAppended o.name.now piece old held) (answers_so i o k come came went old comes file are) appended))

-- ---- a first part of what comes in
interleaved-both : (a b : History) → interleaved (a ++ b) ≡ interleaved b ++ interleaved a
interleaved-both [] b = sym (append-nil (interleaved b))
interleaved-both (f ∷ a) b = ap (λ xs. xs ++ f) (interleaved-both a b) ∙ append_assoc (interleaved b) (interleaved a) f

module _ (m n k : ℕ) (all : List ℤ) (some : 0 < m) (long : length all ≡ n * m) (within : k ≤ n) where
  few : k * m ≤ length all
  few = subst (λ l. k * m ≤ l) (sym long) (mul-le-mul_right m within)

  first_long : length (take (k * m) all) ≡ k * m
  first_long = length-take-le (k * m) all few

  rest_long : length (drop (k * m) all) ≡ (n - k) * m
  rest_long = length-drop (k * m) all ∙ ap (λ l. l - k * m) long ∙ sub-mul n k m

  -- the history of all frames is that of the first, and then that of the rest
  pub history_splits : frames_of m all ≡ frames_of m (drop (k * m) all) ++ frames_of m (take (k * m) all)
  history_splits =
      ap (frames_of m) (sym (take-append-drop (k * m) all)) ∙ frames_of-append m k (n - k) (take (k * m) all) (drop (k * m) all) some first_long rest_long

  pub first_history : drop (length (frames_of m all) - k) (frames_of m all) ≡ frames_of m (take (k * m) all)
  first_history =
      let count : length (frames_of m all) ≡ n = length-frames_of m n all some long in
      let rest : length (frames_of m (drop (k * m) all)) ≡ n - k = length-frames_of m (n - k) (drop (k * m) all) some rest_long in
      ap (λ j. drop (j - k) (frames_of m all)) count
      ∙ ap (λ j. drop j (frames_of m all)) (sym rest)
      ∙ ap (drop (length (frames_of m (drop (k * m) all)))) history_splits
      ∙ drop-append_seam (frames_of m (drop (k * m) all)) (frames_of m (take (k * m) all))

  -- the answer to the first is the first of the answer
  abbrev later_answer : Graph → List ℤ
  later_answer g = interleaved (take (length (frames_of m (drop (k * m) all))) (answer g (frames_of m all)))

  answer_splits : (g : Graph) → interleaved (answer g (frames_of m all)) ≡ interleaved (answer g (frames_of m (take (k * m) all))) ++ later_answer g
  answer_splits g =
      let a = frames_of m (drop (k * m) all) in
      let j = length (frames_of m (drop (k * m) all)) in
      let first : drop j (answer g (frames_of m all)) ≡ answer g (frames_of m (take (k * m) all)) =
      sym (in-causal g (reach g) (frames_of m all) j (output_name g))
      ∙ ap (answer g) (ap (drop j) history_splits ∙ drop-append_seam (frames_of m (drop (k * m) all)) (frames_of m (take (k * m) all))) in
      ap interleaved (sym (take-append-drop j (answer g (frames_of m all))))
      ∙ interleaved-both (take j (answer g (frames_of m all))) (drop j (answer g (frames_of m all)))
      ∙ ap (λ h. interleaved h ++ later_answer g) first

  -- and so it is with what is put
  pub put_splits : (o : Outgoing) (g : Graph) → (rest : List ℕ) × (put_of o 0 (interleaved (answer g (frames_of m all))) ≡ put_of o 0 (interleaved (answer g (frames_of m (take (k * m) all)))) ++ rest)
  put_splits o g =
      let cut = (o.skipped - 0) * o.channels in
      let first = interleaved (answer g (frames_of m (take (k * m) all))) in (
        bytes_of o.bits (drop (cut - length first) (later_answer g)),
        ap (put_of o 0) (answer_splits g)
            ∙ ap (bytes_of o.bits) (drop-split cut first (later_answer g))
            ∙ flat_map-append (written o.bits) (drop cut first) (drop (cut - length first) (later_answer g)),
      )
