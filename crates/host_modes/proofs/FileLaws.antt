-- The output file: what is written of a request, and a first part of it.
use Rattle.std.proofs.Common.{◌≡◌, ℕ, ℤ, pos, ◌+◌, ◌-◌, ◌*◌, ◌/◌, ◌%◌, ◌≤◌, ◌<◌, min, List, ◌++◌, length, take, drop, replicate, Option, Some, None, refl, sym, ◌∙◌, ap, subst, arith, inl, inr, take_all}
use Rattle.std.proofs.lemmas.Bool.{cases_lt}
use Rattle.std.proofs.lemmas.List.{append_assoc, length-append, length-drop, length-replicate, length-take-le, take-append-le, take_min}
use Rattle.std.proofs.Math.Nat.{mul-le-mul_right, mul_assoc}
use Rattle.std.proofs.Math.Seq.{take-append_seam}
use Rattle.gh_outside.specs.Holdings.{Holding, HeldBytes, IsPast}
use Rattle.graph_model.specs.Answers.{answer}
use Rattle.graph_model.specs.Graphs.{in_channels, out_channels}
use Rattle.graph_model.specs.Histories.{frames_of, interleaved, silence}
use Rattle.graph_model.specs.declared.graph.Graph.{Graph}
use Rattle.graph_model.proofs.BlockLaws.{length-frames_of}
use Rattle.wav_pcm.specs.Files.{data_size, recorded, IsHead}
use Rattle.wav_pcm.specs.Heads.{head_of}
use Rattle.wav_pcm.specs.Samples.{bytes_of}
use Rattle.wav_pcm.specs.declared.head.Head.{Head}
use Rattle.wav_pcm.proofs.PartLaws.{length-recorded}
use Rattle.streaming.specs.Appends.{IsPart}
use Rattle.streaming.specs.Blocks.{all_frames, all_samples, answer_put, first_frames, first_samples, put_of}
use Rattle.streaming.specs.declared.ends.Incoming.{Incoming}
use Rattle.streaming.proofs.AnswerLaws.{first_history, put_splits}
use Rattle.streaming.proofs.StreamLaws.{sub-mul}
use Rattle.command_words.specs.Rendering.{RenderRequest}
use Rattle.host_modes.specs.Files.{part_of, whole_of, IsRenderingOf}
use Rattle.host_modes.specs.Outputs.{all_input, answered, data_bytes, first_of, left_out, output_after, output_of, sample_size, silent_frames}
use Rattle.host_modes.specs.declared.output.files.Rendering.{Rendering}
use Rattle.host_modes.proofs.OutputLaws.{length-answer, with_silence}

-- ---- a first part
-- of a first part of a list, as one of the list
pub part_of_more : (name piece rest : List ℕ) (old new : Option Holding) → IsPart name piece old new → IsPart name (piece ++ rest) old new
part_of_more name piece rest None new part = tt
part_of_more name piece rest (Some old) None part = tt
part_of_more name piece rest (Some old) (Some new) (inl same) = inl same
part_of_more name piece rest (Some old) (Some new) (inr (n, is)) = inr (min n (length piece), is ∙ ap Some (sym (take_min n piece) ∙ sym (first n)))
  where
    first : (n : ℕ) → take (min n (length piece)) (piece ++ rest) ≡ take (min n (length piece)) piece
    first n = take-append-le (min n (length piece)) piece rest (omega arith)

-- ---- a file that has its frames
pub all_there : (name : List ℕ) (end : ℕ) (held : Option Holding) → (IsPast name end held → ⊥) → HeldBytes name held (λ file. end ≤ length file)
all_there name end None there = tt
all_there name end (Some files) there = of (files name) refl
  where
    some_same : {x y : List ℕ} → Some x ≡ Some y → x ≡ y
    some_same e = cc

    of : (o : Option (List ℕ)) → files name ≡ o → HeldBytes name (Some (λ _. o)) (λ file. end ≤ length file)
    of None at = tt
    of (Some file) at = elim (cases_lt (length file) end) [
      | inl short ↦ absurd (there (λ bytes held. subst (λ b. length b < end) (some_same (sym at ∙ held)) short))
      | inr le ↦ le
    ]

module _ (i : Incoming) (file : List ℕ) (good : IsHead i.head) (there : i.head.from + data_size i.head ≤ length file) where
  pub all_long : length (all_samples i file) ≡ all_frames i * i.head.channels
  all_long =
      let sum : i.head.frames * i.head.channels + i.silent * i.head.channels ≡ (i.head.frames + i.silent) * i.head.channels = omega arith in
      length-append (recorded i.head file) (replicate (i.silent * i.head.channels) (pos 0))
      ∙ ap (λ n. n + length (replicate {A = ℤ} (i.silent * i.head.channels) (pos 0))) (length-recorded i.head file good there)
      ∙ ap (λ n. i.head.frames * i.head.channels + n) (length-replicate (i.silent * i.head.channels) (pos 0)) ∙ sum

  pub all_taken : first_samples i file (all_frames i) ≡ all_samples i file
  all_taken = take_all (all_frames i * i.head.channels) (all_samples i file) (omega (arith, all_long))

module _ (r : Rendering) (g : Graph) (file : List ℕ) (good : IsHead r.from.head) (there : r.from.head.from + data_size r.from.head ≤ length file) where
  some : 0 < r.from.head.channels
  some = let l = good.channels_least in omega arith

  -- the whole file is what stands after k frames, and then the rest
  pub whole_splits : (k : ℕ) → k ≤ all_frames r.from → (rest : List ℕ) × (whole_of r g file ≡ part_of r g file k ++ rest)
  whole_splits k within =
      let w = put_splits r.from.head.channels (all_frames r.from) k (all_samples r.from file) some (all_long r.from file good there) within r.to g in
      let pad = replicate (r.data_bytes % 2) 0 in (
        w.0 ++ pad,
        ap (λ xs. r.head ++ put_of r.to 0 (interleaved (answer g (frames_of r.from.head.channels xs))) ++ pad) (all_taken r.from file good there)
            ∙ ap (λ bytes. r.head ++ bytes ++ pad) w.1
            ∙ ap (λ bytes. bytes ++ pad) (sym (append_assoc r.head (answer_put r.from r.to g file k) w.0))
            ∙ append_assoc (r.head ++ answer_put r.from r.to g file k) w.0 pad,
      )

  -- so that is a first part of it
  pub part_is_first : (k : ℕ) → k ≤ all_frames r.from → part_of r g file k ≡ take (length (part_of r g file k)) (whole_of r g file)
  part_is_first k within =
      let w = whole_splits k within in
      sym (take-append_seam (part_of r g file k) w.0) ∙ ap (take (length (part_of r g file k))) (sym w.1)

  -- ---- of a request
  module _ (q : RenderRequest) (head : Head) (is : IsRenderingOf q g head r) (channels : head.channels ≡ in_channels g) where
    ins_are : r.from.head.channels ≡ in_channels g
    ins_are = ap (λ (h : Head). h.channels) is.head_is ∙ channels

    samples_long : length (recorded r.from.head file) ≡ r.from.head.frames * r.from.head.channels
    samples_long = length-recorded r.from.head file good there

    -- the history of all frames
    pub all_history : frames_of r.from.head.channels (all_samples r.from file) ≡ all_input q g (recorded r.from.head file)
    all_history =
        with_silence r.from.head.channels r.from.head.frames r.from.silent (recorded r.from.head file) some samples_long
        ∙ ap (λ k. silence k r.from.head.channels ++ frames_of r.from.head.channels (recorded r.from.head file)) is.silent
        ∙ ap (λ m. silence (silent_frames q g) m ++ frames_of m (recorded r.from.head file)) ins_are

    pub history_all : first_frames r.from file (all_frames r.from) ≡ all_input q g (recorded r.from.head file)
    history_all = ap (frames_of r.from.head.channels) (all_taken r.from file good there) ∙ all_history

    pub history_first : (k : ℕ) → k ≤ all_frames r.from → first_frames r.from file k ≡ first_of k (all_input q g (recorded r.from.head file))
    history_first k within =
        sym (first_history r.from.head.channels (all_frames r.from) k (all_samples r.from file) some (all_long r.from file good there) within)
        ∙ ap (λ h. first_of k h) all_history

    -- how many frames they are
    pub first_long : (k : ℕ) → k ≤ all_frames r.from → length (first_frames r.from file k) ≡ k
    first_long k within =
        let few : k * r.from.head.channels ≤ length (all_samples r.from file) =
        subst (λ l. k * r.from.head.channels ≤ l) (sym (all_long r.from file good there)) (mul-le-mul_right r.from.head.channels within) in
        length-frames_of r.from.head.channels k (first_samples r.from file k) some (length-take-le (k * r.from.head.channels) (all_samples r.from file) few)

    -- what is put of an answer
    put_so : (xs : List ℤ) → put_of r.to 0 xs ≡ bytes_of (sample_size q head) (drop (left_out q g * out_channels g) xs)
    put_so xs =
        let none : r.to.skipped - 0 ≡ r.to.skipped = omega arith in
        ap (λ n. bytes_of r.to.bits (drop (n * r.to.channels) xs)) (none ∙ is.skipped)
        ∙ ap (λ n. bytes_of r.to.bits (drop (left_out q g * n) xs)) is.channels
        ∙ ap (λ n. bytes_of n (drop (left_out q g * out_channels g) xs)) is.bits

    pub part_is : (k : ℕ) → k ≤ all_frames r.from → part_of r g file k ≡ output_after q g head (recorded r.from.head file) k
    part_is k within =
        ap (λ bytes. r.head ++ bytes) (put_so (interleaved (answer g (first_frames r.from file k)))
        ∙ ap (λ h. bytes_of (sample_size q head) (drop (left_out q g * out_channels g) (interleaved (answer g h)))) (history_first k within))
        ∙ ap (λ start. start ++ bytes_of (sample_size q head) (drop (left_out q g * out_channels g) (interleaved (answer g (first_of k (all_input q g (recorded r.from.head file))))))) is.start

    -- the samples that are written, and their bytes
    history_long : length (all_input q g (recorded r.from.head file)) ≡ head.frames + silent_frames q g
    history_long =
        ap length (sym all_history) ∙ length-frames_of r.from.head.channels (all_frames r.from) (all_samples r.from file) some (all_long r.from file good there)
        ∙ ap (λ n. r.from.head.frames + n) is.silent ∙ ap (λ (h : Head). h.frames + silent_frames q g) is.head_is

    kept_long : length (drop (left_out q g * out_channels g) (answered g (silent_frames q g) (recorded r.from.head file))) ≡ (head.frames + silent_frames q g - left_out q g) * out_channels g
    kept_long =
        length-drop (left_out q g * out_channels g) (answered g (silent_frames q g) (recorded r.from.head file))
        ∙ ap (λ n. n - left_out q g * out_channels g) (length-answer g (all_input q g (recorded r.from.head file)) ∙ ap (λ n. n * out_channels g) history_long)
        ∙ sub-mul (head.frames + silent_frames q g) (left_out q g) (out_channels g)

    bytes_long : length (drop (left_out q g * out_channels g) (answered g (silent_frames q g) (recorded r.from.head file))) * (sample_size q head / 8) ≡ data_bytes q g head
    bytes_long =
        ap (λ n. n * (sample_size q head / 8)) kept_long
        ∙ mul_assoc (head.frames + silent_frames q g - left_out q g) (out_channels g) (sample_size q head / 8)

    -- the whole is the output of the request
    pub whole_is : whole_of r g file ≡ output_of q g head (recorded r.from.head file)
    whole_is =
        let kept = drop (left_out q g * out_channels g) (answered g (silent_frames q g) (recorded r.from.head file)) in
        ap (λ bytes. r.head ++ bytes ++ replicate (r.data_bytes % 2) 0) (put_so (interleaved (answer g (first_frames r.from file (all_frames r.from))))
        ∙ ap (λ h. bytes_of (sample_size q head) (drop (left_out q g * out_channels g) (interleaved (answer g h)))) history_all)
        ∙ ap (λ start. start ++ bytes_of (sample_size q head) kept ++ replicate (r.data_bytes % 2) 0) is.start
        ∙ ap (λ n. head_of (out_channels g) head.rate (sample_size q head) (data_bytes q g head) ++ bytes_of (sample_size q head) kept ++ replicate (n % 2) 0) is.bytes
        ∙ ap (λ n. head_of (out_channels g) head.rate (sample_size q head) n ++ bytes_of (sample_size q head) kept ++ replicate (n % 2) 0) (sym bytes_long)
