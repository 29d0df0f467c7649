-- How long the answer of a graph is, and the silence after what comes in.
use Rattle.std.proofs.Common.{◌≡◌, ℕ, zero, suc, pos, ◌+◌, ◌-◌, ◌*◌, ◌/◌, ◌<◌, ◌≤◌, ℤ, List, ◌++◌, length, replicate, sym, ap, ◌∙◌, arith, inl, inr}
use Rattle.std.proofs.Math.Nat.{mul-le-mul_left, mul-le-mul_right}
use Rattle.std.proofs.lemmas.List.{get_or-replicate, length-replicate, replicate-append-replicate}
use Rattle.graph_model.specs.Answers.{answer, outgoing, sum_into}
use Rattle.graph_model.specs.Graphs.{out_channels, output_name}
use Rattle.graph_model.specs.Histories.{History, frames_of, history_of, interleaved, silence}
use Rattle.graph_model.specs.Paths.{reach}
use Rattle.graph_model.specs.declared.graph.Graph.{Graph}
use Rattle.graph_model.proofs.BlockLaws.{frames_of-append, interleaved_are_frames}
use Rattle.graph_model.proofs.HistoryLaws.{length-history_of}
use Rattle.graph_model.proofs.InterleavingLaws.{length-interleaved, wide-history_of}
use Rattle.wav_pcm.specs.Heads.{most_data}
use Rattle.wav_pcm.specs.Samples.{IsSize}
use Rattle.wav_pcm.specs.declared.head.Head.{Head}
use Rattle.command_words.specs.Rendering.{RenderRequest}
use Rattle.host_modes.specs.Forms.{written_frames, IsForm, IsFormOf}
use Rattle.host_modes.specs.Outputs.{data_bytes, left_out, silent_frames}
use Rattle.host_modes.specs.declared.output.forms.Form.{Form}

-- the answer is as long as the input, on the channels of the output node
pub length-answer : (g : Graph) (h : History) → length (interleaved (answer g h)) ≡ length h * out_channels g
length-answer g h =
    let into = sum_into g (reach g) (outgoing g (reach g) h) (output_name g) in
    length-interleaved (out_channels g) (history_of (length h) (out_channels g) into) (wide-history_of (length h) (out_channels g) into)
    ∙ ap (λ n. n * out_channels g) (length-history_of (length h) (out_channels g) into)

-- a sample has bytes
pub some_bytes : (bits : ℕ) → IsSize bits → 1 ≤ bits / 8
some_bytes bits size = elim size [
  | inl e ↦ rw e (omega arith)
  | inr (inl e) ↦ rw e (omega arith)
  | inr (inr (inl e)) ↦ rw e (omega arith)
  | inr (inr (inr e)) ↦ rw e (omega arith)
]

-- no more frames than bytes
pub few_frames : (form : Form) → IsForm form → written_frames form * (form.channels * (form.bits / 8)) ≤ most_data → written_frames form ≤ most_data
few_frames form good short =
    let one = some_bytes form.bits good.size in
    let each : 1 * (form.bits / 8) ≤ form.channels * (form.bits / 8) = mul-le-mul_right (form.bits / 8) good.channels_least in
    let more : written_frames form * 1 ≤ written_frames form * (form.channels * (form.bits / 8)) = mul-le-mul_left (written_frames form) (omega arith) in
    omega arith

-- ---- silence after the samples
interleaved-silence : (k m : ℕ) → interleaved (silence k m) ≡ replicate (k * m) (pos 0)
interleaved-silence zero m = let none : 0 * m ≡ 0 = omega arith in ap (λ n. replicate n (pos 0)) (sym none)
interleaved-silence (suc k) m =
    let more : k * m + m ≡ suc k * m = omega arith in
    ap (λ xs. xs ++ replicate m (pos 0)) (interleaved-silence k m) ∙ replicate-append-replicate (k * m) m (pos 0) ∙ ap (λ n. replicate n (pos 0)) more

frames_of-silence : (k m : ℕ) → 0 < m → frames_of m (replicate (k * m) (pos 0)) ≡ silence k m
frames_of-silence k m some =
    ap (frames_of m) (sym (interleaved-silence k m))
    ∙ interleaved_are_frames m (silence k m) some (λ i d lt. ap length (get_or-replicate k i (replicate m (pos 0)) d (let l = length-replicate k (replicate m (pos 0)) in omega arith)) ∙ length-replicate m (pos 0))

-- zeros after the samples are frames of silence after theirs
pub with_silence : (m n k : ℕ) (samples : List ℤ) → 0 < m → length samples ≡ n * m
    → frames_of m (samples ++ replicate (k * m) (pos 0)) ≡ silence k m ++ frames_of m samples
with_silence m n k samples some whole =
    frames_of-append m n k samples (replicate (k * m) (pos 0)) some whole (length-replicate (k * m) (pos 0))
    ∙ ap (λ h. h ++ frames_of m samples) (frames_of-silence k m some)

-- the bytes of the frames are those of the form
pub bytes_are : (q : RenderRequest) (g : Graph) (head : Head) (form : Form) → IsFormOf q g head form → written_frames form * (form.channels * (form.bits / 8)) ≡ data_bytes q g head
bytes_are q g head form of =
    ap (λ n. (n - form.skipped) * (form.channels * (form.bits / 8))) (of.frames ∙ ap (λ k. head.frames + k) of.silent)
    ∙ ap (λ k. (head.frames + silent_frames q g - k) * (form.channels * (form.bits / 8))) of.skipped
    ∙ ap (λ n. (head.frames + silent_frames q g - left_out q g) * (n * (form.bits / 8))) of.channels
    ∙ ap (λ n. (head.frames + silent_frames q g - left_out q g) * (out_channels g * (n / 8))) of.bits
