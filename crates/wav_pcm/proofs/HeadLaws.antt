-- How a file is read by its chunks of format and of data.
use Rattle.std.proofs.Common.{◌≡◌, ℕ, ◌<◌, ◌≤◌, true, false, List, length, Option, refl, sym, ap, ◌∙◌, arith, ◌&&◌}
use Rattle.std.specs.Prelude.{Result, Ok, Err, slice_range, codes, find, if◌then◌else◌}
use Rattle.std.specs.Str.{bytes_eq}
use Rattle.std.proofs.lemmas.Bool.{le-leb}
use Rattle.std.proofs.lemmas.Bool.Decides.{nat_tests}
use Rattle.std.proofs.Math.Dec.{leb}
use Rattle.graph_model.specs.Refusals.{and_then}
use Rattle.wav_pcm.specs.Chunks.{mark_at, is_format, is_data}
use Rattle.wav_pcm.specs.Formats.{whole_format, format_in, checked_format}
use Rattle.wav_pcm.specs.Files.{is_wave_start, is_wave, head_in, head_by, reading, ReadsAs}
use Rattle.wav_pcm.specs.Laws.{ReadingIsOne}
use Rattle.wav_pcm.specs.declared.chunk.Chunk.{Chunk}
use Rattle.wav_pcm.specs.declared.format.Format.{Format}
use Rattle.wav_pcm.specs.declared.head.Head.{Head}
use Rattle.wav_pcm.specs.declared.head.WavFault.{WavFault}
use Rattle.wav_pcm.specs.declared.head.WavFault.TheVariants as fault
use Rattle.wav_pcm.proofs.ToldLaws.{part_in}
use Rattle.wav_pcm.proofs.ChunkLaws.{Found, chunks_exist, chunks_unique}

-- the first 12 bytes say whether a file is RIFF/WAVE
pub wave_start : (bytes start : List ℕ) → start ≡ slice_range bytes 0 12 → 12 ≤ length bytes → is_wave_start start ≡ is_wave bytes
wave_start bytes start is room =
    let a : mark_at 0 start ≡ mark_at 0 bytes = part_in 4 0 12 0 12 bytes start refl is (omega arith) in
    let b : mark_at 8 start ≡ mark_at 8 bytes = part_in 4 8 12 0 12 bytes start refl is (omega arith) in
    ap (λ x. bytes_eq x (codes "RIFF") && bytes_eq (mark_at 8 start) (codes "WAVE")) a
    ∙ ap (λ x. bytes_eq (mark_at 0 bytes) (codes "RIFF") && bytes_eq x (codes "WAVE")) b
    ∙ ap (λ x. x && is_wave_start bytes) (sym (le-leb 12 (length bytes) room))

pub few_bytes : (bytes : List ℕ) → length bytes < 12 → false ≡ is_wave bytes
few_bytes bytes few = ap (λ x. x && is_wave_start bytes) (sym (less-leb 12 (length bytes) few))
  where
    less-leb : (a b : ℕ) → b < a → leb a b ≡ false
    less-leb a b less = grind (arith, nat_tests)

-- a file of RIFF/WAVE, by its two chunks
pub reads_wave : (graph : ℕ) (bytes : List ℕ) (first chunk : Option Chunk) (answer : Result Head WavFault) → true ≡ is_wave bytes → Found bytes first chunk
    → answer ≡ head_by graph bytes first chunk → ReadsAs graph bytes answer
reads_wave graph bytes first chunk answer wave found is =
    let all = found.0 in
    let parts = head_by graph bytes (find is_format all) (find is_data all) in (
      all,
      found.1,
      is ∙ ap (λ x. head_by graph bytes x chunk) found.2 ∙ ap (head_by graph bytes (find is_format all)) found.3
          ∙ ap (λ b. if b then parts else Err fault.NotRiff) wave,
    )

-- a file that is not
pub reads_other : (graph : ℕ) (bytes : List ℕ) → false ≡ is_wave bytes → ReadsAs graph bytes (Err fault.NotRiff)
reads_other graph bytes other =
    let all = chunks_exist (length bytes) 12 bytes (omega arith) in
    let parts = head_by graph bytes (find is_format all.0) (find is_data all.0) in
    (all.0, all.1, ap (λ b. if b then parts else Err fault.NotRiff) other)

-- the three steps of the rest
pub no_format : (graph : ℕ) (bytes : List ℕ) (first chunk : Option Chunk) (f : WavFault) → Err f ≡ whole_format (length bytes) first → Err f ≡ head_by graph bytes first chunk
no_format graph bytes first chunk f is =
    ap (and_then (λ whole. and_then (λ format. head_in (length bytes) format chunk) (checked_format graph (format_in bytes whole)))) is

pub other_format : (graph : ℕ) (bytes : List ℕ) (first chunk : Option Chunk) (whole : Chunk) (f : WavFault) → Ok whole ≡ whole_format (length bytes) first
    → Err f ≡ checked_format graph (format_in bytes whole) → Err f ≡ head_by graph bytes first chunk
other_format graph bytes first chunk whole f is other =
    ap (and_then (λ format. head_in (length bytes) format chunk)) other
    ∙ ap (and_then (λ w. and_then (λ format. head_in (length bytes) format chunk) (checked_format graph (format_in bytes w)))) is

pub by_format : (graph : ℕ) (bytes : List ℕ) (first chunk : Option Chunk) (whole : Chunk) (format : Format) → Ok whole ≡ whole_format (length bytes) first
    → Ok format ≡ checked_format graph (format_in bytes whole) → head_in (length bytes) format chunk ≡ head_by graph bytes first chunk
by_format graph bytes first chunk whole format is checks =
    ap (and_then (λ f. head_in (length bytes) f chunk)) checks
    ∙ ap (and_then (λ w. and_then (λ f. head_in (length bytes) f chunk) (checked_format graph (format_in bytes w)))) is

-- every file is read in one way
pub reads_unique : (graph : ℕ) (bytes : List ℕ) (a b : Result Head WavFault) → ReadsAs graph bytes a → ReadsAs graph bytes b → a ≡ b
reads_unique graph bytes a b p q = p.2 ∙ ap (reading graph bytes) (chunks_unique 12 bytes p.0 q.0 p.1 q.1) ∙ sym q.2

pub reading_is_one : ReadingIsOne
reading_is_one graph bytes =
    let all = chunks_exist (length bytes) 12 bytes (omega arith) in
    let answer = reading graph bytes all.0 in
    let is : ReadsAs graph bytes answer = (all.0, all.1, refl) in
    (answer, is, λ other said. reads_unique graph bytes other answer said is)
