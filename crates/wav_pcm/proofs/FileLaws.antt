-- What is written is read as it was written.
use Rattle.std.proofs.Common.{◌≡◌, ◌<◌, ◌≤◌, ◌+◌, ◌-◌, ◌*◌, ◌/◌, ◌%◌, ◌∙◌, ◌++◌, ◌==◌, ◌&&◌, ℕ, ℤ, true, List, [], ◌∷◌, length, take, drop, Some, None, inl, inr, refl, sym, ap, subst, arith, append_assoc, append-nil, length-append}
use Rattle.std.specs.Prelude.{Ok, Err, replicate, codes, nat_le, if◌then◌else◌}
use Rattle.std.proofs.Math.Nat.{mul-mod_left, mul-div_left, mul_assoc}
use Rattle.std.proofs.lemmas.Bool.{le-leb, eq-eqb, ne_eqb, and_from}
use Rattle.std.proofs.lemmas.List.{drop_at, take-append-le, take_all}
use Rattle.byteorder.specs.Numbers.{little_number-reads_back}
use Rattle.graph_model.specs.Refusals.{and_then}
use Rattle.wav_pcm.specs.Samples.{IsSize, samples_in, bytes_of}
use Rattle.wav_pcm.specs.Heads.{most_data, head_of, wave_file_of}
use Rattle.wav_pcm.specs.Chunks.{u16_at, u32_at, chunk_at, AreChunks}
use Rattle.wav_pcm.specs.Formats.{whole_format, format_in, is_pcm, checked_format}
use Rattle.wav_pcm.specs.Files.{is_wave_start, is_wave, frames_in, head_in, ReadsAs, recorded}
use Rattle.wav_pcm.specs.Laws.{WrittenIsReadBack, written_head}
use Rattle.wav_pcm.specs.declared.chunk.Chunk.{Chunk}
use Rattle.wav_pcm.specs.declared.format.Format.{Format}
use Rattle.wav_pcm.specs.declared.head.WavFault.TheVariants as fault
use Rattle.wav_pcm.proofs.SizeFacts.{by_size}
use Rattle.wav_pcm.proofs.SampleLaws.{length-bytes_of}
use Rattle.wav_pcm.proofs.HeadLaws.{reads_wave, by_format}
use Rattle.wav_pcm.proofs.BodyLaws.{wide, samples_in-bytes_of}

-- ---- the parts of a written file

pub wave_file-parts : (channels rate bits : ℕ) (samples : List ℤ)
    → wave_file_of channels rate bits samples ≡ head_of channels rate bits (length samples * (bits / 8)) ++ (bytes_of bits samples ++ replicate (length samples * (bits / 8) % 2) 0)
wave_file-parts channels rate bits samples =
    append_assoc (head_of channels rate bits (length samples * (bits / 8))) (bytes_of bits samples) (replicate (length samples * (bits / 8) % 2) 0)

-- an even number of bytes has no pad byte
pub wave_file-even : (channels rate bits : ℕ) (samples : List ℤ) → length samples * (bits / 8) % 2 ≡ 0
    → wave_file_of channels rate bits samples ≡ head_of channels rate bits (length samples * (bits / 8)) ++ bytes_of bits samples
wave_file-even channels rate bits samples even =
    ap (λ n. head_of channels rate bits (length samples * (bits / 8)) ++ bytes_of bits samples ++ replicate n 0) even
    ∙ append-nil (head_of channels rate bits (length samples * (bits / 8)) ++ bytes_of bits samples)

-- an odd number has one
pub wave_file-odd : (channels rate bits : ℕ) (samples : List ℤ) → length samples * (bits / 8) % 2 ≡ 1
    → wave_file_of channels rate bits samples ≡ head_of channels rate bits (length samples * (bits / 8)) ++ bytes_of bits samples ++ (0 ∷ [])
wave_file-odd channels rate bits samples odd =
    ap (λ n. head_of channels rate bits (length samples * (bits / 8)) ++ bytes_of bits samples ++ replicate n 0) odd

-- ---- the chunks of a written file

abbrev first_chunk : Chunk
first_chunk = record { mark = codes "fmt "; size = 16; from = 20 }

abbrev last_chunk : ℕ → Chunk
last_chunk d = record { mark = codes "data"; size = d; from = 44 }

abbrev both : ℕ → List Chunk
both d = first_chunk ∷ last_chunk d ∷ []

head_long : (channels rate bits d : ℕ) (rest : List ℕ) → length (head_of channels rate bits d ++ rest) ≡ 44 + length rest
head_long channels rate bits d rest = length-append (head_of channels rate bits d) rest

size_back : (channels rate bits d : ℕ) (rest : List ℕ) → d < 4294967296 → u32_at 40 (head_of channels rate bits d ++ rest) ≡ d
size_back channels rate bits d rest small = little_number-reads_back 4 d rest (omega arith)

chunks_back : (channels rate bits d : ℕ) (rest : List ℕ) → d < 4294967296 → AreChunks 12 (head_of channels rate bits d ++ rest) (both d)
chunks_back channels rate bits d rest small =
    let long = head_long channels rate bits d rest in
    let last : last_chunk d ≡ chunk_at 36 (head_of channels rate bits d ++ rest) =
    ap (λ n. record { mark = codes "data"; size = n; from = 44 }) (sym (size_back channels rate bits d rest small)) in
    (omega (arith, long), refl, inr (refl, (omega (arith, long), last, inl (refl, refl))))

-- ---- its format

abbrev said_format : ℕ → ℕ → ℕ → Format
said_format channels rate bits = record { tag = 1; channels = channels; rate = rate; bits = bits; extension = None }

format_back : (channels rate bits d : ℕ) (rest : List ℕ) → channels ≤ 32 → rate ≤ 1000000 → bits ≤ 32
    → format_in (head_of channels rate bits d ++ rest) first_chunk ≡ said_format channels rate bits
format_back channels rate bits d rest c r b =
    let file = head_of channels rate bits d ++ rest in
    let channels_is : u16_at 22 file ≡ channels = little_number-reads_back 2 channels (drop 24 file) (omega arith) in
    let rate_is : u32_at 24 file ≡ rate = little_number-reads_back 4 rate (drop 28 file) (omega arith) in
    let bits_is : u16_at 34 file ≡ bits = little_number-reads_back 2 bits (drop 36 file) (omega arith) in
    (λ i. record { tag = 1; channels = channels_is i; rate = rate_is i; bits = bits_is i; extension = None })

said_pcm : (channels rate bits : ℕ) → IsSize bits → is_pcm (said_format channels rate bits) ≡ true
said_pcm channels rate bits size = by_size (λ b. is_pcm (said_format channels rate b) ≡ true) bits size refl refl refl refl

said_checks : (channels rate bits : ℕ) → 1 ≤ rate → rate ≤ 1000000 → IsSize bits
    → checked_format channels (said_format channels rate bits) ≡ Ok (said_format channels rate bits)
said_checks channels rate bits least most size =
    let said = said_format channels rate bits in
    ap (λ b. if b then (if nat_le 1 rate && nat_le rate 1000000 then (if channels == channels then Ok said else Err (fault.Channels channels channels)) else Err (fault.Rate rate)) else Err (fault.Form 1 bits))
    (said_pcm channels rate bits size)
    ∙ ap (λ b. if b then (if channels == channels then Ok said else Err (fault.Channels channels channels)) else Err (fault.Rate rate))
    (and_from (nat_le 1 rate) (nat_le rate 1000000) (le-leb 1 rate least) (le-leb rate 1000000 most))
    ∙ ap (λ b. if b then Ok said else Err (fault.Channels channels channels)) (eq-eqb channels channels refl)

-- ---- its frames

all_frames : (frame size there frames : ℕ) → size ≡ frames * frame → 0 < frame → size < 4294967295 → size ≤ there → frames_in frame size there ≡ Ok frames
all_frames frame size there frames is wide small room =
    ap (λ b. if b then Ok (there / frame) else (if nat_le size there then (if size % frame == 0 then Ok (size / frame) else Err (fault.Ragged size frame)) else Err (fault.Short size there)))
    (ne_eqb size 4294967295 (λ e. absurd (omega arith)))
    ∙ ap (λ b. if b then (if size % frame == 0 then Ok (size / frame) else Err (fault.Ragged size frame)) else Err (fault.Short size there)) (le-leb size there room)
    ∙ ap (λ b. if b then Ok (size / frame) else Err (fault.Ragged size frame)) (eq-eqb (size % frame) 0 (ap (λ n. n % frame) is ∙ mul-mod_left frames frame))
    ∙ ap Ok (ap (λ n. n / frame) is ∙ mul-div_left frames wide)

head_wide : (channels bits : ℕ) → 1 ≤ channels → IsSize bits → 0 < channels * (bits / 8)
head_wide channels bits least size = by_size (λ b. 0 < channels * (b / 8)) bits size (omega arith) (omega arith) (omega arith) (omega arith)

small_size : (bits : ℕ) → IsSize bits → bits ≤ 32
small_size bits size = by_size (λ b. b ≤ 32) bits size (omega arith) (omega arith) (omega arith) (omega arith)

-- a head and what follows it
head_back : (channels rate bits frames d : ℕ) (rest : List ℕ) → 1 ≤ channels → channels ≤ 32 → 1 ≤ rate → rate ≤ 1000000 → IsSize bits
    → d ≡ frames * (channels * (bits / 8)) → d ≤ most_data → d ≤ length rest
    → ReadsAs channels (head_of channels rate bits d ++ rest) (Ok (written_head channels rate bits frames))
head_back channels rate bits frames d rest least most rate_least rate_most size is small room =
    let file = head_of channels rate bits d ++ rest in
    let said = said_format channels rate bits in
    let long = head_long channels rate bits d rest in
    let wave : is_wave file ≡ true = and_from (nat_le 12 (length file)) (is_wave_start file) (le-leb 12 (length file) (omega (arith, long))) refl in
    let whole : whole_format (length file) (Some first_chunk) ≡ Ok first_chunk = ap (λ b. if b then Ok first_chunk else Err fault.NoFormat) (le-leb 36 (length file) (omega (arith, long))) in
    let format : checked_format channels (format_in file first_chunk) ≡ Ok said =
    ap (checked_format channels) (format_back channels rate bits d rest most rate_most (small_size bits size)) ∙ said_checks channels rate bits rate_least rate_most size in
    let frames_are : frames_in (channels * (bits / 8)) d (length file - 44) ≡ Ok frames =
    all_frames (channels * (bits / 8)) d (length file - 44) frames is (head_wide channels bits least size) (omega arith) (omega (arith, long)) in
    let answer : Ok (written_head channels rate bits frames) ≡ head_in (length file) said (Some (last_chunk d)) =
    ap (and_then (λ n. Ok (written_head channels rate bits n))) (sym frames_are) in
    reads_wave channels file (Some first_chunk) (Some (last_chunk d)) (Ok (written_head channels rate bits frames)) (sym wave)
    (both d, chunks_back channels rate bits d rest (omega arith), refl, refl)
    (answer ∙ by_format channels file (Some first_chunk) (Some (last_chunk d)) first_chunk said (sym whole) (sym format))

-- ---- its samples

body_back : (head body pad : List ℕ) (n : ℕ) → length head ≡ 44 → length body ≡ n → take n (drop 44 (head ++ (body ++ pad))) ≡ body
body_back head body pad n h b =
    ap (take n) (drop_at head (body ++ pad) 44 h) ∙ take-append-le n body pad (omega (arith, b)) ∙ take_all n body (omega (arith, b))

pub written_is_read_back : WrittenIsReadBack
written_is_read_back channels rate bits frames samples least most rate_least rate_most size whole all room =
    let d = length samples * (bits / 8) in
    let head = head_of channels rate bits d in
    let body = bytes_of bits samples in
    let pad = replicate (d % 2) 0 in
    let said = written_head channels rate bits frames in
    let long : length body ≡ d = length-bytes_of bits samples size in
    let sizes : d ≡ frames * (channels * (bits / 8)) = ap (λ n. n * (bits / 8)) whole ∙ mul_assoc frames channels (bits / 8) in
    let room_is : d ≤ length (body ++ pad) = omega (arith, long, length-append body pad) in
    subst (λ file. ReadsAs channels file (Ok said) × (recorded said file ≡ samples)) (sym (wave_file-parts channels rate bits samples)) (
      head_back channels rate bits frames d (body ++ pad) least most rate_least rate_most size sizes room room_is,
      ap (λ n. samples_in bits (take n (drop 44 (head ++ (body ++ pad))))) (sym sizes)
          ∙ ap (samples_in bits) (body_back head body pad d refl long)
          ∙ samples_in-bytes_of bits samples size all,
    )
