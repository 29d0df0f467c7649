-- The definitions at small files, by computation.
use Rattle.std.proofs.Common.{◌≡◌, ℕ, List, [], ◌∷◌, ◌++◌, ◌+◌, ◌%◌, length, take, ℤ, pos, negsuc, inl, inr, refl, sym, ◌∙◌, arith}
use Rattle.std.specs.Prelude.{Ok, Err, codes, replicate}
use Rattle.byteorder.specs.Endian.{little_bytes}
use Rattle.wav_pcm.specs.Samples.{samples_in, bytes_of}
use Rattle.wav_pcm.specs.Heads.{head_of, wave_file_of}
use Rattle.wav_pcm.specs.Chunks.{u32_at}
use Rattle.wav_pcm.specs.Formats.{pcm_subformat}
use Rattle.wav_pcm.specs.Files.{ReadsAs, recorded}
use Rattle.wav_pcm.specs.Laws.{written_head}
use Rattle.wav_pcm.specs.declared.chunk.Chunk.{Chunk}
use Rattle.wav_pcm.specs.declared.head.Head.{Head}
use Rattle.wav_pcm.specs.declared.head.WavFault.TheVariants.{NotRiff, NoFormat, FormatSize, Form, Channels, NoData, Short, Ragged}
use Rattle.wav_pcm.proofs.HeadLaws.{reading_is_one}

-- 100, -200, 300, each times 65536
abbrev three : List ℤ
three = pos 6553600 ∷ negsuc 13107199 ∷ pos 19660800 ∷ []

abbrev bytes_of_three : List ℕ
bytes_of_three =
    82 ∷ 73 ∷ 70 ∷ 70 ∷ 42 ∷ 0 ∷ 0 ∷ 0 ∷ 87 ∷ 65 ∷ 86 ∷ 69
    ∷ 102 ∷ 109 ∷ 116 ∷ 32 ∷ 16 ∷ 0 ∷ 0 ∷ 0 ∷ 1 ∷ 0 ∷ 1 ∷ 0
    ∷ 128 ∷ 187 ∷ 0 ∷ 0 ∷ 0 ∷ 119 ∷ 1 ∷ 0 ∷ 2 ∷ 0 ∷ 16 ∷ 0
    ∷ 100 ∷ 97 ∷ 116 ∷ 97 ∷ 6 ∷ 0 ∷ 0 ∷ 0
    ∷ 100 ∷ 0 ∷ 56 ∷ 255 ∷ 44 ∷ 1 ∷ []

three_frames_of_16_bits : wave_file_of 1 48000 16 three ≡ bytes_of_three
three_frames_of_16_bits = refl

-- ---- chunks

abbrev format_chunk : ℕ → ℕ → Chunk
format_chunk size from = record { mark = codes "fmt "; size = size; from = from }

abbrev data_chunk : ℕ → ℕ → Chunk
data_chunk size from = record { mark = codes "data"; size = size; from = from }

abbrev list_chunk : ℕ → ℕ → Chunk
list_chunk size from = record { mark = codes "LIST"; size = size; from = from }

they_are_read : ReadsAs 1 bytes_of_three (Ok (written_head 1 48000 16 3))
they_are_read = (format_chunk 16 20 ∷ data_chunk 6 44 ∷ [], (omega arith, refl, inr (refl, (omega arith, refl, inl (refl, refl)))), refl)

they_read_as_they_were_written : recorded (written_head 1 48000 16 3) bytes_of_three ≡ three
they_read_as_they_were_written = refl

-- the data go on past the end: no shorter file is accepted
short_data_are_refused : ReadsAs 1 (take 48 bytes_of_three) (Err (Short 6 4))
short_data_are_refused = (format_chunk 16 20 ∷ data_chunk 6 44 ∷ [], (omega arith, refl, inr (refl, (omega arith, refl, inl (refl, refl)))), refl)

other_answers_are_refused : ¬ ReadsAs 1 (take 48 bytes_of_three) (Ok (written_head 1 48000 16 2))
other_answers_are_refused read =
    let one = reading_is_one 1 (take 48 bytes_of_three) in
    let e : Ok (written_head 1 48000 16 2) ≡ Err (Short 6 4) = one.2 _ read ∙ sym (one.2 _ short_data_are_refused) in
    absurd (cc)

-- where several faults stand together the first one is told: two channels for one, and no data
first_fault : ReadsAs 2 (take 36 bytes_of_three) (Err (Channels 1 2))
first_fault = (format_chunk 16 20 ∷ [], (omega arith, refl, inr (refl, omega arith)), refl)

no_data : ReadsAs 1 (take 36 bytes_of_three) (Err NoData)
no_data = (format_chunk 16 20 ∷ [], (omega arith, refl, inr (refl, omega arith)), refl)

-- ---- files of several chunks

abbrev riff : List ℕ → List ℕ
riff rest = codes "RIFF" ++ little_bytes 4 (4 + length rest) ++ codes "WAVE" ++ rest

abbrev piece : List ℕ → List ℕ → List ℕ
piece mark body = mark ++ little_bytes 4 (length body) ++ body ++ replicate (length body % 2) 0

-- a format of a tag, channels and bits
abbrev said : ℕ → ℕ → ℕ → List ℕ
said tag channels bits = little_bytes 2 tag ++ little_bytes 2 channels ++ little_bytes 4 48000 ++ little_bytes 4 0 ++ little_bytes 2 0 ++ little_bytes 2 bits

abbrev extended : ℕ → List ℕ → List ℕ
extended valid subformat = little_bytes 2 22 ++ little_bytes 2 valid ++ little_bytes 4 3 ++ subformat

-- stereo of 24 bits, extensible; a LIST of 5 bytes with its pad byte; one frame
abbrev three_chunks : List ℕ
three_chunks =
    riff (piece (codes "fmt ") (said 65534 2 24 ++ extended 24 pcm_subformat)
    ++ piece (codes "LIST") (1 ∷ 2 ∷ 3 ∷ 4 ∷ 5 ∷ [])
    ++ piece (codes "data") (1 ∷ 2 ∷ 3 ∷ 255 ∷ 255 ∷ 255 ∷ []))

abbrev head_of_three : Head
head_of_three = record { channels = 2; rate = 48000; bits = 24; frames = 1; from = 82 }

an_odd_chunk_has_a_pad_byte : ReadsAs 2 three_chunks (Ok head_of_three)
an_odd_chunk_has_a_pad_byte = (
  format_chunk 40 20 ∷ list_chunk 5 68 ∷ data_chunk 6 82 ∷ [],
  (omega arith, refl, inr (refl, (omega arith, refl, inr (refl, (omega arith, refl, inl (refl, refl)))))),
  refl,
)

-- 0x030201 and -1, each times 256
its_samples : recorded head_of_three three_chunks ≡ pos 50462976 ∷ negsuc 255 ∷ []
its_samples = refl

-- the same file, cut
cut_to_11 : ReadsAs 2 (take 11 three_chunks) (Err NotRiff)
cut_to_11 = ([], omega arith, refl)

cut_to_12 : ReadsAs 2 (take 12 three_chunks) (Err NoFormat)
cut_to_12 = ([], omega arith, refl)

cut_to_59 : ReadsAs 2 (take 59 three_chunks) (Err NoFormat)
cut_to_59 = (format_chunk 40 20 ∷ [], (omega arith, refl, inr (refl, omega arith)), refl)

cut_to_60 : ReadsAs 2 (take 60 three_chunks) (Err NoData)
cut_to_60 = (format_chunk 40 20 ∷ [], (omega arith, refl, inr (refl, omega arith)), refl)

cut_to_81 : ReadsAs 2 (take 81 three_chunks) (Err NoData)
cut_to_81 = (format_chunk 40 20 ∷ list_chunk 5 68 ∷ [], (omega arith, refl, inr (refl, (omega arith, refl, inr (refl, omega arith)))), refl)

cut_to_82 : ReadsAs 2 (take 82 three_chunks) (Err (Short 6 0))
cut_to_82 = (
  format_chunk 40 20 ∷ list_chunk 5 68 ∷ data_chunk 6 82 ∷ [],
  (omega arith, refl, inr (refl, (omega arith, refl, inr (refl, (omega arith, refl, inl (refl, refl)))))),
  refl,
)

-- the first of two formats counts, and what follows the data does not
the_first_format : ReadsAs 1 (riff (piece (codes "fmt ") (said 1 1 8) ++ piece (codes "fmt ") (said 1 2 16) ++ piece (codes "data") (128 ∷ []) ++ (7 ∷ [])))
    (Ok (record { channels = 1; rate = 48000; bits = 8; frames = 1; from = 68 }))
the_first_format = (
  format_chunk 16 20 ∷ format_chunk 16 44 ∷ data_chunk 1 68 ∷ [],
  (omega arith, refl, inr (refl, (omega arith, refl, inr (refl, (omega arith, refl, inl (refl, refl)))))),
  refl,
)

-- no format is looked for behind the data
data_before_format : ReadsAs 1 (riff (piece (codes "data") [] ++ piece (codes "fmt ") (said 1 1 8))) (Err NoFormat)
data_before_format = (data_chunk 0 20 ∷ [], (omega arith, refl, inl (refl, refl)), refl)

-- a size that was left open: the whole frames to the end
an_open_size : ReadsAs 1 (riff (piece (codes "fmt ") (said 1 1 16) ++ codes "data" ++ little_bytes 4 4294967295 ++ (1 ∷ 2 ∷ 3 ∷ 4 ∷ 5 ∷ 6 ∷ 7 ∷ [])))
    (Ok (written_head 1 48000 16 3))
an_open_size = (format_chunk 16 20 ∷ data_chunk 4294967295 44 ∷ [], (omega arith, refl, inr (refl, (omega arith, refl, inl (refl, refl)))), refl)

-- tag 1 asks for no extension; tag 65534 asks for one with all bits valid
an_unread_extension : ReadsAs 1 (riff (piece (codes "fmt ") (said 1 1 16 ++ extended 7 [] ++ replicate 16 9) ++ piece (codes "data") []))
    (Ok (record { channels = 1; rate = 48000; bits = 16; frames = 0; from = 68 }))
an_unread_extension = (format_chunk 40 20 ∷ data_chunk 0 68 ∷ [], (omega arith, refl, inr (refl, (omega arith, refl, inl (refl, refl)))), refl)

bits_that_are_not_valid : ReadsAs 1 (riff (piece (codes "fmt ") (said 65534 1 32 ++ extended 24 pcm_subformat))) (Err (Form 65534 32))
bits_that_are_not_valid = (format_chunk 40 20 ∷ [], (omega arith, refl, inr (refl, omega arith)), refl)

-- a chunk of format of 17 bytes is none, also where it is cut; a chunk near 2^32 goes past the end
another_size : ReadsAs 1 (riff (codes "fmt " ++ little_bytes 4 17)) (Err (FormatSize 17))
another_size = (format_chunk 17 20 ∷ [], (omega arith, refl, inr (refl, omega arith)), refl)

a_great_size : ReadsAs 1 (riff (codes "LIST" ++ little_bytes 4 4294967295)) (Err NoFormat)
a_great_size = (list_chunk 4294967295 20 ∷ [], (omega arith, refl, inr (refl, omega arith)), refl)

half_a_frame : ReadsAs 1 (riff (piece (codes "fmt ") (said 1 1 16) ++ piece (codes "data") (1 ∷ 2 ∷ 3 ∷ []))) (Err (Ragged 3 2))
half_a_frame = (format_chunk 16 20 ∷ data_chunk 3 44 ∷ [], (omega arith, refl, inr (refl, (omega arith, refl, inl (refl, refl)))), refl)

-- ---- what is written

no_frames_are_44_bytes : length (wave_file_of 1 48000 16 []) ≡ 44
no_frames_are_44_bytes = refl

no_frames_count_36_bytes : u32_at 4 (wave_file_of 1 48000 16 []) ≡ 36
no_frames_count_36_bytes = refl

-- one byte of 8 bits, and a pad byte that the head counts
one_frame_of_8_bits : wave_file_of 1 48000 8 (samples_in 8 (255 ∷ [])) ≡ head_of 1 48000 8 1 ++ (255 ∷ 0 ∷ [])
one_frame_of_8_bits = refl

a_pad_byte_is_counted : u32_at 4 (head_of 1 48000 8 1) ≡ 38
a_pad_byte_is_counted = refl

-- 128, 127 and -128 of 24 bits are 1/2, less, and -1/2 of 16 bits
a_half_is_rounded_upward : bytes_of 16 (samples_in 24 (128 ∷ 0 ∷ 0 ∷ 127 ∷ 0 ∷ 0 ∷ 128 ∷ 255 ∷ 255 ∷ [])) ≡ 1 ∷ 0 ∷ 0 ∷ 0 ∷ 0 ∷ 0 ∷ []
a_half_is_rounded_upward = refl

-- what passes the range is the least or the greatest sample
too_much_is_clamped : bytes_of 16 (pos 2147483648 ∷ negsuc 4294967295 ∷ []) ≡ 255 ∷ 127 ∷ 0 ∷ 128 ∷ []
too_much_is_clamped = refl

-- what is rounded is clamped afterwards
rounded_and_then_clamped : bytes_of 16 (pos 2147483647 ∷ []) ≡ 255 ∷ 127 ∷ []
rounded_and_then_clamped = refl

-- 3, 2, 1 are the number 0x010203
the_lowest_byte_is_first : bytes_of 24 (samples_in 24 (3 ∷ 2 ∷ 1 ∷ [])) ≡ 3 ∷ 2 ∷ 1 ∷ []
the_lowest_byte_is_first = refl
