-- What is told of a head, step by step. The folder holds the same at each step.
use Rattle.std.proofs.Common.{◌≡◌, ℕ, true, false, List, length, Option, ap, ◌∙◌, subst}
use Rattle.std.specs.Prelude.{Result, Ok, Err}
use Rattle.std.specs.Result.{IsErrAnd}
use Rattle.gh_outside.specs.Holdings.{Holding, HeldBytes}
use Rattle.wav_pcm.specs.Formats.{whole_format, format_in, checked_format}
use Rattle.wav_pcm.specs.Files.{is_wave, head_in, ReadsAs}
use Rattle.wav_pcm.specs.declared.chunk.Chunk.{Chunk}
use Rattle.wav_pcm.specs.declared.format.Format.{Format}
use Rattle.wav_pcm.specs.declared.head.Head.{Head}
use Rattle.wav_pcm.specs.declared.head.HeadFault.{HeadFault}
use Rattle.wav_pcm.specs.declared.head.HeadFault.TheVariants as head_fault
use Rattle.wav_pcm.specs.declared.head.WavFault.{WavFault}
use Rattle.wav_pcm.specs.declared.head.WavFault.TheVariants as fault
use Rattle.wav_pcm.proofs.ToldLaws.{told_more, told_both}
use Rattle.wav_pcm.proofs.ChunkLaws.{Found}
use Rattle.wav_pcm.proofs.HeadLaws.{reads_wave, reads_other, no_format, other_format, by_format}

-- a fault that was passed on
pub same_fault : (r : Result Head HeadFault) (a b : WavFault) → IsErrAnd r (λ x. x ≡ head_fault.Wav a) → r ≡ Err (head_fault.Wav b) → a ≡ b
same_fault (Ok head) a b is e = absurd (cc)
same_fault (Err x) a b is e = cc

-- no RIFF/WAVE
pub told_other : (graph : ℕ) (name : List ℕ) (h0 h1 : Option Holding) (size : ℕ) (f : WavFault) → h1 ≡ h0 → fault.NotRiff ≡ f
    → HeldBytes name h0 (λ bytes. size ≡ length bytes) → HeldBytes name h1 (λ bytes. size ≡ length bytes → false ≡ is_wave bytes)
    → HeldBytes name h0 (λ bytes. ReadsAs graph bytes (Err f))
told_other graph name h0 h1 size f stays is whole other =
    told_more name h0 _ _ (λ bytes told. subst (λ x. ReadsAs graph bytes (Err x)) is (reads_other graph bytes (told.1 told.0)))
    (told_both name h0 _ _ whole (subst (λ h. HeldBytes name h (λ bytes. size ≡ length bytes → false ≡ is_wave bytes)) stays other))

-- RIFF/WAVE, with the chunks of format and of data
abbrev pub IsParted : ℕ → Option Chunk → Option Chunk → List ℕ → Type 0
IsParted size first chunk bytes = (size ≡ length bytes) × (true ≡ is_wave bytes) × Found bytes first chunk

pub told_parts : (name : List ℕ) (h0 h1 h2 : Option Holding) (size : ℕ) (first chunk : Option Chunk) → h1 ≡ h0 → h2 ≡ h1
    → HeldBytes name h0 (λ bytes. size ≡ length bytes) → HeldBytes name h1 (λ bytes. size ≡ length bytes → true ≡ is_wave bytes)
    → HeldBytes name h2 (λ bytes. size ≡ length bytes → Found bytes first chunk)
    → HeldBytes name h0 (IsParted size first chunk)
told_parts name h0 h1 h2 size first chunk a b whole wave found =
    let w : HeldBytes name h0 (λ bytes. size ≡ length bytes → true ≡ is_wave bytes) =
    subst (λ h. HeldBytes name h (λ bytes. size ≡ length bytes → true ≡ is_wave bytes)) a wave in
    let f : HeldBytes name h0 (λ bytes. size ≡ length bytes → Found bytes first chunk) =
    subst (λ h. HeldBytes name h (λ bytes. size ≡ length bytes → Found bytes first chunk)) (b ∙ a) found in
    told_more name h0 _ _ (λ bytes told. (told.0, told.1.0 told.0, told.1.1 told.0))
    (told_both name h0 _ _ whole (told_both name h0 _ _ w f))

-- no format
pub told_no_format : (graph : ℕ) (name : List ℕ) (held : Option Holding) (size : ℕ) (first chunk : Option Chunk) (a f : WavFault) → a ≡ f
    → HeldBytes name held (IsParted size first chunk) → Err a ≡ whole_format size first
    → HeldBytes name held (λ bytes. ReadsAs graph bytes (Err f))
told_no_format graph name held size first chunk a f same parts is =
    told_more name held _ _
    (λ bytes told. reads_wave graph bytes first chunk (Err f) told.1 told.2
    (no_format graph bytes first chunk f (subst (λ x. Err x ≡ whole_format (length bytes) first) same (subst (λ n. Err a ≡ whole_format n first) told.0 is))))
    parts

-- a format that is not read
pub told_other_format : (graph : ℕ) (name : List ℕ) (h0 h3 : Option Holding) (size : ℕ) (first chunk : Option Chunk) (whole : Chunk) (said : Format) (a f : WavFault)
    → h3 ≡ h0 → a ≡ f → HeldBytes name h0 (IsParted size first chunk) → Ok whole ≡ whole_format size first
    → HeldBytes name h3 (λ bytes. said ≡ format_in bytes whole) → Err a ≡ checked_format graph said
    → HeldBytes name h0 (λ bytes. ReadsAs graph bytes (Err f))
told_other_format graph name h0 h3 size first chunk whole said a f stays same parts is told_format other =
    let format : HeldBytes name h0 (λ bytes. said ≡ format_in bytes whole) = subst (λ h. HeldBytes name h (λ bytes. said ≡ format_in bytes whole)) stays told_format in
    told_more name h0 _ _
    (λ bytes told. reads_wave graph bytes first chunk (Err f) told.0.1 told.0.2
    (other_format graph bytes first chunk whole f (subst (λ n. Ok whole ≡ whole_format n first) told.0.0 is)
    (subst (λ x. Err x ≡ checked_format graph (format_in bytes whole)) same (other ∙ ap (checked_format graph) told.1))))
    (told_both name h0 _ _ parts format)

-- a format that is read
pub told_head : (graph : ℕ) (name : List ℕ) (h0 h3 : Option Holding) (size : ℕ) (first chunk : Option Chunk) (whole : Chunk) (said format : Format) (answer : Result Head WavFault)
    → h3 ≡ h0 → HeldBytes name h0 (IsParted size first chunk) → Ok whole ≡ whole_format size first
    → HeldBytes name h3 (λ bytes. said ≡ format_in bytes whole) → Ok format ≡ checked_format graph said → answer ≡ head_in size format chunk
    → HeldBytes name h0 (λ bytes. ReadsAs graph bytes answer)
told_head graph name h0 h3 size first chunk whole said format answer stays parts is told_format checks e =
    let f : HeldBytes name h0 (λ bytes. said ≡ format_in bytes whole) = subst (λ h. HeldBytes name h (λ bytes. said ≡ format_in bytes whole)) stays told_format in
    told_more name h0 _ _
    (λ bytes told. reads_wave graph bytes first chunk answer told.0.1 told.0.2
    (subst (λ n. answer ≡ head_in n format chunk) told.0.0 e
    ∙ by_format graph bytes first chunk whole format (subst (λ n. Ok whole ≡ whole_format n first) told.0.0 is) (checks ∙ ap (checked_format graph) told.1)))
    (told_both name h0 _ _ parts f)

-- a format that is read, and a fault of the data
pub told_no_head : (graph : ℕ) (name : List ℕ) (h0 h3 : Option Holding) (size : ℕ) (first chunk : Option Chunk) (whole : Chunk) (said format : Format) (a f : WavFault)
    → h3 ≡ h0 → a ≡ f → HeldBytes name h0 (IsParted size first chunk) → Ok whole ≡ whole_format size first
    → HeldBytes name h3 (λ bytes. said ≡ format_in bytes whole) → Ok format ≡ checked_format graph said → Err a ≡ head_in size format chunk
    → HeldBytes name h0 (λ bytes. ReadsAs graph bytes (Err f))
told_no_head graph name h0 h3 size first chunk whole said format a f stays same parts is told_format checks e =
    told_head graph name h0 h3 size first chunk whole said format (Err f) stays parts is told_format checks (subst (λ x. Err x ≡ head_in size format chunk) same e)
