-- A format in the bytes of its chunk.
use Rattle.std.proofs.Common.{◌≡◌, ℕ, ◌+◌, true, List, length, take, drop, length-drop, Option, Some, None, sym, ap, ◌∙◌, arith, cond, ◌==◌}
use Rattle.std.specs.Prelude.{slice_range}
use Rattle.std.proofs.lemmas.List.{take_all}
use Rattle.wav_pcm.specs.Chunks.{u16_at, u32_at}
use Rattle.wav_pcm.specs.Formats.{extension_at, extension_in, format_in}
use Rattle.wav_pcm.specs.declared.chunk.Chunk.{Chunk}
use Rattle.wav_pcm.specs.declared.format.Extension.{Extension}
use Rattle.wav_pcm.proofs.ToldLaws.{part_in, number_in}

-- an extension in its 24 bytes
extension_from : (from end : ℕ) (bytes piece subformat : List ℕ) (valid : ℕ) → end ≡ from + 24 → piece ≡ slice_range bytes from end → length piece ≡ 24
    → valid ≡ u16_at 2 piece → subformat ≡ drop 8 piece
    → record { valid_bits = valid; subformat = subformat } ≡ extension_at from bytes
extension_from from end bytes piece subformat valid e is long v s =
    let all : drop 8 piece ≡ take 16 (drop 8 piece) = sym (take_all 16 (drop 8 piece) (omega (arith, long, length-drop 8 piece))) in
    let valid_is : valid ≡ u16_at (from + 2) bytes = v ∙ number_in 2 2 24 from end bytes piece e is (omega arith) in
    let rest_is : subformat ≡ take 16 (drop (from + 8) bytes) = s ∙ all ∙ part_in 16 8 24 from end bytes piece e is (omega arith) in
    (λ i. record { valid_bits = valid_is i; subformat = rest_is i })

pub extension_some : (chunk : Chunk) (end : ℕ) (bytes piece subformat : List ℕ) (valid : ℕ) → chunk.size ≡ 40 → end ≡ chunk.from + 16 + 24
    → piece ≡ slice_range bytes (chunk.from + 16) end → length piece ≡ 24 → valid ≡ u16_at 2 piece → subformat ≡ drop 8 piece
    → Some (record { valid_bits = valid; subformat = subformat }) ≡ extension_in bytes chunk
extension_some chunk end bytes piece subformat valid size e is long v s =
    let yes : (chunk.size == 40) ≡ true = ap (λ n. n == 40) size in
    ap Some (extension_from (chunk.from + 16) end bytes piece subformat valid e is long v s)
    ∙ sym (ap (λ b. cond b (Some (extension_at (chunk.from + 16) bytes)) None) yes)

-- a format in its first 16 bytes
pub format_from : (chunk : Chunk) (end : ℕ) (bytes piece : List ℕ) (tag channels rate bits : ℕ) (extension : Option Extension) → end ≡ chunk.from + 16
    → piece ≡ slice_range bytes chunk.from end → tag ≡ u16_at 0 piece → channels ≡ u16_at 2 piece → rate ≡ u32_at 4 piece → bits ≡ u16_at 14 piece
    → extension ≡ extension_in bytes chunk
    → record { tag = tag; channels = channels; rate = rate; bits = bits; extension = extension } ≡ format_in bytes chunk
format_from chunk end bytes piece tag channels rate bits extension e is t c r b x =
    let none : chunk.from + 0 ≡ chunk.from = omega arith in
    let tag_is : tag ≡ u16_at chunk.from bytes = t ∙ number_in 2 0 16 chunk.from end bytes piece e is (omega arith) ∙ ap (λ k. u16_at k bytes) none in
    let channels_is : channels ≡ u16_at (chunk.from + 2) bytes = c ∙ number_in 2 2 16 chunk.from end bytes piece e is (omega arith) in
    let rate_is : rate ≡ u32_at (chunk.from + 4) bytes = r ∙ number_in 4 4 16 chunk.from end bytes piece e is (omega arith) in
    let bits_is : bits ≡ u16_at (chunk.from + 14) bytes = b ∙ number_in 2 14 16 chunk.from end bytes piece e is (omega arith) in
    (λ i. record { tag = tag_is i; channels = channels_is i; rate = rate_is i; bits = bits_is i; extension = x i })
