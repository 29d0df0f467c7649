-- The walk over the chunks of a file.
use Rattle.std.proofs.Common.{◌≡◌, ℕ, zero, suc, ◌+◌, ◌<◌, ◌≤◌, min, Bool, true, false, List, [], ◌∷◌, length, take, drop, Option, Some, None, inl, inr, refl, sym, ap, ◌∙◌, subst, arith, cond}
use Rattle.std.specs.Prelude.{codes, find, slice_range}
use Rattle.std.specs.Option.{option_or}
use Rattle.std.specs.Bool.{then_some}
use Rattle.std.specs.Str.{bytes_eq}
use Rattle.std.proofs.lemmas.Bool.{cases_lt}
use Rattle.std.proofs.lemmas.Slice.Eq.{bytes_eq-Decides}
use Rattle.byteorder.specs.Endian.{little_number}
use Rattle.wav_pcm.specs.Chunks.{chunk_at, is_format, is_data, after, AreChunks}
use Rattle.wav_pcm.specs.declared.chunk.Chunk.{Chunk}
use Rattle.wav_pcm.proofs.ToldLaws.{part_in, number_in}

-- a chunk in the 8 bytes in front of its body
pub chunk_in : (at end : ℕ) (bytes head mark : List ℕ) (size from : ℕ) → end ≡ at + 8 → head ≡ slice_range bytes at end
    → mark ≡ take 4 head → size ≡ little_number 4 (drop 4 head) → from ≡ at + 8
    → record { mark = mark; size = size; from = from } ≡ chunk_at at bytes
chunk_in at end bytes head mark size from e is m s f =
    let none : at + 0 ≡ at = omega arith in
    let mark_is : mark ≡ take 4 (drop at bytes) = m ∙ part_in 4 0 8 at end bytes head e is (omega arith) ∙ ap (λ k. take 4 (drop k bytes)) none in
    let size_is : size ≡ little_number 4 (drop (at + 4) bytes) = s ∙ number_in 4 4 8 at end bytes head e is (omega arith) in
    (λ i. record { mark = mark_is i; size = size_is i; from = f i })

-- a chunk of data is none of format
pub not_both : (chunk : Chunk) → is_data chunk ≡ true → is_format chunk ≡ false
not_both chunk is =
    let m : chunk.mark ≡ codes "data" = (bytes_eq-Decides chunk.mark (codes "data")).0 is in
    ap (λ mark. bytes_eq mark (codes "fmt ")) m

-- The chunks before a place have this first format and no data: whatever chunks follow, they go on to all chunks.
abbrev pub IsWalked : List ℕ → ℕ → Option Chunk → Type 0
IsWalked bytes at format =
    (rest : List Chunk) → AreChunks at bytes rest
    → (all : List Chunk) × AreChunks 12 bytes all × (option_or format (find is_format rest) ≡ find is_format all) × (find is_data rest ≡ find is_data all)

pub walked_none : (bytes : List ℕ) → IsWalked bytes 12 None
walked_none bytes = λ rest are. (rest, are, refl, refl)

-- no chunk begins past the end, so the place may as well be the last number of 64 bits
chunks_beyond : (at last : ℕ) (bytes : List ℕ) (rest : List Chunk) → length bytes ≤ last → AreChunks (min at last) bytes rest → AreChunks at bytes rest
chunks_beyond at last bytes [] small are = omega arith
chunks_beyond at last bytes (chunk ∷ rest) small are =
    let room = are.0 in
    let same : min at last ≡ at = omega arith in
    (omega arith, are.1 ∙ ap (λ k. chunk_at k bytes) same, are.2)

first_of : (format : Option Chunk) (chunk : Chunk) (rest : List Chunk) (is : Bool) → is ≡ is_format chunk
    → option_or (option_or format (then_some is chunk)) (find is_format rest) ≡ option_or format (find is_format (chunk ∷ rest))
first_of (Some first) chunk rest is e = refl
first_of None chunk rest true e = ap (λ b. cond b (Some chunk) (find is_format rest)) e
first_of None chunk rest false e = ap (λ b. cond b (Some chunk) (find is_format rest)) e

-- past a chunk that is no data
pub walked_more : (bytes : List ℕ) (at last next : ℕ) (format one more : Option Chunk) (chunk : Chunk) (is : Bool) → chunk ≡ chunk_at at bytes
    → length bytes ≤ last → at + 8 ≤ length bytes → is_data chunk ≡ false → is ≡ is_format chunk
    → next ≡ min (after chunk) last → one ≡ then_some is chunk → more ≡ option_or format one
    → IsWalked bytes at format → IsWalked bytes next more
walked_more bytes at last next format one more chunk is begins small room no_data e place some found walked = λ rest are.
    let beyond = chunks_beyond (after chunk) last bytes rest small (subst (λ k. AreChunks k bytes rest) place are) in
    let w = walked (chunk ∷ rest) (room, begins, inr (no_data, beyond)) in
    let d : find is_data (chunk ∷ rest) ≡ find is_data rest = ap (λ b. cond b (Some chunk) (find is_data rest)) no_data in
    let both : more ≡ option_or format (then_some is chunk) = found ∙ ap (option_or format) some in
    (w.0, w.1, ap (λ o. option_or o (find is_format rest)) both ∙ first_of format chunk rest is e ∙ w.2, sym d ∙ w.3)

or_none : (format : Option Chunk) → option_or format None ≡ format
or_none None = refl
or_none (Some chunk) = refl

-- all chunks of a file, and those that are read
abbrev pub Found : List ℕ → Option Chunk → Option Chunk → Type 0
Found bytes format chunk = (all : List Chunk) × AreChunks 12 bytes all × (format ≡ find is_format all) × (chunk ≡ find is_data all)

-- where the chunks end
pub walked_end : (bytes : List ℕ) (at : ℕ) (format : Option Chunk) → length bytes < at + 8 → IsWalked bytes at format → Found bytes format None
walked_end bytes at format few walked =
    let w = walked [] few in
    (w.0, w.1, sym (or_none format) ∙ w.2, w.3)

-- where the data begin
pub walked_data : (bytes : List ℕ) (at : ℕ) (format : Option Chunk) (chunk : Chunk) → chunk ≡ chunk_at at bytes
    → at + 8 ≤ length bytes → is_data chunk ≡ true → IsWalked bytes at format → Found bytes format (Some chunk)
walked_data bytes at format chunk begins room is walked =
    let w = walked (chunk ∷ []) (room, begins, inl (is, refl)) in
    let f : find is_format (chunk ∷ []) ≡ None = ap (λ b. cond b (Some chunk) None) (not_both chunk is) in
    let d : Some chunk ≡ find is_data (chunk ∷ []) = sym (ap (λ b. cond b (Some chunk) None) is) in
    (w.0, w.1, sym (or_none format) ∙ ap (option_or format) (sym f) ∙ w.2, d ∙ w.3)

-- ---- the chunks are one list

pub chunks_unique : (at : ℕ) (bytes : List ℕ) (a b : List Chunk) → AreChunks at bytes a → AreChunks at bytes b → a ≡ b
chunks_unique at bytes [] [] p q = refl
chunks_unique at bytes [] (y ∷ b) p q = let h = q.0 in absurd (omega arith)
chunks_unique at bytes (x ∷ a) [] p q = let h = p.0 in absurd (omega arith)
chunks_unique at bytes (x ∷ a) (y ∷ b) p q =
    let same : x ≡ y = p.1 ∙ sym q.1 in
    elim p.2 [
      | inl v ↦ elim q.2 [
        | inl w ↦ ap (λ c. c ∷ a) same ∙ ap (λ cs. y ∷ cs) (v.1 ∙ sym w.1)
        | inr w ↦ let e : true ≡ false = sym v.0 ∙ ap is_data same ∙ w.0 in absurd (cc)
      ]
      | inr v ↦ elim q.2 [
        | inl w ↦ let e : true ≡ false = sym w.0 ∙ sym (ap is_data same) ∙ v.0 in absurd (cc)
        | inr w ↦ ap (λ c. c ∷ a) same ∙ ap (λ cs. y ∷ cs) (chunks_unique (after y) bytes a b (subst (λ c. AreChunks (after c) bytes a) same v.1) w.1)
      ]
    ]

-- and there is one
pub chunks_exist : (n at : ℕ) (bytes : List ℕ) → length bytes ≤ at + n → (chunks : List Chunk) × AreChunks at bytes chunks
chunks_exist zero at bytes few = ([], omega arith)
chunks_exist (suc n) at bytes few =
    let chunk = chunk_at at bytes in
    let go : length bytes ≤ after chunk + n = omega arith in
    let more = chunks_exist n (after chunk) bytes go in
    elim (cases_lt (length bytes) (at + 8)) [
      | inl end ↦ ([], end)
      | inr room ↦ elim (is_data chunk) as (λ b. is_data chunk ≡ b → (chunks : List Chunk) × AreChunks at bytes chunks) [
        | true ↦ λ e. (chunk ∷ [], (room, refl, inl (e, refl)))
        | false ↦ λ e. (chunk ∷ more.0, (room, refl, inr (e, more.1)))
      ] refl
    ]
