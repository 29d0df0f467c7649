-- The samples of a body, one after the other.
use Rattle.std.proofs.Common.{◌≡◌, ◌<◌, ◌+◌, ◌*◌, ◌/◌, ◌∙◌, ◌++◌, ℕ, ℤ, zero, suc, List, [], ◌∷◌, length, drop, map, All, refl, sym, ap, arith, length-append}
use Rattle.std.specs.List.{range_with_len}
use Rattle.std.proofs.Math.Nat.{add-div_right}
use Rattle.std.proofs.Math.Seq.{drop-append-add}
use Rattle.std.proofs.lemmas.List.Elements.{All-head, All-tail}
use Rattle.graph_model.specs.StreamLaws.{map-range_same}
use Rattle.wav_pcm.specs.Samples.{IsSize, sample_of, scaled, written, samples_in, bytes_of}
use Rattle.wav_pcm.specs.Laws.{IsScaledFrom}
use Rattle.wav_pcm.proofs.SizeFacts.{by_size, length-written}
use Rattle.wav_pcm.proofs.BackLaws.{written_reads_back}

-- the sample at a place of a body
abbrev at_place : ℕ → List ℕ → ℕ → ℤ
at_place bits body k = scaled bits (sample_of bits (drop (k * (bits / 8)) body))

map-range_shift : (f : ℕ → ℤ) (a n : ℕ) → map f (range_with_len (a + 1) n) ≡ map (λ k. f (k + 1)) (range_with_len a n)
map-range_shift f a zero = refl
map-range_shift f a (suc n) = ap (λ rest. f (a + 1) ∷ rest) (map-range_shift f (a + 1) n)

next_place : (bits k : ℕ) (piece body : List ℕ) → length piece ≡ bits / 8 → at_place bits (piece ++ body) (k + 1) ≡ at_place bits body k
next_place bits k piece body e =
    let f : (k + 1) * (bits / 8) ≡ length piece + k * (bits / 8) = omega (arith, e) in
    ap (λ n. scaled bits (sample_of bits (drop n (piece ++ body)))) f
    ∙ ap (λ bytes. scaled bits (sample_of bits bytes)) (drop-append-add piece body (k * (bits / 8)))

pub wide : (bits : ℕ) → IsSize bits → 0 < bits / 8
wide bits size = by_size (λ b. 0 < b / 8) bits size (omega arith) (omega arith) (omega arith) (omega arith)

count_of : (bits : ℕ) (piece body : List ℕ) → IsSize bits → length piece ≡ bits / 8 → length (piece ++ body) / (bits / 8) ≡ suc (length body / (bits / 8))
count_of bits piece body size e =
    let f : length (piece ++ body) ≡ length body + bits / 8 = length-append piece body ∙ omega (arith, e) in
    ap (λ n. n / (bits / 8)) f ∙ add-div_right (length body) (wide bits size) ∙ omega arith

-- a body with one more sample in front
pub samples_in-cons : (bits : ℕ) (piece body : List ℕ) → IsSize bits → length piece ≡ bits / 8
    → samples_in bits (piece ++ body) ≡ scaled bits (sample_of bits (piece ++ body)) ∷ samples_in bits body
samples_in-cons bits piece body size e =
    let n = length body / (bits / 8) in
    let none : 0 * (bits / 8) ≡ 0 = omega arith in
    let first : at_place bits (piece ++ body) 0 ≡ scaled bits (sample_of bits (piece ++ body)) =
    ap (λ k. scaled bits (sample_of bits (drop k (piece ++ body)))) none in
    let rest : map (at_place bits (piece ++ body)) (range_with_len 1 n) ≡ samples_in bits body =
    map-range_shift (at_place bits (piece ++ body)) 0 n
    ∙ map-range_same (λ k. at_place bits (piece ++ body) (k + 1)) (at_place bits body) 0 n (λ k. next_place bits k piece body e) in
    ap (λ k. map (at_place bits (piece ++ body)) (range_with_len 0 k)) (count_of bits piece body size e)
    ∙ ap (λ x. x ∷ map (at_place bits (piece ++ body)) (range_with_len 1 n)) first
    ∙ ap (λ xs. scaled bits (sample_of bits (piece ++ body)) ∷ xs) rest

pub samples_in-none : (bits : ℕ) → IsSize bits → samples_in bits [] ≡ []
samples_in-none bits size = by_size (λ b. samples_in b [] ≡ []) bits size refl refl refl refl

-- samples of the size, scaled, read as they were written
pub samples_in-bytes_of : (bits : ℕ) (samples : List ℤ) → IsSize bits → All (IsScaledFrom bits) samples → samples_in bits (bytes_of bits samples) ≡ samples
samples_in-bytes_of bits [] size all = samples_in-none bits size
samples_in-bytes_of bits (x ∷ samples) size all =
    let s = All-head (IsScaledFrom bits) x samples all in
    let body = bytes_of bits samples in
    let first : scaled bits (sample_of bits (written bits x ++ body)) ≡ x =
    ap (λ y. scaled bits (sample_of bits (written bits y ++ body))) s.3
    ∙ ap (scaled bits) (written_reads_back bits s.0 body size s.1 s.2) ∙ sym s.3 in
    samples_in-cons bits (written bits x) body size (length-written bits x size)
    ∙ ap (λ y. y ∷ samples_in bits body) first
    ∙ ap (λ xs. x ∷ xs) (samples_in-bytes_of bits samples size (All-tail (IsScaledFrom bits) x samples all))
