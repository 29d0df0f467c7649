-- Bytes of samples, and samples in bytes.
use Rattle.std.proofs.Common.{◌≡◌, ℕ, zero, suc, ◌+◌, ◌*◌, ◌/◌, ◌<◌, ◌≤◌, ℤ, List, [], ◌∷◌, ◌++◌, length, take, get_or, map, All, sym, ap, ◌∙◌, arith, append_assoc, length-append, length-take}
use Rattle.std.specs.Prelude.{slice_set, unsigned_abs}
use Rattle.std.proofs.lemmas.Int.{ints}
use Rattle.std.specs.List.{range_with_len}
use Rattle.std.proofs.lemmas.List.{take_at, take_more, take_more_set, flat_map_more}
use Rattle.std.proofs.lemmas.List.Elements.{All-append}
use Rattle.std.proofs.lemmas.List.FromFn.{map-range_with_len_more}
use borrow.Rule.Slice.PartMut.{put_mid, post_of}
use Rattle.wav_pcm.specs.Samples.{IsSize, IsScaled, written, bytes_of}
use Rattle.wav_pcm.proofs.SizeFacts.{length-written}

-- each sample has bits / 8 bytes
pub length-bytes_of : (bits : ℕ) (samples : List ℤ) → IsSize bits → length (bytes_of bits samples) ≡ length samples * (bits / 8)
length-bytes_of bits [] size = omega arith
length-bytes_of bits (x ∷ samples) size =
    let e = length-written bits x size in
    let f = length-bytes_of bits samples size in
    length-append (written bits x) (bytes_of bits samples) ∙ omega (arith, e, f)

-- one more sample is written behind those before it
pub written_more : (bits at k : ℕ) (x d : ℤ) (samples : List ℤ) (bytes new rest : List ℕ) → IsSize bits
    → at < length samples → x ≡ get_or samples at d → (at + 1) * (bits / 8) ≤ length bytes
    → new ≡ written bits x ++ rest → take (at * (bits / 8)) bytes ≡ bytes_of bits (take at samples)
    → take ((at + 1) * (bits / 8)) (put_mid (at * (bits / 8)) k bytes new) ≡ bytes_of bits (take (at + 1) samples)
written_more bits at k x d samples bytes new rest size within is room e before =
    let a = at * (bits / 8) in
    let post = post_of a k bytes in
    let split : put_mid a k bytes new ≡ (take a bytes ++ written bits x) ++ (rest ++ post) =
    ap (put_mid a k bytes) e ∙ simp append_assoc in
    let more : (at + 1) * (bits / 8) ≡ at * (bits / 8) + bits / 8 = omega arith in
    let long : length (take a bytes ++ written bits x) ≡ (at + 1) * (bits / 8) =
    simp (length-append, length-take) (omega (arith, length-written bits x size)) in
    ap (take ((at + 1) * (bits / 8))) split
    ∙ take_at (take a bytes ++ written bits x) (rest ++ post) ((at + 1) * (bits / 8)) long
    ∙ ap (λ bs. bs ++ written bits x) before
    ∙ flat_map_more (written bits) [] (take at samples) x
    ∙ ap (λ y. bytes_of bits (take at samples ++ y ∷ [])) is
    ∙ ap (bytes_of bits) (sym (take_more samples at d within))

-- one more item is made from its place
pub map_more : (f : ℕ → ℤ) (at : ℕ) (x : ℤ) (into : List ℤ) → at < length into → x ≡ f at
    → take at into ≡ map f (range_with_len 0 at) → take (at + 1) (slice_set into at x) ≡ map f (range_with_len 0 (at + 1))
map_more f at x into within is before =
    take_more_set into at x within ∙ ap (λ xs. xs ++ x ∷ []) before ∙ ap (λ y. map f (range_with_len 0 at) ++ y ∷ []) is
    ∙ sym (map-range_with_len_more f 0 at at (omega arith))

All-one : (P : ℤ → Type 0) (x : ℤ) → P x → All P (x ∷ [])
All-one P x is zero d h = is
All-one P x is (suc k) d h = absurd (omega arith)

pub all_more : (P : ℤ → Type 0) (at : ℕ) (x : ℤ) (into : List ℤ) → at < length into → P x
    → All P (take at into) → All P (take (at + 1) (slice_set into at x))
all_more P at x into within is before = rw (take_more_set into at x within) (All-append P (take at into) (x ∷ []) before (All-one P x is))

-- no scaled sample is above 2 ^ 31 in size
pub abs-scaled : (xs : List ℤ) → All IsScaled xs → All (λ x. unsigned_abs x ≤ 2147483648) xs
abs-scaled xs all k d within = let h = all k d within in let a = h.0 in let b = h.1 in omega (arith, ints)
