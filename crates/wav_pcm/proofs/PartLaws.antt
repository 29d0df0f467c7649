-- A part of a body holds a part of its samples.
use Rattle.std.proofs.Common.{◌≡◌, ◌≤◌, ◌+◌, ◌-◌, ◌*◌, ◌/◌, ◌∙◌, ◌++◌, ℕ, ℤ, zero, suc, pos, ◌-ℤ◌, List, [], ◌∷◌, length, take, drop, sym, ap, arith, append_assoc, length-take, length-drop, add-mul, mul_assoc}
use Rattle.std.specs.Prelude.{slice_range, Option, Some, None, IfSome}
use Rattle.gh_outside.specs.Holdings.{Holding, HeldBytes}
use Rattle.std.proofs.Math.Nat.{mul-div_left}
use Rattle.std.proofs.lemmas.List.{take_at, drop_at, take-append-drop, drop-take, take-take, drop-drop, take_all}
use Rattle.std.proofs.lemmas.List.FromFn.{length-map-range_with_len}
use Rattle.byteorder.specs.Numbers.{little_from-append}
use Rattle.byteorder.specs.Endian.{twos_complement}
use Rattle.wav_pcm.specs.Samples.{IsSize, sample_of, scaled, samples_in}
use Rattle.wav_pcm.specs.Files.{frame_size, data_size, IsHead, recorded}
use Rattle.wav_pcm.specs.declared.head.Head.{Head}
use Rattle.wav_pcm.proofs.SizeFacts.{by_size}
use Rattle.wav_pcm.proofs.BodyLaws.{wide, samples_in-cons, samples_in-none}

abbrev ReadsFront : List ℕ → List ℕ → ℕ → Type 0
ReadsFront piece rest bits = length piece ≡ bits / 8 → sample_of bits (piece ++ rest) ≡ sample_of bits piece

-- a sample reads no byte past its own
sample_of-append : (bits : ℕ) (piece rest : List ℕ) → IsSize bits → ReadsFront piece rest bits
sample_of-append bits piece rest size = by_size (ReadsFront piece rest) bits size
    (λ e. ap (λ n. pos n -ℤ pos 128) (little_from-append 1 piece rest (omega (arith, e))))
    (λ e. ap (twos_complement 2) (little_from-append 2 piece rest (omega (arith, e))))
    (λ e. ap (twos_complement 3) (little_from-append 3 piece rest (omega (arith, e))))
    (λ e. ap (twos_complement 4) (little_from-append 4 piece rest (omega (arith, e))))

-- the samples of two bodies, the first of n samples
pub samples_in-append : (n bits : ℕ) (a b : List ℕ) → IsSize bits → length a ≡ n * (bits / 8)
    → samples_in bits (a ++ b) ≡ samples_in bits a ++ samples_in bits b
samples_in-append zero bits [] b size e = ap (λ xs. xs ++ samples_in bits b) (sym (samples_in-none bits size))
samples_in-append zero bits (x ∷ a) b size e = absurd (omega (arith, e))
samples_in-append (suc n) bits a b size e =
    let w = bits / 8 in
    let p = take w a in
    let q = drop w a in
    let long : length p ≡ w = length-take w a ∙ omega (arith, e) in
    let rest : length q ≡ n * w = length-drop w a ∙ omega (arith, e) in
    let same : sample_of bits (p ++ (q ++ b)) ≡ sample_of bits (p ++ q) =
    sample_of-append bits p (q ++ b) size long ∙ sym (sample_of-append bits p q size long) in
    let split : p ++ q ≡ a = take-append-drop w a in
    ap (λ xs. samples_in bits (xs ++ b)) (sym split)
    ∙ ap (samples_in bits) (append_assoc p q b)
    ∙ samples_in-cons bits p (q ++ b) size long
    ∙ ap (λ x. scaled bits x ∷ samples_in bits (q ++ b)) same
    ∙ ap (λ xs. scaled bits (sample_of bits (p ++ q)) ∷ xs) (samples_in-append n bits q b size rest)
    ∙ ap (λ xs. xs ++ samples_in bits b) (sym (samples_in-cons bits p q size long))
    ∙ ap (λ xs. samples_in bits xs ++ samples_in bits b) split

pub length-samples_in : (n bits : ℕ) (a : List ℕ) → IsSize bits → length a ≡ n * (bits / 8) → length (samples_in bits a) ≡ n
length-samples_in n bits a size e =
    length-map-range_with_len (λ k. scaled bits (sample_of bits (drop (k * (bits / 8)) a))) 0 (length a / (bits / 8))
    ∙ ap (λ m. m / (bits / 8)) e ∙ mul-div_left n (wide bits size)

-- n samples from the sample i on
pub samples_in-part : (i n m bits : ℕ) (a : List ℕ) → IsSize bits → length a ≡ (i + n + m) * (bits / 8)
    → samples_in bits (take (n * (bits / 8)) (drop (i * (bits / 8)) a)) ≡ take n (drop i (samples_in bits a))
samples_in-part i n m bits a size e =
    let w = bits / 8 in
    let p = take (i * w) a in
    let r = drop (i * w) a in
    let q = take (n * w) r in
    let t = drop (n * w) r in
    let f : (i + n + m) * w ≡ i * w + n * w + m * w = add-mul (i + n) m w ∙ ap (λ k. k + m * w) (add-mul i n w) in
    let p_long : length p ≡ i * w = length-take (i * w) a ∙ omega (arith, e, f) in
    let r_long : length r ≡ n * w + m * w = length-drop (i * w) a ∙ omega (arith, e, f) in
    let q_long : length q ≡ n * w = length-take (n * w) r ∙ omega (arith, r_long) in
    let whole : samples_in bits a ≡ samples_in bits p ++ (samples_in bits q ++ samples_in bits t) =
    ap (samples_in bits) (sym (take-append-drop (i * w) a))
    ∙ samples_in-append i bits p r size p_long
    ∙ ap (λ xs. samples_in bits p ++ samples_in bits xs) (sym (take-append-drop (n * w) r))
    ∙ ap (λ xs. samples_in bits p ++ xs) (samples_in-append n bits q t size q_long) in
    sym (ap (λ xs. take n (drop i xs)) whole
    ∙ ap (take n) (drop_at (samples_in bits p) (samples_in bits q ++ samples_in bits t) i (length-samples_in i bits p size p_long))
    ∙ take_at (samples_in bits q) (samples_in bits t) n (length-samples_in n bits q size q_long))

-- the same on a part of a file
part_of : (i n m bits from : ℕ) (file : List ℕ) → IsSize bits → from + (i + n + m) * (bits / 8) ≤ length file
    → samples_in bits (take (n * (bits / 8)) (drop (from + i * (bits / 8)) file))
    ≡ take n (drop i (samples_in bits (take ((i + n + m) * (bits / 8)) (drop from file))))
part_of i n m bits from file size room =
    let w = bits / 8 in
    let body = drop from file in
    let whole = take ((i + n + m) * w) body in
    let long : length whole ≡ (i + n + m) * w = length-take ((i + n + m) * w) body ∙ omega (arith, length-drop from file) in
    let f : (i + n + m) * w ≡ i * w + (n * w + m * w) = add-mul (i + n) m w ∙ ap (λ k. k + m * w) (add-mul i n w) ∙ omega arith in
    let cut : drop (i * w) whole ≡ take (n * w + m * w) (drop (i * w) body) =
    ap (λ k. drop (i * w) (take k body)) f ∙ drop-take (i * w) (n * w + m * w) body in
    ap (λ bytes. samples_in bits (take (n * w) bytes)) (sym (drop-drop (i * w) from file))
    ∙ ap (samples_in bits) (sym (take-take (n * w) (n * w + m * w) (drop (i * w) body) (omega arith)))
    ∙ ap (λ bytes. samples_in bits (take (n * w) bytes)) (sym cut)
    ∙ samples_in-part i n m bits whole size long

-- what is read of frames is a part of what is recorded
pub frames_are_recorded : (head : Head) (file : List ℕ) (first n count : ℕ) → IsHead head → count ≡ n * head.channels → first + n ≤ head.frames
    → head.from + data_size head ≤ length file
    → samples_in head.bits (slice_range file (head.from + first * frame_size head) (head.from + first * frame_size head + count * (head.bits / 8)))
    ≡ slice_range (recorded head file) (first * head.channels) (first * head.channels + count)
frames_are_recorded head file first n count is e within room =
    let w = head.bits / 8 in
    let c = head.channels in
    let i = first * c in
    let k = head.frames - (first + n) in
    let m = k * c in
    let frames : head.frames ≡ first + n + k = omega arith in
    let at : first * (c * w) ≡ i * w = sym (mul_assoc first c w) in
    let sum : (first + n + k) * c ≡ i + n * c + m = add-mul (first + n) k c ∙ ap (λ x. x + m) (add-mul first n c) in
    let all : head.frames * (c * w) ≡ (i + count + m) * w =
    sym (mul_assoc head.frames c w) ∙ ap (λ x. x * c * w) frames ∙ ap (λ x. x * w) sum ∙ ap (λ x. (i + x + m) * w) (sym e) in
    let room2 : head.from + (i + count + m) * w ≤ length file = omega (arith, all) in
    let bytes : head.from + first * (c * w) + count * w - (head.from + first * (c * w)) ≡ count * w = omega arith in
    let items : i + count - i ≡ count = omega arith in
    ap (λ x. samples_in head.bits (take x (drop (head.from + first * (c * w)) file))) bytes
    ∙ ap (λ x. samples_in head.bits (take (count * w) (drop (head.from + x) file))) at
    ∙ part_of i count m head.bits head.from file is.size room2
    ∙ ap (λ x. take count (drop i (samples_in head.bits (take x (drop head.from file))))) (sym all)
    ∙ ap (λ x. take x (drop i (recorded head file))) (sym items)

-- how many samples a file records
pub length-recorded : (head : Head) (file : List ℕ) → IsHead head → head.from + data_size head ≤ length file → length (recorded head file) ≡ head.frames * head.channels
length-recorded head file is room =
    let all : data_size head ≡ head.frames * head.channels * (head.bits / 8) = sym (mul_assoc head.frames head.channels (head.bits / 8)) in
    let long : length (take (data_size head) (drop head.from file)) ≡ head.frames * head.channels * (head.bits / 8) =
    length-take (data_size head) (drop head.from file) ∙ omega (arith, length-drop head.from file, all) in
    length-samples_in (head.frames * head.channels) head.bits (take (data_size head) (drop head.from file)) is.size long

-- all frames at once are all that is recorded
pub slice_range-recorded : (head : Head) (file : List ℕ) → IsHead head → head.from + data_size head ≤ length file
    → slice_range (recorded head file) (0 * head.channels) (0 * head.channels + head.frames * head.channels) ≡ recorded head file
slice_range-recorded head file is room =
    let none : 0 * head.channels ≡ 0 = omega arith in
    let e = length-recorded head file is room in
    ap (λ k. slice_range (recorded head file) k (k + head.frames * head.channels)) none
    ∙ take_all (0 + head.frames * head.channels - 0) (recorded head file) (omega (arith, e))

some_recorded : (o : Option (List ℕ)) (head : Head) (first n : ℕ) (size count long : ℕ) (bytes : List ℕ) (into : List ℤ) → IsHead head
    → count ≡ n * head.channels → first + n ≤ head.frames → long ≡ count * (head.bits / 8) → size ≡ frame_size head → into ≡ samples_in head.bits bytes
    → IfSome o (λ file. bytes ≡ slice_range file (head.from + first * size) (head.from + first * size + long))
    → IfSome o (λ file. head.from + data_size head ≤ length file → into ≡ slice_range (recorded head file) (first * head.channels) (first * head.channels + count))
some_recorded None head first n size count long bytes into is e within l s i b = tt
some_recorded (Some file) head first n size count long bytes into is e within l s i b = λ room.
    i ∙ ap (samples_in head.bits) b
    ∙ ap (λ k. samples_in head.bits (slice_range file (head.from + first * k) (head.from + first * k + long))) s
    ∙ ap (λ k. samples_in head.bits (slice_range file (head.from + first * frame_size head) (head.from + first * frame_size head + k))) l
    ∙ frames_are_recorded head file first n count is e within room

-- the same, where the folder tells what it holds
pub recorded_told : (name : List ℕ) (held : Option Holding) (head : Head) (first n : ℕ) (size count long : ℕ) (bytes : List ℕ) (into : List ℤ) → IsHead head
    → count ≡ n * head.channels → first + n ≤ head.frames → long ≡ count * (head.bits / 8) → size ≡ frame_size head → into ≡ samples_in head.bits bytes
    → HeldBytes name held (λ file. bytes ≡ slice_range file (head.from + first * size) (head.from + first * size + long))
    → HeldBytes name held (λ file. head.from + data_size head ≤ length file → into ≡ slice_range (recorded head file) (first * head.channels) (first * head.channels + count))
recorded_told name None head first n size count long bytes into is e within l s i b = tt
recorded_told name (Some files) head first n size count long bytes into is e within l s i b =
    some_recorded (files name) head first n size count long bytes into is e within l s i b
