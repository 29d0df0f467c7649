-- What a head that is read says.
use Rattle.std.proofs.Common.{◌≡◌, ℕ, ◌+◌, ◌-◌, ◌*◌, ◌/◌, ◌%◌, ◌^◌, ◌<◌, ◌≤◌, Bool, true, false, List, [], ◌∷◌, length, Option, Some, None, inl, inr, refl, sym, subst, arith, cond, ◌&&◌, ◌||◌, ◌==◌, ◌⊎◌}
use Rattle.std.specs.Prelude.{Result, Ok, Err, IfSome, find, nat_le, if◌then◌else◌}
use Rattle.std.proofs.Math.Nat.{div-mul-le_self}
use Rattle.std.proofs.lemmas.Bool.{leb-true, eqb-true}
use Rattle.graph_model.specs.Refusals.{and_then}
use Rattle.wav_pcm.specs.Samples.{IsSize, is_size}
use Rattle.wav_pcm.specs.Chunks.{AreChunks, after, is_format, is_data}
use Rattle.wav_pcm.specs.Formats.{whole_format, format_in, is_pcm, checked_format}
use Rattle.wav_pcm.specs.Files.{is_wave, frames_in, head_in, head_by, data_size, IsHead}
use Rattle.wav_pcm.specs.Laws.{FramesAreThere}
use Rattle.wav_pcm.specs.declared.chunk.Chunk.{Chunk}
use Rattle.wav_pcm.specs.declared.format.Format.{Format}
use Rattle.wav_pcm.specs.declared.head.Head.{Head}
use Rattle.wav_pcm.specs.declared.head.WavFault.TheVariants as fault

-- what an Ok of two steps, or of a test, came from
and_then_ok : {A B E : Type 0} (f : A → Result B E) (r : Result A E) (b : B) → Ok b ≡ and_then f r → (a : A) × (r ≡ Ok a) × (Ok b ≡ f a)
and_then_ok f (Ok a) b e = (a, refl, e)
and_then_ok f (Err x) b e = absurd (cc)

if_ok : {A E : Type 0} (test : Bool) (r : Result A E) (x : E) (a : A) → Ok a ≡ (if test then r else Err x) → (test ≡ true) × (Ok a ≡ r)
if_ok true r x a e = (refl, e)
if_ok false r x a e = absurd (cc)

and_true : (a b : Bool) → (a && b) ≡ true → (a ≡ true) × (b ≡ true)
and_true true b e = (refl, e)
and_true false b e = absurd (cc)

or_true : (a b : Bool) → (a || b) ≡ true → (a ≡ true) ⊎ (b ≡ true)
or_true true b e = inl refl
or_true false b e = inr e

-- the sizes that are tested are the sizes of a sample
pub size_tested : (bits : ℕ) → is_size bits ≡ true → IsSize bits
size_tested bits e = elim (or_true ((bits == 8 || bits == 16) || bits == 24) (bits == 32) e) [
  | inr d ↦ inr (inr (inr (eqb-true bits 32 d)))
  | inl e ↦ elim (or_true (bits == 8 || bits == 16) (bits == 24) e) [
    | inr d ↦ inr (inr (inl (eqb-true bits 24 d)))
    | inl e ↦ elim (or_true (bits == 8) (bits == 16) e) [
      | inr d ↦ inr (inl (eqb-true bits 16 d))
      | inl d ↦ inl (eqb-true bits 8 d)
    ]
  ]
]

-- what holds of a format that is read
pub record IsRead (graph : ℕ) (format : Format) : Type 0 where
  pub size : IsSize format.bits
  pub rate_least : 1 ≤ format.rate
  pub rate_most : format.rate ≤ 1000000
  pub channels : format.channels ≡ graph

pub checked_ok : (graph : ℕ) (said format : Format) → Ok format ≡ checked_format graph said → IsRead graph format
checked_ok graph said format e =
    let pcm = if_ok (is_pcm said) _ _ format e in
    let rate = if_ok (nat_le 1 said.rate && nat_le said.rate 1000000) _ _ format pcm.1 in
    let channels = if_ok (said.channels == graph) _ _ format rate.1 in
    let same : format ≡ said = cc channels.1 in
    let bits = and_true _ _ pcm.0 in
    let limits = and_true (nat_le 1 said.rate) (nat_le said.rate 1000000) rate.0 in
    let is : IsRead graph said = record {
      size = size_tested said.bits bits.0;
      rate_least = leb-true 1 said.rate limits.0;
      rate_most = leb-true said.rate 1000000 limits.1;
      channels = eqb-true said.channels graph channels.0;
    } in
    subst (IsRead graph) (sym same) is

-- frames never pass what is there
frames_within : (frame size there frames : ℕ) → Ok frames ≡ frames_in frame size there → frames * frame ≤ there
frames_within frame size there frames e = elim (size == 4294967295) as (λ b.
    Ok frames ≡ (if b then Ok (there / frame) else (if nat_le size there then (if size % frame == 0 then Ok (size / frame) else Err (fault.Ragged size frame)) else Err (fault.Short size there)))
    → frames * frame ≤ there) [
      | true ↦ λ is. let same : frames ≡ there / frame = cc in subst (λ n. n * frame ≤ there) (sym same) (div-mul-le_self there frame)
      | false ↦ λ is.
          let whole = if_ok (nat_le size there) _ _ frames is in
          let even = if_ok (size % frame == 0) _ _ frames whole.1 in
          let same : frames ≡ size / frame = cc even.1 in
          let most : size / frame * frame ≤ size = div-mul-le_self size frame in
          let room : size ≤ there = leb-true size there whole.0 in
          let all : size / frame * frame ≤ there = omega arith in
          subst (λ n. n * frame ≤ there) (sym same) all
    ] e

-- what a head by such a format says, where the data begin within the file
pub head_says : (graph size : ℕ) (format : Format) (chunk : Option Chunk) (head : Head)
    → IsRead graph format → IfSome chunk (λ c. c.from ≤ size) → Ok head ≡ head_in size format chunk
    → (head.channels ≡ graph) × (1 ≤ head.rate) × (head.rate ≤ 1000000) × IsSize head.bits × (head.from + data_size head ≤ size)
head_says graph size format None head is within e = absurd (cc)
head_says graph size format (Some c) head is within e =
    let w = and_then_ok _ (frames_in (format.channels * (format.bits / 8)) c.size (size - c.from)) head e in
    let said : Head = record { channels = format.channels; rate = format.rate; bits = format.bits; frames = w.0; from = c.from } in
    let same : head ≡ said = cc w.2 in
    let room = frames_within (format.channels * (format.bits / 8)) c.size (size - c.from) w.0 (sym w.1) in
    let there : said.from + data_size said ≤ size = omega arith in
    subst (λ h. (h.channels ≡ graph) × (1 ≤ h.rate) × (h.rate ≤ 1000000) × IsSize h.bits × (h.from + data_size h ≤ size)) (sym same)
    (is.channels, is.rate_least, is.rate_most, is.size, there)

pub head_ok : (graph size : ℕ) (format : Format) (chunk : Option Chunk) (head : Head) → 1 ≤ graph → graph ≤ 32 → size < 2 ^ 64
    → IsRead graph format → IfSome chunk (λ c. c.from ≤ size) → Ok head ≡ head_in size format chunk
    → IsHead head × (head.channels ≡ graph)
head_ok graph size format chunk head least most small is within e =
    let w = head_says graph size format chunk head is within e in
    let there = w.4 in (
      record {
        channels_least = subst (λ n. 1 ≤ n) (sym w.0) least;
        channels_most = subst (λ n. n ≤ 32) (sym w.0) most;
        rate_least = w.1;
        rate_most = w.2;
        size = w.3;
        room = omega arith;
      },
      w.0,
    )

-- the data begin within the file
found_one : (c : Chunk) (rest : List Chunk) (size : ℕ) (is : Bool) → c.from ≤ size → IfSome (find is_data rest) (λ x. x.from ≤ size)
    → IfSome (cond is (Some c) (find is_data rest)) (λ x. x.from ≤ size)
found_one c rest size true room more = room
found_one c rest size false room more = more

data_within : (at : ℕ) (bytes : List ℕ) (chunks : List Chunk) → AreChunks at bytes chunks → IfSome (find is_data chunks) (λ x. x.from ≤ length bytes)
data_within at bytes [] are = tt
data_within at bytes (c ∷ rest) are =
    let room : c.from ≤ length bytes = subst (λ x. x.from ≤ length bytes) (sym are.1) are.0 in
    found_one c rest (length bytes) (is_data c) room
    (elim are.2 [
      | inl end ↦ subst (λ cs. IfSome (find is_data cs) (λ x. x.from ≤ length bytes)) (sym end.1) tt
      | inr more ↦ data_within (after c) bytes rest more.1
    ])

pub frames_are_there : FramesAreThere
frames_are_there graph bytes head (chunks, are, is) =
    let wave = if_ok (is_wave bytes) (head_by graph bytes (find is_format chunks) (find is_data chunks)) fault.NotRiff head is in
    let whole = and_then_ok _ (whole_format (length bytes) (find is_format chunks)) head wave.1 in
    let format = and_then_ok _ (checked_format graph (format_in bytes whole.0)) head whole.2 in
    head_says graph (length bytes) format.0 (find is_data chunks) head (checked_ok graph (format_in bytes whole.0) format.0 (sym format.1))
    (data_within 12 bytes chunks are) format.2
