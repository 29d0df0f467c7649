-- A block as it is read: what stands in the file, and zeros after it.
use Rattle.std.proofs.Common.{◌≡◌, ℕ, ◌+◌, ◌-◌, ◌*◌, ◌/◌, ◌≤◌, ◌<◌, ◌^◌, min, List, [], ◌++◌, length, take, drop, Option, Some, None, refl, sym, ◌∙◌, ap, subst, arith, inl, inr, rules, slice_range, unsigned_abs}
use Rattle.std.proofs.Math.Nat.{add-mul, mul_assoc, mul-le-mul_right}
use Rattle.std.proofs.lemmas.Bool.{cases_lt}
use Rattle.std.proofs.lemmas.List.{drop-replicate, drop-take, length-take-le}
use Rattle.std.proofs.Math.Seq.{take-append_seam}
use Rattle.std.proofs.lemmas.List.Elements.{All-append, All-replicate}
use Rattle.std.specs.List.{All}
use Rattle.std.specs.Prelude.{ℤ, pos, replicate, ◌⊎◌}
use Rattle.gh_outside.specs.Holdings.{Holding, HeldBytes, IsPast}
use Rattle.wav_pcm.specs.Files.{data_size, frame_size, recorded, IsHead}
use Rattle.wav_pcm.specs.Samples.{IsScaled}
use Rattle.graph_model.specs.Bounds.{AreUpTo}
use Rattle.wav_pcm.proofs.PartLaws.{length-recorded}
use Rattle.graph_model.specs.Histories.{frames_of}
use Rattle.graph_model.specs.Sound.{IsSound}
use Rattle.graph_model.proofs.BlockLaws.{length-frames_of}
use Rattle.graph_model.proofs.NodeFacts.{input_some}
use Rattle.engine_model.specs.Engines.{ins, outs, IsBlock, Parts}
use Rattle.streaming.specs.Blocks.{all_frames, all_samples, AreFrames}
use Rattle.streaming.specs.declared.ends.Incoming.{Incoming}
use Rattle.streaming.proofs.StreamLaws.{filled}

some_same : {x y : List ℕ} → Some x ≡ Some y → x ≡ y
some_same e = cc

past_more : (name : List ℕ) (a b : ℕ) (held : Option Holding) → a ≤ b → IsPast name a held → IsPast name b held
past_more name a b None le past = past
past_more name a b (Some files) le past = λ bytes at. let short = past bytes at in omega arith

module _ (i : Incoming) (k n there : ℕ) (good : IsHead i.head) (within : k + n ≤ all_frames i) (there_is : there ≡ min (i.head.frames - k) n * i.head.channels) where
  -- of the bytes of the file
  of_bytes : (file : List ℕ) → i.head.from + data_size i.head ≤ length file
      → take there (drop (k * i.head.channels) (recorded i.head file)) ++ drop there (replicate (n * i.head.channels) (pos 0)) ≡ take (n * i.head.channels) (drop (k * i.head.channels) (all_samples i file))
  of_bytes file room =
      ap (λ xs. take there (drop (k * i.head.channels) (recorded i.head file)) ++ xs) (drop-replicate there (n * i.head.channels) (pos 0))
      ∙ ap (λ j. take j (drop (k * i.head.channels) (recorded i.head file)) ++ replicate (n * i.head.channels - j) (pos 0)) there_is
      ∙ filled i.head.frames i.silent k n i.head.channels (recorded i.head file) (length-recorded i.head file good room) within

  -- of a file that has its frames, where the folder tells
  pub of_held : (xs : List ℤ) (held : Option Holding) → (IsPast i.name.now (i.head.from + data_size i.head) held → ⊥)
      → HeldBytes i.name.now held (λ file. i.head.from + data_size i.head ≤ length file → xs ≡ take there (drop (k * i.head.channels) (recorded i.head file)))
      → AreFrames i k n (xs ++ drop there (replicate (n * i.head.channels) (pos 0))) held
  of_held xs None room told = tt
  of_held xs (Some files) room told = of_file (files i.name.now) refl told
    where
      of_file : (o : Option (List ℕ)) → files i.name.now ≡ o
          → HeldBytes i.name.now (Some (λ _. o)) (λ file. i.head.from + data_size i.head ≤ length file → xs ≡ take there (drop (k * i.head.channels) (recorded i.head file)))
          → HeldBytes i.name.now (Some (λ _. o)) (λ file. xs ++ drop there (replicate (n * i.head.channels) (pos 0)) ≡ take (n * i.head.channels) (drop (k * i.head.channels) (all_samples i file)))
      of_file None at told = tt
      of_file (Some file) at told = elim (cases_lt (length file) (i.head.from + data_size i.head)) [
        | inl short ↦ absurd (room (λ bytes held. subst (λ b. length b < i.head.from + data_size i.head) (some_same (sym at ∙ held)) short))
        | inr le ↦ ap (λ l. l ++ drop there (replicate (n * i.head.channels) (pos 0))) (told le) ∙ of_bytes file le
      ]

  -- nothing of it stands in the file
  pub none_read : (xs : List ℤ) (held : Option Holding) → (IsPast i.name.now (i.head.from + data_size i.head) held → ⊥) → there ≡ 0 → xs ≡ replicate (n * i.head.channels) (pos 0)
      → AreFrames i k n xs held
  none_read xs held room none zeros =
      subst (λ l. AreFrames i k n l held) (ap (λ j. drop j (replicate (n * i.head.channels) (pos 0))) none ∙ sym zeros)
      (of_held [] held room (nothing held))
    where
      nothing : (held : Option Holding) → HeldBytes i.name.now held (λ file. i.head.from + data_size i.head ≤ length file → [] ≡ take there (drop (k * i.head.channels) (recorded i.head file)))
      nothing None = tt
      nothing (Some files) = of (files i.name.now)
        where
          of : (o : Option (List ℕ)) → HeldBytes i.name.now (Some (λ _. o)) (λ file. i.head.from + data_size i.head ≤ length file → [] ≡ take there (drop (k * i.head.channels) (recorded i.head file)))
          of None = tt
          of (Some file) = λ le. ap (λ j. take j (drop (k * i.head.channels) (recorded i.head file))) (sym none)

-- what was read, as the first of the rest
pub some_told : (i : Incoming) (k there end : ℕ) (xs : List ℤ) (held : Option Holding) → end - k * i.head.channels ≡ there
    → HeldBytes i.name.now held (λ file. i.head.from + data_size i.head ≤ length file → xs ≡ slice_range (recorded i.head file) (k * i.head.channels) end)
    → HeldBytes i.name.now held (λ file. i.head.from + data_size i.head ≤ length file → xs ≡ take there (drop (k * i.head.channels) (recorded i.head file)))
some_told i k there end xs held long told =
    subst (λ j. HeldBytes i.name.now held (λ file. i.head.from + data_size i.head ≤ length file → xs ≡ take j (drop (k * i.head.channels) (recorded i.head file)))) long told

-- none of it is too large
scaled_small : (xs : List ℤ) → All IsScaled xs → AreUpTo (2 ^ 31) xs
scaled_small xs all = search rules

pub small_samples : (xs : List ℤ) (there count : ℕ) (zeros : List ℤ) → zeros ≡ replicate count (pos 0) → All IsScaled xs → AreUpTo (2 ^ 31) (xs ++ drop there zeros)
small_samples xs there count zeros are all =
    subst (λ z. AreUpTo (2 ^ 31) (xs ++ z)) (sym (ap (drop there) are ∙ drop-replicate there count (pos 0)))
    (All-append (λ x. unsigned_abs x ≤ 2 ^ 31) xs (replicate (count - there) (pos 0)) (scaled_small xs all) (All-replicate (λ x. unsigned_abs x ≤ 2 ^ 31) (count - there) (pos 0) (omega arith)))

-- a part of what is there can be missed no more than all of it
pub failed_read : (i : Incoming) (end : ℕ) (held : Option Holding) (rose : Type 0) → (IsPast i.name.now (i.head.from + data_size i.head) held → ⊥)
    → end ≤ i.head.from + data_size i.head → IsPast i.name.now end held ⊎ rose → rose
failed_read i end held rose there within (inl past) = absurd (there (past_more i.name.now end (i.head.from + data_size i.head) held within past))
failed_read i end held rose there within (inr r) = r

-- the bytes of t frames from the k-th on are those of the head's
pub within_data : (i : Incoming) (k t bytes : ℕ) → t ≤ i.head.frames - k → (t * i.head.channels ≡ 0 → ⊥) → bytes ≡ t * i.head.channels * (i.head.bits / 8)
    → i.head.from + k * frame_size i.head + bytes ≤ i.head.from + data_size i.head
within_data i k t bytes few some are = elim (cases_lt 0 t) [
  | inl more ↦
      let sum : k + t ≤ i.head.frames = omega arith in
      let all : (k + t) * frame_size i.head ≤ i.head.frames * frame_size i.head = mul-le-mul_right (frame_size i.head) sum in
      let parts : (k + t) * frame_size i.head ≡ k * frame_size i.head + t * frame_size i.head = add-mul k t (frame_size i.head) in
      let those : bytes ≡ t * frame_size i.head = are ∙ mul_assoc t i.head.channels (i.head.bits / 8) in
      omega (arith, all, parts, those)
  | inr none ↦
      let zero_frames : t ≡ 0 = omega arith in
      absurd (some (ap (λ n. n * i.head.channels) zero_frames ∙ (omega arith)))
]

-- ---- parts of a room
-- what was put at the start of a room
pub put_back : (n : ℕ) (xs old : List ℤ) → length xs ≡ length (take n old) → n ≤ length old → take n (xs ++ drop n old) ≡ xs
put_back n xs old same within =
    ap (λ k. take k (xs ++ drop n old)) (sym (same ∙ length-take-le n old within)) ∙ take-append_seam xs (drop n old)

-- what is kept of what stands first in it
pub kept_is : (went : List ℤ) (left end : ℕ) → left ≤ end → take (end - left) (drop left went) ≡ drop left (take end went)
kept_is went left end within =
    let sum : left + (end - left) ≡ end = omega arith in
    sym (drop-take left (end - left) went) ∙ ap (λ k. drop left (take k went)) sum

-- ---- a block for the engine
module _ (i : Incoming) (e : Parts) (n : ℕ) (into came : List ℤ) (sound : IsSound e.graph) (come : ins e ≡ i.head.channels) (same : length into ≡ length (take (n * i.head.channels) came))
    (within : n * i.head.channels ≤ length came) where
  pub took : take (n * i.head.channels) (into ++ drop (n * i.head.channels) came) ≡ into
  took = put_back (n * i.head.channels) into came same within

  pub took_long : length into ≡ n * ins e
  took_long = same ∙ length-take-le (n * i.head.channels) came within ∙ ap (λ m. n * m) (sym come)

  -- it has so many frames
  pub took_frames : length (frames_of (ins e) (take (n * i.head.channels) (into ++ drop (n * i.head.channels) came))) ≡ n
  took_frames = length-frames_of (ins e) n (take (n * i.head.channels) (into ++ drop (n * i.head.channels) came)) (input_some e.graph sound) (ap length took ∙ took_long)

  pub is_block : (out : List ℤ) → 1 ≤ n → n ≤ e.block → AreUpTo (2 ^ 31) into → length out ≡ n * outs e
      → IsBlock e n (take (n * i.head.channels) (into ++ drop (n * i.head.channels) came)) out
  is_block out some most small goes = record {
    some = some;
    most = most;
    comes = ap length took ∙ took_long;
    goes = goes;
    small = subst (λ xs. AreUpTo (2 ^ 31) xs) (sym took) small;
  }
