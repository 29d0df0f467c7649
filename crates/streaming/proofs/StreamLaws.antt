-- Blocks of frames one after another.
use Rattle.std.proofs.Common.{◌≡◌, ◌≢◌, ℕ, zero, suc, ◌+◌, ◌-◌, ◌*◌, ◌≤◌, min, List, [], ◌∷◌, ◌++◌, length, take, drop, Option, Some, None, inl, inr, refl, sym, ◌∙◌, ap, subst, arith}
use Rattle.std.proofs.lemmas.Bool.{cases_lt}
use Rattle.std.proofs.lemmas.List.Concat.{flat_map-append}
use Rattle.std.proofs.lemmas.List.{append_assoc, drop-replicate, length-append, length-drop, take_min, take-replicate}
use Rattle.std.proofs.Math.Nat.{min_comm, min-eq_left, mul_comm, mul-le-mul_right, mul-sub}
use Rattle.std.proofs.Math.Seq.{take-add, take-append-add}
use Rattle.std.specs.Prelude.{ℤ, pos, replicate}
use Rattle.gh_outside.specs.Holdings.{Holding, HeldBytes, Holds, KeepsOthers}
use Rattle.graph_model.specs.Graphs.{out_channels}
use Rattle.graph_model.specs.Sound.{IsSound}
use Rattle.wav_pcm.specs.Samples.{bytes_of, written}
use Rattle.engine_model.specs.Engines.{outs, Parts}
use Rattle.engine_model.proofs.CuttingLaws.{joined}
use Rattle.streaming.specs.Appends.{IsAppended, IsPartAppended}
use Rattle.streaming.specs.Blocks.{all_samples, put_of, AreFrames, BreaksOff, Comes, HasStreamed}
use Rattle.streaming.specs.declared.ends.Incoming.{Incoming}
use Rattle.streaming.specs.declared.ends.Outgoing.{Outgoing}

-- ---- parts of two lists
pub drop-split : {A : Type 0} (n : ℕ) (xs ys : List A) → drop n (xs ++ ys) ≡ drop n xs ++ drop (n - length xs) ys
drop-split {A} zero [] ys = refl
drop-split {A} (suc n) [] ys = ap (λ k. drop k ys) {x = suc n} {y = suc n - length {A = A} []} (omega arith)
drop-split {A} zero (x ∷ xs) ys = ap (λ k. (x ∷ xs) ++ drop k ys) {x = 0} {y = 0 - length (x ∷ xs)} (omega arith)
drop-split {A} (suc n) (x ∷ xs) ys = drop-split n xs ys ∙ ap (λ k. drop n xs ++ drop k ys) {x = n - length xs} {y = suc n - length (x ∷ xs)} (omega arith)

pub take-split : {A : Type 0} (n : ℕ) (xs ys : List A) → take n (xs ++ ys) ≡ take n xs ++ take (n - length xs) ys
take-split {A} zero [] ys = refl
take-split {A} (suc n) [] ys = ap (λ k. take k ys) {x = suc n} {y = suc n - length {A = A} []} (omega arith)
take-split {A} zero (x ∷ xs) ys = ap (λ k. take k ys) {x = 0} {y = 0 - length (x ∷ xs)} (omega arith)
take-split {A} (suc n) (x ∷ xs) ys = ap (λ l. x ∷ l) (take-split n xs ys) ∙ ap (λ k. x ∷ (take n xs ++ take k ys)) {x = n - length xs} {y = suc n - length (x ∷ xs)} (omega arith)

-- ---- the frames that come
same_frames : (i : Incoming) (k n : ℕ) (came : List ℤ) (name : List ℕ) (a b : Option Holding) → i.name.now ≢ name → KeepsOthers name a b → AreFrames i k n came b → AreFrames i k n came a
same_frames i k n came name None b differs keeps are = tt
same_frames i k n came name (Some a) None differs keeps are = absurd keeps
same_frames i k n came name (Some a) (Some b) differs keeps are =
    subst (λ (o : Option (List ℕ)). HeldBytes i.name.now (Some (λ _. o)) (λ file. came ≡ take (n * i.head.channels) (drop (k * i.head.channels) (all_samples i file)))) (keeps i.name.now differs) are

more_frames : (i : Incoming) (k n : ℕ) (a b : List ℤ) (held : Option Holding) → AreFrames i 0 k a held → AreFrames i k n b held → AreFrames i 0 (k + n) (a ++ b) held
more_frames i k n a b None first next = tt
more_frames i k n a b (Some files) first next = of_file (files i.name.now) first next
  where
    of_file : (o : Option (List ℕ)) → HeldBytes i.name.now (Some (λ _. o)) (λ file. a ≡ take (k * i.head.channels) (drop (0 * i.head.channels) (all_samples i file)))
        → HeldBytes i.name.now (Some (λ _. o)) (λ file. b ≡ take (n * i.head.channels) (drop (k * i.head.channels) (all_samples i file)))
        → HeldBytes i.name.now (Some (λ _. o)) (λ file. a ++ b ≡ take ((k + n) * i.head.channels) (drop (0 * i.head.channels) (all_samples i file)))
    of_file None first next = tt
    of_file (Some file) first next =
        let none : 0 * i.head.channels ≡ 0 = omega arith in
        let sum : k * i.head.channels + n * i.head.channels ≡ (k + n) * i.head.channels = omega arith in
        ap (λ l. l ++ b) (first ∙ ap (λ z. take (k * i.head.channels) (drop z (all_samples i file))) none)
        ∙ ap (λ l. take (k * i.head.channels) (all_samples i file) ++ l) next
        ∙ sym (take-add (k * i.head.channels) (n * i.head.channels) (all_samples i file))
        ∙ ap (λ z. take z (all_samples i file)) sum
        ∙ ap (λ z. take ((k + n) * i.head.channels) (drop z (all_samples i file))) (sym none)

-- ---- what is put
pub sub-mul : (s k c : ℕ) → s * c - k * c ≡ (s - k) * c
sub-mul s k c =
    ap (λ x. x - k * c) (mul_comm s c) ∙ ap (λ x. c * s - x) (mul_comm k c) ∙ sym (mul-sub c s k) ∙ mul_comm c (s - k)

less : (s k c : ℕ) → (s - 0) * c - k * c ≡ (s - k) * c
less s k c = let none : s - 0 ≡ s = omega arith in ap (λ x. x * c - k * c) none ∙ sub-mul s k c

put_more : (o : Outgoing) (k : ℕ) (a b : List ℤ) → length a ≡ k * o.channels → put_of o 0 (a ++ b) ≡ put_of o 0 a ++ put_of o k b
put_more o k a b long =
    ap (bytes_of o.bits) (drop-split ((o.skipped - 0) * o.channels) a b)
    ∙ flat_map-append (written o.bits) (drop ((o.skipped - 0) * o.channels) a) (drop ((o.skipped - 0) * o.channels - length a) b)
    ∙ ap (λ n. put_of o 0 a ++ bytes_of o.bits (drop ((o.skipped - 0) * o.channels - n) b)) long
    ∙ ap (λ n. put_of o 0 a ++ bytes_of o.bits (drop n b)) (less o.skipped k o.channels)

both_appended : (name p q : List ℕ) (a b c : Option Holding) → IsAppended name p a b → IsAppended name q b c → IsAppended name (p ++ q) a c
both_appended name p q a b c first next start h = subst (λ bytes. Holds name bytes c) (append_assoc start p q) (next (start ++ p) (first start h))

then_part : (name p q : List ℕ) (a b c : Option Holding) → IsAppended name p a b → IsPartAppended name q b c → IsPartAppended name (p ++ q) a c
then_part name p q a b None first next = tt
then_part name p q a b (Some files) first next = λ start h.
    let w = next (start ++ p) (first start h) in
    (length p + w.0, w.1 ∙ ap Some (append_assoc start p (take w.0 q) ∙ ap (λ l. start ++ l) (sym (take-append-add p q w.0))))

-- ---- n frames after the first k
sum-mul : (k n c : ℕ) → k * c + n * c ≡ (k + n) * c
sum-mul k n c = omega arith

module _ (i : Incoming) (o : Outgoing) (k n : ℕ) (e f e' : Parts) (a b c : Option Holding) (sound : IsSound e.graph) (go : outs e ≡ o.channels)
    (differs : i.name.now ≢ o.name.now) (keeps : KeepsOthers o.name.now a b) where
  both : (came went came' went' : List ℤ) → Comes i 0 k came went a e f → Comes i k n came' went' b f e' → Comes i 0 (k + n) (came ++ came') (went ++ went') a e e'
  both came went came' went' first next = record {
    frames = more_frames i k n came came' a first.frames (same_frames i k n came' o.name.now a b differs keeps next.frames);
    long = length-append came came' ∙ ap (λ x. x + length came') first.long ∙ ap (λ x. k * i.head.channels + x) next.long ∙ sum-mul k n i.head.channels;
    gone = length-append went went' ∙ ap (λ x. x + length went') first.gone ∙ ap (λ x. k * outs e + x) (next.gone ∙ ap (λ g. n * out_channels g) first.rendered.same.graph) ∙ sum-mul k n (outs e);
    rendered = joined e f e' sound came went came' went' first.rendered next.rendered;
  }

  put_both : (came went went' : List ℤ) → Comes i 0 k came went a e f → put_of o 0 went ++ put_of o k went' ≡ put_of o 0 (went ++ went')
  put_both came went went' first = sym (put_more o k went went' (first.gone ∙ ap (λ x. k * x) go))

  pub streamed_on : HasStreamed i o 0 k a e b f → HasStreamed i o k n b f c e' → HasStreamed i o 0 (k + n) a e c e'
  streamed_on (came, went, first, there) (came', went', next, more) = (
    came ++ came',
    went ++ went',
    both came went came' went' first next,
    subst (λ piece. IsAppended o.name.now piece a c) (put_both came went went' first) (both_appended o.name.now (put_of o 0 went) (put_of o k went') a b c there more),
  )

  pub broken_on : HasStreamed i o 0 k a e b f → BreaksOff i o k n b f c e' → BreaksOff i o 0 (k + n) a e c e'
  broken_on (came, went, first, there) (came', went', next, more) = (
    came ++ came',
    went ++ went',
    both came went came' went' first next,
    subst (λ piece. IsPartAppended o.name.now piece a c) (put_both came went went' first) (then_part o.name.now (put_of o 0 went) (put_of o k went') a b c there more),
  )

-- ---- a block of what a file holds and of silence after it
min-mul : (a b c : ℕ) → min (a * c) (b * c) ≡ min a b * c
min-mul a b c = elim (cases_lt a b) [
  | inl lt ↦
      let le : a ≤ b = omega arith in
      min-eq_left (mul-le-mul_right c le) ∙ ap (λ x. x * c) (sym (min-eq_left le))
  | inr le ↦ min_comm (a * c) (b * c) ∙ min-eq_left (mul-le-mul_right c le) ∙ ap (λ x. x * c) (sym (min-eq_left le) ∙ min_comm b a)
]

-- of n frames from the k-th on, those of a list of them, and zeros for the others
pub filled : (there silent k n m : ℕ) (xs : List ℤ) → length xs ≡ there * m → k + n ≤ there + silent
    → take (min (there - k) n * m) (drop (k * m) xs) ++ replicate (n * m - min (there - k) n * m) (pos 0) ≡ take (n * m) (drop (k * m) (xs ++ replicate (silent * m) (pos 0)))
filled there silent k n m xs long within =
    let left : length (drop (k * m) xs) ≡ (there - k) * m = length-drop (k * m) xs ∙ ap (λ x. x - k * m) long ∙ sub-mul there k m in
    let past : k * m - length xs ≡ (k - there) * m = ap (λ x. k * m - x) long ∙ sub-mul k there m in
    let first : take (min (there - k) n * m) (drop (k * m) xs) ≡ take (n * m) (drop (k * m) xs) =
    ap (λ j. take j (drop (k * m) xs)) (sym (min-mul (there - k) n m) ∙ min_comm ((there - k) * m) (n * m) ∙ ap (λ x. min (n * m) x) (sym left)) ∙ take_min (n * m) (drop (k * m) xs) in
    let count : n * m - min (there - k) n * m ≡ (n - (there - k)) * m = sub-mul n (min (there - k) n) m ∙ ap (λ x. x * m) {x = n - min (there - k) n} {y = n - (there - k)} (omega (arith, within)) in
    let few : (n - (there - k)) * m ≤ silent * m - (k - there) * m =
    subst (λ x. (n - (there - k)) * m ≤ x) (sym (sub-mul silent (k - there) m)) (mul-le-mul_right m (omega (arith, within))) in
    let rest : replicate (n * m - min (there - k) n * m) (pos 0) ≡ take (n * m - length (drop (k * m) xs)) (drop (k * m - length xs) (replicate (silent * m) (pos 0))) =
    ap (λ j. replicate j (pos 0)) count
    ∙ sym (take-replicate ((n - (there - k)) * m) (silent * m - (k - there) * m) (pos 0) few)
    ∙ ap (λ j. take j (replicate (silent * m - (k - there) * m) (pos 0))) (sym (sub-mul n (there - k) m) ∙ ap (λ x. n * m - x) (sym left))
    ∙ ap (λ l. take (n * m - length (drop (k * m) xs)) l) (sym (drop-replicate ((k - there) * m) (silent * m) (pos 0)) ∙ ap (λ j. drop j (replicate (silent * m) (pos 0))) (sym past)) in
    ap (λ l. l ++ replicate (n * m - min (there - k) n * m) (pos 0)) first
    ∙ ap (λ l. take (n * m) (drop (k * m) xs) ++ l) rest
    ∙ sym (take-split (n * m) (drop (k * m) xs) (drop (k * m - length xs) (replicate (silent * m) (pos 0))))
    ∙ ap (take (n * m)) (sym (drop-split (k * m) xs (replicate (silent * m) (pos 0))))
