-- The numbers of a request are within their ranges.
use Rattle.std.proofs.Common.{◌≡◌, ◌≤◌, ◌&&◌, ◌∙◌, ℕ, Bool, true, false, List, [], ◌∷◌, All, suc, ◌+◌, ◌==◌, ◌^◌, codes, count_by, length, subst, Option, Some, None, option_map, option_and_then, Result, Ok, Err, refl, ap, arith, nat_le, nat_lt, if◌then◌else◌}
use Rattle.std.specs.Option.{IfSome, ok_or}
use Rattle.std.specs.Result.{IfOk}
use Rattle.std.specs.List.{slice_split}
use Rattle.std.specs.Str.{bytes_eq}
use Rattle.std.specs.Str.Parse.{digits_value}
use Rattle.std.proofs.lemmas.Bool.Decides.{nat_tests}
use Rattle.std.proofs.lemmas.List.Elements.{All-nil, All-cons}
use Rattle.std.proofs.lemmas.List.Splits.{length-slice_split}
use Rattle.clap.specs.Words.{Row, first_of}
use Rattle.graph_model.specs.Refusals.{Gives, mapped, onto}
use Rattle.graph_model.specs.declared.refused.Refused.{Refused}
use Rattle.wav_pcm.specs.Samples.{IsSize, is_size}
use Rattle.wav_pcm.proofs.OkLaws.{size_tested}
use Rattle.command_words.specs.Commands.{has_flag, taken, taking, wanted}
use Rattle.command_words.specs.Checking.{check_request}
use Rattle.command_words.specs.Compiling.{compile_request}
use Rattle.command_words.specs.Numbers.{is_numeral, is_within, number_of, number_that, number_within}
use Rattle.command_words.specs.Demos.{DemoRequest, demo_command, demo_in, demo_of, demo_request, demo_within}
use Rattle.command_words.specs.Requests.{IsInRange, Request, check, compile, demo, render, request_in, said}
use Rattle.command_words.specs.declared.modes.Request.{Request as Said}
use Rattle.command_words.specs.Rendering.{IsCutting, RenderRequest, bits_of, block_length, cuts_of, cutting_of, each, render_command, render_in, render_request, tail_of}
use Rattle.command_words.specs.declared.fault.WordsFault.{WordsFault}
use Rattle.command_words.specs.declared.fault.WordsFault.TheVariants.{NoRequest, OutOfRange}

-- where an answer follows from a first one, there is a first one
pub ok_taking : {A B : Type 0} (r : Result A WordsFault) (f : A → Result B WordsFault) (y : B) → taking r f ≡ Ok y → (x : A) × (r ≡ Ok x) × (f x ≡ Ok y)
ok_taking (Ok x) f y h = (x, refl, h)
ok_taking (Err e) f y h = absurd (cc)

ok_mapped : {A B : Type 0} (f : A → B) (r : Result A WordsFault) (y : B) → mapped f r ≡ Ok y → (x : A) × (r ≡ Ok x) × (f x ≡ y)
ok_mapped f (Ok x) y h = (x, refl, cc)
ok_mapped f (Err e) y h = absurd (cc)

one_answer : {A : Type 0} (r : Result A WordsFault) (x y : A) → r ≡ Ok x → r ≡ Ok y → x ≡ y
one_answer r x y e h = cc

some_mapped : {A : Type 0} (o : Option A) (p : Option A) → option_map Some o ≡ Some p → (x : A) × (o ≡ Some x) × (Some x ≡ p)
some_mapped (Some x) p h = (x, refl, cc)
some_mapped None p h = absurd (cc)

some_of_ok : {A : Type 0} (o : Option A) (y : A) → ok_or o NoRequest ≡ Ok y → o ≡ Some y
some_of_ok (Some x) y h = cc
some_of_ok None y h = absurd (cc)

-- a number that is found by a test passes it
passes : (test : ℕ → Bool) (o : Option ℕ) (n : ℕ) → option_and_then (λ m. if test m then Some m else None) o ≡ Some n → test n ≡ true
passes test None n h = absurd (cc)
passes test (Some m) n h = go (test m) refl h
  where
    go : (b : Bool) → test m ≡ b → (if b then Some m else None) ≡ Some n → test n ≡ true
    go true e same = let is : n ≡ m = cc in ap test is ∙ e
    go false e same = absurd (cc)

within : (least greatest n : ℕ) → is_within least greatest n ≡ true → (least ≤ n) × (n ≤ greatest)
within least greatest n h = (grind (arith, nat_tests), grind (arith, nat_tests))

block_within : (t : List ℕ) (n : ℕ) → block_length t ≡ Ok n → (1 ≤ n) × (n ≤ 8192)
block_within t n h = within 1 8192 n (passes (is_within 1 8192) (number_of t) n (some_of_ok (number_within 1 8192 t) n h))

one_within : (n : ℕ) → 1 ≤ n → n ≤ 8192 → IsCutting (n ∷ []) × (length (n ∷ []) ≤ 64)
one_within n low high = ((omega arith, All-cons (λ n. (1 ≤ n) × (n ≤ 8192)) n [] (low, high) (All-nil (λ n. (1 ≤ n) × (n ≤ 8192)))), omega arith)

ok_onto : {A : Type 0} (y : A) (r : Result (List A) WordsFault) (ys : List A) → onto y r ≡ Ok ys → (zs : List A) × (r ≡ Ok zs) × (y ∷ zs ≡ ys)
ok_onto y (Ok zs) ys h = (zs, refl, cc)
ok_onto y (Err e) ys h = absurd (cc)

-- what f makes of each of a list is as long, and has what f's answers have
each_has : {A B : Type 0} (P : B → Type 0) (f : A → Result B WordsFault) → ((x : A) (y : B) → f x ≡ Ok y → P y) → (xs : List A) (ys : List B)
    → each f xs ≡ Ok ys → (length ys ≡ length xs) × All P ys
each_has {A} {B} P f holds [] ys h =
    let none : [] ≡ ys = cc in
    subst (λ (l : List B). (length l ≡ 0) × All P l) none (refl, All-nil P)
each_has {A} {B} P f holds (x ∷ xs) ys h =
    let front = ok_taking (f x) (λ y. onto y (each f xs)) ys h in
    let back = ok_onto front.0 (each f xs) ys front.2 in
    let rest = each_has P f holds xs back.0 back.1 in
    subst (λ (l : List B). (length l ≡ suc (length xs)) × All P l) back.2
    (ap (λ n. suc n) rest.0, All-cons P front.0 back.0 (holds x front.0 front.1) rest.1)

cuts_within : (t lengths : List ℕ) → cuts_of t ≡ Ok lengths → IsCutting lengths × (length lengths ≤ 64)
cuts_within t lengths h = go (nat_le (length parts) 64) refl h
  where
    parts : List (List ℕ)
    parts = slice_split (λ b. b == 44) t

    go : (b : Bool) → nat_le (length parts) 64 ≡ b → (if b then each block_length parts else Err NoRequest) ≡ Ok lengths
        → IsCutting lengths × (length lengths ≤ 64)
    go true few same =
        let each_one = each_has (λ n. (1 ≤ n) × (n ≤ 8192)) block_length block_within parts lengths same in
        let some : length parts ≡ count_by (λ b. b == 44) t + 1 = length-slice_split (λ b. b == 44) t in
        let most : length parts ≤ 64 = grind (arith, nat_tests) in
        ((omega (arith, each_one.0, some), each_one.1), omega (arith, each_one.0, most))
    go false few same = absurd (cc)

cutting_within : (block cuts : Option (List ℕ)) (lengths : List ℕ) → cutting_of block cuts ≡ Ok lengths → IsCutting lengths × (length lengths ≤ 64)
cutting_within None None lengths h = let is : 512 ∷ [] ≡ lengths = cc in
    subst (λ (l : List ℕ). IsCutting l × (length l ≤ 64)) is (one_within 512 (omega arith) (omega arith))
cutting_within (Some block) None lengths h =
    let made = ok_mapped (λ n. n ∷ []) (block_length block) lengths h in
    let is = block_within block made.0 made.1 in
    subst (λ (l : List ℕ). IsCutting l × (length l ≤ 64)) made.2 (one_within made.0 is.0 is.1)
cutting_within None (Some cuts) lengths h = cuts_within cuts lengths h
cutting_within (Some block) (Some cuts) lengths h = absurd (cc)

bits_within : (t : Option (List ℕ)) (bits : Option ℕ) → bits_of t ≡ Ok bits → IfSome bits IsSize
bits_within None bits h = let is : None ≡ bits = cc in subst (λ (o : Option ℕ). IfSome o IsSize) is tt
bits_within (Some t) bits h =
    let named = some_mapped (number_that is_size t) bits (some_of_ok (option_map Some (number_that is_size t)) bits h) in
    subst (λ (o : Option ℕ). IfSome o IsSize) named.2 (size_tested named.0 (passes is_size (number_of t) named.0 named.1))

nodes_within : (seed nodes : ℕ) (q : DemoRequest) → demo_within seed nodes ≡ Ok q → (3 ≤ q.nodes) × (q.nodes ≤ 512)
nodes_within seed nodes q h = go (nat_lt seed (2 ^ 64)) (is_within 3 512 nodes) refl h
  where
    go : (a b : Bool) → is_within 3 512 nodes ≡ b → (if a && b then Ok (record { seed = seed; nodes = nodes }) else Err OutOfRange) ≡ Ok q
        → (3 ≤ q.nodes) × (q.nodes ≤ 512)
    go true true e same =
        let is : nodes ≡ q.nodes = ap (λ (r : DemoRequest). r.nodes) (one_answer _ _ q refl same) in
        subst (λ (n : ℕ). (3 ≤ n) × (n ≤ 512)) is (within 3 512 nodes e)
    go true false e same = absurd (cc)
    go false b e same = absurd (cc)

demo_range : (seed nodes : Result (List ℕ) WordsFault) (q : DemoRequest) → taking seed (λ seed. taking nodes (λ nodes. demo_of seed nodes)) ≡ Ok q
    → (3 ≤ q.nodes) × (q.nodes ≤ 512)
demo_range (Ok seed) (Ok nodes) q h = go (is_numeral seed && is_numeral nodes) h
  where
    go : (b : Bool) → (if b then demo_within (digits_value 10 seed) (digits_value 10 nodes) else Err NoRequest) ≡ Ok q → (3 ≤ q.nodes) × (q.nodes ≤ 512)
    go true same = nodes_within (digits_value 10 seed) (digits_value 10 nodes) q same
    go false same = absurd (cc)
demo_range (Err e) nodes q h = absurd (cc)
demo_range (Ok seed) (Err e) q h = absurd (cc)

abbrev IsRenderRange : RenderRequest → Type 0
IsRenderRange r = IsInRange (render r)

-- what `render_in` makes of the values, one by one
abbrev asked : Result (List ℕ) WordsFault → Result (List ℕ) WordsFault → Result (List ℕ) WordsFault → Result (List ℕ) WordsFault → Result ℕ WordsFault
    → Result (Option ℕ) WordsFault → Bool → Bool → Result RenderRequest WordsFault
asked graph input output cutting tail bits compensate waves =
    taking graph (λ graph. taking input (λ input. taking output (λ output. taking cutting (λ cutting. taking tail (λ tail. taking bits (λ bits. Ok (record {
      graph = graph;
      input = input;
      output = output;
      cutting = cutting;
      tail = tail;
      bits = bits;
      compensate = compensate;
      waves = waves;
    })))))))

asked_range : (graph input output cutting : Result (List ℕ) WordsFault) (tail : Result ℕ WordsFault) (bits : Result (Option ℕ) WordsFault) (compensate waves : Bool)
    (q : RenderRequest) → ((ls : List ℕ) → cutting ≡ Ok ls → IsCutting ls × (length ls ≤ 64)) → ((b : Option ℕ) → bits ≡ Ok b → IfSome b IsSize)
    → asked graph input output cutting tail bits compensate waves ≡ Ok q → IsRenderRange q
asked_range (Ok g) (Ok i) (Ok o) (Ok ls) (Ok t) (Ok b) compensate waves q cut size h =
    subst (λ (r : RenderRequest). IsRenderRange r) (one_answer _ _ q refl h) ((cut ls refl).0, (cut ls refl).1, size b refl)
asked_range (Err e) input output cutting tail bits compensate waves q cut size h = absurd (cc)
asked_range (Ok g) (Err e) output cutting tail bits compensate waves q cut size h = absurd (cc)
asked_range (Ok g) (Ok i) (Err e) cutting tail bits compensate waves q cut size h = absurd (cc)
asked_range (Ok g) (Ok i) (Ok o) (Err e) tail bits compensate waves q cut size h = absurd (cc)
asked_range (Ok g) (Ok i) (Ok o) (Ok ls) (Err e) bits compensate waves q cut size h = absurd (cc)
asked_range (Ok g) (Ok i) (Ok o) (Ok ls) (Ok t) (Err e) compensate waves q cut size h = absurd (cc)

render_range : (rows : List Row) (q : RenderRequest) → render_in rows ≡ Ok q → IsRenderRange q
render_range rows q h = asked_range (wanted (codes "GRAPH") rows) (wanted (codes "IN") rows) (wanted (codes "OUT") rows)
    (cutting_of (first_of (codes "block") rows) (first_of (codes "cuts") rows)) (tail_of (first_of (codes "tail") rows))
    (bits_of (first_of (codes "bits") rows)) (has_flag (codes "compensate") rows) (has_flag (codes "waves") rows) q
    (cutting_within (first_of (codes "block") rows) (first_of (codes "cuts") rows)) (bits_within (first_of (codes "bits") rows)) h

-- the request of the words is in range
pub in_range : (mode : List ℕ) (ws : List (List ℕ)) (q : Request) → request_in mode ws ≡ Ok q → IsInRange q
in_range mode ws q h =
    go (bytes_eq mode (codes "render")) (bytes_eq mode (codes "compile")) (bytes_eq mode (codes "check")) (bytes_eq mode (codes "demo")) h
  where
    go : (a b d e : Bool) → (if a then mapped render (render_request ws) else (if b then mapped compile (compile_request ws)
        else (if d then mapped check (check_request ws) else (if e then mapped demo (demo_request ws) else Err NoRequest)))) ≡ Ok q → IsInRange q
    go true b d e h =
        let made = ok_mapped render (render_request ws) q h in
        let read = ok_taking (taken render_command ws) render_in made.0 made.1 in
        subst (λ (r : Request). IsInRange r) made.2 (render_range read.0 made.0 read.2)
    go false true d e h = let made = ok_mapped compile (compile_request ws) q h in subst (λ (r : Request). IsInRange r) made.2 tt
    go false false true e h = let made = ok_mapped check (check_request ws) q h in subst (λ (r : Request). IsInRange r) made.2 tt
    go false false false true h =
        let made = ok_mapped demo (demo_request ws) q h in
        let read = ok_taking (taken demo_command ws) demo_in made.0 made.1 in
        subst (λ (r : Request). IsInRange r) made.2
        (demo_range (wanted (codes "SEED") read.0) (wanted (codes "NODES") read.0) made.0 read.2)
    go false false false false h = absurd (cc)

pub given : (mode : List ℕ) (ws : List (List ℕ)) (r : Result Said (Refused WordsFault)) → Gives (request_in mode ws) (mapped said r)
    → IfOk r (λ s. IsInRange (said s))
given mode ws (Ok s) h = in_range mode ws (said s) h
given mode ws (Err e) h = tt
