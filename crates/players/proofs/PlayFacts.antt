-- A sub-block in the words of the machine, and sub-blocks one after another.
use Rattle.std.proofs.Common.{◌≡◌, ℕ, ◌+◌, ◌-◌, ◌*◌, ◌<◌, ◌≤◌, zero, suc, ℤ, pos, List, [], ◌∷◌, ◌++◌, Option, Some, None, length, map, drop, reverse, get_or, refl, sym, ◌∙◌, ap, subst, arith, inl, inr, ⊎_elim, ◌==◌, true}
use Rattle.std.specs.Prelude.{◌⊎◌, ◌+ℤ◌}
use Rattle.std.specs.List.{range_with_len}
use Rattle.std.proofs.lemmas.List.{length-map, length-take, length-drop, get_or-take, get_or-drop, drop_all}
use Rattle.std.proofs.lemmas.Bool.{cases_lt, cond-true, eq-eqb}
use Rattle.std.proofs.lemmas.Int.{ints}
use Rattle.std.proofs.Math.Nat.{mul-le-mul_right, mul-le-mul_left}
use Rattle.graph_model.specs.Blocks.{planar_frame, so_far}
use Rattle.graph_model.specs.Histories.{Frame, History, window, ago, frame_in}
use Rattle.graph_model.specs.Kernels.{IsFrameWithin}
use Rattle.graph_model.specs.Kinds.{rule_of}
use Rattle.graph_model.proofs.BlockLaws.{before-same, row_within}
use Rattle.delay_lines.specs.Lines.{kept, passed}
use Rattle.engine_model.specs.Machines.{Kept, passed_then, taps, sum_on, summed, windows_on}
use Rattle.fixed_kernels.proofs.RowFacts.{kept_all, leaves_at}
use Rattle.pool_waves.specs.declared.job.Home.{Home}
use Rattle.players.specs.Reads.{source, own_or, part, CanRead, CanReadOwn, IsSet, IsAlone, SumsFit, taps_at, lines_after, lengths_of, channels_of}
use Rattle.players.specs.Servers.{taken_by, given_by, brought, ServerHolds, SameServer, IsWithinServer}
use Rattle.players.specs.Plays.{samples, step_of, run_from, delays_of, Holds, IsOfSame, IsWhole, gathered, CanTake, HasTaken, CanTurn, CanPlay, HasPlayed}
use Rattle.players.specs.declared.gathering.Wire.{Wire}
use Rattle.players.specs.declared.playing.Player.{Player}
use Rattle.players.specs.declared.playing.Server.{Server}
use Rattle.players.specs.declared.playing.Server.TheVariants.{Entry, Exit, Between}
use Rattle.players.proofs.GatherFacts.{can_len}
use Rattle.players.proofs.ServeFacts.{length-kept, map_range}

-- ---- one line
-- what has gone into it when j samples of f have gone in after p, the newest first
abbrev pub put : (ℕ → ℤ) → ℕ → List ℤ → List ℤ
put f zero p = p
put f (suc j) p = f j ∷ put f j p

so_far_put : (row p : List ℤ) (f : ℕ → ℤ) (j : ℕ) → j ≤ length row → ((t : ℕ) → t < length row → get_or row t (pos 0) ≡ f t) → so_far row j ++ p ≡ put f j p
so_far_put row p f zero le same = refl
so_far_put row p f (suc j) le same =
    ap (λ x. x ∷ (so_far row j ++ p)) (same j (omega arith)) ∙ ap (λ z. f j ∷ z) (so_far_put row p f j (omega arith) same)

-- the samples of a buffer
abbrev pub from_on : List ℤ → ℕ → ℕ → ℤ
from_on xs first t = get_or xs (first + t) (pos 0)

module _ (d : ℕ) (p xs : List ℤ) (first n : ℕ) (fits : first + n ≤ length xs) where
  size : length (part first n xs) ≡ n
  size = omega (arith, length-take n (drop first xs), length-drop first xs)

  at : (t : ℕ) → t < length (part first n xs) → get_or (part first n xs) t (pos 0) ≡ get_or xs (first + t) (pos 0)
  at t lt = get_or-take n (drop first xs) t (pos 0) (omega (arith, size)) ∙ get_or-drop first xs t (pos 0)

  line_run : kept (reverse (window d p)) (part first n xs) ≡ reverse (window d (put (from_on xs first) n p))
  line_run =
      ap (λ m. drop m (reverse (window d p) ++ part first n xs)) size
      ∙ sym (kept_all d p (part first n xs) n size)
      ∙ ap (λ z. reverse (window d z)) (so_far_put (part first n xs) p (from_on xs first) n (omega (arith, size)) at)

  tap_run : (t : ℕ) → t < n → get_or (passed (reverse (window d p)) (part first n xs)) t (pos 0) ≡ ago (put (from_on xs first) (suc t) p) d
  tap_run t lt =
      get_or-take (length (part first n xs)) (reverse (window d p) ++ part first n xs) t (pos 0) (omega (arith, size))
      ∙ leaves_at d p (part first n xs) t (omega (arith, size))
      ∙ ap (λ z. ago z d) (so_far_put (part first n xs) p (from_on xs first) (suc t) (omega (arith, size)) at)

-- ---- all lines of a node
abbrev pub passed_run : (ℕ → List ℤ) → ℕ → ℕ → List (List ℤ) → List (List ℤ)
passed_run xs first zero ps = ps
passed_run xs first (suc j) ps = passed_then (xs (first + j)) (passed_run xs first j ps)

pub run_cons : (pool outs : List (List ℤ)) (w : Wire) (ws : List Wire) (first j : ℕ) (p : List ℤ) (ps : List (List ℤ))
    → passed_run (samples pool outs (w ∷ ws)) first j (p ∷ ps) ≡ put (from_on (source pool outs w) first) j p ∷ passed_run (samples pool outs ws) first j ps
run_cons pool outs w ws first zero p ps = refl
run_cons pool outs w ws first (suc j) p ps = ap (passed_then (samples pool outs (w ∷ ws) (first + j))) (run_cons pool outs w ws first j p ps)

abbrev CanReadAll : List (List ℤ) → List (List ℤ) → ℕ → List Wire → Type 0
CanReadAll pool outs n ws = (i : ℕ) (d : Wire) → i < length ws → CanRead pool outs n (get_or ws i d)

long : (pool outs : List (List ℤ)) (n : ℕ) (w : Wire) (ws : List Wire) → CanReadAll pool outs n (w ∷ ws) → n ≤ length (source pool outs w)
long pool outs n w ws can = can_len w.own pool outs w.buffer n (can 0 w (omega arith))

pub lines_run : (pool outs : List (List ℤ)) (first n : ℕ) (ws : List Wire) (ds : List ℕ) (ps : List (List ℤ)) → length ds ≡ length ws → length ps ≡ length ws
    → CanReadAll pool outs (first + n) ws
    → lines_after ws pool outs first n (map reverse (windows_on ds ps)) ≡ map reverse (windows_on ds (passed_run (samples pool outs ws) first n ps))
lines_run pool outs first n [] [] ps ld lp can = refl
lines_run pool outs first n [] (d ∷ ds) ps ld lp can = absurd (omega (arith, ld))
lines_run pool outs first n (w ∷ ws) [] ps ld lp can = absurd (omega (arith, ld))
lines_run pool outs first n (w ∷ ws) (d ∷ ds) [] ld lp can = absurd (omega (arith, lp))
lines_run pool outs first n (w ∷ ws) (d ∷ ds) (p ∷ ps) ld lp can =
    let rest = lines_run pool outs first n ws ds ps (omega (arith, ld)) (omega (arith, lp)) (λ i e lt. can (suc i) e (omega arith)) in
    ap (λ l. l ∷ lines_after ws pool outs first n (map reverse (windows_on ds ps))) (line_run d p (source pool outs w) first n (long pool outs (first + n) w ws can))
    ∙ ap (λ ls. reverse (window d (put (from_on (source pool outs w) first) n p)) ∷ ls) rest
    ∙ ap (λ qs. map reverse (windows_on (d ∷ ds) qs)) (sym (run_cons pool outs w ws first n p ps))

pub taps_run : (pool outs : List (List ℤ)) (first n t : ℕ) (ws : List Wire) (ds : List ℕ) (ps : List (List ℤ)) → t < n → length ds ≡ length ws → length ps ≡ length ws
    → CanReadAll pool outs (first + n) ws
    → taps_at ws pool outs first n (map reverse (windows_on ds ps)) t ≡ taps ds (passed_run (samples pool outs ws) first (suc t) ps)
taps_run pool outs first n t [] [] ps lt ld lp can = refl
taps_run pool outs first n t [] (d ∷ ds) ps lt ld lp can = absurd (omega (arith, ld))
taps_run pool outs first n t (w ∷ ws) [] ps lt ld lp can = absurd (omega (arith, ld))
taps_run pool outs first n t (w ∷ ws) (d ∷ ds) [] lt ld lp can = absurd (omega (arith, lp))
taps_run pool outs first n t (w ∷ ws) (d ∷ ds) (p ∷ ps) lt ld lp can =
    let rest = taps_run pool outs first n t ws ds ps lt (omega (arith, ld)) (omega (arith, lp)) (λ i e l. can (suc i) e (omega arith)) in
    ap (λ y. y ∷ taps_at ws pool outs first n (map reverse (windows_on ds ps)) t) (tap_run d p (source pool outs w) first n (long pool outs (first + n) w ws can) t lt)
    ∙ ap (λ ys. ago (put (from_on (source pool outs w) first) (suc t) p) d ∷ ys) rest
    ∙ ap (taps (d ∷ ds)) (sym (run_cons pool outs w ws first (suc t) p ps))

-- ---- one wire without delay
only_line : (ws : List Wire) (ls : List (List ℤ)) (pool outs : List (List ℤ)) (first n : ℕ) → length ws ≡ 1 → length ls ≡ length ws → get_or ls 0 [] ≡ []
    → ls ≡ lines_after ws pool outs first n ls
only_line [] ls pool outs first n one len at_once = absurd (omega (arith, one))
only_line (w ∷ v ∷ ws) ls pool outs first n one len at_once = absurd (omega (arith, one))
only_line (w ∷ []) [] pool outs first n one len at_once = absurd (omega (arith, len))
only_line (w ∷ []) (l ∷ m ∷ ls) pool outs first n one len at_once = absurd (omega (arith, len))
only_line (w ∷ []) (l ∷ []) pool outs first n one len at_once =
    ap (λ z. z ∷ []) (at_once ∙ sym (ap (λ z. kept z (part first n (source pool outs w))) at_once ∙ drop_all (length (part first n (source pool outs w))) (part first n (source pool outs w)) (omega arith)))

only_sum : (ws : List Wire) (ls : List (List ℤ)) (pool outs : List (List ℤ)) (first n : ℕ) (xs : List ℤ) (t : ℕ) → length ws ≡ 1 → length ls ≡ length ws → get_or ls 0 [] ≡ []
    → ((w : Wire) → xs ≡ part first n (source pool outs (get_or ws 0 w))) → ((w : Wire) → (get_or ws 0 w).channel ≡ 0) → t < length xs
    → get_or xs t (pos 0) ≡ sum_on 0 (channels_of ws) (taps_at ws pool outs first n ls t)
only_sum [] ls pool outs first n xs t one len at_once is on lt = absurd (omega (arith, one))
only_sum (w ∷ v ∷ ws) ls pool outs first n xs t one len at_once is on lt = absurd (omega (arith, one))
only_sum (w ∷ []) [] pool outs first n xs t one len at_once is on lt = absurd (omega (arith, len))
only_sum (w ∷ []) (l ∷ m ∷ ls) pool outs first n xs t one len at_once is on lt = absurd (omega (arith, len))
only_sum (w ∷ []) (l ∷ []) pool outs first n xs t one len at_once is on lt =
    let tap : get_or (passed l (part first n (source pool outs w))) t (pos 0) ≡ get_or xs t (pos 0)
    = (λ j. get_or (passed (at_once j) (sym (is w) j)) t (pos 0)) ∙ get_or-take (length xs) xs t (pos 0) lt in
    let yes : (w.channel == 0) ≡ true = eq-eqb w.channel 0 (on w) in
    sym (ap (λ z. z +ℤ pos 0) (cond-true (w.channel == 0) (get_or (passed l (part first n (source pool outs w))) t (pos 0)) (pos 0) yes ∙ tap) ∙ plus_zero (get_or xs t (pos 0)))
  where
    plus_zero : (x : ℤ) → x +ℤ pos 0 ≡ x
    plus_zero x = omega (arith, ints)

part_size : (ws : List Wire) (pool outs : List (List ℤ)) (first n : ℕ) (xs : List ℤ) → length ws ≡ 1 → ((w : Wire) → xs ≡ part first n (source pool outs (get_or ws 0 w))) → CanReadAll pool outs (first + n) ws → length xs ≡ n
part_size [] pool outs first n xs one e all = absurd (omega (arith, one))
part_size (w ∷ ws) pool outs first n xs one e all = ap length (e w) ∙ size 0 [] (source pool outs w) first n (long pool outs (first + n) w ws all)

pub alone_over : (ws ws' : List Wire) (ls ls' : List (List ℤ)) (ins : ℕ) (pool outs : List (List ℤ)) (first n : ℕ) (xs : List ℤ) → ws' ≡ ws → ls' ≡ ls
    → IsAlone ws' ls' ins pool outs first n xs → IsAlone ws ls ins pool outs first n xs
alone_over ws ws' ls ls' ins pool outs first n xs e f is = record {
  one = sym (ap length e) ∙ is.one;
  ins = is.ins;
  at_once = ap (λ z. get_or z 0 []) (sym f) ∙ is.at_once;
  samples = λ w. is.samples w ∙ ap (λ z. part first n (source pool outs (get_or z 0 w))) e;
}

-- ---- a run of the machine's steps
pub passed_of : (a : Player) (block : ℕ → Frame) (xs : ℕ → List ℤ) (first j : ℕ) (s : Kept) → (run_from a block xs first j s).passed ≡ passed_run xs first j s.passed
passed_of a block xs first zero s = refl
passed_of a block xs first (suc j) s = ap (passed_then (xs (first + j))) (passed_of a block xs first j s)

pub length-passed : (xs : List ℤ) (ls : List (List ℤ)) → length xs ≡ length ls → length (passed_then xs ls) ≡ length ls
length-passed [] [] e = refl
length-passed [] (l ∷ ls) e = absurd (omega (arith, e))
length-passed (x ∷ xs) [] e = absurd (omega (arith, e))
length-passed (x ∷ xs) (l ∷ ls) e = ap suc (length-passed xs ls (omega (arith, e)))

pub length-run : (pool outs : List (List ℤ)) (ws : List Wire) (first j : ℕ) (ps : List (List ℤ)) → length ps ≡ length ws → length (passed_run (samples pool outs ws) first j ps) ≡ length ws
length-run pool outs ws first zero ps e = e
length-run pool outs ws first (suc j) ps e =
    let r = length-run pool outs ws first j ps e in
    length-passed (samples pool outs ws (first + j)) (passed_run (samples pool outs ws) first j ps) (length-map ws (λ w. get_or (source pool outs w) (first + j) (pos 0)) ∙ sym r) ∙ r

-- the frames of a sub-block are those of the run
pub came_run : (a : Player) (block : ℕ → Frame) (xs : ℕ → List ℤ) (first count : ℕ) (frames : ℕ → Frame) (s : Kept)
    → ((t : ℕ) → t < count → frames t ≡ summed a.ins (channels_of a.wires.items) (delays_of a) (run_from a block xs first (suc t) s).passed)
    → (j : ℕ) → j ≤ count → brought a.server block first frames j ++ s.came ≡ (run_from a block xs first j s).came
came_run a block xs first count frames s same zero le = refl
came_run a block xs first count frames s same (suc j) le =
    let rest = came_run a block xs first count frames s same j (omega arith) in
    ap (λ f. taken_by a.server block (first + j) f ∷ (brought a.server block first frames j ++ s.came)) (same j (omega arith))
    ∙ ap (λ h. taken_by a.server block (first + j) (summed a.ins (channels_of a.wires.items) (delays_of a) (run_from a block xs first (suc j) s).passed) ∷ h) rest

-- two runs, one after the other
pub run_on : (a : Player) (block : ℕ → Frame) (xs : ℕ → List ℤ) (first j : ℕ) (s : Kept) → run_from a block xs 0 (first + j) s ≡ run_from a block xs first j (run_from a block xs 0 first s)
run_on a block xs first zero s = let e : first + 0 ≡ first = omega arith in ap (λ n. run_from a block xs 0 n s) e
run_on a block xs first (suc j) s =
    let e : first + suc j ≡ suc (first + j) = omega arith in
    let z : 0 + (first + j) ≡ first + j = omega arith in
    ap (λ n. run_from a block xs 0 n s) e
    ∙ ap (λ n. step_of a block n (run_from a block xs 0 (first + j) s) (xs n)) z
    ∙ ap (λ r. step_of a block (first + j) r (xs (first + j))) (run_on a block xs first j s)

-- ---- a turn
module _ (input : List ℤ) (channels : ℕ) (pool outs : List (List ℤ)) (first count : ℕ) (a : Player) (can : CanTake input channels pool outs first count a) where
  row : (d : ℕ) → d < a.ins → d * count + count ≤ a.ins * 64
  row d lt =
      let le = row_within d a.ins count lt in
      let wide : a.ins * count ≤ a.ins * 64 = mul-le-mul_left a.ins can.most in
      omega arith

  -- the planar frame is the sum of what came out of the lines
  pub sums_are : (sums : List ℤ) → length sums ≡ length a.sums.items
      → ((d t : ℕ) → IsSet (channels_of a.wires.items) a.silent.items d → d * count + count ≤ length a.sums.items → t < count → get_or sums (d * count + t) (pos 0) ≡ sum_on d (channels_of a.wires.items) (taps_at a.wires.items pool outs first count a.lines.items t))
      → (t : ℕ) → t < count → planar_frame a.ins count sums t ≡ gathered a pool outs first count t
  sums_are sums len summed_is t lt =
      map_range (λ d. get_or sums (d * count + t) (pos 0)) (λ d. sum_on d (channels_of a.wires.items) (taps_at a.wires.items pool outs first count a.lines.items t)) (pos 0) a.ins
      (λ d ld. summed_is d t (can.whole.rows d ld) (let le = row d ld in let w = can.whole.sums in omega arith) lt)

  -- also where they are all that comes in
  pub alone_are : (samples : List ℤ) → IsAlone a.wires.items a.lines.items a.ins pool outs first count samples
      → (t : ℕ) → t < count → planar_frame a.ins count samples t ≡ gathered a pool outs first count t
  alone_are samples is t lt =
      map_range (λ d. get_or samples (d * count + t) (pos 0)) (λ d. sum_on d (channels_of a.wires.items) (taps_at a.wires.items pool outs first count a.lines.items t)) (pos 0) a.ins
      (λ d ld.
      let none : d ≡ 0 = omega (arith, ld, is.ins) in
      subst (λ z. get_or samples (z * count + t) (pos 0) ≡ sum_on z (channels_of a.wires.items) (taps_at a.wires.items pool outs first count a.lines.items t)) (sym none)
      (let place : 0 * count + t ≡ t = omega arith in ap (λ z. get_or samples z (pos 0)) place
      ∙ only_sum a.wires.items a.lines.items pool outs first count samples t is.one can.whole.lines is.at_once is.samples
      (λ w. let l = can.whole.channels 0 w (omega (arith, is.one)) in let e = is.ins in omega arith)
      (omega (arith, lt, part_size a.wires.items pool outs first count samples is.one is.samples can.sources))))

  pub alone_room : (samples : List ℤ) → IsAlone a.wires.items a.lines.items a.ins pool outs first count samples → a.ins * count ≤ length samples
  alone_room samples is =
      let one : a.ins * count ≡ 1 * count = ap (λ m. m * count) is.ins in
      omega (arith, one, part_size a.wires.items pool outs first count samples is.one is.samples can.sources)

  pub lines_stay : (samples : List ℤ) → IsAlone a.wires.items a.lines.items a.ins pool outs first count samples → a.lines.items ≡ lines_after a.wires.items pool outs first count a.lines.items
  lines_stay samples is = only_line a.wires.items a.lines.items pool outs first count is.one can.whole.lines is.at_once

  pub within : (frames : List ℤ) → ((t : ℕ) → t < count → planar_frame a.ins count frames t ≡ gathered a pool outs first count t)
      → (t : ℕ) → t < count → IsWithinServer a.server (planar_frame a.ins count frames t)
  within frames same t lt = subst (IsWithinServer a.server) (sym (same t lt)) (can.within t lt)

  -- what a server says of planar frames, said of the sums
  pub has_taken : (frames : List ℤ) → ((t : ℕ) → t < count → planar_frame a.ins count frames t ≡ gathered a pool outs first count t) → (b : Player)
      → b.wires.items ≡ a.wires.items → b.lines.items ≡ lines_after a.wires.items pool outs first count a.lines.items → b.ins ≡ a.ins → b.outs ≡ a.outs → SameServer a.server b.server
      → ((h : History) → ServerHolds a.server h → ServerHolds b.server (brought a.server (frame_in channels input) first (planar_frame a.ins count frames) count ++ h))
      → ((h : History) (c t : ℕ) → ServerHolds a.server h → c < a.outs → t < count → get_or b.told.items (c * count + t) (pos 0) ≡ get_or (given_by a.server (brought a.server (frame_in channels input) first (planar_frame a.ins count frames) (suc t) ++ h)) c (pos 0))
      → HasTaken (frame_in channels input) pool outs first count a b
  has_taken frames same b wires lines ins outs_same server holds told =
      record {
        wires = wires;
        lines = lines;
        ins = ins;
        outs_stay = outs_same;
        server = server;
        holds = λ h at. subst (λ (z : History). ServerHolds b.server (z ++ h)) (upto count (omega arith)) (holds h at);
        told = λ h c t at lc lt. told h c t at lc lt ∙ ap (λ (z : History). get_or (given_by a.server (z ++ h)) c (pos 0)) (upto (suc t) (omega arith));
      }
    where
      upto : (n : ℕ) → n ≤ count → brought a.server (frame_in channels input) first (planar_frame a.ins count frames) n ≡ brought a.server (frame_in channels input) first (gathered a pool outs first count) n
      upto n le =
          before-same (λ t. taken_by a.server (frame_in channels input) (first + t) (planar_frame a.ins count frames t)) (λ t. taken_by a.server (frame_in channels input) (first + t) (gathered a pool outs first count t)) n
          (λ t lt. ap (taken_by a.server (frame_in channels input) (first + t)) (same t (omega arith)))

  module _ (s : Kept) (holds : Holds a s) where
    delays_len : length (delays_of a) ≡ length a.wires.items
    delays_len = length-map a.lines.items (λ l. length l) ∙ can.whole.lines

    taps_are : (t : ℕ) → t < count → taps_at a.wires.items pool outs first count a.lines.items t ≡ taps (delays_of a) (run_from a (frame_in channels input) (samples pool outs a.wires.items) first (suc t) s).passed
    taps_are t lt =
        ap (λ ls. taps_at a.wires.items pool outs first count ls t) holds.lines
        ∙ taps_run pool outs first count t a.wires.items (delays_of a) s.passed lt delays_len holds.passed can.sources
        ∙ ap (taps (delays_of a)) (sym (passed_of a (frame_in channels input) (samples pool outs a.wires.items) first (suc t) s))

    frames_are : (t : ℕ) → t < count → gathered a pool outs first count t ≡ summed a.ins (channels_of a.wires.items) (delays_of a) (run_from a (frame_in channels input) (samples pool outs a.wires.items) first (suc t) s).passed
    frames_are t lt = ap (λ ys. map (λ d. sum_on d (channels_of a.wires.items) ys) (range_with_len 0 a.ins)) (taps_are t lt)

    pub came_is : (j : ℕ) → j ≤ count → brought a.server (frame_in channels input) first (gathered a pool outs first count) j ++ s.came ≡ (run_from a (frame_in channels input) (samples pool outs a.wires.items) first j s).came
    came_is j le = came_run a (frame_in channels input) (samples pool outs a.wires.items) first count (gathered a pool outs first count) s frames_are j le

    lines_are : lines_after a.wires.items pool outs first count a.lines.items ≡ map reverse (windows_on (delays_of a) (run_from a (frame_in channels input) (samples pool outs a.wires.items) first count s).passed)
    lines_are =
        ap (λ ls. lines_after a.wires.items pool outs first count ls) holds.lines
        ∙ lines_run pool outs first count a.wires.items (delays_of a) s.passed delays_len holds.passed can.sources
        ∙ ap (λ ps. map reverse (windows_on (delays_of a) ps)) (sym (passed_of a (frame_in channels input) (samples pool outs a.wires.items) first count s))

    passed_len : length (run_from a (frame_in channels input) (samples pool outs a.wires.items) first count s).passed ≡ length a.wires.items
    passed_len = ap length (passed_of a (frame_in channels input) (samples pool outs a.wires.items) first count s) ∙ length-run pool outs a.wires.items first count s.passed holds.passed

    -- after the turn
    pub holds_then : (b : Player) → HasTaken (frame_in channels input) pool outs first count a b → delays_of b ≡ delays_of a
        → Holds b (run_from a (frame_in channels input) (samples pool outs a.wires.items) first count s)
    holds_then b taken delays = record {
      lines = taken.lines ∙ lines_are ∙ ap (λ ds. map reverse (windows_on ds (run_from a (frame_in channels input) (samples pool outs a.wires.items) first count s).passed)) (sym delays);
      passed = passed_len ∙ sym (ap length taken.wires);
      kernel = subst (ServerHolds b.server) (came_is count (omega arith)) (taken.holds s.came holds.kernel);
    }

pub delays_stay : (ws : List Wire) (pool outs : List (List ℤ)) (first n : ℕ) (ls : List (List ℤ)) → length ls ≡ length ws
    → lengths_of (lines_after ws pool outs first n ls) ≡ lengths_of ls
delays_stay [] pool outs first n [] e = refl
delays_stay [] pool outs first n (l ∷ ls) e = absurd (omega (arith, e))
delays_stay (w ∷ ws) pool outs first n [] e = absurd (omega (arith, e))
delays_stay (w ∷ ws) pool outs first n (l ∷ ls) e =
    ap (λ k. k ∷ lengths_of (lines_after ws pool outs first n ls)) (length-kept l (part first n (source pool outs w)))
    ∙ ap (λ ks. length l ∷ ks) (delays_stay ws pool outs first n ls (omega (arith, e)))

pub has_turned : (input : List ℤ) (channels : ℕ) (pool : List (List ℤ)) (homes : List Home) (outs : List (List ℤ)) (first count : ℕ) (a : Player)
    → CanTurn input channels pool homes outs first count a → (b : Player) (outs' : List (List ℤ)) → HasTaken (frame_in channels input) pool outs first count a b
    → ((o t : ℕ) (d : Home) → o < length homes → t < count → get_or (get_or outs' o []) (first + t) (pos 0) ≡ get_or b.told.items ((get_or homes o d).channel * count + t) (pos 0))
    → ((o j : ℕ) → (j < first) ⊎ (first + count ≤ j) → get_or (get_or outs' o []) j (pos 0) ≡ get_or (get_or outs o []) j (pos 0))
    → ((o : ℕ) → length (get_or outs' o []) ≡ length (get_or outs o []))
    → HasPlayed (frame_in channels input) pool homes first count outs a outs' b
has_turned input channels pool homes outs first count a can b outs' taken wrote rest lengths =
    let delays : delays_of b ≡ delays_of a = ap lengths_of taken.lines ∙ delays_stay a.wires.items pool outs first count a.lines.items can.take.whole.lines in
    record {
      same = record { wires = taken.wires; delays = delays; ins = taken.ins; outs = taken.outs_stay; server = taken.server };
      holds = λ s h. holds_then input channels pool outs first count a can.take s h b taken delays;
      written = λ s o t d h lo lt.
          wrote o t d lo lt
          ∙ taken.told s.came (get_or homes o d).channel t h.kernel (can.values o d lo) lt
          ∙ ap (λ z. get_or (given_by a.server z) (get_or homes o d).channel (pos 0)) (came_is input channels pool outs first count a can.take s h (suc t) (omega arith));
      rest = rest;
      lengths = lengths;
    }

-- ---- turn after turn
same_taken : (a b : Server) → SameServer a b → (block : ℕ → Frame) (k : ℕ) (f : Frame) → taken_by b block k f ≡ taken_by a block k f
same_taken Entry Entry s block k f = refl
same_taken Entry (Exit x) s block k f = absurd s
same_taken Entry (Between q) s block k f = absurd s
same_taken (Exit x) Entry s block k f = absurd s
same_taken (Exit x) (Exit y) s block k f = refl
same_taken (Exit x) (Between q) s block k f = absurd s
same_taken (Between p) Entry s block k f = absurd s
same_taken (Between p) (Exit x) s block k f = absurd s
same_taken (Between p) (Between q) s block k f = refl

same_given : (a b : Server) → SameServer a b → (h : History) → given_by b h ≡ given_by a h
same_given Entry Entry s h = refl
same_given Entry (Exit x) s h = absurd s
same_given Entry (Between q) s h = absurd s
same_given (Exit x) Entry s h = absurd s
same_given (Exit x) (Exit y) s h = refl
same_given (Exit x) (Between q) s h = absurd s
same_given (Between p) Entry s h = absurd s
same_given (Between p) (Exit x) s h = absurd s
same_given (Between p) (Between q) s h = ap (λ k. rule_of k h) s.0

pub same_twice : (a b c : Server) → SameServer a b → SameServer b c → SameServer a c
same_twice Entry Entry Entry s t = tt
same_twice (Exit x) (Exit y) (Exit z) s t = (t.0 ∙ s.0, t.1 ∙ s.1)
same_twice (Between p) (Between q) (Between r) s t = (t.0 ∙ s.0, t.1 ∙ s.1)
same_twice Entry Entry (Exit x) s t = absurd t
same_twice Entry Entry (Between r) s t = absurd t
same_twice Entry (Exit x) c s t = absurd s
same_twice Entry (Between q) c s t = absurd s
same_twice (Exit x) Entry c s t = absurd s
same_twice (Exit x) (Exit y) Entry s t = absurd t
same_twice (Exit x) (Exit y) (Between r) s t = absurd t
same_twice (Exit x) (Between q) c s t = absurd s
same_twice (Between p) Entry c s t = absurd s
same_twice (Between p) (Exit x) c s t = absurd s
same_twice (Between p) (Between q) Entry s t = absurd t
same_twice (Between p) (Between q) (Exit x) s t = absurd t

step_same : (a b : Player) → IsOfSame a b → (block : ℕ → Frame) (k : ℕ) (s : Kept) (xs : List ℤ) → step_of b block k s xs ≡ step_of a block k s xs
step_same a b same block k s xs =
    let ls = passed_then xs s.passed in
    let f : summed b.ins (channels_of b.wires.items) (delays_of b) (passed_then xs s.passed) ≡ summed a.ins (channels_of a.wires.items) (delays_of a) (passed_then xs s.passed) =
    ap (λ n. summed n (channels_of b.wires.items) (delays_of b) (passed_then xs s.passed)) same.ins
    ∙ ap (λ ws. summed a.ins (channels_of ws) (delays_of b) (passed_then xs s.passed)) same.wires
    ∙ ap (λ ds. summed a.ins (channels_of a.wires.items) ds (passed_then xs s.passed)) same.delays in
    let t = same_taken a.server b.server same.server block k (summed b.ins (channels_of b.wires.items) (delays_of b) (passed_then xs s.passed)) ∙ ap (taken_by a.server block k) f in
    ap (λ z. record { came = z ∷ s.came; passed = passed_then xs s.passed }) t

pub run_same : (a b : Player) → IsOfSame a b → (block : ℕ → Frame) (xs ys : ℕ → List ℤ) (first n : ℕ) (s : Kept) → ((j : ℕ) → j < n → xs (first + j) ≡ ys (first + j))
    → run_from b block xs first n s ≡ run_from a block ys first n s
run_same a b same block xs ys first zero s e = refl
run_same a b same block xs ys first (suc j) s e =
    step_same a b same block (first + j) (run_from b block xs first j s) (xs (first + j))
    ∙ ap (λ r. step_of a block (first + j) r (xs (first + j))) (run_same a b same block xs ys first j s (λ i lt. e i (omega arith)))
    ∙ ap (λ z. step_of a block (first + j) (run_from a block ys first j s) z) (e j (omega arith))

-- what gather says of slices, said of the lists behind them
pub over_sums : (pool outs : List (List ℤ)) (first count : ℕ) (sums : List ℤ) (ws ws' : List Wire) (silent silent' : List ℕ) (ls ls' : List (List ℤ)) (m m' : ℕ) → ws' ≡ ws → silent' ≡ silent → ls' ≡ ls → m' ≡ m
    → ((d t : ℕ) → IsSet (channels_of ws') silent' d → d * count + count ≤ m' → t < count → get_or sums (d * count + t) (pos 0) ≡ sum_on d (channels_of ws') (taps_at ws' pool outs first count ls' t))
    → (d t : ℕ) → IsSet (channels_of ws) silent d → d * count + count ≤ m → t < count → get_or sums (d * count + t) (pos 0) ≡ sum_on d (channels_of ws) (taps_at ws pool outs first count ls t)
over_sums pool outs first count sums ws ws' silent silent' ls ls' m m' e s f g h d t set le lt =
    h d t (subst (λ z. IsSet (channels_of z) silent' d) (sym e) (subst (λ z. IsSet (channels_of ws) z d) (sym s) set)) (subst (λ k. d * count + count ≤ k) (sym g) le) lt
    ∙ (λ i. sum_on d (channels_of (e i)) (taps_at (e i) pool outs first count (f i) t))

pub over_lines : (pool outs : List (List ℤ)) (first count : ℕ) (new : List (List ℤ)) (ws ws' : List Wire) (ls ls' : List (List ℤ)) → ws' ≡ ws → ls' ≡ ls
    → new ≡ lines_after ws' pool outs first count ls' → new ≡ lines_after ws pool outs first count ls
over_lines pool outs first count new ws ws' ls ls' e f h = h ∙ (λ i. lines_after (e i) pool outs first count (f i))

pub over_told : (sv : Server) (block : ℕ → Frame) (frames : ℕ → Frame) (first count outs : ℕ) (told told' : List ℤ) → told' ≡ told
    → ((h : History) (c t : ℕ) → ServerHolds sv h → c < outs → t < count → get_or told (c * count + t) (pos 0) ≡ get_or (given_by sv (brought sv block first frames (suc t) ++ h)) c (pos 0))
    → (h : History) (c t : ℕ) → ServerHolds sv h → c < outs → t < count → get_or told' (c * count + t) (pos 0) ≡ get_or (given_by sv (brought sv block first frames (suc t) ++ h)) c (pos 0)
over_told sv block frames first count outs told told' e f h c t at lc lt = ap (λ z. get_or z (c * count + t) (pos 0)) e ∙ f h c t at lc lt

pub over_scatter : (homes : List Home) (outs' : List (List ℤ)) (first count : ℕ) (told told' : List ℤ) → told' ≡ told
    → ((o t : ℕ) (d : Home) → o < length homes → t < count → get_or (get_or outs' o []) (first + t) (pos 0) ≡ get_or told' ((get_or homes o d).channel * count + t) (pos 0))
    → (o t : ℕ) (d : Home) → o < length homes → t < count → get_or (get_or outs' o []) (first + t) (pos 0) ≡ get_or told ((get_or homes o d).channel * count + t) (pos 0)
over_scatter homes outs' first count told told' e h o t d lo lt = h o t d lo lt ∙ ap (λ z. get_or z ((get_or homes o d).channel * count + t) (pos 0)) e

pub itself : (s : Server) → SameServer s s
itself Entry = tt
itself (Exit x) = (refl, refl)
itself (Between p) = (refl, refl)

-- ---- the loop of a block
pub record Playing (input : List ℤ) (channels : ℕ) (pool : List (List ℤ)) (homes : List Home) (n first : ℕ) (outs : List (List ℤ)) (a : Player) (outs' : List (List ℤ)) (b : Player) : Type 0 where
  pub within : first ≤ n
  pub whole : IsWhole b
  pub len : length outs' ≡ length outs
  pub played : HasPlayed (frame_in channels input) pool homes 0 first outs a outs' b

pub playing_none : (input : List ℤ) (channels : ℕ) (pool : List (List ℤ)) (homes : List Home) (n : ℕ) (outs : List (List ℤ)) (a : Player) → IsWhole a
    → Playing input channels pool homes n 0 outs a outs a
playing_none input channels pool homes n outs a whole = record {
  within = omega arith;
  whole = whole;
  len = refl;
  played = record {
    same = record { wires = refl; delays = refl; ins = refl; outs = refl; server = itself a.server };
    holds = λ s h. h;
    written = λ s o t d h lo lt. absurd (omega arith);
    rest = λ o j out. refl;
    lengths = λ o. refl;
  };
}

own_same : (own : Option ℕ) (shared : List ℤ) (o q : List (List ℤ)) (k : ℕ) → ((i : ℕ) → get_or (get_or o i []) k (pos 0) ≡ get_or (get_or q i []) k (pos 0))
    → get_or (own_or own shared o) k (pos 0) ≡ get_or (own_or own shared q) k (pos 0)
own_same None shared o q k h = refl
own_same (Some i) shared o q k h = h i

-- in place: own sample k is not yet written when it is read
samples_same : (pool o q : List (List ℤ)) (k : ℕ) (ws : List Wire) → ((i : ℕ) → get_or (get_or o i []) k (pos 0) ≡ get_or (get_or q i []) k (pos 0)) → samples pool o ws k ≡ samples pool q ws k
samples_same pool o q k [] h = refl
samples_same pool o q k (w ∷ ws) h =
    ap (λ x. x ∷ samples pool o ws k) (own_same w.own (get_or pool w.buffer []) o q k h)
    ∙ ap (λ xs. get_or (source pool q w) k (pos 0) ∷ xs) (samples_same pool o q k ws h)

can_same : (own : Option ℕ) (pool o q : List (List ℤ)) (b m n : ℕ) → m ≤ n → length o ≡ length q → ((i : ℕ) → length (get_or o i []) ≡ length (get_or q i [])) → CanReadOwn own pool q b n → CanReadOwn own pool o b m
can_same None pool o q b m n le e f h = (h.0, let l = h.1 in omega arith)
can_same (Some i) pool o q b m n le e f h = (subst (λ z. i < z) (sym e) h.0, let l = h.1 in let z = f i in omega arith)

within_same : (a b : Server) → SameServer a b → (f : Frame) → IsWithinServer a f → IsWithinServer b f
within_same Entry Entry s f h = tt
within_same Entry (Exit x) s f h = absurd s
within_same Entry (Between q) s f h = absurd s
within_same (Exit x) Entry s f h = absurd s
within_same (Exit x) (Exit y) s f h = tt
within_same (Exit x) (Between q) s f h = absurd s
within_same (Between p) Entry s f h = absurd s
within_same (Between p) (Exit x) s f h = absurd s
within_same (Between p) (Between q) s f h = subst (λ z. IsFrameWithin z.ins f) (sym s.1) h

pub taps_now : (pool : List (List ℤ)) (b : Player) (outs : List (List ℤ)) (first n t : ℕ) → IsWhole b → CanReadAll pool outs (first + n) b.wires.items → t < n → (block : ℕ → Frame) (s : Kept) → Holds b s
    → taps_at b.wires.items pool outs first n b.lines.items t ≡ taps (delays_of b) (run_from b block (samples pool outs b.wires.items) first (suc t) s).passed
taps_now pool b outs first n t whole can lt block s h =
    ap (λ ls. taps_at b.wires.items pool outs first n ls t) h.lines
    ∙ taps_run pool outs first n t b.wires.items (delays_of b) s.passed lt (length-map b.lines.items (λ l. length l) ∙ whole.lines) h.passed can
    ∙ ap (taps (delays_of b)) (sym (passed_of b block (samples pool outs b.wires.items) first (suc t) s))

module _ (input : List ℤ) (channels : ℕ) (pool : List (List ℤ)) (homes : List Home) (n first : ℕ) (outs : List (List ℤ)) (a : Player) (outs' : List (List ℤ)) (b : Player)
    (can : CanPlay input channels pool homes outs n a) (p : Playing input channels pool homes n first outs a outs' b) where
  -- what is read from here on is as at the start
  same_reads : (j : ℕ) → samples pool outs' b.wires.items (first + j) ≡ samples pool outs a.wires.items (first + j)
  same_reads j =
      ap (λ ws. samples pool outs' ws (first + j)) p.played.same.wires
      ∙ samples_same pool outs' outs (first + j) a.wires.items (λ o. p.played.rest o (first + j) (inr (omega arith)))

  -- a run of the node as it is now goes on with the run from the start
  pub goes_on : (j : ℕ) (s : Kept) → run_from b (frame_in channels input) (samples pool outs' b.wires.items) first j (run_from a (frame_in channels input) (samples pool outs a.wires.items) 0 first s)
      ≡ run_from a (frame_in channels input) (samples pool outs a.wires.items) 0 (first + j) s
  goes_on j s =
      run_same a b p.played.same (frame_in channels input) (samples pool outs' b.wires.items) (samples pool outs a.wires.items) first j (run_from a (frame_in channels input) (samples pool outs a.wires.items) 0 first s) (λ i lt. same_reads i)
      ∙ sym (run_on a (frame_in channels input) (samples pool outs a.wires.items) first j s)

  pub can_turn : (count : ℕ) → count ≤ 64 → first + count ≤ n → CanTurn input channels pool homes outs' first count b
  can_turn count most le =
      let s = run_from a (frame_in channels input) (samples pool outs a.wires.items) 0 first can.state in
      let h : Holds b (run_from a (frame_in channels input) (samples pool outs a.wires.items) 0 first can.state) = p.played.holds can.state can.holds in
      let sources : CanReadAll pool outs' (first + count) b.wires.items
      = λ i d lt. subst (λ ws. CanRead pool outs' (first + count) (get_or ws i d)) (sym p.played.same.wires)
      (can_same (get_or a.wires.items i d).own pool outs' outs (get_or a.wires.items i d).buffer (first + count) n le p.len p.played.lengths (can.sources i d (subst (λ ws. i < length ws) p.played.same.wires lt))) in
      let taps_then : (t : ℕ) → t < count → taps_at b.wires.items pool outs' first count b.lines.items t ≡ taps (delays_of a) (run_from a (frame_in channels input) (samples pool outs a.wires.items) 0 (suc (first + t)) can.state).passed =
      λ t lt. taps_now pool b outs' first count t p.whole sources lt (frame_in channels input) (run_from a (frame_in channels input) (samples pool outs a.wires.items) 0 first can.state) h
      ∙ ap (λ ds. taps ds (run_from b (frame_in channels input) (samples pool outs' b.wires.items) first (suc t) (run_from a (frame_in channels input) (samples pool outs a.wires.items) 0 first can.state)).passed) p.played.same.delays
      ∙ ap (λ (z : Kept). taps (delays_of a) z.passed) (goes_on (suc t) can.state)
      ∙ (let e : first + suc t ≡ suc (first + t) = omega arith in ap (λ k. taps (delays_of a) (run_from a (frame_in channels input) (samples pool outs a.wires.items) 0 k can.state).passed) e) in
      record {
        take = record {
          whole = p.whole;
          most = most;
          size = let z = can.size in omega arith;
          sources = sources;
          fit = λ t lt.
              subst (λ ys. SumsFit (channels_of b.wires.items) ys) (sym (taps_then t lt))
              (subst (λ ws. SumsFit (channels_of ws) (taps (delays_of a) (run_from a (frame_in channels input) (samples pool outs a.wires.items) 0 (suc (first + t)) can.state).passed)) (sym p.played.same.wires)
              (can.fit (first + t) (omega arith)));
          within = λ t lt.
              subst (λ ys. IsWithinServer b.server (map (λ d. sum_on d (channels_of b.wires.items) ys) (range_with_len 0 b.ins))) (sym (taps_then t lt))
              (subst (λ ws. IsWithinServer b.server (map (λ d. sum_on d (channels_of ws) (taps (delays_of a) (run_from a (frame_in channels input) (samples pool outs a.wires.items) 0 (suc (first + t)) can.state).passed)) (range_with_len 0 b.ins))) (sym p.played.same.wires)
              (subst (λ k. IsWithinServer b.server (map (λ d. sum_on d (channels_of a.wires.items) (taps (delays_of a) (run_from a (frame_in channels input) (samples pool outs a.wires.items) 0 (suc (first + t)) can.state).passed)) (range_with_len 0 k))) (sym p.played.same.ins)
              (within_same a.server b.server p.played.same.server _ (can.within (first + t) (omega arith)))));
          entry = let l = can.entry in let m : (first + count) * channels ≤ n * channels = mul-le-mul_right channels le in omega arith;
        };
        homes_len = can.homes_len ∙ sym p.len;
        values = λ o d lt. subst (λ k. (get_or homes o d).channel < k) (sym p.played.same.outs) (can.values o d lt);
        room = λ o lt. let l = can.room o (subst (λ k. o < k) p.len lt) in let z = p.played.lengths o in omega arith;
      }

  pub playing_more : (count : ℕ) (outs'' : List (List ℤ)) (c : Player) → first + count ≤ n → IsWhole c → length outs'' ≡ length outs' → HasPlayed (frame_in channels input) pool homes first count outs' b outs'' c
      → Playing input channels pool homes n (first + count) outs a outs'' c
  playing_more count outs'' c le whole len q = record {
    within = le;
    whole = whole;
    len = len ∙ p.len;
    played = record {
      same = record {
        wires = q.same.wires ∙ p.played.same.wires;
        delays = q.same.delays ∙ p.played.same.delays;
        ins = q.same.ins ∙ p.played.same.ins;
        outs = q.same.outs ∙ p.played.same.outs;
        server = same_twice a.server b.server c.server p.played.same.server q.same.server;
      };
      holds = λ s h. subst (Holds c) (goes_on count s) (q.holds (run_from a (frame_in channels input) (samples pool outs a.wires.items) 0 first s) (p.played.holds s h));
      written = λ s o t d h lo lt.
          ⊎_elim
          (λ before. q.rest o (0 + t) (inl (omega arith)) ∙ p.played.written s o t d h lo before)
          (λ after.
          let at : first + (t - first) ≡ 0 + t = omega arith in
          let e : first + suc (t - first) ≡ suc t = omega arith in
          ap (λ k. get_or (get_or outs'' o []) k (pos 0)) (sym at)
          ∙ q.written (run_from a (frame_in channels input) (samples pool outs a.wires.items) 0 first s) o (t - first) d (p.played.holds s h) lo (omega arith)
          ∙ ap (λ (z : Kept). get_or (given_by b.server z.came) (get_or homes o d).channel (pos 0)) (goes_on (suc (t - first)) s)
          ∙ ap (λ k. get_or (given_by b.server (run_from a (frame_in channels input) (samples pool outs a.wires.items) 0 k s).came) (get_or homes o d).channel (pos 0)) e
          ∙ ap (λ f. get_or f (get_or homes o d).channel (pos 0)) (same_given a.server b.server p.played.same.server (run_from a (frame_in channels input) (samples pool outs a.wires.items) 0 (suc t) s).came))
          (cases_lt t first);
      rest = λ o j out. q.rest o j (⊎_elim (λ l. absurd (omega arith)) (λ l. inr (omega arith)) out) ∙ p.played.rest o j (⊎_elim (λ l. absurd (omega arith)) (λ l. inr (omega arith)) out);
      lengths = λ o. q.lengths o ∙ p.played.lengths o;
    };
  }
