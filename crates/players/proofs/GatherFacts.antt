-- What comes into a node in a sub-block.
use Rattle.std.proofs.Common.{◌≡◌, ℕ, ◌+◌, ◌-◌, ◌*◌, ◌<◌, ◌≤◌, zero, suc, cond, Bool, true, false, ℤ, pos, List, [], ◌∷◌, length, take, drop, replicate, get_or, set, refl, sym, ◌∙◌, ap, subst, arith, add-one, inl, inr, ⊎_elim, ◌==◌, ◌||◌, not, Option, Some, None}
use Rattle.std.specs.Prelude.{◌⊎◌, ◌+ℤ◌}
use Rattle.std.specs.List.{Contains}
use Rattle.std.proofs.lemmas.List.{ext_get_or, get_or-set_same, get_or-set_other, length-set, get_or-replicate, length-replicate, get_or-map, length-map, length-take, take_all}
use Rattle.std.proofs.lemmas.Bool.{cases_eq, eq-eqb, ne_eqb, cond-true, cond-false}
use Rattle.std.proofs.lemmas.Int.{ints}
use borrow.Rule.Slice.PartMut.{put_mid}
use Rattle.delay_lines.specs.Lines.{kept, passed}
use Rattle.engine_model.specs.Machines.{sum_on}
use Rattle.players.specs.Reads.{CanRead, CanReadOwn, own_or, source, part, taps_at, lines_after, channels_of, is_fed, IsSet, KnowFirst, begun}
use Rattle.players.specs.declared.gathering.Wire.{Wire}
use Rattle.players.proofs.PartFacts.{put_at, put_rest, row_apart, slice_len}

-- ---- rows of zeros
pub zero_row : (sums : List ℤ) (d c count t : ℕ) → c * count + count ≤ length sums → t < count → (d ≡ c → ⊥) → (ys : List ℤ) → length ys ≡ c * count + count - c * count
    → get_or (put_mid (c * count) (c * count + count - c * count) sums ys) (d * count + t) (pos 0) ≡ get_or sums (d * count + t) (pos 0)
zero_row sums d c count t le lt ne ys ly =
    put_rest (c * count) (c * count + count - c * count) sums ys (d * count + t) (pos 0) ly
    (⊎_elim (λ l. inl l) (λ l. inr (omega arith)) (row_apart d c count t lt ne)) (omega arith)

pub zeros_more : (sums zs : List ℤ) (count t d c m : ℕ) → c * count + count ≤ length sums → t < count → m ≡ c * count + count - c * count → zs ≡ replicate m (pos 0)
    → ((d ≡ c → ⊥) → get_or sums (d * count + t) (pos 0) ≡ pos 0)
    → get_or (put_mid (c * count) (c * count + count - c * count) sums zs) (d * count + t) (pos 0) ≡ pos 0
zeros_more sums zs count t d c m le lt size zeros rest =
    let ly : length zs ≡ c * count + count - c * count = ap length zeros ∙ length-replicate m (pos 0) ∙ size in
    elim (cases_eq d c) [
      | inl at ↦
          ap (λ e. get_or (put_mid (c * count) (c * count + count - c * count) sums zs) (e * count + t) (pos 0)) at
          ∙ put_at (c * count) (c * count + count - c * count) sums zs t (pos 0) (omega (arith, ly)) (omega arith)
          ∙ ap (λ z. get_or z t (pos 0)) zeros ∙ get_or-replicate m t (pos 0) (pos 0) (omega arith)
      | inr ne ↦ zero_row sums d c count t le lt ne zs ly ∙ rest ne
    ]

-- ---- samples of a buffer
pub part_is : (first n : ℕ) (xs ys : List ℤ) → xs ≡ ys → take (first + n - first) (drop first xs) ≡ part first n ys
part_is first n xs ys e = let m : first + n - first ≡ n = omega arith in λ j. take (m j) (drop first (e j))

pub part_len : (first n : ℕ) (xs : List ℤ) → length (take (first + n - first) (drop first xs)) ≤ n
part_len first n xs = omega (arith, length-take (first + n - first) (drop first xs))

-- ---- wires
pub can_len : (own : Option ℕ) (pool outs : List (List ℤ)) (b n : ℕ) → CanReadOwn own pool outs b n → n ≤ length (own_or own (get_or pool b []) outs)
can_len None pool outs b n can = can.1
can_len (Some i) pool outs b n can = can.1

pub samples_len : (first n : ℕ) (xs : List ℤ) (pool outs : List (List ℤ)) (w : Wire) → xs ≡ source pool outs w → CanRead pool outs (first + n) w
    → length (take (first + n - first) (drop first xs)) ≡ n
samples_len first n xs pool outs w e can =
    let many : first + n ≤ length (source pool outs w) = can_len w.own pool outs w.buffer (first + n) can in
    slice_len first (first + n) xs (omega (arith, ap length e)) ∙ omega arith

at_tap : (ws : List Wire) (pool outs : List (List ℤ)) (first n : ℕ) (ls : List (List ℤ)) (t i : ℕ) (w : Wire) → length ls ≡ length ws → i < length ws
    → get_or (taps_at ws pool outs first n ls t) i (pos 0) ≡ get_or (passed (get_or ls i []) (part first n (source pool outs (get_or ws i w)))) t (pos 0)
at_tap [] pool outs first n ls t i w len lt = absurd (omega arith)
at_tap (v ∷ ws) pool outs first n [] t i w len lt = absurd (omega (arith, len))
at_tap (v ∷ ws) pool outs first n (l ∷ ls) t zero w len lt = refl
at_tap (v ∷ ws) pool outs first n (l ∷ ls) t (suc i) w len lt = at_tap ws pool outs first n ls t i w (omega (arith, len)) (omega arith)

at_line : (ws : List Wire) (pool outs : List (List ℤ)) (first n : ℕ) (ls : List (List ℤ)) (i : ℕ) (w : Wire) → length ls ≡ length ws → i < length ws
    → get_or (lines_after ws pool outs first n ls) i [] ≡ kept (get_or ls i []) (part first n (source pool outs (get_or ws i w)))
at_line [] pool outs first n ls i w len lt = absurd (omega arith)
at_line (v ∷ ws) pool outs first n [] i w len lt = absurd (omega (arith, len))
at_line (v ∷ ws) pool outs first n (l ∷ ls) zero w len lt = refl
at_line (v ∷ ws) pool outs first n (l ∷ ls) (suc i) w len lt = at_line ws pool outs first n ls i w (omega (arith, len)) (omega arith)

pub length-taps : (ws : List Wire) (pool outs : List (List ℤ)) (first n : ℕ) (ls : List (List ℤ)) (t : ℕ) → length ls ≡ length ws → length (taps_at ws pool outs first n ls t) ≡ length ws
length-taps [] pool outs first n ls t len = refl
length-taps (v ∷ ws) pool outs first n [] t len = absurd (omega (arith, len))
length-taps (v ∷ ws) pool outs first n (l ∷ ls) t len = ap suc (length-taps ws pool outs first n ls t (omega (arith, len)))

pub length-lines : (ws : List Wire) (pool outs : List (List ℤ)) (first n : ℕ) (ls : List (List ℤ)) → length ls ≡ length ws → length (lines_after ws pool outs first n ls) ≡ length ws
length-lines [] pool outs first n ls len = refl
length-lines (v ∷ ws) pool outs first n [] len = absurd (omega (arith, len))
length-lines (v ∷ ws) pool outs first n (l ∷ ls) len = ap suc (length-lines ws pool outs first n ls (omega (arith, len)))

channel_at : (ws : List Wire) (i : ℕ) (w : Wire) → i < length ws → get_or (channels_of ws) i 0 ≡ (get_or ws i w).channel
channel_at ws i w lt = get_or-map (λ (v : Wire). v.channel) ws i w 0 lt

length-channels : (ws : List Wire) → length (channels_of ws) ≡ length ws
length-channels ws = length-map ws (λ (v : Wire). v.channel)

-- ---- sums on a channel
-- one term more
sum_more : (d i : ℕ) (chs : List ℕ) (ys : List ℤ) → i < length chs → i < length ys
    → sum_on d (take (i + 1) chs) (take (i + 1) ys) ≡ sum_on d (take i chs) (take i ys) +ℤ cond (get_or chs i 0 == d) (get_or ys i (pos 0)) (pos 0)
sum_more d i chs ys lc ly = subst (λ k. sum_on d (take k chs) (take k ys) ≡ sum_on d (take i chs) (take i ys) +ℤ cond (get_or chs i 0 == d) (get_or ys i (pos 0)) (pos 0)) (sym (add-one i)) (go i chs ys lc ly)
  where
    go : (i : ℕ) (chs : List ℕ) (ys : List ℤ) → i < length chs → i < length ys
        → sum_on d (take (suc i) chs) (take (suc i) ys) ≡ sum_on d (take i chs) (take i ys) +ℤ cond (get_or chs i 0 == d) (get_or ys i (pos 0)) (pos 0)
    go i [] ys lc ly = absurd (omega arith)
    go i (c ∷ chs) [] lc ly = absurd (omega arith)
    go zero (c ∷ chs) (y ∷ ys) lc ly = omega (arith, ints)
    go (suc i) (c ∷ chs) (y ∷ ys) lc ly = let r = go i chs ys (omega arith) (omega arith) in omega (arith, ints)

-- where no wire feeds the channel
unfed_sum : (d : ℕ) (chs : List ℕ) (ys : List ℤ) → is_fed chs d ≡ false → sum_on d chs ys ≡ pos 0
unfed_sum d [] ys unfed = refl
unfed_sum d (c ∷ chs) [] unfed = refl
unfed_sum d (c ∷ chs) (y ∷ ys) unfed = go (c == d) refl unfed (unfed_sum d chs ys)
  where
    go : (b : Bool) → (c == d) ≡ b → (b || is_fed chs d) ≡ false → (is_fed chs d ≡ false → sum_on d chs ys ≡ pos 0) → cond (c == d) y (pos 0) +ℤ sum_on d chs ys ≡ pos 0
    go true e f rest = absurd (cc)
    go false e f rest =
        let none : cond (c == d) y (pos 0) ≡ pos 0 = cond-false (c == d) y (pos 0) e in
        let after : sum_on d chs ys ≡ pos 0 = rest f in
        omega (arith, ints)

-- a channel that the next wire does not feed is fed by those before
fed_before : (d i : ℕ) (chs : List ℕ) → i < length chs → (get_or chs i 0 == d) ≡ false → is_fed (take (i + 1) chs) d ≡ is_fed (take i chs) d
fed_before d i chs lt other = ap (λ k. is_fed (take k chs) d) (add-one i) ∙ go i chs lt other
  where
    go : (i : ℕ) (chs : List ℕ) → i < length chs → (get_or chs i 0 == d) ≡ false → is_fed (take (suc i) chs) d ≡ is_fed (take i chs) d
    go i [] lt other = absurd (omega arith)
    go zero (c ∷ chs) lt other = ap (λ b. b || false) other
    go (suc i) (c ∷ chs) lt other = ap (λ b. (c == d) || b) (go i chs (omega arith) other)

-- what stands in the row of the next wire's channel, or nothing where the wire is the first
begun_is : (fed : Bool) (first : Bool) (x s : ℤ) → first ≡ not fed → (fed ≡ true → x ≡ s) → (fed ≡ false → s ≡ pos 0) → begun first x ≡ s
begun_is true first x s e begins none = ap (λ b. begun b x) e ∙ begins refl
begun_is false first x s e begins none = ap (λ b. begun b x) e ∙ sym (none refl)

-- ---- all wires
pub record Gathering (ws : List Wire) (silent : List ℕ) (pool outs : List (List ℤ)) (first count : ℕ) (lines : List (List ℤ)) (n i : ℕ) (lines' : List (List ℤ)) (sums' : List ℤ) : Type 0 where
  pub lines_len : length lines' ≡ length lines
  pub done : (q : ℕ) → q < i → get_or lines' q [] ≡ get_or (lines_after ws pool outs first count lines) q []
  pub ahead : (q : ℕ) → i ≤ q → get_or lines' q [] ≡ get_or lines q []
  pub sums_len : length sums' ≡ n
  pub sums : (d t : ℕ) → IsSet (take i (channels_of ws)) silent d → d * count + count ≤ n → t < count
      → get_or sums' (d * count + t) (pos 0) ≡ sum_on d (take i (channels_of ws)) (take i (taps_at ws pool outs first count lines t))

pub gathering_none : (ws : List Wire) (silent : List ℕ) (pool outs : List (List ℤ)) (first count : ℕ) (lines : List (List ℤ)) (n : ℕ) (sums : List ℤ) → length sums ≡ n
    → ((d t : ℕ) → Contains silent d → t < count → get_or sums (d * count + t) (pos 0) ≡ pos 0)
    → Gathering ws silent pool outs first count lines n 0 lines sums
gathering_none ws silent pool outs first count lines n sums len zeros = record {
  lines_len = refl;
  done = λ q lt. absurd (omega arith);
  ahead = λ q le. refl;
  sums_len = len;
  sums = λ d t set le lt. ⊎_elim (λ fed. absurd (cc)) (λ has. zeros d t has lt) set;
}

module _ (ws : List Wire) (silent : List ℕ) (pool outs : List (List ℤ)) (first count : ℕ) (lines : List (List ℤ)) (n i : ℕ) (lines' : List (List ℤ)) (sums' : List ℤ)
    (w : Wire) (l samples : List ℤ) (len : length lines ≡ length ws) (lt : i < length ws) (know : KnowFirst ws) (row : (get_or ws i w).channel * count + count ≤ n)
    (le : l ≡ get_or lines' i []) (se : samples ≡ part first count (source pool outs (get_or ws i w)))
    (g : Gathering ws silent pool outs first count lines n i lines' sums') where
  abbrev channel : ℕ
  channel = (get_or ws i w).channel

  l_is : l ≡ get_or lines i []
  l_is = le ∙ g.ahead i (omega arith)

  -- what comes out of the next line
  tap_is : (t : ℕ) → get_or (passed l samples) t (pos 0) ≡ get_or (taps_at ws pool outs first count lines t) i (pos 0)
  tap_is t = (λ j. get_or (passed (l_is j) (se j)) t (pos 0)) ∙ sym (at_tap ws pool outs first count lines t i w len lt)

  more : (d t : ℕ) → sum_on d (take (i + 1) (channels_of ws)) (take (i + 1) (taps_at ws pool outs first count lines t))
      ≡ sum_on d (take i (channels_of ws)) (take i (taps_at ws pool outs first count lines t))
      +ℤ cond (get_or (channels_of ws) i 0 == d) (get_or (taps_at ws pool outs first count lines t) i (pos 0)) (pos 0)
  more d t = sum_more d i (channels_of ws) (taps_at ws pool outs first count lines t) (omega (arith, length-channels ws)) (omega (arith, length-taps ws pool outs first count lines t len))

  -- what stands in its row, or nothing where it is the first
  stands : (t : ℕ) → t < count → begun (get_or ws i w).first (get_or sums' ((get_or ws i w).channel * count + t) (pos 0))
      ≡ sum_on (get_or ws i w).channel (take i (channels_of ws)) (take i (taps_at ws pool outs first count lines t))
  stands t small =
      begun_is (is_fed (take i (channels_of ws)) (get_or ws i w).channel) (get_or ws i w).first _ _ (know i w lt)
      (λ fed. g.sums (get_or ws i w).channel t (inl fed) row small)
      (λ none. unfed_sum (get_or ws i w).channel (take i (channels_of ws)) (take i (taps_at ws pool outs first count lines t)) none)

  -- with its sample
  pub next_sum : (t : ℕ) → t < count
      → begun (get_or ws i w).first (get_or sums' ((get_or ws i w).channel * count + t) (pos 0)) +ℤ get_or (passed l samples) t (pos 0)
      ≡ sum_on (get_or ws i w).channel (take (i + 1) (channels_of ws)) (take (i + 1) (taps_at ws pool outs first count lines t))
  next_sum t small =
      let yes : (get_or (channels_of ws) i 0 == (get_or ws i w).channel) ≡ true = eq-eqb _ _ (channel_at ws i w lt) in
      (λ j. stands t small j +ℤ (tap_is t ∙ sym (cond-true (get_or (channels_of ws) i 0 == (get_or ws i w).channel) _ (pos 0) yes)) j)
      ∙ sym (more (get_or ws i w).channel t)

  pub gathering_more : (l' : List ℤ) (sums'' : List ℤ) → length samples ≡ count → l' ≡ kept l samples → length sums'' ≡ length sums'
      → ((t : ℕ) → t < length samples → get_or sums'' ((get_or ws i w).channel * count + t) (pos 0) ≡ begun (get_or ws i w).first (get_or sums' ((get_or ws i w).channel * count + t) (pos 0)) +ℤ get_or (passed l samples) t (pos 0))
      → ((j : ℕ) → (j < (get_or ws i w).channel * count) ⊎ ((get_or ws i w).channel * count + length samples ≤ j) → get_or sums'' j (pos 0) ≡ get_or sums' j (pos 0))
      → Gathering ws silent pool outs first count lines n (i + 1) (set lines' i l') sums''
  gathering_more l' sums'' many pe slen poured rest =
      let fits : i < length lines' = omega (arith, g.lines_len) in
      record {
        lines_len = length-set lines' i l' ∙ g.lines_len;
        done = λ q small. elim (cases_eq q i) [
          | inl at ↦
              ap (λ k. get_or (set lines' i l') k []) at ∙ get_or-set_same lines' i l' [] fits
              ∙ pe ∙ (λ j. kept (l_is j) (se j))
              ∙ sym (at_line ws pool outs first count lines i w len lt) ∙ ap (λ k. get_or (lines_after ws pool outs first count lines) k []) (sym at)
          | inr ne ↦ get_or-set_other lines' i q l' [] ne ∙ g.done q (omega arith)
        ];
        ahead = λ q after. get_or-set_other lines' i q l' [] (λ e. omega arith) ∙ g.ahead q (omega arith);
        sums_len = slen ∙ g.sums_len;
        sums = λ d t is_set within small.
            elim (cases_eq d (get_or ws i w).channel) [
              | inl at ↦
                  subst (λ k. get_or sums'' (k * count + t) (pos 0) ≡ sum_on k (take (i + 1) (channels_of ws)) (take (i + 1) (taps_at ws pool outs first count lines t))) (sym at)
                  (poured t (omega (arith, many)) ∙ next_sum t small)
              | inr ne ↦
                  let no : (get_or (channels_of ws) i 0 == d) ≡ false = ap (λ k. k == d) (channel_at ws i w lt) ∙ ne_eqb _ d (λ e. ne (sym e)) in
                  rest (d * count + t) (⊎_elim (λ a. inl a) (λ b. inr (omega (arith, many))) (row_apart d (get_or ws i w).channel count t small ne))
                  ∙ g.sums d t
                  (⊎_elim (λ fed. inl (sym (fed_before d i (channels_of ws) (omega (arith, length-channels ws)) no) ∙ fed)) (λ has. inr has) is_set)
                  within small
                  ∙ sym (more d t ∙ ap (λ a. sum_on d (take i (channels_of ws)) (take i (taps_at ws pool outs first count lines t)) +ℤ a) (cond-false (get_or (channels_of ws) i 0 == d) (get_or (taps_at ws pool outs first count lines t) i (pos 0)) (pos 0) no) ∙ plus_zero _)
            ];
      }
    where
      plus_zero : (a : ℤ) → a +ℤ pos 0 ≡ a
      plus_zero a = omega (arith, ints)

pub gathered_lines : (ws : List Wire) (silent : List ℕ) (pool outs : List (List ℤ)) (first count : ℕ) (lines : List (List ℤ)) (n i : ℕ) (lines' : List (List ℤ)) (sums' : List ℤ) → length lines ≡ length ws → length ws ≤ i
    → Gathering ws silent pool outs first count lines n i lines' sums' → lines' ≡ lines_after ws pool outs first count lines
gathered_lines ws silent pool outs first count lines n i lines' sums' len le g =
    ext_get_or [] lines' (lines_after ws pool outs first count lines) (g.lines_len ∙ len ∙ sym (length-lines ws pool outs first count lines len))
    (λ k lt. g.done k (omega (arith, g.lines_len, len)))

pub gathered_sums : (ws : List Wire) (silent : List ℕ) (pool outs : List (List ℤ)) (first count : ℕ) (lines : List (List ℤ)) (n i : ℕ) (lines' : List (List ℤ)) (sums' : List ℤ) → length lines ≡ length ws → length ws ≤ i
    → Gathering ws silent pool outs first count lines n i lines' sums' → (d t : ℕ) → IsSet (channels_of ws) silent d → d * count + count ≤ n → t < count
    → get_or sums' (d * count + t) (pos 0) ≡ sum_on d (channels_of ws) (taps_at ws pool outs first count lines t)
gathered_sums ws silent pool outs first count lines n i lines' sums' len le g d t is_set within small =
    let chs : take i (channels_of ws) ≡ channels_of ws = take_all i (channels_of ws) (omega (arith, length-channels ws)) in
    let ys : take i (taps_at ws pool outs first count lines t) ≡ taps_at ws pool outs first count lines t = take_all i (taps_at ws pool outs first count lines t) (omega (arith, length-taps ws pool outs first count lines t len)) in
    g.sums d t (subst (λ cs. IsSet cs silent d) (sym chs) is_set) within small ∙ (λ j. sum_on d (chs j) (ys j))
