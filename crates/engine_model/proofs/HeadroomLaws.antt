-- No sum that a node takes, nor a part of it, is too large; no line is too long.
use Rattle.std.proofs.Common.{◌≡◌, ℕ, zero, suc, ◌+◌, ◌-◌, ◌≤◌, ◌==◌, ◌&&◌, Bool, true, false, cond, ltb, List, [], ◌∷◌, length, map, take, get_or, ℤ, pos, refl, sym, ap, ◌∙◌, subst, arith}
use Rattle.std.specs.Prelude.{◌+ℤ◌, ◌^◌, unsigned_abs, sum_by, if◌then◌else◌}
use Rattle.std.specs.List.{filter}
use Rattle.std.proofs.lemmas.Bool.{cond-true, cond-false, lt-ltb, le-ltb}
use Rattle.std.proofs.lemmas.Int.{ints}
use Rattle.std.proofs.lemmas.List.FromFn.{get_or-map-range_with_len}
use Rattle.std.proofs.lemmas.List.Sums.{sum_by-cons}
use Rattle.graph_model.specs.Histories.{Frame, before, sample}
use Rattle.graph_model.specs.StreamLaws.{sample-drop}
use Rattle.graph_model.specs.Graphs.{ins_at, connections_to, connections_into, output_name}
use Rattle.graph_model.specs.Paths.{is_live}
use Rattle.graph_model.specs.Answers.{delay}
use Rattle.graph_model.specs.Bounds.{bounds, bounds_within, out_bounds, IsInputFor}
use Rattle.graph_model.specs.Sound.{IsSound}
use Rattle.graph_model.specs.Streams.{on, out_at, tap}
use Rattle.graph_model.specs.declared.graph.Connection.{Connection}
use Rattle.graph_model.specs.declared.graph.Graph.{Graph}
use Rattle.graph_model.proofs.BoundLaws.{samples_are_bounded}
use Rattle.graph_model.proofs.CommonFacts.{by_lt}
use Rattle.graph_model.proofs.LiveLaws.{live_by}
use Rattle.graph_model.proofs.ReachLaws.{filter_from}
use Rattle.graph_model.proofs.StreamTimeLaws.{drop-before}
use Rattle.plan_model.specs.Certified.{IsCertified, positions}
use Rattle.plan_model.specs.declared.plan.Plan.{Plan}
use Rattle.plan_model.specs.declared.rule.Rule.TheVariants.{Latency}
use Rattle.plan_model.proofs.CertifiedLaws.{alignment_of}
use Rattle.plan_model.proofs.LastLaws.{output_is_last}
use Rattle.plan_model.proofs.LatencyLaws.{few_frames_late}
use Rattle.plan_model.proofs.ShiftLaws.{latency_is_reach}
use Rattle.engine_model.specs.Machines.{channels_into, sum_on}
use Rattle.engine_model.specs.Sizes.{SumsAreBounded, DelaysAreBounded}

-- the sum of the weights that stand on one channel
abbrev weight_on : ℕ → List ℕ → List ℕ → ℕ
weight_on d [] bs = 0
weight_on d (c ∷ cs) [] = 0
weight_on d (c ∷ cs) (b ∷ bs) = (if c == d then b else 0) + weight_on d cs bs

-- the bound of what a connection reads
abbrev bound_of : Graph → Connection → ℕ
bound_of g c = get_or (bounds g c.src.0).outs c.src_channel 0

abs_sum : (a b : ℤ) → unsigned_abs (a +ℤ b) ≤ unsigned_abs a + unsigned_abs b
abs_sum a b = omega (arith, ints)

-- a part of a sum is at most as large as the weights of the whole
part_bounded : (d m : ℕ) (chs : List ℕ) (ys : List ℤ) (bs : List ℕ) → ((i : ℕ) → unsigned_abs (get_or ys i (pos 0)) ≤ get_or bs i 0)
    → unsigned_abs (sum_on d (take m chs) (take m ys)) ≤ weight_on d chs bs
part_bounded d zero chs ys bs h = omega arith
part_bounded d (suc m) [] ys bs h = omega arith
part_bounded d (suc m) (c ∷ chs) [] bs h = omega arith
part_bounded d (suc m) (c ∷ chs) (y ∷ ys) [] h =
    let first : unsigned_abs y ≤ 0 = h 0 in
    let rest = part_bounded d m chs ys [] (λ i. h (suc i)) in
    let none = weight_none d chs in
    let sum = abs_sum (cond (c == d) y (pos 0)) (sum_on d (take m chs) (take m ys)) in
    let here : unsigned_abs (cond (c == d) y (pos 0)) ≤ 0 = elim (c == d) as (λ b. unsigned_abs (cond b y (pos 0)) ≤ 0) [ true ↦ first | false ↦ omega arith ] in
    omega arith
  where
    weight_none : (d : ℕ) (cs : List ℕ) → weight_on d cs [] ≡ 0
    weight_none d [] = refl
    weight_none d (c ∷ cs) = refl
part_bounded d (suc m) (c ∷ chs) (y ∷ ys) (b ∷ bs) h =
    let first : unsigned_abs y ≤ b = h 0 in
    let rest = part_bounded d m chs ys bs (λ i. h (suc i)) in
    let sum = abs_sum (cond (c == d) y (pos 0)) (sum_on d (take m chs) (take m ys)) in
    let here : unsigned_abs (cond (c == d) y (pos 0)) ≤ cond (c == d) b 0 = elim (c == d) as (λ t. unsigned_abs (cond t y (pos 0)) ≤ cond t b 0) [ true ↦ first | false ↦ omega arith ] in
    omega arith

-- the weights on a channel are its headroom bound
left : (f : Connection → ℕ) (c : Connection) (kept : List Connection) (r : ℕ) (a b : Bool) → sum_by f kept ≡ r
    → sum_by f (cond (a && b) (c ∷ kept) kept) ≡ cond a (cond b (f c) 0 + r) r
left f c kept r true true e = sum_by-cons f c kept ∙ ap (λ k. f c + k) e
left f c kept r true false e = let z : r ≡ 0 + r = omega arith in e ∙ z
left f c kept r false b e = e

right : (f : Connection → ℕ) (d : ℕ) (c : Connection) (into : List Connection) (a : Bool)
    → weight_on d (map (λ e. e.dst_channel) (cond a (c ∷ into) into)) (map f (cond a (c ∷ into) into))
    ≡ cond a (cond (c.dst_channel == d) (f c) 0 + weight_on d (map (λ e. e.dst_channel) into) (map f into)) (weight_on d (map (λ e. e.dst_channel) into) (map f into))
right f d c into true = refl
right f d c into false = refl

weight_over : (f : Connection → ℕ) (v d : ℕ) (cs : List Connection)
    → weight_on d (map (λ c. c.dst_channel) (filter (λ c. c.dst.0 == v) cs)) (map f (filter (λ c. c.dst.0 == v) cs))
    ≡ sum_by f (filter (λ c. (c.dst.0 == v) && (c.dst_channel == d)) cs)
weight_over f v d [] = refl
weight_over f v d (c ∷ cs) =
    right f d c (filter (λ e. e.dst.0 == v) cs) (c.dst.0 == v)
    ∙ sym (left f c (filter (λ e. (e.dst.0 == v) && (e.dst_channel == d)) cs) _ (c.dst.0 == v) (c.dst_channel == d) (sym (weight_over f v d cs)))

-- a first part of an input is an input
input_before : (g : Graph) (x : ℕ → Frame) (j n : ℕ) → IsInputFor g (before x (j + n)) → IsInputFor g (before x n)
input_before g x j n input v m named is c k =
    subst (λ y. unsigned_abs y ≤ get_or (out_bounds m.kind []) c 0)
    (sym (sample-drop j (before x (j + n)) c k) ∙ ap (λ h. sample h c k) (drop-before x j n))
    (input v m named is c (k + j))

-- what a connection gives is within its bound
tap_bounded : (g : Graph) (p : ℕ → ℕ) (x : ℕ → Frame) (t : ℕ) → IsInputFor g (before x (t + 1)) → (c : Connection) → unsigned_abs (tap g p (out_at g p x) c t) ≤ bound_of g c
tap_bounded g p x t input c =
    let d = delay g p c in
    by_lt t (delay g p c)
    (λ past. subst (λ y. unsigned_abs y ≤ bound_of g c) (sym (cond-true (ltb t (delay g p c)) (pos 0) (on (out_at g p x c.src.0) c.src_channel (t - delay g p c)) (lt-ltb t (delay g p c) past))) (omega arith))
    (λ in_time.
    let all : t + 1 ≡ delay g p c + suc (t - delay g p c) = omega arith in
    let first = input_before g x (delay g p c) (suc (t - delay g p c)) (subst (λ n. IsInputFor g (before x n)) all input) in
    subst (λ y. unsigned_abs y ≤ bound_of g c) (sym (cond-false (ltb t (delay g p c)) (pos 0) (on (out_at g p x c.src.0) c.src_channel (t - delay g p c)) (le-ltb t (delay g p c) in_time)))
    ((samples_are_bounded g p (before x (suc (t - delay g p c))) first c.src.0).1 c.src_channel 0))

each_bounded : (f : Connection → ℤ) (b : Connection → ℕ) (cs : List Connection) → ((c : Connection) → unsigned_abs (f c) ≤ b c) → (i : ℕ) → unsigned_abs (get_or (map f cs) i (pos 0)) ≤ get_or (map b cs) i 0
each_bounded f b [] h i = omega arith
each_bounded f b (c ∷ cs) h zero = h c
each_bounded f b (c ∷ cs) h (suc i) = each_bounded f b cs h i

pub sums_are_bounded : SumsAreBounded
sums_are_bounded g p x v d m t input lt =
    let part = part_bounded d m (channels_into g v) (map (λ c. tap g p (out_at g p x) c t) (connections_into g v)) (map (bound_of g) (connections_into g v))
    (each_bounded (λ c. tap g p (out_at g p x) c t) (bound_of g) (connections_into g v) (tap_bounded g p x t input)) in
    let whole = weight_over (bound_of g) v d g.connections in
    let at : get_or (bounds g v).ins d 0 ≡ sum_by (bound_of g) (connections_to g v d)
    = get_or-map-range_with_len (λ k. sum_by (λ c. get_or (bounds_within g (length g.nodes) c.src.0) c.src_channel 0) (connections_to g v k)) 0 (ins_at g v) d d 0 lt (omega arith) in
    omega arith

-- ---- lines
pub late_bounded : (g : Graph) (plan : Plan) → IsSound g → IsCertified g plan → (v : ℕ) → is_live g v ≡ true → positions plan v ≤ 2 ^ 26
late_bounded g plan sound c v live =
    let last = output_is_last g sound (positions plan) (alignment_of g plan c) v (live_by g sound v live) in
    let at : positions plan (output_name g) ≡ plan.latency = c Latency in
    let least = latency_is_reach g plan sound c in
    let few = few_frames_late g sound in
    omega arith

pub delays_are_bounded : DelaysAreBounded
delays_are_bounded g plan e sound c has =
    let live = (filter_from (λ d. is_live g d.dst.0) g.connections e has).1 in
    let late = late_bounded g plan sound c e.dst.0 live in
    omega arith
