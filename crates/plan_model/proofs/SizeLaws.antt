-- How large the numbers of a certified plan can be.
use Rattle.std.proofs.Common.{◌≡◌, ℕ, suc, ◌+◌, ◌<◌, ◌≤◌, List, [], ◌∷◌, length, map, refl, sym, ap, subst, arith, cond, ◌==◌, ◌&&◌, Bool, true, false, count_by}
use Rattle.std.specs.Prelude.{nat_lt}
use Rattle.std.specs.List.{All, AllByRecursion, filter}
use Rattle.std.proofs.lemmas.Bool.Decides.{nat_tests}
use Rattle.std.proofs.lemmas.List.{length-map}
use Rattle.std.proofs.lemmas.List.Elements.{All-from_recursion, recursion_from_All}
use Rattle.graph_model.specs.Answers.{delay}
use Rattle.graph_model.specs.Graphs.{output_name}
use Rattle.graph_model.specs.Paths.{is_live, live_connections}
use Rattle.graph_model.specs.Sound.{IsSound}
use Rattle.graph_model.specs.declared.graph.Connection.{Connection}
use Rattle.graph_model.specs.declared.graph.Graph.{Graph}
use Rattle.plan_model.specs.Alignments.{lines_from}
use Rattle.plan_model.specs.Buffers.{is_through, is_dying, is_born, need_of_wave, AreLives}
use Rattle.plan_model.specs.Certified.{positions}
use Rattle.plan_model.specs.Lives.{Port, AreValues, source, is_before, with_port, sources_of, values, life_of, ports_of}
use Rattle.plan_model.specs.Rules.{IsPeak}
use Rattle.plan_model.specs.Sizes.{DelaysAreSmall, ChannelsAreFew}
use Rattle.plan_model.specs.declared.alignment.LineAt.{LineAt}
use Rattle.plan_model.specs.declared.buffers.Life.{Life}
use Rattle.plan_model.specs.declared.rule.Rule.TheVariants.{Latency, Lines, Waves, Homes, Peak}
use Rattle.plan_model.proofs.BelowFacts.{count_by-cons}
use Rattle.plan_model.proofs.CertifiedLaws.{alignment_of, are_lives}
use Rattle.plan_model.proofs.LastLaws.{output_is_last}
use Rattle.plan_model.proofs.LatencyLaws.{few_frames_late}
use Rattle.plan_model.proofs.ShiftLaws.{latency_is_reach}
use Rattle.plan_model.proofs.UniqueLaws.{values_are_unique}
use Rattle.plan_model.proofs.ValueLaws.{values_are_listed}
use Rattle.graph_model.proofs.LiveLaws.{live_by}

-- ---- delays
-- no line is longer than the latest destination
delays_below : (g : Graph) (p : ℕ → ℕ) (n k : ℕ) (cs : List Connection) → ((c : Connection) → is_live g c.dst.0 ≡ true → p c.dst.0 ≤ n)
    → AllByRecursion (λ l. l.delay ≤ n) (lines_from g p k cs)
delays_below g p n k [] late = tt
delays_below g p n k (c ∷ cs) late = go (is_live g c.dst.0) refl (delays_below g p n (suc k) cs late)
  where
    go : (b : Bool) → is_live g c.dst.0 ≡ b → AllByRecursion (λ l. l.delay ≤ n) (lines_from g p (suc k) cs)
        → AllByRecursion (λ l. l.delay ≤ n) (cond b (record { connection = k; delay = delay g p c } ∷ lines_from g p (suc k) cs) (lines_from g p (suc k) cs))
    go true e rest = (let l = late c e in omega arith, rest)
    go false e rest = rest

pub delays_are_small : DelaysAreSmall
delays_are_small g plan sound c =
    let at_end : positions plan (output_name g) ≡ plan.latency = c Latency in
    let least = latency_is_reach g plan sound c in
    let few = few_frames_late g sound in
    let late : (d : Connection) → is_live g d.dst.0 ≡ true → positions plan d.dst.0 ≤ 67108864 = λ d is.
    let last = output_is_last g sound (positions plan) (alignment_of g plan c) d.dst.0 (live_by g sound d.dst.0 is) in
    omega arith in
    subst (λ ls. All (λ (l : LineAt). l.delay ≤ 67108864) ls) (sym (c Lines))
    (All-from_recursion (λ l. l.delay ≤ 67108864) (lines_from g (positions plan) 0 g.connections) (delays_below g (positions plan) 67108864 0 g.connections late))

-- ---- channels
one_way_alive : (b d s : ℕ) → b < d → cond {A = ℕ} (nat_lt b s && nat_lt s d) 1 0 + cond {A = ℕ} (d == s) 1 0 + cond {A = ℕ} (b == s) 1 0 ≤ 1
one_way_alive b d s l = grind (arith, nat_tests)

-- a wave needs at most a buffer for each value
alive_below : (s : ℕ) (lives : List Life) → AllByRecursion (λ x. x.born < x.dies) lives
    → count_by (is_through s) lives + count_by (is_dying s) lives + count_by (is_born s) lives ≤ length lives
alive_below s [] h = omega arith
alive_below s (x ∷ lives) h =
    let ih = alive_below s lives h.1 in
    let one = one_way_alive x.born x.dies s h.0 in
    omega (arith, count_by-cons (is_through s) x lives, count_by-cons (is_dying s) x lives, count_by-cons (is_born s) x lives)

need_below : (s : ℕ) (lives : List Life) → AllByRecursion (λ x. x.born < x.dies) lives → need_of_wave lives s ≤ length lives
unfolding need_of_wave
need_below s lives h = let l = alive_below s lives h in omega arith

-- and there are no more values than connections
one_more : (x : Port) (ys : List Port) → length (with_port x ys) ≤ suc (length ys)
one_more x [] = omega arith
one_more x (y ∷ ys) = go (is_before x y) (is_before y x) (one_more x ys)
  where
    go : (b d : Bool) → length (with_port x ys) ≤ suc (length ys)
        → length (cond b (x ∷ y ∷ ys) (cond d (y ∷ with_port x ys) (y ∷ ys))) ≤ suc (length (y ∷ ys))
    go true d l = omega arith
    go false true l = omega arith
    go false false l = omega arith

few_sources : (cs : List Connection) → length (sources_of cs) ≤ length cs
few_sources [] = omega arith
few_sources (c ∷ cs) = omega (arith, few_sources cs, one_more (source c) (sources_of cs))

filter_below : {X : Type 0} (p : X → Bool) (xs : List X) → length (filter p xs) ≤ length xs
filter_below p [] = omega arith
filter_below p (x ∷ xs) = go (p x) (filter_below p xs)
  where
    go : (b : Bool) → length (filter p xs) ≤ length xs → length (cond b (x ∷ filter p xs) (filter p xs)) ≤ suc (length xs)
    go true l = omega arith
    go false l = omega arith

-- whatever lives the values have
pub few_by : (g : Graph) (f : Port → Life) (ports : List Port) (waves channels peak : ℕ) → IsSound g → AreValues g ports → AreLives (map f ports) waves
    → IsPeak (map f ports) waves channels peak → channels ≤ 8192
few_by g f ports waves channels peak sound are ordered top =
    let born : AllByRecursion (λ x. x.born < x.dies) (map f ports) =
    recursion_from_All (λ x. x.born < x.dies) (map f ports) (λ k d l. (ordered.within k d l).0) in
    let need = need_below peak (map f ports) born in
    let full = top.full in
    let count = length-map ports f in
    let same : length ports ≡ length (values g) = ap length (values_are_unique g ports (values g) are (values_are_listed g)) in
    let few = few_sources (live_connections g) in
    let fewer = filter_below (λ (d : Connection). is_live g d.dst.0) g.connections in
    let fits = sound.fits.1 in
    omega arith

pub channels_are_few : ChannelsAreFew
channels_are_few g plan sound c =
    few_by g (λ x. life_of g plan.waves x.uid x.channel) (ports_of plan.homes) (length plan.waves) plan.channels plan.peak sound (c Homes)
    (are_lives g plan.waves (ports_of plan.homes) sound (c Waves) (c Homes)) (c Peak)
