-- What an engine asks of a certified plan of shared lines.
use Rattle.std.proofs.Common.{◌≡◌, ℕ, ◌≤◌, ◌⊎◌, List, [], ◌∷◌, length, map, get_or, refl, sym, ap, subst, arith, inl, inr, cond, ◌==◌, ◌&&◌, Bool, true, false, Some}
use Rattle.std.specs.List.{All, Contains, find}
use Rattle.std.specs.Cmp.{first_so, second_so}
use Rattle.std.proofs.lemmas.Bool.{eqb-true}
use Rattle.std.proofs.lemmas.List.Elements.{All-map, All-from_recursion, Contains-get_or}
use Rattle.graph_model.specs.Answers.{delay}
use Rattle.graph_model.specs.Graphs.{output_name}
use Rattle.graph_model.specs.Paths.{live_connections}
use Rattle.graph_model.specs.Sound.{IsSound}
use Rattle.graph_model.specs.declared.graph.Connection.{Connection}
use Rattle.graph_model.specs.declared.graph.Graph.{Graph}
use Rattle.graph_model.proofs.LiveLaws.{ends_live}
use Rattle.graph_model.proofs.PathLaws.{first_or_later, same_name, and_both}
use Rattle.graph_model.proofs.ReachLaws.{filter_has, greatest_over, greatest_under}
use Rattle.plan_model.specs.Alignments.{IsAlignment, position_in}
use Rattle.plan_model.specs.Lives.{Port, source, reads_of, ports_of, values}
use Rattle.plan_model.specs.SharedLines.{line_length, line_of_value, length_or_zero, length_in}
use Rattle.plan_model.specs.SharedLives.{shared_lives_of, shared_life_of}
use Rattle.plan_model.specs.SharedSizes.{LinesAreShort, LinesAreLongEnough, SharedChannelsAreFew, SharedHaveBuffers, SharedBuffersAreApart}
use Rattle.plan_model.specs.declared.rule.Rule.TheVariants.{Input, Alignment, Latency, Lines, Waves, Homes, Channels, Peak}
use Rattle.plan_model.specs.declared.shared.LineOf.{LineOf}
use Rattle.plan_model.proofs.HomeLaws.{buffers_by, apart_by}
use Rattle.plan_model.proofs.LastLaws.{output_is_last}
use Rattle.plan_model.proofs.LatencyLaws.{few_frames_late}
use Rattle.plan_model.proofs.SharedCertifiedLaws.{are_shared_lives}
use Rattle.plan_model.proofs.SharedLaws.{every, from_read_port}
use Rattle.plan_model.proofs.SharedOneLaws.{shared_latency_is_reach}
use Rattle.plan_model.proofs.SizeLaws.{few_by}
use Rattle.plan_model.proofs.ValueLaws.{values_are_listed}

-- ---- lines
-- the list of the lines of some values gives each its line
pub line_found : (g : Graph) (p : ℕ → ℕ) (xs : List Port) (x : Port) → Contains xs x → length_in (map (line_of_value g p) xs) x ≡ line_length g p x
line_found g p [] x has = let l = has.1 in absurd (omega arith)
line_found g p (y ∷ xs) x has = go ((y.uid.0 == x.uid.0) && (y.channel == x.channel)) refl (first_or_later y x xs has) (line_found g p xs x)
  where
    itself : y ≡ x → ((y.uid.0 == x.uid.0) && (y.channel == x.channel)) ≡ true
    itself same = subst (λ z. ((z.uid.0 == x.uid.0) && (z.channel == x.channel)) ≡ true) (sym same) (and_both _ _ (same_name x.uid.0) (same_name x.channel))

    go : (b : Bool) → ((y.uid.0 == x.uid.0) && (y.channel == x.channel)) ≡ b → (y ≡ x) ⊎ Contains xs x
        → (Contains xs x → length_in (map (line_of_value g p) xs) x ≡ line_length g p x)
        → length_or_zero (cond b (Some (line_of_value g p y)) (find (λ l. (l.uid.0 == x.uid.0) && (l.channel == x.channel)) (map (line_of_value g p) xs))) ≡ line_length g p x
    go true e c rest =
        let u = eqb-true y.uid.0 x.uid.0 (first_so _ _ e) in
        let d = eqb-true y.channel x.channel (second_so _ _ e) in
        let same : y ≡ x = λ i. record { uid = record { 0 = u i }; channel = d i } in
        ap (line_length g p) same
    go false e (inl same) rest = let t = itself same in absurd (cc)
    go false e (inr there) rest = rest there

pub lines_are_long_enough : LinesAreLongEnough
lines_are_long_enough g plan c k d l =
    let read : Connection = get_or (live_connections g) k d in
    let has : Contains (live_connections g) (get_or (live_connections g) k d) = Contains-get_or (live_connections g) k d l in
    let value : Contains (values g) (source read) = (values_are_listed g).all k d l in
    let line : length_in plan.lines (source read) ≡ line_length g (position_in plan.at) (source read) =
    subst (λ ls. length_in ls (source read) ≡ line_length g (position_in plan.at) (source read)) (sym (c Lines))
    (line_found g (position_in plan.at) (values g) (source read) value) in
    let among : Contains (reads_of g read.src read.src_channel) read =
    filter_has (λ e. (e.src.0 == read.src.0) && (e.src_channel == read.src_channel)) (live_connections g) read has
    (and_both _ _ (same_name read.src.0) (same_name read.src_channel)) in
    let over : delay g (position_in plan.at) read ≤ line_length g (position_in plan.at) (source read) =
    greatest_over (delay g (position_in plan.at)) (reads_of g read.src read.src_channel) read among in
    omega arith

-- no line is longer than the latency
line_below : (g : Graph) (p : ℕ → ℕ) (n : ℕ) → IsSound g → IsAlignment g p → p (output_name g) ≤ n → (x : Port) → line_length g p x ≤ n
line_below g p n sound al late x =
    greatest_under (delay g p) n (reads_of g x.uid x.channel)
    (every _ (reads_of g x.uid x.channel) (λ c k.
    let has = (from_read_port g sound x c k).0 in
    let last = output_is_last g sound p al c.dst.0 (ends_live g sound c has).1 in
    omega arith))

pub lines_are_short : LinesAreShort
lines_are_short g plan sound c =
    let at_end : position_in plan.at (output_name g) ≡ plan.latency = c Latency in
    let least = shared_latency_is_reach g plan sound c in
    let few = few_frames_late g sound in
    let al : IsAlignment g (position_in plan.at) = record { input = c Input; after = c Alignment } in
    subst (λ ls. All (λ (l : LineOf). l.delay ≤ 67108864) ls) (sym (c Lines))
    (All-map (λ (l : LineOf). l.delay ≤ 67108864) (line_of_value g (position_in plan.at)) (values g)
    (All-from_recursion (λ x. line_length g (position_in plan.at) x ≤ 67108864) (values g)
    (every _ (values g) (λ x has. line_below g (position_in plan.at) 67108864 sound al (omega arith) x))))

-- ---- buffers
pub shared_channels_are_few : SharedChannelsAreFew
shared_channels_are_few g plan sound c =
    few_by g (shared_life_of g plan.waves plan.lines) (ports_of plan.homes) (length plan.waves) plan.channels plan.peak sound (c Homes)
    (are_shared_lives g plan.waves plan.lines (ports_of plan.homes) sound (c Waves) (c Homes)) (c Peak)

pub shared_have_buffers : SharedHaveBuffers
shared_have_buffers g plan c =
    buffers_by g (shared_lives_of g plan.waves plan.lines (ports_of plan.homes)) plan.homes plan.channels (c Homes) (c Channels)

pub shared_buffers_are_apart : SharedBuffersAreApart
shared_buffers_are_apart g plan x y b c ex ey = apart_by (shared_life_of g plan.waves plan.lines) plan.homes plan.channels (c Channels) x y b ex ey
