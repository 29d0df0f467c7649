-- The bounds of a node by those of its sources.
use Rattle.std.proofs.Common.{◌≡◌, ℕ, zero, suc, ◌<◌, List, [], ◌∷◌, length, get_or, refl, ap, sym, ◌∙◌, subst, arith, Option, Some, None, true, ◌==◌, ◌&&◌}
use Rattle.std.specs.Prelude.{sum_by, is_some}
use Rattle.std.specs.List.{AllByRecursion}
use Rattle.std.proofs.lemmas.List.Elements.{recursion_from_All}
use Rattle.std.proofs.lemmas.List.Sums.{sum_by-cons}
use Rattle.std.proofs.lemmas.List.FromFn.{length-map-range_with_len}
use Rattle.graph_model.specs.StreamLaws.{map-range_same}
use Rattle.graph_model.specs.Graphs.{IsRanked, IsNode, node_named, ins_at, outs_at, or_zero, connections_to}
use Rattle.graph_model.specs.Kinds.{ins_of, outs_of}
use Rattle.std.specs.Prelude.{unsigned_abs, min, ◌-◌, ◌*◌, ◌^◌}
use Rattle.std.proofs.lemmas.List.{length-map, length-replicate}
use Rattle.graph_model.specs.Rounding.{rounded_nat}
use Rattle.graph_model.specs.Filters.{gains_to}
use Rattle.graph_model.specs.Bounds.{weight, weighed, in_bounds, given_bounds, bounds_within, bounds, out_bounds}
use Rattle.graph_model.specs.declared.kind.Kind.{Kind}
use Rattle.graph_model.specs.declared.kind.Kind.TheVariants.{Input, Output, Gain, Mixer, Fir, Biquad, Limiter, Delay, Insert}
use Rattle.graph_model.specs.Laws.{BoundsFollowTheTable}
use Rattle.graph_model.specs.Paths.{depth}
use Rattle.graph_model.specs.Sound.{IsShaped}
use Rattle.graph_model.proofs.HistoryLaws.{filter_all}
use Rattle.graph_model.proofs.AnswerLaws.{into_v}
use Rattle.graph_model.proofs.RankLaws.{shaped_is_ranked}
use Rattle.graph_model.specs.declared.graph.Node.{Node}
use Rattle.graph_model.specs.declared.graph.Graph.{Graph}

-- ---- sums
sum_same : {X : Type 0} (f h : X → ℕ) (xs : List X) → AllByRecursion (λ x. f x ≡ h x) xs → sum_by f xs ≡ sum_by h xs
sum_same f h [] e = refl
sum_same f h (x ∷ xs) e =
    let here = e.0 in let rest = sum_same f h xs e.1 in let a = sum_by-cons f x xs in let b = sum_by-cons h x xs in omega arith

-- ---- what comes into a node depends on the nodes of lower rank alone
in_same : (g : Graph) (rank : ℕ → ℕ) (a b : ℕ → List ℕ) (v : ℕ) → IsRanked rank g → ((u : ℕ) → rank u < rank v → a u ≡ b u) → in_bounds g a v ≡ in_bounds g b v
in_same g rank a b v ranked same =
    map-range_same (λ d. sum_by (λ c. get_or (a c.src.0) c.src_channel 0) (connections_to g v d)) (λ d. sum_by (λ c. get_or (b c.src.0) c.src_channel 0) (connections_to g v d))
    0 (ins_at g v) (λ d.
    sum_same (λ c. get_or (a c.src.0) c.src_channel 0) (λ c. get_or (b c.src.0) c.src_channel 0) (connections_to g v d)
    (filter_all (λ c. (c.dst.0 == v) && (c.dst_channel == d)) (λ c. rank c.src.0 < rank c.dst.0) _ g.connections (recursion_from_All _ g.connections ranked.rises)
    (λ c e lower. ap (λ bs. get_or bs c.src_channel 0) (same c.src.0 (subst (λ u. rank c.src.0 < rank u) (into_v c v d e) lower)))))

-- more turns change nothing once there are more than the rank
settles : (g : Graph) (rank : ℕ → ℕ) → IsRanked rank g → (k v : ℕ) → rank v < k → bounds_within g k v ≡ bounds_within g (suc k) v
unfolding bounds_within
settles g rank ranked zero v below = absurd (omega arith)
settles g rank ranked (suc k) v below =
    ap (given_bounds (node_named g v)) (in_same g rank (bounds_within g k) (bounds_within g (suc k)) v ranked (λ u lower. settles g rank ranked k u (omega arith)))

-- the output channels of a node have the bounds that its kind makes of those of its input channels
pub outs_are : (g : Graph) → IsShaped g → (v : ℕ) (n : Node) → node_named g v ≡ Some n → (bounds g v).outs ≡ out_bounds n.kind (bounds g v).ins
unfolding bounds_within
outs_are g shaped v n named =
    let ranked = shaped_is_ranked g shaped in
    settles g (depth g) ranked (length g.nodes) v (ranked.below v (ap is_some named))
    ∙ ap (λ node. given_bounds node (in_bounds g (bounds_within g (length g.nodes)) v)) named

-- and the input channels have the sums of those of the output channels that are connected to them
pub bounds_follow : BoundsFollowTheTable
bounds_follow g shaped v n named = (refl, outs_are g shaped v n named)

-- ---- one bound for each channel
pub length-out_bounds : (kind : Kind) (bs : List ℕ) → length bs ≡ ins_of kind → length (out_bounds kind bs) ≡ outs_of kind
length-out_bounds (Input channels) bs e = length-replicate channels (2 ^ 31)
length-out_bounds (Output channels) bs e = refl
length-out_bounds (Gain channels gain) bs e = length-map bs (λ b. rounded_nat (unsigned_abs gain * b) 16) ∙ e
length-out_bounds (Mixer ins outs gains) bs e = length-map-range_with_len (λ o. rounded_nat (weighed (gains_to ins gains o) bs) 16) 0 outs
length-out_bounds (Fir channels taps shift latency) bs e = length-map bs (λ b. rounded_nat (weight taps * b) shift) ∙ e
length-out_bounds (Biquad channels b0 b1 b2 a1 a2 shift bits) bs e = length-map bs (λ b. 2 ^ bits - 1) ∙ e
length-out_bounds (Limiter channels threshold lookahead) bs e = length-map bs (λ b. min b threshold) ∙ e
length-out_bounds (Delay channels samples) bs e = e
length-out_bounds (Insert channels samples) bs e = e

pub length-ins : (g : Graph) (v : ℕ) → length (bounds g v).ins ≡ ins_at g v
length-ins g v = length-map-range_with_len (λ d. sum_by (λ c. get_or (bounds_within g (length g.nodes) c.src.0) c.src_channel 0) (connections_to g v d)) 0 (ins_at g v)

pub length-outs : (g : Graph) → IsShaped g → (v : ℕ) → IsNode g v → length (bounds g v).outs ≡ outs_at g v
length-outs g shaped v node = go (node_named g v) refl node
  where
    go : (found : Option Node) → node_named g v ≡ found → is_some found ≡ true → length (bounds g v).outs ≡ outs_at g v
    go None e is = absurd (cc)
    go (Some n) e is =
        ap length (outs_are g shaped v n e)
        ∙ length-out_bounds n.kind (bounds g v).ins (length-ins g v ∙ ap (or_zero ins_of) e)
        ∙ sym (ap (or_zero outs_of) e)
