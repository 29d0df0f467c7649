-- Sums over the connections into a node, and one node more in the order.
use Rattle.std.proofs.Common.{◌≡◌, ℕ, zero, suc, ◌+◌, ◌*◌, ◌^◌, ◌<◌, ◌≤◌, List, [], ◌∷◌, ◌++◌, length, map, take, get_or, set, replicate, refl, ap, sym, ◌∙◌, subst, arith, inl, inr, ◌⊎◌, Some, Bool, true, false, cond, ◌==◌, ◌&&◌}
use Rattle.std.specs.Prelude.{sum_by, is_some, find, None}
use Rattle.std.specs.List.{Contains, filter, position_or_len, slice_get}
use Rattle.std.proofs.lemmas.Bool.{cases_lt, cases_eq, eqb-true}
use Rattle.std.proofs.lemmas.List.{get_or-set_same, get_or-set_other, get_or-map, ext_get_or, length-map, length-set, length-replicate, take_all, get_or_default}
use Rattle.std.proofs.lemmas.List.Elements.{All-get_or, All-from_get_or, All-contains, All-same, filter_more}
use Rattle.std.proofs.lemmas.List.Folds.{find_at}
use Rattle.std.proofs.lemmas.List.FromFn.{get_or-map-range_with_len, length-map-range_with_len}
use Rattle.std.proofs.lemmas.List.Sums.{sum_by-cons, sum_by-append, position_or_len_is}
use Rattle.std.proofs.lemmas.Option.{slice_get-get_or}
use Rattle.graph_model.proofs.CommonFacts.{not_same}
use Rattle.graph_model.specs.Bounds.{bounds, IsBounded}
use Rattle.graph_model.specs.Graphs.{node_named, ins_at, or_zero, connections_to}
use Rattle.graph_model.specs.Members.{bad_member}
use Rattle.graph_model.specs.Checks.{IsConnection}
use Rattle.graph_model.specs.Kinds.{ins_of, outs_of}
use Rattle.graph_model.specs.Orders.{StandsBefore}
use Rattle.graph_model.specs.Ranges.{HasRange}
use Rattle.graph_model.specs.Sound.{Fits, IsShaped}
use Rattle.graph_model.proofs.PathLaws.{same_name, at_tail}
use Rattle.graph_model.proofs.RankLaws.{nodes_exist}
use Rattle.graph_model.proofs.RangeLaws.{in_range}
use Rattle.graph_model.specs.declared.kind.Kind.{Kind}
use Rattle.graph_model.specs.declared.kind.Kind.TheVariants.{Input, Output, Gain, Mixer, Fir, Biquad, Limiter, Delay, Insert}
use Rattle.graph_model.specs.declared.graph.Bound.{Bound}
use Rattle.graph_model.specs.declared.graph.Node.{Node}
use Rattle.graph_model.specs.declared.graph.Connection.{Connection}
use Rattle.graph_model.specs.declared.graph.Graph.{Graph}
use Rattle.graph_model.specs.Named.{IsNamed, uid_at}
use Rattle.topology.specs.Answers.{IsOrderOfNodes}
use Rattle.graph_model.proofs.NameFacts.{is_node, name_is, node_is, any_node}
use Rattle.topology.proofs.LinkFacts.{any_connection}
use Rattle.topology.proofs.OrderFacts.{stands_index}
use Rattle.headroom.specs.declared.loud.TooLoud.{TooLoud}
use Rattle.headroom.specs.Answers.{AreBounds, AllBounded}
use Rattle.headroom.specs.Found.{kept_bound, no_bound, IsFound, AreSourcesFound}
use Rattle.headroom.specs.Loud.{kept, IsFirstOf, IsTooLoud}
use Rattle.graph_model.proofs.BoundFacts.{length-ins, length-outs}
use Rattle.headroom.proofs.LoudFacts.{kept_first_of}

-- ---- names and channels
pub named : (g : Graph) → Fits g → IsShaped g → IsNamed g
named g fits shaped = record { fits = fits; uids_differ = shaped.uids_differ; nodes_exist = nodes_exist g shaped }

-- a node that was read at an index
pub node_at : (g : Graph) (xs : List Node) (i : ℕ) (n : Node) → xs ≡ g.nodes → i < length g.nodes → n ≡ get_or xs i n → n ≡ get_or g.nodes i any_node
node_at g xs i n same lt is = is ∙ ap (λ ys. get_or ys i n) same ∙ get_or_default g.nodes i n any_node lt

pub uid_of : (g : Graph) (i : ℕ) (n : Node) → i < length g.nodes → n ≡ get_or g.nodes i any_node → n.uid.0 ≡ uid_at g i
uid_of g i n lt is = ap (λ (m : Node). m.uid.0) is ∙ sym (name_is g i lt)

pub named_at : (g : Graph) → IsNamed g → (i : ℕ) (n : Node) → i < length g.nodes → n ≡ get_or g.nodes i any_node → node_named g n.uid.0 ≡ Some n
named_at g named i n lt is = ap (node_named g) (uid_of g i n lt is) ∙ node_is g named i any_node lt ∙ ap Some (sym is)

-- at most 32 channels on each side
few_of : (kind : Kind) → HasRange kind → (ins_of kind ≤ 32) × (outs_of kind ≤ 32)
few_of (Input channels) r = (omega arith, r.1)
few_of (Output channels) r = (r.1, omega arith)
few_of (Gain channels gain) r = (r.0.1, r.0.1)
few_of (Mixer ins outs gains) r = (r.0.1, r.1.1)
few_of (Fir channels taps shift latency) r = (r.0.1, r.0.1)
few_of (Biquad channels b0 b1 b2 a1 a2 shift bits) r = (r.0.1, r.0.1)
few_of (Limiter channels threshold lookahead) r = (r.0.1, r.0.1)
few_of (Delay channels samples) r = (r.0.1, r.0.1)
few_of (Insert channels samples) r = (r.0.1, r.0.1)

find_has : {X : Type 0} (p : X → Bool) (xs : List X) (x : X) → find p xs ≡ Some x → Contains xs x
find_has p [] x e = absurd (cc)
find_has p (y ∷ ys) x e = go (p y) (find_has p ys x) e
  where
    go : (b : Bool) → (find p ys ≡ Some x → Contains ys x) → cond b (Some y) (find p ys) ≡ Some x → Contains (y ∷ ys) x
    go true rest h = let same : y ≡ x = cc in (0, omega arith, same)
    go false rest h = at_tail y x ys (rest h)

pub range_of : (g : Graph) → IsShaped g → (n : Node) → node_named g n.uid.0 ≡ Some n → HasRange n.kind
range_of g shaped n named =
    (in_range n (All-contains (λ m. bad_member m ≡ None) g.nodes n shaped.in_range (find_has (λ m. m.uid.0 == n.uid.0) g.nodes n named))).1

pub few_ins : (g : Graph) → IsShaped g → (n : Node) → node_named g n.uid.0 ≡ Some n → length (bounds g n.uid.0).ins ≤ 32
few_ins g shaped n named =
    let e = length-ins g n.uid.0 in
    let k = ap (or_zero ins_of) named in
    let few = few_of n.kind (range_of g shaped n named) in
    let l = few.0 in omega arith

pub few_outs : (g : Graph) → IsShaped g → (n : Node) → node_named g n.uid.0 ≡ Some n → length (map kept (bounds g n.uid.0).outs) ≤ 32
few_outs g shaped n named =
    let m = length-map (bounds g n.uid.0).outs kept in
    let e = length-outs g shaped n.uid.0 (ap is_some named) in
    let k = ap (or_zero outs_of) named in
    let few = few_of n.kind (range_of g shaped n named) in
    let l = few.1 in omega arith

-- ---- the source of a connection
pub source_channel : (g : Graph) → IsShaped g → (c : Connection) → Contains g.connections c → c.src_channel < length (bounds g c.src.0).outs
source_channel g shaped c (e, lt, is) = subst (λ (x : Connection). x.src_channel < length (bounds g x.src.0).outs) is (go (shaped.connections e c lt))
  where
    go : IsConnection g (take e g.connections) (get_or g.connections e c) → (get_or g.connections e c).src_channel < length (bounds g (get_or g.connections e c).src.0).outs
    go ok = let l = length-outs g shaped (get_or g.connections e c).src.0 ok.source_exists in let s = ok.source_channel in omega arith

pub source_small : (g : Graph) → IsShaped g → (c : Connection) → Contains g.connections c → IsBounded (bounds g c.src.0) → get_or (bounds g c.src.0).outs c.src_channel 0 ≤ 2 ^ 46
source_small g shaped c has bounded = All-get_or (λ b. b ≤ 2 ^ 46) (bounds g c.src.0).outs c.src_channel 0 (source_channel g shaped c has) bounded.1

pub destination_channel : (g : Graph) → IsShaped g → (cs : List Connection) → cs ≡ g.connections → (n : ℕ) (d : Connection) → n < length cs
    → (get_or cs n d).dst_channel < ins_at g (get_or cs n d).dst.0
destination_channel g shaped cs same =
    All-same (λ c. c.dst_channel < ins_at g c.dst.0) cs g.connections same (λ n d lt. (shaped.connections n d lt).destination_channel)

-- what stands at its index
pub source_outs : (g : Graph) (bs : List Bound) (i u : ℕ) → i < length bs → uid_at g i ≡ u → IsFound g bs i → (b d : Bound) → b ≡ get_or bs i d → b ≡ bounds g u
source_outs g bs i u lt name at b d is = is ∙ get_or_default bs i d no_bound lt ∙ at.is ∙ ap (bounds g) name

pub source_found : (g : Graph) (bs : List Bound) (v : ℕ) (cs : List Connection) → cs ≡ g.connections → AreSourcesFound g bs v
    → (n : ℕ) (d : Connection) → n < length cs → (get_or cs n d).dst.0 ≡ v → (i : ℕ) → i < length g.nodes → uid_at g i ≡ (get_or cs n d).src.0 → IsFound g bs i
source_found g bs v cs same are = All-same (λ c. c.dst.0 ≡ v → (i : ℕ) → i < length g.nodes → uid_at g i ≡ c.src.0 → IsFound g bs i) cs g.connections same are

-- ---- sums over the first connections
abbrev pub source_bound : Graph → Connection → ℕ
source_bound g c = get_or (bounds g c.src.0).outs c.src_channel 0

abbrev leads_to : ℕ → ℕ → Connection → Bool
leads_to v d c = (c.dst.0 == v) && (c.dst_channel == d)

abbrev sum_to : Graph → ℕ → ℕ → ℕ → ℕ
sum_to g v d n = sum_by (source_bound g) (filter (leads_to v d) (take n g.connections))

-- the sums over the first n connections, by input channel
pub record AreSums (g : Graph) (v n : ℕ) (ins : List ℕ) : Type 0 where
  pub count : length ins ≡ ins_at g v
  pub sums : (d : ℕ) → d < ins_at g v → get_or ins d 0 ≡ sum_to g v d n
  pub small : (d : ℕ) → get_or ins d 0 ≤ n * 2 ^ 46

none_yet : (m d : ℕ) → get_or (replicate m zero) d zero ≡ zero
none_yet zero d = refl
none_yet (suc m) zero = refl
none_yet (suc m) (suc d) = none_yet m d

pub no_sums : (g : Graph) (v m : ℕ) → m ≡ ins_at g v → AreSums g v 0 (replicate m zero)
no_sums g v m e = record {
  count = length-replicate m zero ∙ e;
  sums = λ d lt. none_yet m d;
  small = λ d. let z = none_yet m d in omega arith;
}

module _ (g : Graph) (v n : ℕ) (c : Connection) (lt : n < length g.connections) (is : get_or g.connections n any_connection ≡ c) where
  sum_next : (d : ℕ) (b : Bool) → leads_to v d c ≡ b → sum_to g v d (n + 1) ≡ sum_to g v d n + cond b (source_bound g c) 0
  sum_next d b t =
      ap (sum_by (source_bound g)) (filter_more (leads_to v d) g.connections n any_connection lt ∙ ap (λ x. filter (leads_to v d) (take n g.connections) ++ cond (leads_to v d x) (x ∷ []) []) is
      ∙ ap (λ w. filter (leads_to v d) (take n g.connections) ++ cond w (c ∷ []) []) t)
      ∙ sum_by-append (source_bound g) (filter (leads_to v d) (take n g.connections)) (cond b (c ∷ []) [])
      ∙ ap (λ s. sum_to g v d n + s) (go b)
    where
      go : (w : Bool) → sum_by (source_bound g) (cond w (c ∷ []) []) ≡ cond w (source_bound g c) 0
      go true = let e = sum_by-cons (source_bound g) c [] in omega arith
      go false = refl

  -- a connection to another node changes nothing
  pub sums_kept : (ins : List ℕ) → (c.dst.0 ≡ v → ⊥) → AreSums g v n ins → AreSums g v (n + 1) ins
  sums_kept ins other are = record {
    count = are.count;
    sums = λ d l.
        let s = are.sums d l in
        let next = sum_next d false (ap (λ b. b && (c.dst_channel == d)) (not_same c.dst.0 v other)) in
        omega arith;
    small = λ d. let s = are.small d in omega arith;
  }

  -- one into the node adds to its channel
  pub sums_more : (ins : List ℕ) (x : ℕ) → c.dst.0 ≡ v → c.dst_channel < ins_at g v → x ≡ source_bound g c → x ≤ 2 ^ 46 → AreSums g v n ins
      → AreSums g v (n + 1) (set ins c.dst_channel (get_or ins c.dst_channel 0 + x))
  sums_more ins x into channel value bound are = record {
    count = length-set ins c.dst_channel (get_or ins c.dst_channel 0 + x) ∙ are.count;
    sums = λ d l. sum_at d l (cases_eq d c.dst_channel);
    small = λ d. small_at d (cases_eq d c.dst_channel);
  }
    where
      here : get_or (set ins c.dst_channel (get_or ins c.dst_channel 0 + x)) c.dst_channel 0 ≡ get_or ins c.dst_channel 0 + x
      here = get_or-set_same ins c.dst_channel (get_or ins c.dst_channel 0 + x) 0 (let e = are.count in omega arith)

      into_test : (c.dst.0 == v) ≡ true
      into_test = ap (λ w. w == v) into ∙ same_name v

      sum_at : (d : ℕ) → d < ins_at g v → (d ≡ c.dst_channel) ⊎ (d ≡ c.dst_channel → ⊥) → get_or (set ins c.dst_channel (get_or ins c.dst_channel 0 + x)) d 0 ≡ sum_to g v d (n + 1)
      sum_at d l (inl same) =
          subst (λ k. get_or (set ins c.dst_channel (get_or ins c.dst_channel 0 + x)) k 0 ≡ sum_to g v k (n + 1)) (sym same)
          (let s = are.sums c.dst_channel channel in
          let next = sum_next c.dst_channel true (ap (λ b. b && (c.dst_channel == c.dst_channel)) into_test ∙ same_name c.dst_channel) in
          let h = here in omega arith)
      sum_at d l (inr other) =
          let s = are.sums d l in
          let next = sum_next d false (ap (λ b. b && (c.dst_channel == d)) into_test ∙ not_same c.dst_channel d (λ e. other (sym e))) in
          let old = get_or-set_other ins c.dst_channel d (get_or ins c.dst_channel 0 + x) 0 other in
          omega arith

      small_at : (d : ℕ) → (d ≡ c.dst_channel) ⊎ (d ≡ c.dst_channel → ⊥) → get_or (set ins c.dst_channel (get_or ins c.dst_channel 0 + x)) d 0 ≤ (n + 1) * 2 ^ 46
      small_at d (inl same) =
          let e = ap (λ k. get_or (set ins c.dst_channel (get_or ins c.dst_channel 0 + x)) k 0) same in
          let h = here in let s = are.small c.dst_channel in omega arith
      small_at d (inr other) =
          let old = get_or-set_other ins c.dst_channel d (get_or ins c.dst_channel 0 + x) 0 other in
          let s = are.small d in omega arith

-- a sum over at most 8,192 connections is far within 64 bits
pub sum_below : (g : Graph) (v n : ℕ) (ins : List ℕ) (d x : ℕ) → n ≤ 8192 → AreSums g v n ins → d < length ins → x ≡ get_or ins d x → x ≤ 2 ^ 59
sum_below g v n ins d x few are lt is = let e = get_or_default ins d x 0 lt in let s = are.small d in omega arith

-- over all connections they are the bounds of the input channels
pub all_sums : (g : Graph) (v n : ℕ) (ins : List ℕ) → length g.connections ≤ n → AreSums g v n ins → ins ≡ (bounds g v).ins
all_sums g v n ins le are =
    ext_get_or 0 ins (bounds g v).ins (are.count ∙ sym (length-map-range_with_len (λ d. sum_by (source_bound g) (connections_to g v d)) 0 (ins_at g v))) (λ d lt.
    let l : d < ins_at g v = (let e = are.count in omega arith) in
    are.sums d l ∙ ap (λ cs. sum_by (source_bound g) (filter (leads_to v d) cs)) (take_all n g.connections le)
    ∙ sym (get_or-map-range_with_len (λ k. sum_by (source_bound g) (connections_to g v k)) 0 (ins_at g v) d d 0 l (omega arith)))

-- ---- one node more, in the order
-- the bounds of the first k nodes of the order
pub record AreFound (g : Graph) (os : List ℕ) (k : ℕ) (bs : List Bound) : Type 0 where
  pub count : length bs ≡ length g.nodes
  pub done : (j : ℕ) → j < k → IsFound g bs (get_or os j 0)

module _ (g : Graph) (fits : Fits g) (shaped : IsShaped g) (os : List ℕ) (order : IsOrderOfNodes g os) where
  -- the sources of the next node stand before it
  pub sources_found : (k : ℕ) (bs : List Bound) → k < length os → AreFound g os k bs → AreSourcesFound g bs (uid_at g (get_or os k 0))
  sources_found k bs lt are = λ e d le into i li name.
      let names = map (uid_at g) os in
      let here : get_or (map (uid_at g) os) k 0 ≡ uid_at g (get_or os k 0) = get_or-map (uid_at g) os k 0 0 lt in
      let stands = (order.order.next k (omega (arith, length-map os (uid_at g)))).ready e d le (into ∙ sym here) in
      let before = stands_index g (named g fits shaped) os order.indexes k i (omega arith) li (subst (StandsBefore (map (uid_at g) os) k) (sym name) stands) in
      subst (IsFound g bs) before.2 (are.done before.0 before.1)

  pub found_more : (k : ℕ) (bs : List Bound) (b : Bound) → k < length os → AreFound g os k bs → b ≡ bounds g (uid_at g (get_or os k 0)) → IsBounded (bounds g (uid_at g (get_or os k 0)))
      → AreFound g os (k + 1) (set bs (get_or os k 0) b)
  found_more k bs b lt are is bounded = record {
    count = length-set bs (get_or os k 0) b ∙ are.count;
    done = λ j lj. after (get_or os j 0) (earlier_or_here j lj);
  }
    where
      inside : get_or os k 0 < length bs
      inside = let l = order.indexes k 0 lt in let c = are.count in omega arith

      written : IsFound g (set bs (get_or os k 0) b) (get_or os k 0)
      written = record { is = get_or-set_same bs (get_or os k 0) b no_bound inside ∙ is; bounded = bounded }

      earlier_or_here : (j : ℕ) → j < k + 1 → (get_or os j 0 ≡ get_or os k 0) ⊎ IsFound g bs (get_or os j 0)
      earlier_or_here j lj =
          elim (cases_lt j k) [
            | inl earlier ↦ inr (are.done j earlier)
            | inr past ↦ (let here : j ≡ k = omega arith in inl (ap (λ i. get_or os i 0) here))
          ]

      after : (i : ℕ) → (i ≡ get_or os k 0) ⊎ IsFound g bs i → IsFound g (set bs (get_or os k 0) b) i
      after i (inl same) = subst (IsFound g (set bs (get_or os k 0) b)) (sym same) written
      after i (inr old) =
          elim (cases_eq i (get_or os k 0)) [
            | inl same ↦ subst (IsFound g (set bs (get_or os k 0) b)) (sym same) written
            | inr other ↦ record { is = get_or-set_other bs (get_or os k 0) i b no_bound other ∙ old.is; bounded = old.bounded }
          ]

  every : (bs : List Bound) → AreFound g os (length os) bs → (i : ℕ) → i < length g.nodes → IsFound g bs i
  every bs are i li =
      let stands = order.order.all (uid_at g i) (is_node g (named g fits shaped) i li) in
      let before = stands_index g (named g fits shaped) os order.indexes (length (map (uid_at g) os)) i (omega (arith, length-map os (uid_at g))) li stands in
      subst (IsFound g bs) before.2 (are.done before.0 (omega (arith, before.1, length-map os (uid_at g))))

  pub all_found : (bs : List Bound) → AreFound g os (length os) bs → AreBounds g bs × AllBounded g
  all_found bs are = (
    ext_get_or no_bound bs (map (λ (n : Node). bounds g n.uid.0) g.nodes) (are.count ∙ sym (length-map g.nodes (λ (n : Node). bounds g n.uid.0))) (λ i lt.
        let li : i < length g.nodes = (let c = are.count in omega arith) in
        (every bs are i li).is ∙ ap (bounds g) (name_is g i li) ∙ sym (get_or-map (λ (n : Node). bounds g n.uid.0) g.nodes i any_node no_bound li)),
    All-from_get_or (λ n. IsBounded (bounds g n.uid.0)) g.nodes any_node (λ i li. subst (λ v. IsBounded (bounds g v)) (name_is g i li) (every bs are i li).bounded),
  )

  -- the node after those that are found is the first that is too loud
  pub first_loud : (k : ℕ) (bs : List Bound) (loud : TooLoud) → k < length os → AreFound g os k bs → loud.uid.0 ≡ uid_at g (get_or os k 0)
      → IsFirstOf (kept_bound (bounds g (uid_at g (get_or os k 0)))) loud.side loud.channel loud.bound → IsTooLoud g loud
  first_loud k bs loud lt are name first = record {
    earlier = (
      map (uid_at g) os,
      order.order,
      (
        k,
        omega (arith, length-map os (uid_at g)),
        get_or-map (uid_at g) os k 0 0 lt ∙ sym name,
        (λ j less. subst (λ v. IsBounded (bounds g v)) (sym (get_or-map (uid_at g) os j 0 0 (omega arith))) (are.done j less).bounded),
      ),
    );
    first = subst (λ v. IsFirstOf (bounds g v) loud.side loud.channel loud.bound) (sym name)
        (kept_first_of (bounds g (uid_at g (get_or os k 0))) loud.side loud.channel loud.bound first);
  }

pub none_found : (g : Graph) (os : List ℕ) (m : ℕ) → m ≡ length g.nodes → AreFound g os 0 (replicate m no_bound)
none_found g os m e = record { count = length-replicate m no_bound ∙ e; done = λ j lt. absurd (omega arith) }
