-- The nodes that are drawn, one by one and by name, and how many connections lead into each.
use Rattle.std.proofs.Common.{◌≡◌, ℕ, zero, suc, ◌+◌, ◌-◌, ◌<◌, ◌≤◌, ◌==◌, ◌&&◌, List, [], ◌∷◌, ◌++◌, length, Bool, true, false, cond, Some, inl, inr, refl, ap, ◌∙◌, append_assoc, length-append, arith}
use Rattle.std.specs.Prelude.{◌≢◌, AllPairs}
use Rattle.std.specs.List.{All, filter, find}
use Rattle.std.proofs.lemmas.Bool.{cases_eq}
use Rattle.std.proofs.lemmas.Bool.Decides.{nat_tests}
use Rattle.std.proofs.lemmas.List.Elements.{All-nil, All-cons, All-weaker, All-head, All-tail, filter-append}
use Rattle.std.proofs.lemmas.List.Kept.{AllPairs-cons}
use Rattle.std.proofs.lemmas.List.Sums.{length-filter, count_by-le-length}
use Rattle.graph_model.specs.declared.kind.Kind.{Kind}
use Rattle.graph_model.specs.declared.graph.Uid.{Uid}
use Rattle.graph_model.specs.declared.graph.Node.{Node}
use Rattle.graph_model.specs.declared.graph.Connection.{Connection}
use Rattle.graph_model.proofs.CommonFacts.{not_same}
use Rattle.graph_gen.specs.Draws.{next, drawn}
use Rattle.graph_gen.specs.Generated.{node_of, kind_drawn, past_kind, past_node, node_drawn, sources, connections_of, nodes_drawn, connections_drawn}
use Rattle.graph_gen.proofs.KindFacts.{IsTame, drawn_tame}
use Rattle.graph_gen.proofs.SourceFacts.{all_into, few_into, elsewhere}

-- ---- the nodes
pub record IsDrawn (i top : ℕ) (m : Node) : Type 0 where
  pub from : i ≤ m.uid.0
  pub below : m.uid.0 < top
  pub tame : IsTame m.kind

pub all_drawn : (s i n top : ℕ) → i + n ≤ top → All (IsDrawn i top) (nodes_drawn s i n)
unfolding nodes_drawn
all_drawn s i zero top fits = All-nil (IsDrawn i top)
all_drawn s i (suc n) top fits =
    All-cons (IsDrawn i top) (node_drawn s i) (nodes_drawn (past_node s) (i + 1) n) (record { from = omega arith; below = omega arith; tame = drawn_tame s })
    (All-weaker (IsDrawn (i + 1) top) (IsDrawn i top) (λ m d. record { from = (let l = d.from in omega arith); below = d.below; tame = d.tame })
    (nodes_drawn (past_node s) (i + 1) n) (all_drawn (past_node s) (i + 1) n top (omega arith)))

pub length-drawn : (s i n : ℕ) → length (nodes_drawn s i n) ≡ n
unfolding nodes_drawn
length-drawn s i zero = refl
length-drawn s i (suc n) = let e = length-drawn (past_node s) (i + 1) n in omega arith

pub other_uids : (m : Node) (xs : List Node) → All (λ n. m.uid.0 < n.uid.0) xs → All (λ n. m.uid ≢ n.uid) xs
other_uids m xs less =
    All-weaker (λ n. m.uid.0 < n.uid.0) (λ n. m.uid ≢ n.uid) (λ n l e. let same : m.uid.0 ≡ n.uid.0 = ap (λ (u : Uid). u.0) e in absurd (omega arith)) xs less

pub uids_differ : (s i n : ℕ) → AllPairs (λ m k. m.uid ≢ k.uid) (nodes_drawn s i n)
unfolding nodes_drawn
uids_differ s i zero = λ j k d less lt. absurd (omega arith)
uids_differ s i (suc n) =
    AllPairs-cons (λ m k. m.uid ≢ k.uid) (node_drawn s i) (nodes_drawn (past_node s) (i + 1) n)
    (other_uids (node_drawn s i) (nodes_drawn (past_node s) (i + 1) n)
    (All-weaker (IsDrawn (i + 1) (i + 1 + n)) (λ m. i < m.uid.0) (λ m d. let l = d.from in omega arith) (nodes_drawn (past_node s) (i + 1) n)
    (all_drawn (past_node s) (i + 1) n (i + 1 + n) (omega arith))))
    (uids_differ (past_node s) (i + 1) n)

-- each name from i on is there
pub drawn_there : (s i n v : ℕ) → i ≤ v → v < i + n
    → (kind : Kind) × IsTame kind × (find (λ m. m.uid.0 == v) (nodes_drawn s i n) ≡ Some (node_of v kind))
unfolding nodes_drawn
drawn_there s i zero v low high = absurd (omega arith)
drawn_there s i (suc n) v low high =
    elim (cases_eq i v) [
      | inl same ↦
          (let test : (i == v) ≡ true = grind (arith, nat_tests) in (
            kind_drawn s,
            drawn_tame s,
            ap (λ t. cond t (Some (node_drawn s i)) (find (λ m. m.uid.0 == v) (nodes_drawn (past_node s) (i + 1) n))) test
                ∙ ap (λ w. Some (node_of w (kind_drawn s))) same,
          ))
      | inr other ↦
          (let rest = drawn_there (past_node s) (i + 1) n v (omega arith) (omega arith) in (
            rest.0,
            rest.1,
            ap (λ t. cond t (Some (node_drawn s i)) (find (λ m. m.uid.0 == v) (nodes_drawn (past_node s) (i + 1) n))) (not_same i v other) ∙ rest.2,
          ))
    ]

-- ---- the connections into a channel
abbrev pub leads_to : ℕ → ℕ → Connection → Bool
leads_to v channel c = (c.dst.0 == v) && (c.dst_channel == channel)

pub none_kept : {X : Type 0} (p : X → Bool) (xs : List X) → All (λ x. p x ≡ false) xs → length (filter p xs) ≡ 0
none_kept p [] none = refl
none_kept p (x ∷ xs) none =
    let head = All-head (λ x. p x ≡ false) x xs none in
    let rest = none_kept p xs (All-tail (λ x. p x ≡ false) x xs none) in
    ap (λ t. length (cond t (x ∷ filter p xs) (filter p xs))) head ∙ rest

none_to : (v channel : ℕ) (cs : List Connection) → All (λ c. c.dst.0 ≡ v → ⊥) cs → length (filter (leads_to v channel) cs) ≡ 0
none_to v channel cs other =
    none_kept (leads_to v channel) cs
    (All-weaker (λ c. c.dst.0 ≡ v → ⊥) (λ c. leads_to v channel c ≡ false) (λ c ne. ap (λ t. t && (c.dst_channel == channel)) (not_same c.dst.0 v ne)) cs other)

length-filter_three : (p : Connection → Bool) (xs ys zs : List Connection)
    → length (filter p ((xs ++ ys) ++ zs)) ≡ length (filter p xs) + length (filter p (ys ++ zs))
length-filter_three p xs ys zs =
    ap (λ cs. length (filter p cs)) (append_assoc xs ys zs) ∙ ap (λ (cs : List Connection). length cs) (filter-append p xs (ys ++ zs))
    ∙ length-append (filter p xs) (filter p (ys ++ zs))

filter_shorter : (p : Connection → Bool) (xs : List Connection) → length (filter p xs) ≤ length xs
filter_shorter p xs = omega (arith, length-filter p xs, count_by-le-length p xs)

pub record HasFewSources (i : ℕ) (cs : List Connection) (m : Node) : Type 0 where
  pub from : i ≤ m.uid.0
  pub few : (channel : ℕ) → length (filter (leads_to m.uid.0 channel) cs) ≤ sources m.kind

pub few_sources : (s i n : ℕ) (tail : List Connection) → 3 ≤ i → All (λ c. c.dst.0 ≡ 2) tail
    → All (HasFewSources i (connections_drawn s i n ++ tail)) (nodes_drawn s i n)
unfolding nodes_drawn connections_drawn
few_sources s i zero tail later to_output = All-nil (HasFewSources i tail)
few_sources s i (suc n) tail later to_output =
    All-cons (HasFewSources i ((here ++ rest) ++ tail)) (node_drawn s i) (nodes_drawn (past_node s) (i + 1) n)
    (record {
      from = omega arith;
      few = λ channel.
          let none = none_to i channel (rest ++ tail) (elsewhere (past_node s) i n tail later to_output) in
          let short = filter_shorter (leads_to i channel) here in
          let most = few_into (kind_drawn s) i (drawn (past_kind s) (i - 1)) (drawn (next (past_kind s)) (i - 1)) in
          let split = length-filter_three (leads_to i channel) here rest tail in
          omega arith;
    })
    (All-weaker (HasFewSources (i + 1) (rest ++ tail)) (HasFewSources i ((here ++ rest) ++ tail))
    (λ m h. record {
      from = (let l = h.from in omega arith);
      few = λ channel.
          let l = h.from in
          let most = h.few channel in
          let none = none_to m.uid.0 channel here
          (All-weaker (λ c. c.dst.0 ≡ i) (λ c. c.dst.0 ≡ m.uid.0 → ⊥) (λ c e f. absurd (omega arith)) here
          (all_into (λ c. c.dst.0 ≡ i) (kind_drawn s) i (drawn (past_kind s) (i - 1)) (drawn (next (past_kind s)) (i - 1)) refl refl)) in
          let split = length-filter_three (leads_to m.uid.0 channel) here rest tail in
          omega arith;
    })
    (nodes_drawn (past_node s) (i + 1) n) (few_sources (past_node s) (i + 1) n tail (omega arith) to_output))
  where
    here : List Connection
    here = connections_of (kind_drawn s) i (past_kind s)

    rest : List Connection
    rest = connections_drawn (past_node s) (i + 1) n
