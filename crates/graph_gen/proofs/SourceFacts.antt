-- What each connection of a generated graph keeps to, that no two are equal, and how many there are.
use Rattle.std.proofs.Common.{◌≡◌, ℕ, zero, suc, ◌+◌, ◌-◌, ◌*◌, ◌%◌, ◌/◌, ◌^◌, ◌<◌, ◌≤◌, ◌==◌, List, [], ◌∷◌, ◌++◌, length, map, Bool, true, cond, ◌⊎◌, inl, inr, refl, sym, ap, subst, ◌∙◌, append_assoc, length-append, arith}
use Rattle.std.specs.Prelude.{◌≢◌, AllPairs}
use Rattle.std.specs.List.{All, filter, range_with_len}
use Rattle.std.proofs.lemmas.Bool.{cases_lt, cases_eq}
use Rattle.std.proofs.lemmas.Bool.Decides.{nat_tests}
use Rattle.std.proofs.lemmas.List.{get_or-map, length-map}
use Rattle.std.proofs.lemmas.List.Elements.{All-nil, All-cons, All-append, All-weaker, All-map, All-filter}
use Rattle.std.proofs.lemmas.List.Kept.{AllPairs-cons, AllPairs-filter}
use Rattle.std.proofs.lemmas.List.FromFn.{length-range_with_len, get_or-range_with_len}
use Rattle.graph_model.specs.declared.kind.Kind.{Kind}
use Rattle.graph_model.specs.declared.kind.Kind.TheVariants.{Gain}
use Rattle.graph_model.specs.declared.graph.Connection.{Connection}
use Rattle.graph_model.proofs.CommonFacts.{not_same}
use Rattle.std.proofs.lemmas.Nat.{mod_below}
use Rattle.std.proofs.lemmas.List.Sums.{length-filter, count_by-le-length}
use Rattle.graph_gen.proofs.KindFacts.{drawn_tame}
use Rattle.graph_gen.specs.Draws.{next, drawn}
use Rattle.graph_gen.specs.Generated.{kind_drawn, past_kind, past_node, sources, connection_from, connections_from, connections_of, connections_drawn, ending}

-- ---- one connection
-- from a channel of node 1, or from channel 0 of a node below `top` that is none of the ends
abbrev pub IsFrom : ℕ → Connection → Type 0
IsFrom top c = ((c.src.0 ≡ 1) × (c.src_channel < 2)) ⊎ ((3 ≤ c.src.0) × (c.src.0 < top) × (c.src_channel ≡ 0))

-- to channel 0 of a later node from i on and below `top`
pub record IsOnward (i top : ℕ) (c : Connection) : Type 0 where
  pub source : IsFrom top c
  pub rises : c.src.0 < c.dst.0
  pub from : i ≤ c.dst.0
  pub below : c.dst.0 < top
  pub channel : c.dst_channel ≡ 0

-- to the output node
pub record IsEnding (top : ℕ) (c : Connection) : Type 0 where
  pub late : 3 ≤ c.src.0
  pub below : c.src.0 < top
  pub source : c.src_channel ≡ 0
  pub output : c.dst.0 ≡ 2
  pub channel : c.dst_channel < 2

is_onward : (a i top : ℕ) → 3 ≤ i → i < top → a < i - 1 → IsOnward i top (connection_from a i)
is_onward a i top later low small = record {
  source =
      elim (cases_lt a 2) [
        | inl one ↦ inl (grind (arith, nat_tests), grind (arith, nat_tests))
        | inr more ↦ inr (grind (arith, nat_tests), grind (arith, nat_tests), grind (arith, nat_tests))
      ];
  rises = grind (arith, nat_tests);
  from = omega arith;
  below = low;
  channel = refl;
}

-- other sources make other connections
source_of : (a b i : ℕ) → (connection_from a i).src.0 ≡ (connection_from b i).src.0 → (connection_from a i).src_channel ≡ (connection_from b i).src_channel → a ≡ b
source_of a b i s c = grind (arith, nat_tests)

same_source : (a b i : ℕ) → connection_from a i ≡ connection_from b i → a ≡ b
same_source a b i e = source_of a b i (ap (λ (c : Connection). c.src.0) e) (ap (λ (c : Connection). c.src_channel) e)

-- ---- those into one node
cases_of : (kind : Kind) (i a b : ℕ)
    → (connections_from kind i a b ≡ connection_from a i ∷ []) ⊎ ((sources kind ≡ 2) × ((b ≡ a) → ⊥) × (connections_from kind i a b ≡ connection_from a i ∷ connection_from b i ∷ []))
cases_of (Gain channels gain) i a b =
    elim (cases_eq b a) [
      | inl same ↦ inl (let t : (b == a) ≡ true = grind (arith, nat_tests) in ap (λ t. cond t (connection_from a i ∷ []) (connection_from a i ∷ connection_from b i ∷ [])) t)
      | inr other ↦ inr (refl, other, (let t = not_same b a other in ap (λ t. cond t (connection_from a i ∷ []) (connection_from a i ∷ connection_from b i ∷ [])) t))
    ]
cases_of kind i a b = inl refl

-- a fact of both sources is one of all connections
pub all_into : (P : Connection → Type 0) (kind : Kind) (i a b : ℕ) → P (connection_from a i) → P (connection_from b i) → All P (connections_from kind i a b)
all_into P kind i a b p q =
    elim (cases_of kind i a b) [
      | inl one ↦ subst (All P) (sym one) (All-cons P (connection_from a i) [] p (All-nil P))
      | inr two ↦ subst (All P) (sym two.2) (All-cons P (connection_from a i) (connection_from b i ∷ []) p (All-cons P (connection_from b i) [] q (All-nil P)))
    ]

some_source : (kind : Kind) → 1 ≤ sources kind
some_source (Gain channels gain) = omega arith
some_source kind = omega arith

pub few_into : (kind : Kind) (i a b : ℕ) → length (connections_from kind i a b) ≤ sources kind
few_into kind i a b =
    elim (cases_of kind i a b) [
      | inl one ↦ (let e = ap (λ (cs : List Connection). length cs) one in let s = some_source kind in omega arith)
      | inr two ↦ (let e = ap (λ (cs : List Connection). length cs) two.2 in let s = two.0 in omega arith)
    ]

-- before others that lead elsewhere they make no pair of equals
pairs_into : (kind : Kind) (i a b : ℕ) (rest : List Connection) → All (λ c. c.dst.0 ≡ i → ⊥) rest → AllPairs (λ c d. c ≢ d) rest
    → AllPairs (λ c d. c ≢ d) (connections_from kind i a b ++ rest)
pairs_into kind i a b rest elsewhere pairs =
    elim (cases_of kind i a b) [
      | inl one ↦ subst (λ cs. AllPairs (λ c d. c ≢ d) (cs ++ rest)) (sym one) (AllPairs-cons (λ c d. c ≢ d) (connection_from a i) rest (apart a) pairs)
      | inr two ↦
          subst (λ cs. AllPairs (λ c d. c ≢ d) (cs ++ rest)) (sym two.2)
          (AllPairs-cons (λ c d. c ≢ d) (connection_from a i) (connection_from b i ∷ rest)
          (All-cons (λ d. connection_from a i ≢ d) (connection_from b i) rest (λ e. two.1 (sym (same_source a b i e))) (apart a))
          (AllPairs-cons (λ c d. c ≢ d) (connection_from b i) rest (apart b) pairs))
    ]
  where
    apart : (n : ℕ) → All (λ d. connection_from n i ≢ d) rest
    apart n = All-weaker (λ c. c.dst.0 ≡ i → ⊥) (λ d. connection_from n i ≢ d) (λ d other e. other (ap (λ (c : Connection). c.dst.0) (sym e))) rest elsewhere

-- ---- those into all drawn nodes
pub all_onward : (s i n top : ℕ) → 3 ≤ i → i + n ≤ top → All (IsOnward i top) (connections_drawn s i n)
unfolding connections_drawn
all_onward s i zero top later fits = All-nil (IsOnward i top)
all_onward s i (suc n) top later fits =
    All-append (IsOnward i top) (connections_of (kind_drawn s) i (past_kind s)) (connections_drawn (past_node s) (i + 1) n)
    (all_into (IsOnward i top) (kind_drawn s) i (drawn (past_kind s) (i - 1)) (drawn (next (past_kind s)) (i - 1))
    (is_onward (drawn (past_kind s) (i - 1)) i top later (omega arith) (below (next (past_kind s))))
    (is_onward (drawn (next (past_kind s)) (i - 1)) i top later (omega arith) (below (next (next (past_kind s))))))
    (All-weaker (IsOnward (i + 1) top) (IsOnward i top) (λ c w. record { source = w.source; rises = w.rises; from = omega arith; below = w.below; channel = w.channel })
    (connections_drawn (past_node s) (i + 1) n) (all_onward (past_node s) (i + 1) n top (omega arith) (omega arith)))
  where
    below : (m : ℕ) → m / 2 ^ 33 % (i - 1) < i - 1
    below m = mod_below (m / 2 ^ 33) (i - 1) (omega arith)

-- what leads elsewhere: later connections, and those to the output node
pub elsewhere : (s i n : ℕ) (tail : List Connection) → 3 ≤ i → All (λ c. c.dst.0 ≡ 2) tail
    → All (λ c. c.dst.0 ≡ i → ⊥) (connections_drawn s (i + 1) n ++ tail)
elsewhere s i n tail later to_output =
    All-append (λ c. c.dst.0 ≡ i → ⊥) (connections_drawn s (i + 1) n) tail
    (All-weaker (IsOnward (i + 1) (i + 1 + n)) (λ c. c.dst.0 ≡ i → ⊥) (λ c w e. let l = w.from in absurd (omega arith)) (connections_drawn s (i + 1) n)
    (all_onward s (i + 1) n (i + 1 + n) (omega arith) (omega arith)))
    (All-weaker (λ c. c.dst.0 ≡ 2) (λ c. c.dst.0 ≡ i → ⊥) (λ c two e. absurd (omega arith)) tail to_output)

pub all_pairs : (s i n : ℕ) (tail : List Connection) → 3 ≤ i → All (λ c. c.dst.0 ≡ 2) tail → AllPairs (λ c d. c ≢ d) tail
    → AllPairs (λ c d. c ≢ d) (connections_drawn s i n ++ tail)
unfolding connections_drawn
all_pairs s i zero tail later to_output pairs = pairs
all_pairs s i (suc n) tail later to_output pairs =
    subst (AllPairs (λ c d. c ≢ d)) (sym (append_assoc (connections_of (kind_drawn s) i (past_kind s)) (connections_drawn (past_node s) (i + 1) n) tail))
    (pairs_into (kind_drawn s) i (drawn (past_kind s) (i - 1)) (drawn (next (past_kind s)) (i - 1)) (connections_drawn (past_node s) (i + 1) n ++ tail)
    (elsewhere (past_node s) i n tail later to_output)
    (all_pairs (past_node s) (i + 1) n tail (omega arith) to_output pairs))

pub few_drawn : (s i n : ℕ) → length (connections_drawn s i n) ≤ 2 * n
unfolding connections_drawn
few_drawn s i zero = omega arith
few_drawn s i (suc n) =
    let here = few_into (kind_drawn s) i (drawn (past_kind s) (i - 1)) (drawn (next (past_kind s)) (i - 1)) in
    let rest = few_drawn (past_node s) (i + 1) n in
    let fan = (drawn_tame s).fan in
    omega (arith, length-append (connections_of (kind_drawn s) i (past_kind s)) (connections_drawn (past_node s) (i + 1) n))

-- ---- the last ones
later_nodes : (p : ℕ → Bool) (n : ℕ) → All (λ i. (3 ≤ i) × (i < 3 + n)) (filter p (range_with_len 3 n))
later_nodes p n =
    All-filter p (λ i. (3 ≤ i) × (i < 3 + n)) (range_with_len 3 n)
    (λ k d lt. let e = get_or-range_with_len 3 n k d (omega (arith, length-range_with_len 3 n)) in omega (arith, length-range_with_len 3 n))

pub all_endings : (p : ℕ → Bool) (n : ℕ) → All (IsEnding (3 + n)) (map ending (filter p (range_with_len 3 n)))
all_endings p n =
    All-map (IsEnding (3 + n)) ending (filter p (range_with_len 3 n))
    (All-weaker (λ i. (3 ≤ i) × (i < 3 + n)) (λ i. IsEnding (3 + n) (ending i))
    (λ i within. record { late = within.0; below = within.1; source = refl; output = refl; channel = omega arith })
    (filter p (range_with_len 3 n)) (later_nodes p n))

pub endings_differ : (p : ℕ → Bool) (n : ℕ) → AllPairs (λ c d. c ≢ d) (map ending (filter p (range_with_len 3 n)))
endings_differ p n = λ i j d lt within.
    let is : List ℕ = filter p (range_with_len 3 n) in
    let count = length-map is ending in
    let differ = AllPairs-filter (λ x y. x ≢ y) p (range_with_len 3 n) apart i j 0 lt (omega arith) in
    let at_i = get_or-map ending is i 0 d (omega arith) in
    let at_j = get_or-map ending is j 0 d (omega arith) in
    λ e. differ (ap (λ (c : Connection). c.src.0) (sym at_i ∙ e ∙ at_j))
  where
    apart : AllPairs (λ x y. x ≢ y) (range_with_len 3 n)
    apart = λ i j d lt within e.
        let count = length-range_with_len 3 n in
        let at_i = get_or-range_with_len 3 n i d (omega arith) in
        let at_j = get_or-range_with_len 3 n j d (omega arith) in
        absurd (omega arith)

pub few_endings : (p : ℕ → Bool) (n : ℕ) → length (map ending (filter p (range_with_len 3 n))) ≤ n
few_endings p n =
    omega (arith, length-map (filter p (range_with_len 3 n)) ending, length-filter p (range_with_len 3 n), count_by-le-length p (range_with_len 3 n), length-range_with_len 3 n)
