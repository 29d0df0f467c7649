-- The first bound above the limit, of the bounds themselves and of those that are kept.
use Rattle.std.proofs.Common.{◌≡◌, ℕ, ◌-◌, ◌^◌, ◌<◌, ◌≤◌, List, length, map, get_or, refl, ap, sym, ◌∙◌, subst, arith, inl, inr}
use Rattle.std.proofs.lemmas.List.{length-map, get_or-map, get_or_past}
use Rattle.std.proofs.lemmas.List.Elements.{All-get_or, All-from_get_or, All-contains, All-map}
use Rattle.std.proofs.lemmas.Bool.{cases_lt}
use Rattle.graph_model.specs.Bounds.{bounds, IsBounded}
use Rattle.graph_model.specs.Graphs.{IsNode}
use Rattle.graph_model.proofs.RankLaws.{node_in}
use Rattle.graph_model.specs.declared.graph.Bound.{Bound}
use Rattle.graph_model.specs.declared.graph.Node.{Node}
use Rattle.graph_model.specs.declared.graph.Graph.{Graph}
use Rattle.graph_model.specs.declared.graph.Side.{Side}
use Rattle.graph_model.specs.declared.graph.Side.TheVariants.{Source, Destination, In, Out}
use Rattle.graph_model.proofs.OrderOnceLaws.{order_once}
use Rattle.graph_model.proofs.NameFacts.{same_uid}
use Rattle.headroom.specs.declared.loud.TooLoud.{TooLoud}
use Rattle.headroom.specs.Loud.{kept, AreBelow, IsFirstAbove, IsFirstOf, IsTooLoud}
use Rattle.headroom.specs.Found.{kept_bound}
use Rattle.headroom.specs.Answers.{AllBounded}
use Rattle.headroom.specs.Laws.{TooLoudRefutes, TooLoudIsUnique}
use Rattle.headroom.proofs.OutputFacts.{kept_same}

-- ---- kept bounds
kept_at : (bs : List ℕ) (d : ℕ) → d < length bs → get_or (map kept bs) d 0 ≡ kept (get_or bs d 0)
kept_at bs d lt = get_or-map kept bs d 0 0 lt

kept_first : (bs : List ℕ) (c n : ℕ) → IsFirstAbove (map kept bs) c n → IsFirstAbove bs c n
kept_first bs c n f = record {
  channel = within;
  earlier = λ d lt. let w = within in let e = kept_at bs d (omega arith) in let l = f.earlier d lt in omega arith;
  above = let e = kept_at bs c within in let l = f.above in omega arith;
  bound = let e = kept_at bs c within in let b = f.bound in omega arith;
}
  where
    within : c < length bs
    within = let l = f.channel in omega (arith, length-map bs kept)

below : (bs : List ℕ) → AreBelow (map kept bs) → AreBelow bs
below bs h = All-from_get_or (λ b. b ≤ 2 ^ 46) bs 0 (λ d lt.
    let e = kept_at bs d lt in
    let l = All-get_or (λ b. b ≤ 2 ^ 46) (map kept bs) d 0 (omega (arith, length-map bs kept)) h in
    omega arith)

small : (bs : List ℕ) → AreBelow bs → (d : ℕ) → get_or bs d 0 ≤ 2 ^ 64 - 1
small bs h d =
    elim (cases_lt d (length bs)) [
      | inl lt ↦ (let l = All-get_or (λ b. b ≤ 2 ^ 46) bs d 0 lt h in omega arith)
      | inr past ↦ (let e = get_or_past bs d 0 past in omega arith)
    ]

kept_below : (bs : List ℕ) → AreBelow (map kept bs) → map kept bs ≡ bs
kept_below bs h = kept_same bs (small bs (below bs h))

-- a node whose kept bounds are within the limit has these bounds
pub kept_bounded : (n : Bound) → IsBounded (kept_bound n) → IsBounded n × (kept_bound n ≡ n)
kept_bounded n h = ((h.0, below n.outs h.1), λ i. record { ins = n.ins; outs = kept_below n.outs h.1 i })

-- and else the first of the kept ones is the first
pub kept_first_of : (n : Bound) (side : Side) (c b : ℕ) → IsFirstOf (kept_bound n) side c b → IsFirstOf n side c b
kept_first_of n In c b f = f
kept_first_of n Out c b f = (f.0, kept_first n.outs c b f.1)
kept_first_of n side c b f = f

-- ---- the laws
not_below : (bs : List ℕ) (c n : ℕ) → IsFirstAbove bs c n → AreBelow bs → ⊥
not_below bs c n f h = let l = All-get_or (λ b. b ≤ 2 ^ 46) bs c 0 f.channel h in let m = f.above in absurd (omega arith)

not_bounded : (n : Bound) (side : Side) (c b : ℕ) → IsFirstOf n side c b → IsBounded n → ⊥
not_bounded n In c b f h = not_below n.ins c b f h.0
not_bounded n Out c b f h = not_below n.outs c b f.1 h.1
not_bounded n side c b f h = f

bounded_at : (g : Graph) (v : ℕ) → AllBounded g → IsNode g v → IsBounded (bounds g v)
bounded_at g v all node =
    All-contains (λ u. IsBounded (bounds g u)) (map (λ (n : Node). n.uid.0) g.nodes) v (All-map (λ u. IsBounded (bounds g u)) (λ (n : Node). n.uid.0) g.nodes all) (node_in v g.nodes node)

pub too_loud_refutes : TooLoudRefutes
too_loud_refutes g loud is all =
    let at = is.earlier in
    let node = subst (IsNode g) at.2.2 (at.1.next at.2.0 at.2.1).node in
    not_bounded (bounds g loud.uid.0) loud.side loud.channel loud.bound is.first (bounded_at g loud.uid.0 all node)

-- nodes before the first that is not bounded are bounded
same_name : (g : Graph) (a b : TooLoud) → IsTooLoud g a → IsTooLoud g b → a.uid.0 ≡ b.uid.0
same_name g a b x y = go (order_once g x.earlier.0 y.earlier.0 x.earlier.1 y.earlier.1) x.earlier.2 y.earlier.2
  where
    go : {os ps : List ℕ} → os ≡ ps
        → (k : ℕ) × (k < length os) × (get_or os k 0 ≡ a.uid.0) × ((j : ℕ) → j < k → IsBounded (bounds g (get_or os j 0)))
        → (k : ℕ) × (k < length ps) × (get_or ps k 0 ≡ b.uid.0) × ((j : ℕ) → j < k → IsBounded (bounds g (get_or ps j 0)))
        → a.uid.0 ≡ b.uid.0
    go {os} {ps} same (k, lk, at, before) (j, lj, here, first) =
        elim (cases_lt k j) [
          | inl less ↦ absurd (not_bounded (bounds g a.uid.0) a.side a.channel a.bound x.first
              (subst (λ v. IsBounded (bounds g v)) (ap (λ qs. get_or qs k 0) (sym same) ∙ at) (first k less)))
          | inr no_less ↦
              elim (cases_lt j k) [
                | inl less ↦ absurd (not_bounded (bounds g b.uid.0) b.side b.channel b.bound y.first
                    (subst (λ v. IsBounded (bounds g v)) (ap (λ qs. get_or qs j 0) same ∙ here) (before j less)))
                | inr equal ↦ (let e : k ≡ j = omega arith in sym at ∙ ap (λ i. get_or os i 0) e ∙ ap (λ qs. get_or qs j 0) same ∙ here)
              ]
        ]

same_channel : (bs : List ℕ) (c d m n : ℕ) → IsFirstAbove bs c m → IsFirstAbove bs d n → c ≡ d
same_channel bs c d m n f h =
    elim (cases_lt c d) [
      | inl less ↦ (let l = h.earlier c less in let a = f.above in absurd (omega arith))
      | inr no_less ↦
          elim (cases_lt d c) [
            | inl less ↦ (let l = f.earlier d less in let a = h.above in absurd (omega arith))
            | inr equal ↦ omega arith
          ]
    ]

abbrev SamePlace : Side → Side → ℕ → ℕ → ℕ → ℕ → Type 0
SamePlace s t c d m n = (s ≡ t) × (c ≡ d) × (m ≡ n)

on_side : (s : Side) (bs : List ℕ) (c d m n : ℕ) → IsFirstAbove bs c m → IsFirstAbove bs d n → SamePlace s s c d m n
on_side s bs c d m n f h = let e = same_channel bs c d m n f h in (refl, e, f.bound ∙ ap (λ k. kept (get_or bs k 0)) e ∙ sym h.bound)

same_place : (b : Bound) (s t : Side) (c d m n : ℕ) → IsFirstOf b s c m → IsFirstOf b t d n → SamePlace s t c d m n
same_place b In In c d m n f h = on_side In b.ins c d m n f h
same_place b In Out c d m n f h = absurd (not_below b.ins c m f h.0)
same_place b Out In c d m n f h = absurd (not_below b.ins d n h f.0)
same_place b Out Out c d m n f h = on_side Out b.outs c d m n f.1 h.1
same_place b In Source c d m n f h = absurd h
same_place b In Destination c d m n f h = absurd h
same_place b Out Source c d m n f h = absurd h
same_place b Out Destination c d m n f h = absurd h
same_place b s t c d m n f h = absurd f

pub too_loud_is_unique : TooLoudIsUnique
too_loud_is_unique g a b x y =
    let name = same_name g a b x y in
    let uid = same_uid a.uid b.uid name in
    let same = same_place (bounds g a.uid.0) a.side b.side a.channel b.channel a.bound b.bound x.first
    (subst (λ v. IsFirstOf (bounds g v) b.side b.channel b.bound) (sym name) y.first) in
    λ i. record { uid = uid i; side = same.0 i; channel = same.1 i; bound = same.2 i }
