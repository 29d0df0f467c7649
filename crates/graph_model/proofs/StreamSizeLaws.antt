-- How wide, long and large what comes into the nodes of a graph is, and what goes out of them, at any positions.
use Rattle.std.proofs.Common.{◌≡◌, ℕ, zero, suc, ◌+◌, ◌-◌, ◌*◌, ◌^◌, ◌<◌, ◌≤◌, List, [], ◌∷◌, length, get_or, pos, refl, sym, ◌∙◌, ap, subst, arith, inl, inr, Some, None, true, unsigned_abs, ℤ}
use Rattle.std.specs.List.{All}
use Rattle.std.proofs.lemmas.Bool.{cases_lt, false≢true}
use Rattle.std.proofs.lemmas.List.{get_or_past, get_or_default, get_or-replicate}
use Rattle.std.proofs.lemmas.List.Elements.{All-append}
use Rattle.graph_model.specs.Histories.{History, sample, interleaved, frames_of}
use Rattle.graph_model.specs.Kinds.{outs_of}
use Rattle.graph_model.specs.Graphs.{node_named, is_input, in_channels, ins_at, outs_at}
use Rattle.graph_model.specs.Kernels.{IsBoundOf}
use Rattle.graph_model.specs.Named.{uid_at}
use Rattle.graph_model.specs.Paths.{depth}
use Rattle.graph_model.specs.Sound.{IsSound}
use Rattle.graph_model.specs.Answers.{given, given_by, incoming, outgoing, sum_into}
use Rattle.graph_model.specs.Bounds.{AreUpTo, bounds, out_bounds, IsBounded, IsInputFor, IsWithin}
use Rattle.graph_model.proofs.AnswerLaws.{length-given_by, out-solves}
use Rattle.graph_model.proofs.BlockLaws.{length-frames_of, frames_are_interleaved}
use Rattle.graph_model.proofs.BoundFacts.{length-ins, outs_are}
use Rattle.graph_model.proofs.BoundLaws.{samples_are_bounded}
use Rattle.graph_model.proofs.HistoryLaws.{length-history_of, sample-past}
use Rattle.graph_model.proofs.InterleavingLaws.{AreWide, wide-frames_of, get_or-interleaved}
use Rattle.graph_model.proofs.NameFacts.{any_node, name_is, node_is}
use Rattle.graph_model.proofs.NodeFacts.{named, input_is, index_of, ins_is, outs_is}
use Rattle.graph_model.proofs.RankLaws.{sound_is_ranked}
use Rattle.graph_model.proofs.StreamFacts.{wide-given}
use Rattle.graph_model.specs.declared.kind.Kind.{Kind}
use Rattle.graph_model.specs.declared.kind.Kind.TheVariants.{Input}
use Rattle.graph_model.specs.declared.graph.Node.{Node}
use Rattle.graph_model.specs.declared.graph.Graph.{Graph}

-- the samples of a history that is nowhere larger than b
pub interleaved_small : (b : ℕ) (h : History) → ((c k : ℕ) → unsigned_abs (sample h c k) ≤ b) → AreUpTo b (interleaved h)
interleaved_small b [] small = λ k d l. absurd (omega arith)
interleaved_small b (f ∷ h) small =
    All-append (λ x. unsigned_abs x ≤ b) (interleaved h) f (interleaved_small b h (λ c k. small c (suc k)))
    (λ c d l. subst (λ x. unsigned_abs x ≤ b) (get_or_default f c (pos 0) d l) (small c 0))

-- a frame in a history has its width, and past it there is nothing
wide_frame : (m : ℕ) (h : History) (k : ℕ) → AreWide m h → length (get_or h k []) ≤ m
wide_frame m [] k w = omega arith
wide_frame m (f ∷ h) zero w = let e = w.0 in omega arith
wide_frame m (f ∷ h) (suc k) w = wide_frame m h k w.1

pub sample_wide : (m : ℕ) (h : History) (c k : ℕ) → AreWide m h → m ≤ c → sample h c k ≡ pos 0
sample_wide m h c k w past = let l = wide_frame m h k w in get_or_past (get_or h k []) c (pos 0) (omega arith)

all_at : (b : ℕ) (bs : List ℕ) (c : ℕ) → All (λ n. n ≤ b) bs → get_or bs c 0 ≤ b
all_at b bs c all =
    elim (cases_lt c (length bs)) [
      | inl here ↦ all c 0 here
      | inr past ↦ (let none = get_or_past bs c 0 past in omega arith)
    ]

-- ---- the frames of interleaved samples, of which there are n of m samples, and none is larger than b
module _ (m n : ℕ) (xs : List ℤ) (some : 0 < m) (whole : length xs ≡ n * m) (b : ℕ) (small : AreUpTo b xs) where
  any_place : (i : ℕ) → unsigned_abs (get_or xs i (pos 0)) ≤ b
  any_place i =
      elim (cases_lt i (length xs)) [
        | inl here ↦ small i (pos 0) here
        | inr past ↦ (let none = get_or_past xs i (pos 0) past in rw none (omega arith))
      ]

  long : length (frames_of m xs) ≡ n
  long = length-frames_of m n xs some whole

  -- sample c, k frames ago, stands among them
  pub frames_small : (c k : ℕ) → unsigned_abs (sample (frames_of m xs) c k) ≤ b
  frames_small c k =
      elim (cases_lt c m) [
        | inr wide ↦ (let none = sample_wide m (frames_of m xs) c k (wide-frames_of m n xs some whole) wide in rw none (omega arith))
        | inl here ↦ elim (cases_lt k n) [
          | inr past ↦ (let none = sample-past (frames_of m xs) c k (let l = long in omega arith) in rw none (omega arith))
          | inl recent ↦
              (let back : length (frames_of m xs) - 1 - (n - 1 - k) ≡ k = (let l = long in omega arith) in
              let at : get_or (interleaved (frames_of m xs)) ((n - 1 - k) * m + c) (pos 0) ≡ sample (frames_of m xs) c (length (frames_of m xs) - 1 - (n - 1 - k)) =
              get_or-interleaved m (frames_of m xs) (wide-frames_of m n xs some whole) (n - 1 - k) c (let l = long in omega arith) here in
              let is : get_or xs ((n - 1 - k) * m + c) (pos 0) ≡ sample (frames_of m xs) c k =
              ap (λ ys. get_or ys ((n - 1 - k) * m + c) (pos 0)) (sym (frames_are_interleaved m n xs some whole)) ∙ at ∙ ap (sample (frames_of m xs) c) back in
              subst (λ x. unsigned_abs x ≤ b) is (any_place ((n - 1 - k) * m + c)))
        ]
      ]

-- ---- the bounds of a sound graph
module _ (g : Graph) (sound : IsSound g) where
  pub bounded_at : (i : ℕ) → i < length g.nodes → IsBounded (bounds g (uid_at g i))
  bounded_at i lt = subst (λ w. IsBounded (bounds g w)) (sym (name_is g i lt)) (sound.headroom i any_node lt)

  pub bound_is : (i : ℕ) → i < length g.nodes → IsBoundOf (get_or g.nodes i any_node).kind (bounds g (uid_at g i))
  bound_is i inside = record {
    ins = length-ins g (uid_at g i) ∙ ins_is g sound i any_node inside;
    outs = outs_are g sound.shaped (uid_at g i) (get_or g.nodes i any_node) (node_is g (named g sound) i any_node inside);
    bounded = bounded_at i inside;
  }

-- ---- a sound graph at positions p, into which n frames h come whose samples are at most 2 ^ 31 in size
module _ (g : Graph) (sound : IsSound g) (p : ℕ → ℕ) (h : History) (n : ℕ)
    (long : length h ≡ n) (wide : AreWide (in_channels g) h) (small : (c k : ℕ) → unsigned_abs (sample h c k) ≤ 2 ^ 31) where
  input_for : IsInputFor g h
  input_for v node found is c k =
      let at = index_of g sound v node found in
      let there : is_input (get_or g.nodes at.0 node).kind ≡ true = ap (λ (n : Node). is_input n.kind) at.3 ∙ is in
      let channels : outs_of node.kind ≡ in_channels g = ap (λ (n : Node). outs_of n.kind) (sym at.3) ∙ input_is g sound at.0 node at.1 there in
      of_input node.kind is channels
    where
      of_input : (kind : Kind) → is_input kind ≡ true → outs_of kind ≡ in_channels g → unsigned_abs (sample h c k) ≤ get_or (out_bounds kind []) c 0
      of_input (Input n) i same =
          elim (cases_lt c n) [
            | inl here ↦ (let b = get_or-replicate n c (2 ^ 31) 0 here in let l = small c k in rw b l)
            | inr past ↦ (let none = sample_wide n h c k (subst (λ m. AreWide m h) (sym same) wide) past in rw none (omega arith))
          ]
      of_input kind i same = absurd (false≢true i)

  -- no sample that goes out, of any name, is larger than 2 ^ 46
  pub outgoing_small : (v c k : ℕ) → unsigned_abs (sample (outgoing g p h v) c k) ≤ 2 ^ 46
  outgoing_small v c k =
      elim (node_named g v) as (λ o. node_named g v ≡ o → unsigned_abs (sample (outgoing g p h v) c k) ≤ 2 ^ 46) [
        | None ↦ λ none.
            (let nothing : outgoing g p h v ≡ [] =
            out-solves g p h (depth g) (sound_is_ranked g sound) v
            ∙ ap (λ o. given o h (incoming g p h v)) none in
            subst (λ h. unsigned_abs (sample h c k) ≤ 2 ^ 46) (sym nothing) (omega arith))
        | Some node ↦ λ found.
            (let at = index_of g sound v node found in
            let bounded : IsBounded (bounds g v) = subst (λ w. IsBounded (bounds g w)) at.2 (bounded_at g sound at.0 at.1) in
            let within = (samples_are_bounded g p h input_for v).1 c k in
            let most = all_at (2 ^ 46) (bounds g v).outs c bounded.1 in
            omega arith)
      ] refl

  -- ---- by index
  module _ (i : ℕ) (inside : i < length g.nodes) where
    pub incoming_within : IsWithin (bounds g (uid_at g i)).ins (incoming g p h (uid_at g i))
    incoming_within = (samples_are_bounded g p h input_for (uid_at g i)).0

    pub outgoing_given : outgoing g p h (uid_at g i)
        ≡ given_by (get_or g.nodes i any_node).kind h (incoming g p h (uid_at g i))
    outgoing_given =
        out-solves g p h (depth g) (sound_is_ranked g sound) (uid_at g i)
        ∙ ap (λ o. given o h (incoming g p h (uid_at g i))) (node_is g (named g sound) i any_node inside)

    pub wide_outgoing : AreWide (outs_at g (uid_at g i)) (outgoing g p h (uid_at g i))
    wide_outgoing =
        subst (λ m. AreWide m (outgoing g p h (uid_at g i))) (sym (outs_is g sound i any_node inside))
        (subst (AreWide (outs_of (get_or g.nodes i any_node).kind)) (sym outgoing_given)
        (wide-given (get_or g.nodes i any_node).kind h (incoming g p h (uid_at g i))
        (λ is. subst (λ m. AreWide m h) (sym (input_is g sound i any_node inside is)) wide)))

    pub long_outgoing : length (outgoing g p h (uid_at g i)) ≡ n
    long_outgoing =
        ap length outgoing_given
        ∙ length-given_by (get_or g.nodes i any_node).kind h (incoming g p h (uid_at g i))
        (length-history_of (length h) (ins_at g (uid_at g i)) (sum_into g p (outgoing g p h) (uid_at g i)))
        ∙ long
