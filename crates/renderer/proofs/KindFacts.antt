-- What goes out of a node, by its kind.
use Rattle.std.proofs.Common.{◌≡◌, ℕ, ◌+◌, ◌*◌, ◌%◌, ◌<◌, List, [], length, get_or, ℤ, refl, sym, ◌∙◌, ap, subst, arith, false}
use Rattle.std.proofs.lemmas.Bool.{false≢true}
use Rattle.std.proofs.lemmas.List.{get_or_default}
use Rattle.std.proofs.lemmas.List.Elements.{All-from_recursion}
use Rattle.std.proofs.lemmas.Nat.{mod-mul-add}
use Rattle.graph_model.specs.Histories.{frames_of, interleaved}
use Rattle.graph_model.specs.Kinds.{ins_of, stream_of}
use Rattle.graph_model.specs.Graphs.{is_input, ins_at}
use Rattle.graph_model.specs.Bounds.{bounds, IsWithin}
use Rattle.graph_model.specs.Ranges.{HasRange}
use Rattle.graph_model.specs.Answers.{given_by, incoming, outgoing, sum_into}
use Rattle.graph_model.proofs.BlockLaws.{interleaved_are_frames}
use Rattle.graph_model.specs.declared.kind.Kind.{Kind}
use Rattle.graph_model.specs.declared.kind.Kind.TheVariants.{Input, Output, Gain, Mixer, Fir, Biquad, Limiter, Delay, Insert}
use Rattle.graph_model.specs.declared.graph.Node.{Node}
use Rattle.graph_model.specs.declared.graph.Bound.{Bound}
use Rattle.graph_model.specs.Kernels.{IsBoundOf}
use Rattle.processors.specs.Types.{IsBetweenEnds}
use Rattle.graph_model.specs.Named.{uid_at}
use Rattle.graph_model.proofs.NameFacts.{any_node}
use Rattle.renderer.specs.Evaluations.{IsEvaluation, input_of, positions_of, incoming_at, outgoing_at}
use Rattle.renderer.specs.declared.evaluation.Evaluation.{Evaluation}
use Rattle.graph_model.proofs.InterleavingLaws.{AreWide, wide-history_of, length-interleaved}
use Rattle.graph_model.proofs.NodeFacts.{ins_is, range_at}
use Rattle.graph_model.proofs.StreamFacts.{given_input, given_processor, interleaved-output}
use Rattle.renderer.proofs.OutgoingFacts.{input_interleaved, incoming_within, bound_is, outgoing_given}

-- something comes into every kind but an input
pub some_ins : (kind : Kind) → HasRange kind → is_input kind ≡ false → 0 < ins_of kind
some_ins (Input channels) r p = absurd (false≢true (sym p))
some_ins (Output channels) r p = let l = r.0 in omega arith
some_ins (Gain channels gain) r p = let a = r.0 in let l = a.0 in omega arith
some_ins (Mixer ins outs gains) r p = let a = r.0 in let l = a.0 in omega arith
some_ins (Fir channels taps shift latency) r p = let a = r.0 in let l = a.0 in omega arith
some_ins (Biquad channels b0 b1 b2 a1 a2 shift bits) r p = let a = r.0 in let l = a.0 in omega arith
some_ins (Limiter channels threshold lookahead) r p = let a = r.0 in let l = a.0 in omega arith
some_ins (Delay channels samples) r p = let a = r.0 in let l = a.0 in omega arith
some_ins (Insert channels samples) r p = let a = r.0 in let l = a.0 in omega arith

-- a kind that is neither end
pub between_ends : (kind : Kind) → ((n : ℕ) → kind ≡ Input n → ⊥) → ((n : ℕ) → kind ≡ Output n → ⊥) → IsBetweenEnds kind
between_ends (Input channels) i o = absurd (i channels refl)
between_ends (Output channels) i o = absurd (o channels refl)
between_ends (Gain channels gain) i o = (refl, refl)
between_ends (Mixer ins outs gains) i o = (refl, refl)
between_ends (Fir channels taps shift latency) i o = (refl, refl)
between_ends (Biquad channels b0 b1 b2 a1 a2 shift bits) i o = (refl, refl)
between_ends (Limiter channels threshold lookahead) i o = (refl, refl)
between_ends (Delay channels samples) i o = (refl, refl)
between_ends (Insert channels samples) i o = (refl, refl)

module _ (e : Evaluation) (s : IsEvaluation e) (i : ℕ) (inside : i < length e.graph.now.nodes) (ns : List Node) (d : Node) (same : ns ≡ e.graph.now.nodes) where
  node_same : get_or ns i d ≡ get_or e.graph.now.nodes i any_node
  node_same = ap (λ xs. get_or xs i d) same ∙ get_or_default e.graph.now.nodes i d any_node inside

  given_at : outgoing e.graph.now (positions_of e) (input_of e) (uid_at e.graph.now i)
      ≡ given_by (get_or ns i d).kind (input_of e) (incoming e.graph.now (positions_of e) (input_of e) (uid_at e.graph.now i))
  given_at =
      outgoing_given e s i inside
      ∙ ap (λ (n : Node). given_by n.kind (input_of e) (incoming e.graph.now (positions_of e) (input_of e) (uid_at e.graph.now i))) (sym node_same)

  pub at_input : (n : ℕ) → (get_or ns i d).kind ≡ Input n → e.input.now ≡ outgoing_at e i
  at_input n is =
      sym (ap interleaved (given_at ∙ given_input (get_or ns i d).kind (input_of e) (incoming e.graph.now (positions_of e) (input_of e) (uid_at e.graph.now i)) (ap is_input is))
      ∙ input_interleaved e s)

  pub at_output : (n : ℕ) → (get_or ns i d).kind ≡ Output n → [] ≡ outgoing_at e i
  at_output n is =
      sym (ap interleaved (given_at ∙ ap (λ k. given_by k (input_of e) (incoming e.graph.now (positions_of e) (input_of e) (uid_at e.graph.now i))) is)
      ∙ interleaved-output n (incoming e.graph.now (positions_of e) (input_of e) (uid_at e.graph.now i)))

  -- ---- a processor
  pub has_range : HasRange (get_or ns i d).kind
  has_range = subst (λ (n : Node). HasRange n.kind) (sym node_same) (range_at e.graph.now s.sound i any_node inside).1

  pub has_bound : (b : Bound) → b ≡ bounds e.graph.now (uid_at e.graph.now i) → IsBoundOf (get_or ns i d).kind b
  has_bound b is = subst (IsBoundOf (get_or ns i d).kind) (sym is) (subst (λ (n : Node). IsBoundOf n.kind (bounds e.graph.now (uid_at e.graph.now i))) (sym node_same) (bound_is e s i inside))

  channels : ins_of (get_or ns i d).kind ≡ ins_at e.graph.now (uid_at e.graph.now i)
  channels = ap (λ (n : Node). ins_of n.kind) node_same ∙ sym (ins_is e.graph.now s.sound i any_node inside)

  wide : AreWide (ins_of (get_or ns i d).kind) (incoming e.graph.now (positions_of e) (input_of e) (uid_at e.graph.now i))
  wide =
      subst (λ m. AreWide m (incoming e.graph.now (positions_of e) (input_of e) (uid_at e.graph.now i))) (sym channels)
      (wide-history_of (length (input_of e)) (ins_at e.graph.now (uid_at e.graph.now i))
      (sum_into e.graph.now (positions_of e) (outgoing e.graph.now (positions_of e) (input_of e)) (uid_at e.graph.now i)))

  module _ (xs : List ℤ) (are : xs ≡ incoming_at e i) (p : IsBetweenEnds (get_or ns i d).kind) where
    some : 0 < ins_of (get_or ns i d).kind
    some = some_ins (get_or ns i d).kind has_range p.0

    pub whole : length xs % ins_of (get_or ns i d).kind ≡ 0
    whole =
        let h = incoming e.graph.now (positions_of e) (input_of e) (uid_at e.graph.now i) in
        let long : length xs ≡ length (incoming e.graph.now (positions_of e) (input_of e) (uid_at e.graph.now i)) * ins_of (get_or ns i d).kind + 0 =
        (let a = ap (λ ys. length ys) are in let b = length-interleaved (ins_of (get_or ns i d).kind) (incoming e.graph.now (positions_of e) (input_of e) (uid_at e.graph.now i)) wide in omega arith) in
        ap (λ n. n % ins_of (get_or ns i d).kind) long ∙ mod-mul-add (length (incoming e.graph.now (positions_of e) (input_of e) (uid_at e.graph.now i))) (ins_of (get_or ns i d).kind) 0 some

    are_frames : frames_of (ins_of (get_or ns i d).kind) xs ≡ incoming e.graph.now (positions_of e) (input_of e) (uid_at e.graph.now i)
    are_frames =
        ap (frames_of (ins_of (get_or ns i d).kind)) are
        ∙ interleaved_are_frames (ins_of (get_or ns i d).kind) (incoming e.graph.now (positions_of e) (input_of e) (uid_at e.graph.now i)) some
        (All-from_recursion (λ f. length f ≡ ins_of (get_or ns i d).kind) (incoming e.graph.now (positions_of e) (input_of e) (uid_at e.graph.now i)) wide)

    pub within : (b : Bound) → b ≡ bounds e.graph.now (uid_at e.graph.now i) → IsWithin b.ins (frames_of (ins_of (get_or ns i d).kind) xs)
    within b is = subst (λ (v : Bound). IsWithin v.ins (frames_of (ins_of (get_or ns i d).kind) xs)) (sym is) (subst (IsWithin (bounds e.graph.now (uid_at e.graph.now i)).ins) (sym are_frames) (incoming_within e s i inside))

    pub at_processor : interleaved (stream_of (get_or ns i d).kind (frames_of (ins_of (get_or ns i d).kind) xs)) ≡ outgoing_at e i
    at_processor =
        ap (λ k. interleaved (stream_of (get_or ns i d).kind k)) are_frames
        ∙ sym (ap interleaved (given_at ∙ given_processor (get_or ns i d).kind (input_of e) (incoming e.graph.now (positions_of e) (input_of e) (uid_at e.graph.now i)) p.0))
