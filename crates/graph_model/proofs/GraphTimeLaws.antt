-- What comes into a node, as an index formula.
use Rattle.std.proofs.Common.{◌≡◌, ℕ, zero, suc, ◌+◌, ◌-◌, ◌<◌, [], length, pos, refl, sym, ap, ◌∙◌, arith, Option, Some, None, true, false, cond, ◌⊎◌, inl, inr, List, ◌∷◌, ◌==◌}
use Rattle.std.specs.Prelude.{nat_le}
use Rattle.std.specs.List.{find}
use Rattle.graph_model.specs.Histories.{History, sample}
use Rattle.graph_model.specs.StreamLaws.{length-each}
use Rattle.graph_model.specs.Kinds.{rule_of}
use Rattle.graph_model.specs.Graphs.{node_named, ins_at, connections_to, output_name, is_input}
use Rattle.graph_model.specs.Paths.{reach}
use Rattle.graph_model.specs.Answers.{sum_of, delay, into, given, given_by, out_within, outgoing, incoming}
use Rattle.graph_model.specs.Times.{at_time, earlier, InputFormula, IncomingFormula, OutputFormula}
use Rattle.graph_model.specs.declared.kind.Kind.{Kind}
use Rattle.graph_model.specs.declared.kind.Kind.TheVariants.{Input}
use Rattle.graph_model.specs.declared.graph.Node.{Node}
use Rattle.graph_model.specs.declared.graph.Graph.{Graph}
use Rattle.graph_model.proofs.HistoryLaws.{sum_of-same, all_of, length-history_of, sample-history_of}
use Rattle.graph_model.proofs.TimeLaws.{at_time_ago, earlier_ago}

-- ---- the input node
given_input : (kind : Kind) (h s : History) → is_input kind ≡ true → given_by kind h s ≡ h
given_input (Input channels) h s e = refl
given_input kind h s e = absurd (cc)

found_some : (ns : List Node) (v : ℕ) (n : Node) → find (λ m. m.uid.0 == v) ns ≡ Some n → (k : ℕ) × (length ns ≡ suc k)
found_some [] v n e = absurd (cc)
found_some (m ∷ ms) v n e = (length ms, omega arith)

pub input_formula : InputFormula
unfolding out_within
input_formula g p h v n named input =
    let w = found_some g.nodes v n named in
    ap (λ k. out_within g p h k v) w.1 ∙ ap (λ m. given m h (into g p (length h) (out_within g p h w.0) v)) named ∙ given_input n.kind h _ input

-- ---- what goes out is as long as what comes in, or there is nothing
long_by : (kind : Kind) (h s : History) → length s ≡ length h → length (given_by kind h s) ≡ length h
long_by (Input channels) h s e = refl
long_by kind h s e = length-each (rule_of kind) s ∙ e

long_given : (node : Option Node) (h s : History) → length s ≡ length h → (length (given node h s) ≡ length h) ⊎ (given node h s ≡ [])
long_given None h s e = inr refl
long_given (Some n) h s e = inl (long_by n.kind h s e)

long_out : (g : Graph) (p : ℕ → ℕ) (h : History) (k v : ℕ) → (length (out_within g p h k v) ≡ length h) ⊎ (out_within g p h k v ≡ [])
unfolding out_within
long_out g p h zero v = inr refl
long_out g p h (suc k) v = long_given (node_named g v) h (into g p (length h) (out_within g p h k) v) (length-history_of (length h) (ins_at g v) _)

nothing_earlier : (c t k : ℕ) → earlier [] c t k ≡ pos 0
nothing_earlier c t k = elim (nat_le k t) as (λ b. cond b (at_time [] c (t - k)) (pos 0) ≡ pos 0) [ true ↦ refl | false ↦ refl ]

-- the sample that is `k` later than `length h - 1 - t` frames ago is the one k before time t
sample_earlier : (o h : History) (c t k : ℕ) → (length o ≡ length h) ⊎ (o ≡ []) → t < length h → sample o c (length h - 1 - t + k) ≡ earlier o c t k
sample_earlier o h c t k (inl same) lt =
    let place : length h - 1 - t + k ≡ k + (length o - 1 - t) = omega arith in
    ap (λ j. sample o c j) place ∙ sym (earlier_ago o c t k (omega arith))
sample_earlier o h c t k (inr none) lt = ap (λ s. sample s c (length h - 1 - t + k)) none ∙ sym (nothing_earlier c t k) ∙ ap (λ s. earlier s c t k) (sym none)

pub incoming_formula : IncomingFormula
incoming_formula g p h v d t ld lt =
    let outs = outgoing g p h in
    let f = λ (d : ℕ) (k : ℕ). sum_of (λ c. sample (outs c.src.0) c.src_channel (k + delay g p c)) (connections_to g v d) in
    let long = length-history_of (length h) (ins_at g v) f in
    at_time_ago (incoming g p h v) d t (omega (arith, long))
    ∙ ap (λ l. sample (incoming g p h v) d (l - 1 - t)) long
    ∙ sample-history_of (length h) (ins_at g v) f d (length h - 1 - t) (omega arith) ld
    ∙ sum_of-same (λ c. sample (outs c.src.0) c.src_channel (length h - 1 - t + delay g p c)) (λ c. earlier (outs c.src.0) c.src_channel t (delay g p c))
    (connections_to g v d)
    (all_of _ (connections_to g v d) (λ c. sample_earlier (outs c.src.0) h c.src_channel t (delay g p c) (long_out g p h (length g.nodes) c.src.0) lt))

pub output_formula : OutputFormula
output_formula g h d t ld lt = incoming_formula g (reach g) h (output_name g) d t ld lt
