-- From whole histories to functions of time.
use Rattle.std.proofs.Common.{◌≡◌, ℕ, zero, suc, ◌+◌, ◌-◌, List, [], ◌∷◌, length, map, drop, ℤ, pos, refl, sym, ap, ◌∙◌, subst, arith, Some, None, true, ltb}
use Rattle.std.specs.List.{range_with_len}
use Rattle.std.specs.Option.{is_some}
use Rattle.std.proofs.lemmas.Bool.{cond-true, cond-false, lt-ltb, le-ltb}
use Rattle.std.proofs.lemmas.List.FromFn.{get_or-map-range_with_len}
use Rattle.graph_model.specs.Histories.{Frame, History, history_of, sample, each}
use Rattle.graph_model.specs.StreamLaws.{sample-drop}
use Rattle.graph_model.specs.Kinds.{rule_of}
use Rattle.graph_model.specs.Graphs.{IsRanked, IsNode, node_named, ins_at, connections_to}
use Rattle.graph_model.specs.Answers.{delay, sum_of, sum_into, given, given_by, outgoing, incoming}
use Rattle.graph_model.proofs.HistoryLaws.{sum_of-same, all_of, length-history_of, sample-past}
use Rattle.graph_model.proofs.AnswerLaws.{in-causal, length-given_by, length-out, out-causal, out-solves}
use Rattle.graph_model.proofs.BlockLaws.{length-before}
use Rattle.graph_model.proofs.StreamFacts.{given_input, given_processor}
use Rattle.graph_model.specs.declared.graph.Node.{Node}
use Rattle.graph_model.specs.declared.graph.Graph.{Graph}
use Rattle.graph_model.specs.Histories.{before, newest}
use Rattle.graph_model.specs.Streams.{on, later, in_at, out_at, tap, AreStreams, HistoriesAreStreams, IncomingIsBefore, OutgoingIsBefore}
use Rattle.graph_model.proofs.CommonFacts.{by_lt}

-- ---- what came in before a time
pub drop-before : (x : ℕ → Frame) (j n : ℕ) → drop j (before x (j + n)) ≡ before x n
drop-before x zero n = let e : 0 + n ≡ n = omega arith in ap (before x) e
drop-before x (suc j) n = let e : suc j + n ≡ suc (j + n) = omega arith in ap (λ m. drop (suc j) (before x m)) e ∙ drop-before x j n

empty_is : (h : History) → length h ≡ 0 → h ≡ []
empty_is [] e = refl
empty_is (f ∷ h) e = absurd (omega (arith, e))

first_is : (h : History) (n : ℕ) → length h ≡ suc n → h ≡ newest h ∷ drop 1 h
first_is [] n e = absurd (omega (arith, e))
first_is (f ∷ h) n e = refl

-- histories that grow by a frame at a time are those of a stream
pub grows : (H : ℕ → History) → ((n : ℕ) → length (H n) ≡ n) → ((n : ℕ) → drop 1 (H (suc n)) ≡ H n) → (n : ℕ) → H n ≡ before (λ t. newest (H (suc t))) n
grows H len less zero = empty_is (H 0) (len 0)
grows H len less (suc n) = first_is (H (suc n)) n (len (suc n)) ∙ ap (λ h. newest (H (suc n)) ∷ h) (less n ∙ grows H len less n)

-- ---- what comes in
pub length-incoming : (g : Graph) (p : ℕ → ℕ) (h : History) (v : ℕ) → length (incoming g p h v) ≡ length h
length-incoming g p h v = length-history_of (length h) (ins_at g v) (sum_into g p (outgoing g p h) v)

pub incoming_is : (g : Graph) (p : ℕ → ℕ) (x : ℕ → Frame) (v n : ℕ) → incoming g p (before x n) v ≡ before (in_at g p x v) n
incoming_is g p x v n =
    grows (λ m. incoming g p (before x m) v)
    (λ m. length-incoming g p (before x m) v ∙ length-before x m)
    (λ m. sym (in-causal g p (before x (suc m)) 1 v)) n

-- ---- what goes out
pub length-outgoing : (g : Graph) (p rank : ℕ → ℕ) (h : History) (v : ℕ) → IsRanked rank g → IsNode g v → length (outgoing g p h v) ≡ length h
length-outgoing g p rank h v ranked is =
    elim (node_named g v) as (λ n. node_named g v ≡ n → length (outgoing g p h v) ≡ length h) [
      | None ↦ λ e. let no : is_some {T = Node} None ≡ true = subst (λ n. is_some n ≡ true) e is in absurd (cc)
      | Some n ↦ λ e.
          ap length (out-solves g p h rank ranked v ∙ ap (λ m. given m h (incoming g p h v)) e)
          ∙ length-given_by n.kind h (incoming g p h v) (length-incoming g p h v)
    ] refl

pub outgoing_is : (g : Graph) (p rank : ℕ → ℕ) (x : ℕ → Frame) (v n : ℕ) → IsRanked rank g → IsNode g v → outgoing g p (before x n) v ≡ before (out_at g p x v) n
outgoing_is g p rank x v n ranked is =
    grows (λ m. outgoing g p (before x m) v)
    (λ m. length-outgoing g p rank (before x m) v ranked is ∙ length-before x m)
    (λ m. sym (out-causal g p (before x (suc m)) 1 (length g.nodes) v)) n

-- ---- the equations
-- what a source gave d frames ago is what it gives d later
sample_is : (g : Graph) (p : ℕ → ℕ) (x : ℕ → Frame) (u channel d t : ℕ) → sample (outgoing g p (before x (suc t)) u) channel d ≡ later d (on (out_at g p x u) channel) t
sample_is g p x u channel d t =
    by_lt t d
    (λ past. sample-past (outgoing g p (before x (suc t)) u) channel d
    (omega (arith, length-out g p (before x (suc t)) (length g.nodes) u, length-before x (suc t)))
    ∙ sym (cond-true (ltb t d) (pos 0) (on (out_at g p x u) channel (t - d)) (lt-ltb t d past)))
    (λ in_time.
    let back : d + suc (t - d) ≡ suc t = omega arith in
    let none : 0 + d ≡ d = omega arith in
    let then : drop d (outgoing g p (before x (suc t)) u) ≡ outgoing g p (before x (suc (t - d))) u =
    sym (out-causal g p (before x (suc t)) d (length g.nodes) u)
    ∙ ap (λ h. outgoing g p h u) (ap (λ m. drop d (before x m)) (sym back) ∙ drop-before x d (suc (t - d))) in
    sym (sample-drop d (outgoing g p (before x (suc t)) u) channel 0 ∙ ap (λ k. sample (outgoing g p (before x (suc t)) u) channel k) none)
    ∙ ap (λ h. sample h channel 0) then
    ∙ sym (cond-false (ltb t d) (pos 0) (on (out_at g p x u) channel (t - d)) (le-ltb t d in_time)))

newest_of : (n m : ℕ) (f : ℕ → ℕ → ℤ) → newest (history_of (suc n) m f) ≡ map (λ c. f c 0) (range_with_len 0 m)
newest_of n m f = get_or-map-range_with_len (λ j. map (λ c. f c j) (range_with_len 0 m)) 0 (suc n) 0 0 [] (omega arith) (omega arith)

map_same : {X : Type 0} (f g : ℕ → X) (ns : List ℕ) → ((c : ℕ) → f c ≡ g c) → map f ns ≡ map g ns
map_same f g ns e = λ i. map (λ c. e c i) ns

pub sums_are : (g : Graph) (p : ℕ → ℕ) (x : ℕ → Frame) (v t : ℕ)
    → in_at g p x v t ≡ map (λ d. sum_of (λ c. tap g p (out_at g p x) c t) (connections_to g v d)) (range_with_len 0 (ins_at g v))
sums_are g p x v t =
    ap (λ n. newest (history_of n (ins_at g v) (sum_into g p (outgoing g p (before x (suc t))) v))) (length-before x (suc t))
    ∙ newest_of t (ins_at g v) (sum_into g p (outgoing g p (before x (suc t))) v)
    ∙ map_same (λ d. sum_into g p (outgoing g p (before x (suc t))) v d 0) (λ d. sum_of (λ c. tap g p (out_at g p x) c t) (connections_to g v d)) (range_with_len 0 (ins_at g v))
    (λ d. sum_of-same (λ c. sample (outgoing g p (before x (suc t)) c.src.0) c.src_channel (0 + delay g p c)) (λ c. tap g p (out_at g p x) c t) (connections_to g v d)
    (all_of _ (connections_to g v d) (λ c.
    let none : 0 + delay g p c ≡ delay g p c = omega arith in
    ap (λ k. sample (outgoing g p (before x (suc t)) c.src.0) c.src_channel k) none ∙ sample_is g p x c.src.0 c.src_channel (delay g p c) t)))

newest-each : (rule : History → Frame) (h : History) (n : ℕ) → length h ≡ suc n → newest (each rule h) ≡ rule h
newest-each rule [] n e = absurd (omega (arith, e))
newest-each rule (f ∷ h) n e = refl

out_named : (g : Graph) (p rank : ℕ → ℕ) (h : History) (v : ℕ) (n : Node) → IsRanked rank g → node_named g v ≡ Some n → outgoing g p h v ≡ given_by n.kind h (incoming g p h v)
out_named g p rank h v n ranked e = out-solves g p h rank ranked v ∙ ap (λ m. given m h (incoming g p h v)) e

pub streams_are : (g : Graph) (p rank : ℕ → ℕ) (x : ℕ → Frame) → IsRanked rank g → AreStreams g p x (in_at g p x) (out_at g p x)
streams_are g p rank x ranked = record {
  sums = sums_are g p x;
  entry = λ v t n named input.
      ap newest (out_named g p rank (before x (suc t)) v n ranked named ∙ given_input n.kind (before x (suc t)) (incoming g p (before x (suc t)) v) input);
  gives = λ v t n named other.
      ap newest (out_named g p rank (before x (suc t)) v n ranked named ∙ given_processor n.kind (before x (suc t)) (incoming g p (before x (suc t)) v) other)
      ∙ newest-each (rule_of n.kind) (incoming g p (before x (suc t)) v) t (length-incoming g p (before x (suc t)) v ∙ length-before x (suc t))
      ∙ ap (rule_of n.kind) (incoming_is g p x v (suc t));
}

pub histories_are_streams : HistoriesAreStreams
histories_are_streams g p rank x ranked = streams_are g p rank x ranked

pub incoming_is_before : IncomingIsBefore
incoming_is_before = incoming_is

pub outgoing_is_before : OutgoingIsBefore
outgoing_is_before = outgoing_is
