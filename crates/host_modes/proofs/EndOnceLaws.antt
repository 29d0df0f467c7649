-- What is asked has one end with what a folder holds.
use Rattle.std.proofs.Common.{◌≡◌, ℕ, List, Option, Some, None, refl, sym, ap, ◌∙◌, subst, inl, inr, ◌<◌, ◌≤◌, arith}
use Rattle.std.specs.Prelude.{◌⊎◌, Result, Ok, Err}
use Rattle.graph_model.specs.Graphs.{in_channels}
use Rattle.graph_model.specs.declared.graph.Graph.{Graph}
use Rattle.graph_records.specs.Walk.{walk}
use Rattle.graph_records.specs.declared.fault.RecordFault.{RecordFault}
use Rattle.connections.specs.Faults.{IsFirstFault}
use Rattle.connections.specs.Laws.{FaultsAreUnsound}
use Rattle.connections.proofs.FaultFacts.{stage, fails, all_checks}
use Rattle.connections.proofs.FirstFaultLaws.{first_fault_is_unique}
use Rattle.connections.specs.declared.fault.GraphFault.{GraphFault}
use Rattle.plan_model.specs.Certified.{IsCertified}
use Rattle.plan_model.specs.Places.{IsNo}
use Rattle.plan_model.specs.declared.plan.Plan.{Plan}
use Rattle.plan_model.specs.declared.rule.Rule.{Rule}
use Rattle.plan_model.proofs.RefusalLaws.{no_is_one}
use Rattle.plan_text.specs.Order.{order, IsFirstBad}
use Rattle.plan_text.proofs.OnceLaws.{first_bad_is_one}
use Rattle.plan_text.proofs.PlanLaws.{text_has_no_bad, text_has_one_plan}
use Rattle.gh_outside.specs.Holdings.{Holding}
use Rattle.wav_pcm.specs.Heads.{most_data}
use Rattle.wav_pcm.specs.Files.{ReadsAs}
use Rattle.wav_pcm.proofs.HeadLaws.{reading_is_one}
use Rattle.wav_pcm.specs.declared.head.Head.{Head}
use Rattle.wav_pcm.specs.declared.head.WavFault.{WavFault}
use Rattle.command_words.specs.Checking.{CheckRequest}
use Rattle.command_words.specs.Compiling.{CompileRequest}
use Rattle.command_words.specs.Rendering.{RenderRequest}
use Rattle.command_words.specs.Requests.{render, compile, check, demo}
use Rattle.command_words.specs.declared.fault.WordsFault.TheVariants.{NoRequest, OutOfRange}
use Rattle.host_modes.specs.Asked.{Asked}
use Rattle.host_modes.specs.Causes.{IsGraphEnd, HasWavFault, IsInputEnd, IsReadEnd, HasEnd, IsEndOf, IsCompileEnd, IsTextEnd, IsCheckEnd, IsEndBy, IsToldEnd, IsCaused, Reads, plain}
use Rattle.host_modes.specs.Laws.{CompiledIsYes, EndIsOne}
use Rattle.host_modes.specs.Outputs.{data_bytes}
use Rattle.host_modes.specs.Plans.{IsJudged, IsVerdict}
use Rattle.host_modes.specs.Readings.{HoldsRecords, HoldsGraph, HoldsPlan, IsReady}
use Rattle.host_modes.specs.declared.ends.End.{End}
use Rattle.host_modes.specs.declared.ends.End.TheVariants.{Done, No, Words, SameName, Seed, Records, Graph as Checks, Wav, ReadFault, WriteFault, ReportFault, Memory, PlanText}

some_none : {X : Type 0} {x : X} → None ≡ Some x → ⊥
some_none e = cc

some_same : {X : Type 0} {x y : X} → Some x ≡ Some y → x ≡ y
some_same e = cc

ok_same : {A E : Type 0} {x y : A} → (let r : Result A E = Ok x in r ≡ Ok y) → x ≡ y
ok_same e = cc

err_same : {A E : Type 0} {x y : E} → (let r : Result A E = Err x in r ≡ Err y) → x ≡ y
err_same e = cc

ok_err : {A E : Type 0} {x : A} {y : E} → (let r : Result A E = Ok x in r ≡ Err y) → ⊥
ok_err e = cc

-- ---- the graph
pub same_graph : (name : List ℕ) (g h : Graph) (files : Holding) → HoldsRecords name g files → HoldsRecords name h files → g ≡ h
same_graph name g h files (a, at, text) (b, be, other) =
    let bytes : a ≡ b = some_same (sym at ∙ be) in
    ok_same (sym text ∙ ap walk bytes ∙ other)

-- how the checks of a graph end a run
abbrev RefusedBy : Graph → End → Type 0
RefusedBy g end = (fault : GraphFault) × (end ≡ Checks fault) × IsFirstFault g fault

-- of a name with records of a graph
of_records : (name : List ℕ) (g : Graph) (files : Holding) → HoldsRecords name g files → (end : End) → IsGraphEnd name (Some files) end → RefusedBy g end
of_records name g files (b, at, text) ReadFault none = absurd (some_none (sym none ∙ at))
of_records name g files (b, at, text) (Records fault) (c, be, bad) = absurd (ok_err (sym text ∙ ap walk (some_same (sym at ∙ be)) ∙ bad))
of_records name g files records (Checks fault) (h, holds, first) = (fault, refl, subst (λ x. IsFirstFault x fault) (same_graph name h g files holds records) first)
of_records name g files records Done r = absurd r
of_records name g files records Words r = absurd r
of_records name g files records SameName r = absurd r
of_records name g files records (Wav fault) r = absurd r
of_records name g files records WriteFault r = absurd r
of_records name g files records (No rule place) r = absurd r
of_records name g files records Seed r = absurd r
of_records name g files records ReportFault r = absurd r
of_records name g files records (PlanText line) r = absurd r
of_records name g files records Memory r = absurd r

-- of a name with other bytes
of_fault : (name b : List ℕ) (fault : RecordFault) (files : Holding) → files name ≡ Some b → walk b ≡ Err fault → (end : End) → IsGraphEnd name (Some files) end → end ≡ Records fault
of_fault name b fault files at bad ReadFault none = absurd (some_none (sym none ∙ at))
of_fault name b fault files at bad (Records other) (c, be, worse) = ap Records (err_same (sym worse ∙ ap walk (some_same (sym be ∙ at)) ∙ bad))
of_fault name b fault files at bad (Checks other) (h, (c, be, text), first) = absurd (ok_err (sym text ∙ ap walk (some_same (sym be ∙ at)) ∙ bad))
of_fault name b fault files at bad Done r = absurd r
of_fault name b fault files at bad Words r = absurd r
of_fault name b fault files at bad SameName r = absurd r
of_fault name b fault files at bad (Wav other) r = absurd r
of_fault name b fault files at bad WriteFault r = absurd r
of_fault name b fault files at bad (No rule place) r = absurd r
of_fault name b fault files at bad Seed r = absurd r
of_fault name b fault files at bad ReportFault r = absurd r
of_fault name b fault files at bad (PlanText line) r = absurd r
of_fault name b fault files at bad Memory r = absurd r

-- of a name that is not held
of_none : (name : List ℕ) (files : Holding) → files name ≡ None → (end : End) → IsGraphEnd name (Some files) end → end ≡ ReadFault
of_none name files none ReadFault r = refl
of_none name files none (Records fault) (c, be, bad) = absurd (some_none (sym none ∙ be))
of_none name files none (Checks fault) (h, (c, be, text), first) = absurd (some_none (sym none ∙ be))
of_none name files none Done r = absurd r
of_none name files none Words r = absurd r
of_none name files none SameName r = absurd r
of_none name files none (Wav fault) r = absurd r
of_none name files none WriteFault r = absurd r
of_none name files none (No rule place) r = absurd r
of_none name files none Seed r = absurd r
of_none name files none ReportFault r = absurd r
of_none name files none (PlanText line) r = absurd r
of_none name files none Memory r = absurd r

pub unsound : FaultsAreUnsound
unsound g fault first sound = fails g fault first (all_checks g sound (stage fault))

same_refusal : (g : Graph) (a b : End) → RefusedBy g a → RefusedBy g b → plain a ≡ plain b
same_refusal g a b (x, is, first) (y, be, other) = ap plain is ∙ ap Checks (first_fault_is_unique g x y first other) ∙ sym (ap plain be)

graph_ends : (name : List ℕ) (files : Holding) (a b : End) → IsGraphEnd name (Some files) a → IsGraphEnd name (Some files) b → plain a ≡ plain b
graph_ends name files ReadFault b none other = ap plain (sym (of_none name files none b other))
graph_ends name files (Records fault) b (c, at, bad) other = ap plain (sym (of_fault name c fault files at bad b other))
graph_ends name files (Checks fault) b (g, records, first) other = same_refusal g (Checks fault) b (fault, refl, first) (of_records name g files records b other)
graph_ends name files Done b r other = absurd r
graph_ends name files Words b r other = absurd r
graph_ends name files SameName b r other = absurd r
graph_ends name files (Wav fault) b r other = absurd r
graph_ends name files WriteFault b r other = absurd r
graph_ends name files (No rule place) b r other = absurd r
graph_ends name files Seed b r other = absurd r
graph_ends name files ReportFault b r other = absurd r
graph_ends name files (PlanText line) b r other = absurd r
graph_ends name files Memory b r other = absurd r

-- a graph that is read has no end of its own
graph_is_read : (name : List ℕ) (g : Graph) (files : Holding) → HoldsGraph name g files → (a : End) → IsGraphEnd name (Some files) a → ⊥
graph_is_read name g files holds a end = let w = of_records name g files holds.records a end in unsound g w.0 w.2 holds.sound

-- ---- the input
one_answer : (n : ℕ) (bytes : List ℕ) (a b : Result Head WavFault) → ReadsAs n bytes a → ReadsAs n bytes b → a ≡ b
one_answer n bytes a b r s = let w = reading_is_one n bytes in w.2 a r ∙ sym (w.2 b s)

one_fault : (q : RenderRequest) (g : Graph) (bytes : List ℕ) (a b : WavFault) → HasWavFault q g bytes a → HasWavFault q g bytes b → a ≡ b
one_fault q g bytes a b (inl r) (inl s) = err_same (one_answer (in_channels g) bytes (Err a) (Err b) r s)
one_fault q g bytes a b (inl r) (inr (h, s, long, is)) = absurd (ok_err (one_answer (in_channels g) bytes (Ok h) (Err a) s r))
one_fault q g bytes a b (inr (h, r, long, is)) (inl s) = absurd (ok_err (one_answer (in_channels g) bytes (Ok h) (Err b) r s))
one_fault q g bytes a b (inr (h, r, long, is)) (inr (k, s, more, be)) =
    let same : h ≡ k = ok_same (one_answer (in_channels g) bytes (Ok h) (Ok k) r s) in
    rw (is, be, same) refl

-- of a name with bytes, and without
of_bytes : (q : RenderRequest) (g : Graph) (bytes : List ℕ) (files : Holding) → files q.input ≡ Some bytes → (end : End) → IsInputEnd q g (Some files) end
    → (fault : WavFault) × (end ≡ Wav fault) × HasWavFault q g bytes fault
of_bytes q g bytes files at ReadFault none = absurd (some_none (sym none ∙ at))
of_bytes q g bytes files at (Wav fault) (c, be, has) = (fault, refl, subst (λ x. HasWavFault q g x fault) (some_same (sym be ∙ at)) has)
of_bytes q g bytes files at Done r = absurd r
of_bytes q g bytes files at Words r = absurd r
of_bytes q g bytes files at SameName r = absurd r
of_bytes q g bytes files at (Records fault) r = absurd r
of_bytes q g bytes files at (Checks fault) r = absurd r
of_bytes q g bytes files at WriteFault r = absurd r
of_bytes q g bytes files at (No rule place) r = absurd r
of_bytes q g bytes files at Seed r = absurd r
of_bytes q g bytes files at ReportFault r = absurd r
of_bytes q g bytes files at (PlanText line) r = absurd r
of_bytes q g bytes files at Memory r = absurd r

of_nothing : (q : RenderRequest) (g : Graph) (files : Holding) → files q.input ≡ None → (end : End) → IsInputEnd q g (Some files) end → end ≡ ReadFault
of_nothing q g files none ReadFault r = refl
of_nothing q g files none (Wav fault) (c, be, has) = absurd (some_none (sym none ∙ be))
of_nothing q g files none Done r = absurd r
of_nothing q g files none Words r = absurd r
of_nothing q g files none SameName r = absurd r
of_nothing q g files none (Records fault) r = absurd r
of_nothing q g files none (Checks fault) r = absurd r
of_nothing q g files none WriteFault r = absurd r
of_nothing q g files none (No rule place) r = absurd r
of_nothing q g files none Seed r = absurd r
of_nothing q g files none ReportFault r = absurd r
of_nothing q g files none (PlanText line) r = absurd r
of_nothing q g files none Memory r = absurd r

input_ends : (q : RenderRequest) (g : Graph) (files : Holding) (a b : End) → IsInputEnd q g (Some files) a → IsInputEnd q g (Some files) b → a ≡ b
input_ends q g files ReadFault b none other = sym (of_nothing q g files none b other)
input_ends q g files (Wav fault) b (c, at, has) other =
    let w = of_bytes q g c files at b other in ap Wav (one_fault q g c fault w.0 has w.2) ∙ sym w.1
input_ends q g files Done b r other = absurd r
input_ends q g files Words b r other = absurd r
input_ends q g files SameName b r other = absurd r
input_ends q g files (Records fault) b r other = absurd r
input_ends q g files (Checks fault) b r other = absurd r
input_ends q g files WriteFault b r other = absurd r
input_ends q g files (No rule place) b r other = absurd r
input_ends q g files Seed b r other = absurd r
input_ends q g files ReportFault b r other = absurd r
input_ends q g files (PlanText line) b r other = absurd r
input_ends q g files Memory b r other = absurd r

-- an input that is read has no end of its own
input_is_read : (q : RenderRequest) (g h : Graph) (head : Head) (bytes : List ℕ) (files : Holding) → g ≡ h → files q.input ≡ Some bytes → ReadsAs (in_channels g) bytes (Ok head)
    → data_bytes q g head ≤ most_data → (a : End) → IsInputEnd q h (Some files) a → ⊥
input_is_read q g h head bytes files same at reads short a end =
    let w = of_bytes q g bytes files at a (subst (λ x. IsInputEnd q x (Some files) a) (sym same) end) in
    elim w.2 [
      | inl r ↦ ok_err (one_answer (in_channels g) bytes (Ok head) (Err w.0) reads r)
      | inr (k, r, long, is) ↦
          let is_head : head ≡ k = ok_same (one_answer (in_channels g) bytes (Ok head) (Ok k) reads r) in
          let more : most_data < data_bytes q g head = subst (λ x. most_data < data_bytes q g x) (sym is_head) long in
          absurd (omega arith)
    ]

-- ---- the whole run
read_ends : (q : RenderRequest) (files : Holding) (a b : End) → IsReadEnd q (Some files) a → IsReadEnd q (Some files) b → plain a ≡ plain b
read_ends q files a b (inl r) (inl s) = graph_ends q.graph files a b r s
read_ends q files a b (inl r) (inr (g, holds, s)) = absurd (graph_is_read q.graph g files holds a r)
read_ends q files a b (inr (g, holds, r)) (inl s) = absurd (graph_is_read q.graph g files holds b s)
read_ends q files a b (inr (g, holds, r)) (inr (h, other, s)) =
    let same = same_graph q.graph g h files holds.records other.records in
    ap plain (input_ends q h files a b (subst (λ x. IsInputEnd q x (Some files) a) same r) s)

read_or_done : (q : RenderRequest) (files : Holding) (a : End) → IsReadEnd q (Some files) a → IsReady q files → ⊥
read_or_done q files a (inl r) (g, head, samples, job) = graph_is_read q.graph g files job.graph a r
read_or_done q files a (inr (h, other, r)) (g, head, samples, job) =
    input_is_read q g h head job.recording.bytes files (same_graph q.graph g h files job.graph.records other.records) job.recording.held job.recording.head_is job.short a r

ends : (q : RenderRequest) (files : Holding) (a b : End) → HasEnd q (Some files) a → HasEnd q (Some files) b → plain a ≡ plain b
ends q files a b (inl r) (inl s) = read_ends q files a b r s
ends q files a b (inl r) (inr (is, ready)) = absurd (read_or_done q files a r ready)
ends q files a b (inr (is, ready)) (inl s) = absurd (read_or_done q files b s ready)
ends q files a b (inr (is, ready)) (inr (be, other)) = ap plain (is ∙ sym be)

one_end : (q : RenderRequest) (files : Holding) (a b : End) → IsEndOf q (Some files) a → IsEndOf q (Some files) b → plain a ≡ plain b
one_end q files a b (inl (same, is)) (inl (other, be)) = ap plain (is ∙ sym be)
one_end q files a b (inl (same, is)) (inr (differs, s)) = absurd (differs same)
one_end q files a b (inr (differs, r)) (inl (same, be)) = absurd (differs same)
one_end q files a b (inr (differs, r)) (inr (other, s)) = ends q files a b r s

-- ---- compiling
compile_ends : (q : CompileRequest) (files : Holding) (a b : End) → IsCompileEnd q (Some files) a → IsCompileEnd q (Some files) b → plain a ≡ plain b
compile_ends q files a b (inl r) (inl s) = graph_ends q.graph files a b r s
compile_ends q files a b (inl r) (inr (is, (g, holds))) = absurd (graph_is_read q.graph g files holds a r)
compile_ends q files a b (inr (is, (g, holds))) (inl s) = absurd (graph_is_read q.graph g files holds b s)
compile_ends q files a b (inr (is, h)) (inr (be, k)) = ap plain (is ∙ sym be)

-- ---- checking
-- how the text of a plan ends a run: its name is not held, or a line is bad
abbrev TextCase : List ℕ → Holding → End → Type 0
TextCase name files end =
    ((end ≡ ReadFault) × (files name ≡ None))
    ⊎ ((line : ℕ) × (bytes : List ℕ) × (end ≡ PlanText line) × (files name ≡ Some bytes) × IsFirstBad order bytes line)

text_case : (name : List ℕ) (files : Holding) (end : End) → IsTextEnd name (Some files) end → TextCase name files end
text_case name files ReadFault none = inl (refl, none)
text_case name files (PlanText line) (bytes, at, bad) = inr (line, bytes, refl, at, bad)
text_case name files Done r = absurd r
text_case name files Words r = absurd r
text_case name files SameName r = absurd r
text_case name files (Records fault) r = absurd r
text_case name files (Checks fault) r = absurd r
text_case name files (Wav fault) r = absurd r
text_case name files WriteFault r = absurd r
text_case name files (No rule place) r = absurd r
text_case name files Seed r = absurd r
text_case name files ReportFault r = absurd r
text_case name files Memory r = absurd r

text_ends : (name : List ℕ) (files : Holding) (a b : End) → IsTextEnd name (Some files) a → IsTextEnd name (Some files) b → a ≡ b
text_ends name files a b r s = by_case (text_case name files a r) (text_case name files b s)
  where
    by_case : TextCase name files a → TextCase name files b → a ≡ b
    by_case (inl (is, none)) (inl (be, other)) = is ∙ sym be
    by_case (inl (is, none)) (inr (line, bytes, be, at, bad)) = absurd (some_none (sym none ∙ at))
    by_case (inr (line, bytes, is, at, bad)) (inl (be, none)) = absurd (some_none (sym none ∙ at))
    by_case (inr (line, bytes, is, at, bad)) (inr (more, others, be, there, worse)) =
        is ∙ ap PlanText (first_bad_is_one bytes line more bad (subst (λ b. IsFirstBad order b more) (some_same (sym there ∙ at)) worse)) ∙ sym be

-- a name with the text of a plan ends no run
pub text_is_read : (name : List ℕ) (plan : Plan) (files : Holding) → HoldsPlan name plan files → (a : End) → IsTextEnd name (Some files) a → ⊥
text_is_read name plan files (at, range) a r = by_case (text_case name files a r)
  where
    by_case : TextCase name files a → ⊥
    by_case (inl (is, none)) = some_none (sym none ∙ at)
    by_case (inr (line, bytes, is, be, bad)) = text_has_no_bad plan line range (subst (λ b. IsFirstBad order b line) (some_same (sym be ∙ at)) bad)

same_plan : (name : List ℕ) (a b : Plan) (files : Holding) → HoldsPlan name a files → HoldsPlan name b files → a ≡ b
same_plan name a b files (at, range) (be, other) = text_has_one_plan a b range other (some_same (sym at ∙ be))

-- what a verdict says
abbrev VerdictCase : Graph → Plan → End → Type 0
VerdictCase g plan end = ((end ≡ Done) × IsCertified g plan) ⊎ ((rule : Rule) × (place : ℕ) × (end ≡ No rule place) × IsNo g plan rule place)

pub verdict_case : (g : Graph) (plan : Plan) (end : End) → IsVerdict g plan end → VerdictCase g plan end
verdict_case g plan Done (certified, optimal) = inl (refl, certified)
verdict_case g plan (No rule place) fails = inr (rule, place, refl, fails)
verdict_case g plan ReadFault r = absurd r
verdict_case g plan (PlanText line) r = absurd r
verdict_case g plan Words r = absurd r
verdict_case g plan SameName r = absurd r
verdict_case g plan (Records fault) r = absurd r
verdict_case g plan (Checks fault) r = absurd r
verdict_case g plan (Wav fault) r = absurd r
verdict_case g plan WriteFault r = absurd r
verdict_case g plan Seed r = absurd r
verdict_case g plan ReportFault r = absurd r
verdict_case g plan Memory r = absurd r

-- what is certified is not refused
pub not_refused : (g : Graph) (plan : Plan) (rule : Rule) (place : ℕ) → IsCertified g plan → IsNo g plan rule place → ⊥
not_refused g plan rule place certified refusal = refusal.first.fails (certified rule)

no_same : {r s : Rule} {i j : ℕ} → (r ≡ s) × (i ≡ j) → No r i ≡ No s j
no_same (rules, places) = rw (rules, places) refl

verdicts : (g : Graph) (plan : Plan) (a b : End) → IsVerdict g plan a → IsVerdict g plan b → a ≡ b
verdicts g plan a b r s = by_case (verdict_case g plan a r) (verdict_case g plan b s)
  where
    by_case : VerdictCase g plan a → VerdictCase g plan b → a ≡ b
    by_case (inl (is, certified)) (inl (be, other)) = is ∙ sym be
    by_case (inl (is, certified)) (inr (rule, place, be, refusal)) = absurd (not_refused g plan rule place certified refusal)
    by_case (inr (rule, place, is, refusal)) (inl (be, certified)) = absurd (not_refused g plan rule place certified refusal)
    by_case (inr (rule, place, is, refusal)) (inr (other, there, be, again)) = is ∙ no_same (no_is_one g plan rule other place there refusal again) ∙ sym be

judged_once : (q : CheckRequest) (plan other : Plan) (files : Holding) (a b : End) → IsJudged q (Some files) plan a → IsJudged q (Some files) other b → a ≡ b
judged_once q plan other files a b (g, sound, holds, found, says) (h, fine, keeps, there, tells) =
    let graphs = same_graph q.graph g h files holds.records keeps.records in
    let plans = same_plan q.plan plan other files found there in
    verdicts h other a b (subst (λ p. IsVerdict h p a) plans (subst (λ x. IsVerdict x plan a) graphs says)) tells

pub check_ends : (q : CheckRequest) (files : Holding) (a b : End) → IsCheckEnd q (Some files) a → IsCheckEnd q (Some files) b → plain a ≡ plain b
check_ends q files a b (inl r) (inl s) = graph_ends q.graph files a b r s
check_ends q files a b (inl r) (inr (inl (g, holds, s))) = absurd (graph_is_read q.graph g files holds a r)
check_ends q files a b (inl r) (inr (inr (plan, (g, sound, holds, found, says)))) = absurd (graph_is_read q.graph g files holds a r)
check_ends q files a b (inr (inl (g, holds, r))) (inl s) = absurd (graph_is_read q.graph g files holds b s)
check_ends q files a b (inr (inl (g, holds, r))) (inr (inl (h, keeps, s))) = ap plain (text_ends q.plan files a b r s)
check_ends q files a b (inr (inl (g, holds, r))) (inr (inr (plan, (h, sound, keeps, found, says)))) = absurd (text_is_read q.plan plan files found a r)
check_ends q files a b (inr (inr (plan, (g, sound, holds, found, says)))) (inl s) = absurd (graph_is_read q.graph g files holds b s)
check_ends q files a b (inr (inr (plan, (g, sound, holds, found, says)))) (inr (inl (h, keeps, s))) = absurd (text_is_read q.plan plan files found b s)
check_ends q files a b (inr (inr (plan, judged))) (inr (inr (other, again))) = ap plain (judged_once q plan other files a b judged again)

-- ---- the whole run
pub end_is_one : EndIsOne
end_is_one (Ok (render q)) files a b r s = one_end q files a b r s
end_is_one (Ok (compile q)) files a b r s = compile_ends q files a b r s
end_is_one (Ok (check q)) files a b r s = check_ends q files a b r s
end_is_one (Ok (demo q)) files a b r s = ap plain (r ∙ sym s)
end_is_one (Err NoRequest) files a b r s = ap plain (r ∙ sym s)
end_is_one (Err OutOfRange) files a b r s = ap plain (r ∙ sym s)

-- what is told tells the end
one_told : (asked : Asked) (held : Option Holding) (a b : End) → IsEndBy asked held a → IsToldEnd asked held b → plain a ≡ plain b
one_told (Ok (render q)) None a b r s = absurd s
one_told (Ok (compile q)) None a b r s = absurd s
one_told (Ok (check q)) None a b r s = absurd s
one_told (Ok (render q)) (Some files) a b r s = one_end q files a b r s
one_told (Ok (compile q)) (Some files) a b r s = compile_ends q files a b r s
one_told (Ok (check q)) (Some files) a b r s = check_ends q files a b r s
one_told (Ok (demo q)) None a b r s = ap plain (r ∙ sym s)
one_told (Ok (demo q)) (Some files) a b r s = ap plain (r ∙ sym s)
one_told (Err NoRequest) None a b r s = ap plain (r ∙ sym s)
one_told (Err NoRequest) (Some files) a b r s = ap plain (r ∙ sym s)
one_told (Err OutOfRange) None a b r s = ap plain (r ∙ sym s)
one_told (Err OutOfRange) (Some files) a b r s = ap plain (r ∙ sym s)

read_failed : (asked : Asked) (reads : Type 0) → Reads asked reads → reads
read_failed (Ok (render q)) reads (differs, failed) = failed
read_failed (Ok (compile q)) reads failed = failed
read_failed (Ok (check q)) reads failed = failed
read_failed (Ok (demo q)) reads failed = absurd failed
read_failed (Err fault) reads failed = absurd failed

-- the end of a run in which nothing failed
pub exactly : (asked : Asked) (held : Option Holding) (reads writes reports : Type 0) (end other : End) → IsCaused asked held reads writes reports end
    → IsToldEnd asked held other → (reads → ⊥) → (writes → ⊥) → (reports → ⊥) → (plain end ≡ plain other) ⊎ (end ≡ Memory)
exactly asked held reads writes reports end other (inl (inl is)) told no_read no_write no_report = inl (one_told asked held end other is told)
exactly asked held reads writes reports end other (inl (inr (inl (is, failed)))) told no_read no_write no_report = absurd (no_read (read_failed asked reads failed))
exactly asked held reads writes reports end other (inl (inr (inr memory))) told no_read no_write no_report = inr memory
exactly asked held reads writes reports end other (inr (inl (is, failed, ready))) told no_read no_write no_report = absurd (no_write failed)
exactly asked held reads writes reports end other (inr (inr (is, failed, work))) told no_read no_write no_report = absurd (no_report failed)

-- what was compiled is judged yes
pub compiled_is_yes : CompiledIsYes
compiled_is_yes q mode files plan end (g, sound, holds, best) at range (inl r) = absurd (graph_is_read q.graph g files holds end r)
compiled_is_yes q mode files plan end (g, sound, holds, best) at range (inr (inl (h, keeps, r))) = absurd (text_is_read q.plan plan files (at, range) end r)
compiled_is_yes q mode files plan end (g, sound, holds, best) at range (inr (inr (other, judged))) =
    judged_once q other plan files end Done judged (g, sound, holds, (at, range), (best.plan_is.certified, best.optimal))
