-- Why the steps of a run end, and what they leave.
use Rattle.std.proofs.Common.{◌≡◌, ℕ, List, Option, Some, None, ◌+◌, ◌<◌, ◌≤◌, length, arith, refl, sym, subst, inl, inr}
use Rattle.std.specs.Prelude.{Ok, Err}
use Rattle.graph_model.specs.declared.graph.Graph.{Graph}
use Rattle.gh_outside.specs.Holdings.{Holding, HeldBytes, IsMissing, IsPast}
use Rattle.wav_pcm.specs.Files.{ReadsAs, data_size}
use Rattle.wav_pcm.specs.declared.head.Head.{Head}
use Rattle.wav_pcm.specs.declared.head.WavFault.{WavFault}
use Rattle.wav_pcm.proofs.OkLaws.{frames_are_there}
use Rattle.std.specs.Option.{IfSome}
use Rattle.host_modes.specs.Causes.{IsRefusal, IsGraphEnd, IsInputEnd, IsReadEnd, Stops}
use Rattle.graph_model.specs.Graphs.{in_channels}
use Rattle.host_modes.specs.Readings.{FindsRecords, FindsGraph}
use Rattle.command_words.specs.Rendering.{RenderRequest}
use Rattle.host_modes.specs.Steps.{FindsHead, IsHeadEnd, IsTooLong, Refuses}
use Rattle.host_modes.specs.declared.ends.End.{End}
use Rattle.host_modes.specs.declared.ends.End.TheVariants.{Done, No, Words, SameName, Seed, Records, Graph as Checks, Wav, ReadFault, WriteFault, ReportFault, Memory, PlanText}

-- ---- the steps

-- what the checks of a graph refuse, of the graph that a name holds
pub refused : (name : List ℕ) (g : Graph) (held : Option Holding) (reads : Type 0) (end : End) → FindsRecords name g held → Refuses g end → Stops (IsGraphEnd name held) reads end
refused name g None reads (Checks fault) found r = inl tt
refused name g (Some files) reads (Checks fault) found r = inl (g, found, r)
refused name g held reads Memory found r = inr (inr refl)
refused name g held reads Done found r = absurd r
refused name g held reads Words found r = absurd r
refused name g held reads SameName found r = absurd r
refused name g held reads (Records fault) found r = absurd r
refused name g held reads (Wav fault) found r = absurd r
refused name g held reads ReadFault found r = absurd r
refused name g held reads WriteFault found r = absurd r
refused name g held reads (No rule place) found r = absurd r
refused name g held reads Seed found r = absurd r
refused name g held reads ReportFault found r = absurd r
refused name g held reads (PlanText line) found r = absurd r

-- the end that an input has for the request's graph
pub for_graph : (q : RenderRequest) (g : Graph) (held : Option Holding) → FindsGraph q.graph g held → (end : End) → IsInputEnd q g held end → IsReadEnd q held end
for_graph q g None found end i = inr i
for_graph q g (Some files) found end i = inr (g, found, i)

-- ---- the input
there_is : (o : Option (List ℕ)) (P : List ℕ → Type 0) → (o ≡ None → ⊥) → IfSome o P → (bytes : List ℕ) × (o ≡ Some bytes) × P bytes
there_is None P there told = absurd (there refl)
there_is (Some bytes) P there told = (bytes, refl, told)

-- a file that is refused
pub head_refused : (name : List ℕ) (g : Graph) (held : Option Holding) (reads : Type 0) (fault : WavFault) → (IsMissing name held → ⊥)
    → HeldBytes name held (λ bytes. ReadsAs (in_channels g) bytes (Err fault)) → Stops (IsHeadEnd name g held) reads (Wav fault)
head_refused name g None reads fault there told = inl tt
head_refused name g (Some files) reads fault there told = inl (there_is (files name) (λ bytes. ReadsAs (in_channels g) bytes (Err fault)) there told)

pub head_found : (name : List ℕ) (g : Graph) (held : Option Holding) (head : Head) → (IsMissing name held → ⊥)
    → HeldBytes name held (λ bytes. ReadsAs (in_channels g) bytes (Ok head)) → FindsHead name g head held
head_found name g None head there told = tt
head_found name g (Some files) head there told = there_is (files name) (λ bytes. ReadsAs (in_channels g) bytes (Ok head)) there told

-- a file that is read has all its frames
pub head_there : (name : List ℕ) (g : Graph) (held : Option Holding) (head : Head) → 1 ≤ in_channels g → in_channels g ≤ 32 → FindsHead name g head held
    → IsPast name (head.from + data_size head) held → ⊥
head_there name g None head some few found past = past
head_there name g (Some files) head some few (bytes, at, reads) past =
    let room = (frames_are_there (in_channels g) bytes head reads).4 in
    let short : length bytes < head.from + data_size head = past bytes at in
    absurd (omega arith)

-- the end of a file is that of the input
pub head_ends : (q : RenderRequest) (g : Graph) (held : Option Holding) (reads : Type 0) (end : End) → Stops (IsHeadEnd q.input g held) reads end → Stops (IsInputEnd q g held) reads end
head_ends q g held reads end (inr more) = inr more
head_ends q g None reads end (inl is) = inl is
head_ends q g (Some files) reads ReadFault (inl none) = inl none
head_ends q g (Some files) reads (Wav fault) (inl (bytes, at, is)) = inl (bytes, at, inl is)
head_ends q g (Some files) reads Done (inl r) = absurd r
head_ends q g (Some files) reads Words (inl r) = absurd r
head_ends q g (Some files) reads SameName (inl r) = absurd r
head_ends q g (Some files) reads (Records fault) (inl r) = absurd r
head_ends q g (Some files) reads (Checks fault) (inl r) = absurd r
head_ends q g (Some files) reads WriteFault (inl r) = absurd r
head_ends q g (Some files) reads (No rule place) (inl r) = absurd r
head_ends q g (Some files) reads Seed (inl r) = absurd r
head_ends q g (Some files) reads ReportFault (inl r) = absurd r
head_ends q g (Some files) reads (PlanText line) (inl r) = absurd r
head_ends q g (Some files) reads Memory (inl r) = absurd r

pub long_ends : (q : RenderRequest) (g : Graph) (held : Option Holding) (reads : Type 0) (head : Head) (end : End) → FindsHead q.input g head held → IsTooLong q g head end
    → Stops (IsInputEnd q g held) reads end
long_ends q g None reads head end found (long, is) = inl (subst (λ (e : End). IsRefusal e) (sym is) tt)
long_ends q g (Some files) reads head end (bytes, at, is_head) (long, is) =
    inl (subst (λ (e : End). IsInputEnd q g (Some files) e) (sym is) (bytes, at, inr (head, is_head, long, refl)))
