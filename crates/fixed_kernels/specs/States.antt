-- What contracts see of the fields of each kernel.
use Rattle.std.specs.Prelude.{ℕ, List, [], length, map, reverse, ℤ}
use Rattle.graph_model.specs.Kinds.{outs_of}
use Rattle.graph_model.specs.Kept.{Kept, windows}
use Rattle.graph_model.specs.declared.kind.Kind.{Kind}
use Rattle.graph_model.specs.declared.kind.Kind.TheVariants.{Fir}
use Rattle.graph_model.specs.declared.graph.Bound.{Bound}
use Rattle.graph_model.specs.Kernels.{KernelState}
use Rattle.fixed_kernels.specs.Rows.{kept_rows}
use Rattle.fixed_kernels.specs.Sections.{last_ins, last_outs, section_kind}
use Rattle.fixed_kernels.specs.declared.section.Section.{Section}
use Rattle.fixed_kernels.specs.declared.section.Tail.{Tail}

-- input samples alone, of n output channels
abbrev pub kept_in : ℕ → List (List ℤ) → Kept
kept_in n ins = record { ins = ins; outs = windows n 0 []; scales = []; lowests = [] }

-- each line holds the last samples of a channel, the oldest first
abbrev pub hold_state : Kind → Bound → List (List ℤ) → KernelState
hold_state kind bound lines = record { kind = kind; bound = bound; kept = kept_in (outs_of kind) (map reverse lines) }

-- the taps and the samples stand backward, the samples of m channels in rows
abbrev pub fir_state : List ℤ → ℕ → ℕ → Bound → ℕ → List ℤ → KernelState
fir_state backward shift latency bound m past = record {
  kind = Fir m (reverse backward) shift latency;
  bound = bound;
  kept = kept_in m (kept_rows m (length backward) past);
}

abbrev pub biquad_state : Section → Bound → List Tail → KernelState
biquad_state s bound tails = record {
  kind = section_kind (length tails) s;
  bound = bound;
  kept = record { ins = last_ins tails; outs = last_outs tails; scales = []; lowests = [] };
}
