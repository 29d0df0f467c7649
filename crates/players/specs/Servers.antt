-- What a node does with its frames: at the entry it gives those of the block, at the exit it keeps them, between the
-- two a processor takes them.
use Rattle.std.specs.Prelude.{◌≡◌, ℕ, ◌+◌, ◌<◌, pos, [], length, reverse, slice_index_or, get_or}
use Rattle.graph_model.specs.Histories.{Frame, History, before, newest}
use Rattle.graph_model.specs.Kernels.{IsFrameWithin}
use Rattle.graph_model.specs.Kinds.{ins_of, outs_of, rule_of}
use Rattle.fixed_kernels.specs.Kernels.{Keeps}
use Rattle.players.specs.Reads.{lengths_of}
use Rattle.players.specs.declared.leaving.Leaving.{Leaving}
use Rattle.players.specs.declared.playing.Server.{Server}
use Rattle.players.specs.declared.playing.Server.TheVariants.{Entry, Exit, Between}

-- the frame that it takes: at the entry frame k of the block, else the one that came in
abbrev pub taken_by : Server → (ℕ → Frame) → ℕ → Frame → Frame
taken_by Entry block k f = block k
taken_by (Exit e) block k f = f
taken_by (Between p) block k f = f

-- and the frame that it gives then
abbrev pub given_by : Server → History → Frame
given_by Entry h = newest h
given_by (Exit e) h = []
given_by (Between p) h = rule_of p.kind h

-- the history of n frames of a sub-block
abbrev pub brought : Server → (ℕ → Frame) → ℕ → (ℕ → Frame) → ℕ → History
brought server block first frames n = before (λ t. taken_by server block (first + t) (frames t)) n

-- ---- what it holds
-- the lines of the exit have the samples of the frames that came after the first `start`
abbrev pub HasLeft : Leaving → History → Type 0
HasLeft e h = (d k : ℕ) → d < length e.lines.items → e.start + k < length h → k < length (slice_index_or e.lines.items d []) →
    slice_index_or (reverse (slice_index_or e.lines.items d [])) k (pos 0) ≡ get_or (get_or h k []) d (pos 0)

abbrev pub ServerHolds : Server → History → Type 0
ServerHolds Entry h = Unit {0}
ServerHolds (Exit e) h = HasLeft e h
ServerHolds (Between p) h = Keeps p h

-- ---- what it may take
-- how many channels wide its frames are
abbrev pub FitsServer : Server → ℕ → ℕ → Type 0
FitsServer Entry ins outs = ins ≡ 0
FitsServer (Exit e) ins outs = (outs ≡ 0) × (length e.lines.items ≡ ins) × (length e.spare.items ≡ 64)
FitsServer (Between p) ins outs = (ins ≡ ins_of p.kind) × (outs ≡ outs_of p.kind)

abbrev pub IsWithinServer : Server → Frame → Type 0
IsWithinServer Entry f = Unit {0}
IsWithinServer (Exit e) f = Unit {0}
IsWithinServer (Between p) f = IsFrameWithin p.bound.ins f

-- ---- what stays
abbrev pub SameServer : Server → Server → Type 0
SameServer Entry Entry = Unit {0}
SameServer (Exit e) (Exit f) = (f.start ≡ e.start) × (lengths_of f.lines.items ≡ lengths_of e.lines.items)
SameServer (Between p) (Between q) = (q.kind ≡ p.kind) × (q.bound ≡ p.bound)
SameServer a b = ⊥
