-- What a node reads: the samples of a sub-block, through a line for each connection, summed on each channel.
use Rattle.std.specs.Prelude.{◌≡◌, ℕ, ◌<◌, ◌≤◌, ◌==◌, ◌||◌, ◌⊎◌, Bool, true, false, not, ℤ, pos, List, [], ◌∷◌, length, map, take, drop, slice_index_or, Option, Some, None, FitsSigned}
use Rattle.std.specs.List.{Contains, zip}
use Rattle.std.specs.Int.{w64}
use Rattle.delay_lines.specs.Lines.{kept, passed}
use Rattle.engine_model.specs.Machines.{sum_on}
use Rattle.players.specs.declared.gathering.Wire.{Wire}

-- ---- where a wire reads
-- the buffer that a wire reads: one of the node's own, or else one of the pool
abbrev pub own_or : Option ℕ → List ℤ → List (List ℤ) → List ℤ
own_or None shared outs = shared
own_or (Some i) shared outs = slice_index_or outs i []

abbrev pub source : List (List ℤ) → List (List ℤ) → Wire → List ℤ
source pool outs w = own_or w.own (slice_index_or pool w.buffer []) outs

-- it is there, with at least n samples
abbrev pub CanReadOwn : Option ℕ → List (List ℤ) → List (List ℤ) → ℕ → ℕ → Type 0
CanReadOwn None pool outs b n = (b < length pool) × (n ≤ length (slice_index_or pool b []))
CanReadOwn (Some i) pool outs b n = (i < length outs) × (n ≤ length (slice_index_or outs i []))

abbrev pub CanRead : List (List ℤ) → List (List ℤ) → ℕ → Wire → Type 0
CanRead pool outs n w = CanReadOwn w.own pool outs w.buffer n

-- ---- lines
-- the samples of n frames, from the frame `first` on
abbrev pub part : ℕ → ℕ → List ℤ → List ℤ
part first n samples = take n (drop first samples)

abbrev pub lengths_of : List (List ℤ) → List ℕ
lengths_of lists = map (λ l. length l) lists

-- what comes out of the lines in frame t of a sub-block of n frames, and what they hold after it
abbrev pub taps_at : List Wire → List (List ℤ) → List (List ℤ) → ℕ → ℕ → List (List ℤ) → ℕ → List ℤ
taps_at wires pool outs first n lines t =
    map (λ x. slice_index_or (passed x.1 (part first n (source pool outs x.0))) t (pos 0)) (zip wires lines)

abbrev pub lines_after : List Wire → List (List ℤ) → List (List ℤ) → ℕ → ℕ → List (List ℤ) → List (List ℤ)
lines_after wires pool outs first n lines = map (λ x. kept x.1 (part first n (source pool outs x.0))) (zip wires lines)

-- ---- channels
abbrev pub channels_of : List Wire → List ℕ
channels_of wires = map (λ w. w.channel) wires

-- a wire with one of these channels feeds channel d
abbrev pub is_fed : List ℕ → ℕ → Bool
is_fed [] d = false
is_fed (c ∷ cs) d = (c == d) || is_fed cs d

-- a wire says that it is the first where no earlier one feeds its channel
abbrev pub KnowFirst : List Wire → Type 0
KnowFirst wires = (i : ℕ) (w : Wire) → i < length wires →
    (slice_index_or wires i w).first ≡ not (is_fed (take i (channels_of wires)) (slice_index_or wires i w).channel)

-- the row of channel d is written: a wire feeds it, or it is one of those that are silent
abbrev pub IsSet : List ℕ → List ℕ → ℕ → Type 0
IsSet channels silent d = (is_fed channels d ≡ true) ⊎ Contains silent d

-- what stands in a sum before a wire's sample is added: nothing, where the wire is the first
abbrev pub begun : Bool → ℤ → ℤ
begun true x = pos 0
begun false x = x

-- no part of a sum is too large
abbrev pub SumsFit : List ℕ → List ℤ → Type 0
SumsFit channels samples = (d m : ℕ) → FitsSigned w64 (sum_on d (take m channels) (take m samples))

-- what comes in comes by one wire, without delay, to the only channel
abbrev pub AreAlone : List Wire → List (List ℤ) → ℕ → Type 0
AreAlone wires lines ins = (length wires ≡ 1) × (ins ≡ 1) × (slice_index_or lines 0 [] ≡ [])

-- the samples of a sub-block are all that comes in: they come by one wire, without delay, to the only channel
pub record IsAlone (ws : List Wire) (ls : List (List ℤ)) (wide : ℕ) (pool outs : List (List ℤ)) (first n : ℕ)
    (alone : List ℤ) : Type 0 where
  pub one : length ws ≡ 1
  pub ins : wide ≡ 1
  pub at_once : slice_index_or ls 0 [] ≡ []
  pub samples : (w : Wire) → alone ≡ part first n (source pool outs (slice_index_or ws 0 w))
