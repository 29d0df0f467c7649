-- What a node does in a block: all its frames, against the pool and its own buffers as they are at the wave's start.
use Rattle.std.specs.Prelude.{◌≡◌, ℕ, zero, suc, ◌+◌, ◌*◌, ◌^◌, ◌<◌, ◌≤◌, ◌⊎◌, ℤ, pos, List, [], ◌∷◌, ◌++◌, length, map, reverse, slice_index_or, get_or}
use Rattle.std.specs.List.{All, range_with_len}
use Rattle.graph_model.specs.Histories.{Frame, History, frame_in}
use Rattle.engine_model.specs.Machines.{Kept, passed_then, taps, sum_on, summed, windows_on}
use Rattle.pool_waves.specs.declared.job.Home.{Home}
use Rattle.players.specs.declared.gathering.Wire.{Wire}
use Rattle.players.specs.declared.playing.Player.{Player}
use Rattle.players.specs.Reads.{source, CanRead, channels_of, lines_after, taps_at, KnowFirst, IsSet, SumsFit, lengths_of}
use Rattle.players.specs.Servers.{FitsServer, IsWithinServer, SameServer, ServerHolds, brought, given_by, taken_by}

-- ---- frame by frame
-- the samples that a node reads for frame k
abbrev pub samples : List (List ℤ) → List (List ℤ) → List Wire → ℕ → List ℤ
samples pool outs wires k = map (λ w. slice_index_or (source pool outs w) k (pos 0)) wires

-- the delays of its lines
abbrev pub delays_of : Player → List ℕ
delays_of a = lengths_of a.lines.items

-- one frame: the samples go into the lines, what comes out is summed
abbrev pub step_of : Player → (ℕ → Frame) → ℕ → Kept → List ℤ → Kept
step_of a block k s xs =
    let ls = passed_then xs s.passed in
    record { came = taken_by a.server block k (summed a.ins (channels_of a.wires.items) (delays_of a) ls) ∷ s.came; passed = ls }

-- j frames from the frame `first` on
abbrev pub run_from : Player → (ℕ → Frame) → (ℕ → List ℤ) → ℕ → ℕ → Kept → Kept
run_from a block xs first zero s = s
run_from a block xs first (suc j) s = step_of a block (first + j) (run_from a block xs first j s) (xs (first + j))

-- ---- a node
-- what it keeps is as in the state
pub record Holds (a : Player) (s : Kept) : Type 0 where
  pub lines : a.lines.items ≡ map reverse (windows_on (delays_of a) s.passed)
  pub passed : length s.passed ≡ length a.wires.items
  pub kernel : ServerHolds a.server s.came

-- what does not change of it
pub record IsOfSame (a b : Player) : Type 0 where
  pub wires : b.wires.items ≡ a.wires.items
  pub delays : delays_of b ≡ delays_of a
  pub ins : b.ins ≡ a.ins
  pub outs : b.outs ≡ a.outs
  pub server : SameServer a.server b.server

-- its lists fit one another, for sub-blocks of up to 64 frames, and every row of its sums is written
pub record IsWhole (a : Player) : Type 0 where
  pub lines : length a.lines.items ≡ length a.wires.items
  pub sums : length a.sums.items ≡ a.ins * 64
  pub told : length a.told.items ≡ a.outs * 64
  pub spare : length a.spare.items ≡ 64
  pub channels : (i : ℕ) (d : Wire) → i < length a.wires.items → (slice_index_or a.wires.items i d).channel < a.ins
  pub silent : All (λ d. d < a.ins) a.silent.items
  pub first : KnowFirst a.wires.items
  pub rows : (d : ℕ) → d < a.ins → IsSet (channels_of a.wires.items) a.silent.items d
  pub server : FitsServer a.server a.ins a.outs

-- what n frames leave of it and of its buffers
pub record HasPlayed (block : ℕ → Frame) (pool : List (List ℤ)) (homes : List Home) (first n : ℕ) (outs : List (List ℤ))
    (a : Player) (outs' : List (List ℤ)) (b : Player) : Type 0 where
  pub same : IsOfSame a b
  pub holds : (s : Kept) → Holds a s → Holds b (run_from a block (samples pool outs a.wires.items) first n s)
  pub written : (s : Kept) (o t : ℕ) (d : Home) → Holds a s → o < length homes → t < n
      → slice_index_or (slice_index_or outs' o []) (first + t) (pos 0)
      ≡ get_or (given_by a.server (run_from a block (samples pool outs a.wires.items) first (suc t) s).came)
      (slice_index_or homes o d).channel (pos 0)
  pub rest : (o j : ℕ) → (j < first) ⊎ (first + n ≤ j)
      → slice_index_or (slice_index_or outs' o []) j (pos 0) ≡ slice_index_or (slice_index_or outs o []) j (pos 0)
  pub lengths : (o : ℕ) → length (slice_index_or outs' o []) ≡ length (slice_index_or outs o [])

-- ---- a sub-block
-- the frames of sums
abbrev pub gathered : Player → List (List ℤ) → List (List ℤ) → ℕ → ℕ → ℕ → Frame
gathered a pool outs first count t =
    map (λ d. sum_on d (channels_of a.wires.items) (taps_at a.wires.items pool outs first count a.lines.items t))
    (range_with_len 0 a.ins)

-- it may take them
pub record CanTake (input : List ℤ) (channels : ℕ) (pool outs : List (List ℤ)) (first count : ℕ) (a : Player) : Type 0 where
  pub whole : IsWhole a
  pub most : count ≤ 64
  pub size : first + count < 2 ^ 63
  pub sources : (i : ℕ) (d : Wire) → i < length a.wires.items → CanRead pool outs (first + count) (slice_index_or a.wires.items i d)
  pub fit : (t : ℕ) → t < count → SumsFit (channels_of a.wires.items) (taps_at a.wires.items pool outs first count a.lines.items t)
  pub within : (t : ℕ) → t < count → IsWithinServer a.server (gathered a pool outs first count t)
  pub entry : (first + count) * channels ≤ length input

-- and has taken them: what it gives then stands in its rows
pub record HasTaken (block : ℕ → Frame) (pool outs : List (List ℤ)) (first count : ℕ) (a b : Player) : Type 0 where
  pub wires : b.wires.items ≡ a.wires.items
  pub lines : b.lines.items ≡ lines_after a.wires.items pool outs first count a.lines.items
  pub ins : b.ins ≡ a.ins
  pub outs_stay : b.outs ≡ a.outs
  pub server : SameServer a.server b.server
  pub holds : (h : History) → ServerHolds a.server h
      → ServerHolds b.server (brought a.server block first (gathered a pool outs first count) count ++ h)
  pub told : (h : History) (c t : ℕ) → ServerHolds a.server h → c < a.outs → t < count
      → get_or b.told.items (c * count + t) (pos 0)
      ≡ get_or (given_by a.server (brought a.server block first (gathered a pool outs first count) (suc t) ++ h)) c (pos 0)

-- it may take them and write what it gives into the buffers of these homes
pub record CanTurn (input : List ℤ) (channels : ℕ) (pool : List (List ℤ)) (homes : List Home) (outs : List (List ℤ))
    (first count : ℕ) (a : Player) : Type 0 where
  pub take : CanTake input channels pool outs first count a
  pub homes_len : length homes ≡ length outs
  pub values : (o : ℕ) (d : Home) → o < length homes → (slice_index_or homes o d).channel < a.outs
  pub room : (o : ℕ) → o < length outs → first + count ≤ length (slice_index_or outs o [])

-- ---- a block
-- a block, in sub-blocks: what it sums is not too large, whatever it holds
pub record CanPlay (input : List ℤ) (channels : ℕ) (pool : List (List ℤ)) (homes : List Home) (outs : List (List ℤ)) (n : ℕ)
    (a : Player) : Type 0 where
  pub whole : IsWhole a
  pub size : n < 2 ^ 63
  pub sources : (i : ℕ) (d : Wire) → i < length a.wires.items → CanRead pool outs n (slice_index_or a.wires.items i d)
  pub homes_len : length homes ≡ length outs
  pub values : (o : ℕ) (d : Home) → o < length homes → (slice_index_or homes o d).channel < a.outs
  pub room : (o : ℕ) → o < length outs → n ≤ length (slice_index_or outs o [])
  pub state : Kept
  pub holds : Holds a state
  pub fit : (t : ℕ) → t < n → SumsFit (channels_of a.wires.items)
      (taps (delays_of a) (run_from a (frame_in channels input) (samples pool outs a.wires.items) 0 (suc t) state).passed)
  pub within : (t : ℕ) → t < n → IsWithinServer a.server (summed a.ins (channels_of a.wires.items)
      (delays_of a) (run_from a (frame_in channels input) (samples pool outs a.wires.items) 0 (suc t) state).passed)
  pub entry : n * channels ≤ length input

-- what it leaves of it
pub record PlayerDone (block : ℕ → Frame) (n : ℕ) (pool : List (List ℤ)) (homes : List Home) (outs : List (List ℤ)) (a : Player)
    (outs' : List (List ℤ)) (b : Player) : Type 0 where
  pub whole : IsWhole b
  pub played : HasPlayed block pool homes 0 n outs a outs' b
