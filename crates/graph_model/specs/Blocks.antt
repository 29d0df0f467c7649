-- Blocks of planar samples as histories: the samples of each channel stand in a row, one row after the other.
use Rattle.std.specs.Prelude.{◌≡◌, ℕ, zero, suc, ◌+◌, ◌*◌, List, [], ◌∷◌, ◌++◌, map, get_or, ℤ, pos}
use Rattle.std.specs.List.{range_with_len}
use Rattle.graph_model.specs.Histories.{Frame, History, before, stream}

-- frame t of n frames of m channels: the sample of channel c stands at c * n + t
abbrev pub planar_frame : ℕ → ℕ → List ℤ → ℕ → Frame
planar_frame m n samples t = map (λ c. get_or samples (c * n + t) (pos 0)) (range_with_len 0 m)

-- the history of these frames
abbrev pub planar : ℕ → ℕ → List ℤ → History
planar m n samples = before (planar_frame m n samples) n

-- the first t samples of a row, the newest first
abbrev pub so_far : List ℤ → ℕ → List ℤ
so_far xs zero = []
so_far xs (suc t) = get_or xs t (pos 0) ∷ so_far xs t

-- The stream of a history that goes on with n frames of x: for each of them the rule's frame of all that had come in by
-- then, and then the stream of the history.
abbrev pub StreamsGoOn : Type 0
StreamsGoOn = (rule : History → Frame) (x : ℕ → Frame) (n : ℕ) (h : History) →
    stream rule (before x n ++ h) ≡ before (λ t. rule (before x (suc t) ++ h)) n ++ stream rule h
