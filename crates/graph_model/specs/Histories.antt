-- Histories of frames, and the rules that make one stream of another.
-- A discrete-time signal is written x(n) (Oppenheim and Schafer, Discrete-Time Signal Processing). Here the samples
-- up to now are a list with the newest first, so that x(n - k) is the item at k, and 0 where time 0 is passed.
use Rattle.std.specs.Prelude.{ℕ, zero, suc, ◌≡◌, ◌*◌, ◌/◌, min, List, [], ◌∷◌, ◌++◌, length, map, take, drop, replicate, get_or, ℤ, pos}
use Rattle.std.specs.List.{range_with_len}

-- one number per channel
abbrev pub Frame : Type 0
Frame = List ℤ

-- the newest frame first
abbrev pub History : Type 0
History = List (List ℤ)

-- x(n - k), of the samples of one channel
abbrev pub ago : List ℤ → ℕ → ℤ
ago xs k = get_or xs k (pos 0)

-- the samples of a channel
abbrev pub channel : ℕ → History → List ℤ
channel c h = map (λ f. get_or f c (pos 0)) h

-- the sample of a channel k frames ago
abbrev pub sample : History → ℕ → ℕ → ℤ
sample h c k = get_or (get_or h k []) c (pos 0)

-- the history of n frames with m channels whose sample of channel c, k frames ago, is f c k
abbrev pub history_of : ℕ → ℕ → (ℕ → ℕ → ℤ) → History
history_of n m f = map (λ k. map (λ c. f c k) (range_with_len 0 m)) (range_with_len 0 n)

-- the history of the first n frames of a stream, which gives the frame of each time
abbrev pub before : (ℕ → Frame) → ℕ → History
before x zero = []
before x (suc n) = x n ∷ before x n

-- the frame that came last
abbrev pub newest : History → Frame
newest h = get_or h 0 []

-- frame t of interleaved samples, which stand frame by frame, m in each
abbrev pub frame_in : ℕ → List ℤ → ℕ → Frame
frame_in m samples t = take m (drop (t * m) samples)

-- the history of these frames
abbrev pub frames_of : ℕ → List ℤ → History
frames_of m samples = before (frame_in m samples) (length samples / m)

-- the samples of a history interleaved, frame by frame as they came
abbrev pub interleaved : History → List ℤ
interleaved [] = []
interleaved (f ∷ h) = interleaved h ++ f

-- k frames of m zeros
abbrev pub silence : ℕ → ℕ → History
silence k m = replicate k (replicate m (pos 0))

-- k frames later, cut to the length: what came in last is not there yet, and silence of m channels came before all
abbrev pub shifted : ℕ → ℕ → History → History
shifted k m h = drop k h ++ silence (min k (length h)) m

-- the last n values, with d for those before time 0
abbrev pub padded : {X : Type 0} → ℕ → X → List X → List X
padded n d xs = take n (xs ++ replicate n d)

-- the last n samples
abbrev pub window : ℕ → List ℤ → List ℤ
window n xs = padded n (pos 0) xs

-- a value of the history at each time, the newest first
abbrev pub each : {X : Type 0} → (History → X) → History → List X
each f [] = []
each f (x ∷ h) = f (x ∷ h) ∷ each f h

-- a rule says which frame goes out when a history has come in; the stream has one frame for each that came in
abbrev pub stream : (History → Frame) → History → History
stream rule h = each rule h

-- the rule that does the same on each of n channels
abbrev pub on_each : ℕ → (List ℤ → ℤ) → History → Frame
on_each n voice h = map (λ c. voice (channel c h)) (range_with_len 0 n)

-- a rule with m channels in and n out to which zeros before the first frame make no difference
pub record IsQuietRule (m n : ℕ) (rule : History → Frame) : Type 0 where
  pub nothing : rule [] ≡ replicate n (pos 0)
  pub zeros : (h : History) (k : ℕ) → rule (h ++ silence k m) ≡ rule h

-- the same of what is done on one channel
pub record IsQuiet (voice : List ℤ → ℤ) : Type 0 where
  pub nothing : voice [] ≡ pos 0
  pub zeros : (xs : List ℤ) (k : ℕ) → voice (xs ++ replicate k (pos 0)) ≡ voice xs
