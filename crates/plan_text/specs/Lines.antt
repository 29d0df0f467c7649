-- Lines of a plan's text: a word, and numbers after it.
use Rattle.std.specs.Prelude.{◌≡◌, ◌<◌, ◌^◌, ◌&&◌, ◌==◌, ℕ, Bool, true, List, [], ◌∷◌, ◌++◌, length, nat_le, slice_index, codes}
use Rattle.std.specs.List.{All, list_all, flat_map}
use Rattle.std.specs.Fmt.{decimal}
use Rattle.plan_text.specs.declared.word.Word.{Word}
use Rattle.plan_text.specs.declared.word.Word.TheVariants as word

abbrev pub word_text : Word → List ℕ
word_text word.Plan = codes "plan"
word_text word.Latency = codes "latency"
word_text word.Path = codes "path"
word_text word.At = codes "at"
word_text word.Line = codes "line"
word_text word.Total = codes "total"
word_text word.Arc = codes "arc"
word_text word.Bound = codes "bound"
word_text word.Wave = codes "wave"
word_text word.Home = codes "home"
word_text word.Channels = codes "channels"
word_text word.Peak = codes "peak"
word_text word.End = codes "end"

-- below 2^32, as names, channels, buffers and the indexes of connections are
abbrev pub is_small : ℕ → Bool
is_small n = nat_le n 4294967295

-- How many numbers stand after a word, and which of them are small. This is version 1 of the text.
abbrev pub fits : Word → List ℕ → Bool
fits word.Plan ns = length ns == 1 && slice_index ns 0 == 1
fits word.Latency ns = length ns == 1
fits word.Path ns = list_all is_small ns
fits word.At ns = length ns == 2 && is_small (slice_index ns 0)
fits word.Line ns = length ns == 2 && is_small (slice_index ns 0)
fits word.Total ns = length ns == 1
fits word.Arc ns = length ns == 3 && (is_small (slice_index ns 0) && is_small (slice_index ns 1))
fits word.Bound ns = length ns == 1
fits word.Wave ns = list_all is_small ns
fits word.Home ns = length ns == 3 && list_all is_small ns
fits word.Channels ns = length ns == 1 && is_small (slice_index ns 0)
fits word.Peak ns = length ns == 1
fits word.End ns = length ns == 0

pub record Line : Type 0 where
  pub word : Word
  pub numbers : List ℕ

abbrev pub line : Word → List ℕ → Line
line w ns = record { word = w; numbers = ns }

-- the numbers are as many and as large as the word allows
pub record IsLine (l : Line) : Type 0 where
  pub fit : fits l.word l.numbers ≡ true
  pub below : All (λ n. n < 2 ^ 64) l.numbers

-- numbers, each after a space
abbrev pub spaced : List ℕ → List ℕ
spaced ns = flat_map (λ n. 32 ∷ decimal n) ns

-- the word, the numbers, and one byte 10
abbrev pub line_text : Line → List ℕ
line_text l = word_text l.word ++ (spaced l.numbers ++ 10 ∷ [])

-- lines, one after another
abbrev pub lines_text : List Line → List ℕ
lines_text ls = flat_map line_text ls
