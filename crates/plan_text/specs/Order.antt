-- In which order lines stand, and the first bad line of a text.
use Rattle.std.specs.Prelude.{◌≡◌, ◌⊎◌, ◌+◌, ℕ, List, [], ◌∷◌, ◌++◌, length}
use Rattle.plan_text.specs.declared.word.Word.{Word}
use Rattle.plan_text.specs.declared.word.Word.TheVariants as word
use Rattle.plan_text.specs.Lines.{line, line_text, lines_text, IsLine, Line}

-- one line of the word, or any number of them
pub data Section : Type 0 where
  one : Word → Section
  many : Word → Section

abbrev pub order : List Section
order = one word.Plan ∷ one word.Latency ∷ one word.Path ∷ many word.At ∷ many word.Line ∷ one word.Total ∷ many word.Arc ∷ one word.Bound
    ∷ many word.Wave ∷ many word.Home ∷ one word.Channels ∷ one word.Peak ∷ one word.End ∷ []

-- a line of the word may come next, and these sections are left after it
abbrev pub Next : List Section → Word → List Section → Type 0
Next [] word left = ⊥
Next (one k ∷ ss) word left = (k ≡ word) × (left ≡ ss)
Next (many k ∷ ss) word left = ((k ≡ word) × (left ≡ many k ∷ ss)) ⊎ Next ss word left

-- good lines, one after another, and the sections that are left after them
abbrev pub Leads : List Section → List Line → List Section → Type 0
Leads ss [] left = left ≡ ss
Leads ss (l ∷ ls) left = (mid : List Section) × (IsLine l × Next ss l.word mid × Leads mid ls left)

-- a line of that word stands at the front of the text
pub record BeginsWithLine (text : List ℕ) (word : Word) (ns rest : List ℕ) : Type 0 where
  pub joined : text ≡ line_text (line word ns) ++ rest
  pub is_line : IsLine (line word ns)

abbrev pub NoLine : Word → List ℕ → Type 0
NoLine word text = (ns rest : List ℕ) → ¬ (BeginsWithLine text word ns rest)

-- The first bad line comes after the good ones: none that may come next stands there, though more are wanted or more
-- bytes are there. A last piece without byte 10 is no line.
pub record IsFirstBad (ss : List Section) (text : List ℕ) (n : ℕ) : Type 0 where
  pub good : List Line
  pub rest : List ℕ
  pub left : List Section
  pub joined : text ≡ lines_text good ++ rest
  pub leads : Leads ss good left
  pub stuck : (word : Word) (after : List Section) → Next left word after → NoLine word rest
  pub unfinished : ¬ ((left ≡ []) × (rest ≡ []))
  pub number : n ≡ length good + 1
