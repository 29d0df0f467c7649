-- Blocks one after another.
use Rattle.std.specs.Prelude.{◌≡◌, ℕ, ◌*◌, ℤ, List, [], ◌∷◌, ◌++◌, length}
use Rattle.std.specs.List.{flat_map}
use Rattle.graph_model.specs.Histories.{History, frames_of}
use Rattle.graph_model.specs.Answers.{answer}
use Rattle.graph_model.specs.Sound.{IsSound}
use Rattle.engine_model.specs.Engines.{Parts, Stands, IsSame, Answers, ins, outs}

-- From e a block came to e': whatever history e stood for, e' stands for it with the block, and the output is the
-- answer.
pub record HasRendered (e : Parts) (input output : List ℤ) (e' : Parts) : Type 0 where
  pub same : IsSame e e'
  pub frames : (n : ℕ) × (length input ≡ n * ins e) × (length output ≡ n * outs e)
  pub stands : (h : History) → Stands e h → Stands e' (frames_of (ins e) input ++ h)
  pub answers : (h : History) → Stands e h → Answers e input output h

-- a block as its input and its output
abbrev pub Block : Type 0
Block = List ℤ × List ℤ

abbrev pub inputs : List Block → List ℤ
inputs blocks = flat_map (λ b. b.0) blocks

abbrev pub outputs : List Block → List ℤ
outputs blocks = flat_map (λ b. b.1) blocks

-- the blocks one after another came from e to e'
abbrev pub HaveRendered : Parts → List Block → Parts → Type 0
HaveRendered e [] e' = e ≡ e'
HaveRendered e (b ∷ bs) e' = (f : Parts) × HasRendered e b.0 b.1 f × HaveRendered f bs e'

-- no cutting shows: the blocks joined are as one block
abbrev pub NoCuttingShows : Type 0
NoCuttingShows =
    (e e' : Parts) (blocks : List Block) → IsSound e.graph → HaveRendered e blocks e'
    → HasRendered e (inputs blocks) (outputs blocks) e'

-- so of a new engine the outputs joined are the answer of the inputs joined
abbrev pub OutputsAreAnswers : Type 0
OutputsAreAnswers = (e e' : Parts) (blocks : List Block) → IsSound e.graph → Stands e [] → HaveRendered e blocks e' →
    frames_of (outs e) (outputs blocks) ≡ answer e.graph (frames_of (ins e) (inputs blocks))
