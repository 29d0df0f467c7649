-- For private clauses: how a text is written line by line.
use Rattle.std.specs.Prelude.{◌≡◌, ◌++◌, ℕ, List}
use Rattle.std.specs.List.{All}
use Rattle.plan_text.specs.Lines.{lines_text, IsLine, Line}

-- the text has gained these lines
pub record Appends (old new : List ℕ) (ls : List Line) : Type 0 where
  pub joined : new ≡ old ++ lines_text ls
  pub are_lines : All IsLine ls
