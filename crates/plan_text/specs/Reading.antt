-- For private clauses: how a text is read line by line.
use Rattle.std.specs.Prelude.{◌≡◌, ◌+◌, ◌*◌, ◌≤◌, ◌++◌, ℕ, List, length, Option, Some, None, Result, Ok, Err}
use Rattle.std.specs.List.{All}
use Rattle.graph_model.specs.declared.refused.Refused.{Refused}
use Rattle.graph_model.specs.declared.refused.Refused.TheVariants.{Fault, Memory}
use Rattle.plan_text.specs.declared.fault.PlanFault.{PlanFault}
use Rattle.plan_text.specs.declared.word.Word.{Word}
use Rattle.plan_text.specs.Lines.{lines_text, IsLine, Line}
use Rattle.plan_text.specs.Order.{BeginsWithLine, NoLine}

-- this holds of the fault, if there is one
abbrev pub IfFault : {A E : Type 0} → Result A (Refused E) → (E → Type 0) → Type 0
IfFault (Ok a) P = Unit {0}
IfFault (Err (Fault e)) P = P e
IfFault (Err Memory) P = Unit {0}

-- a line of the word was at the front and has been read
pub record HasRead (word : Word) (text : List ℕ) (count : ℕ) (rest : List ℕ) (after : ℕ) (ns : List ℕ) : Type 0 where
  pub begins : BeginsWithLine text word ns rest
  pub counted : after ≡ count + 1
  pub room : length rest + 3 ≤ length text

-- it has been read, or none was and nothing has changed
abbrev pub ReadsLine : Word → List ℕ → ℕ → List ℕ → ℕ → Option (List ℕ) → Type 0
ReadsLine word text count rest after None = NoLine word text × (rest ≡ text) × (after ≡ count)
ReadsLine word text count rest after (Some ns) = HasRead word text count rest after ns

-- it has been read, or none was, and that line is the bad one
abbrev pub WantsLine : Word → List ℕ → ℕ → List ℕ → ℕ → Result (List ℕ) (Refused PlanFault) → Type 0
WantsLine word text count rest after (Ok ns) = HasRead word text count rest after ns
WantsLine word text count rest after (Err (Fault f)) = NoLine word text × (f.line ≡ count + 1)
WantsLine word text count rest after (Err Memory) = Unit {0}

-- these lines of the word were at the front and have been read
pub record HasReadLines (word : Word) (text : List ℕ) (count : ℕ) (rest : List ℕ) (after : ℕ) (ls : List Line) : Type 0 where
  pub joined : text ≡ lines_text ls ++ rest
  pub words : All (λ l. l.word ≡ word) ls
  pub are_lines : All IsLine ls
  pub counted : after ≡ count + length ls
  pub room : 3 * after + length rest ≤ 3 * count + length text

-- all the lines of the word have been read
pub record ReadsMany (word : Word) (text : List ℕ) (count : ℕ) (rest : List ℕ) (after : ℕ) (ls : List Line) : Type 0 where
  pub read : HasReadLines word text count rest after ls
  pub stop : NoLine word rest
