-- One delay line for each value, which the connections that read it share.
use Rattle.std.specs.Prelude.{ℕ, ◌==◌, ◌&&◌, List, map, sum_by, Option, Some, None}
use Rattle.std.specs.List.{find}
use Rattle.graph_model.specs.Paths.{greatest}
use Rattle.graph_model.specs.Answers.{delay}
use Rattle.graph_model.specs.declared.graph.Graph.{Graph}
use Rattle.plan_model.specs.Alignments.{IsBestBy}
use Rattle.plan_model.specs.Lives.{Port, reads_of, values}
use Rattle.plan_model.specs.declared.shared.LineOf.{LineOf}

-- a value's line is as long as the greatest delay of the live connections that read it
abbrev pub line_length : Graph → (ℕ → ℕ) → Port → ℕ
line_length g p x = greatest (map (delay g p) (reads_of g x.uid x.channel))

-- the sum of the lines
abbrev pub shared_total : Graph → (ℕ → ℕ) → ℕ
shared_total g p = sum_by (line_length g p) (values g)

abbrev pub line_of_value : Graph → (ℕ → ℕ) → Port → LineOf
line_of_value g p x = record { uid = x.uid; channel = x.channel; delay = line_length g p x }

-- the lines of all values, ascending
abbrev pub shared_lines : Graph → (ℕ → ℕ) → List LineOf
shared_lines g p = map (line_of_value g p) (values g)

-- what a list of lines names, line by line
abbrev pub ports_of_lines : List LineOf → List Port
ports_of_lines lines = map (λ l. record { uid = l.uid; channel = l.channel }) lines

-- of the least latency, with the least sum of lines, and of those the earliest
abbrev pub IsBestShared : Graph → (ℕ → ℕ) → Type 0
IsBestShared g p = IsBestBy (shared_total g) g p

-- the length that a list of lines gives to a value, 0 where it gives none
abbrev pub length_or_zero : Option LineOf → ℕ
length_or_zero None = 0
length_or_zero (Some l) = l.delay

abbrev pub length_in : List LineOf → Port → ℕ
length_in lines x = length_or_zero (find (λ l. (l.uid.0 == x.uid.0) && (l.channel == x.channel)) lines)
