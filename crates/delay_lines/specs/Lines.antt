-- A line as the list of the samples that it holds, the oldest first.
use Rattle.std.specs.Prelude.{ℤ, List, ◌++◌, length, take, drop}

-- what comes out as these samples go in, and what it holds then
abbrev pub passed : List ℤ → List ℤ → List ℤ
passed line samples = take (length samples) (line ++ samples)

abbrev pub kept : List ℤ → List ℤ → List ℤ
kept line samples = drop (length samples) (line ++ samples)
