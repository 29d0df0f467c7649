-- What `compile GRAPH [--waves]` asks for.
use Rattle.std.specs.Prelude.{ℕ, Bool, List, codes, Result, Ok}
use Rattle.clap.specs.Words.{App, Row, Text, new_app, with_rule}
use Rattle.command_words.specs.Commands.{flag, has_flag, positional, taken, taking, wanted}
use Rattle.command_words.specs.declared.compile.CompileRequest.{CompileRequest as Said}
use Rattle.command_words.specs.declared.fault.WordsFault.{WordsFault}

-- the name of the graph's records, and whether the nodes are scheduled by waves
pub record CompileRequest : Type 0 where
  pub graph : List ℕ
  pub waves : Bool

abbrev pub compile_said : Said → CompileRequest
compile_said r = record { graph = r.graph.now; waves = r.waves }

abbrev pub compile_command : App
compile_command = with_rule (with_rule (new_app (codes "compile")) (positional (codes "GRAPH"))) (flag (codes "waves"))

abbrev pub compile_in : List Row → Result CompileRequest WordsFault
compile_in rows = taking (wanted (codes "GRAPH") rows) (λ graph. Ok (record { graph = graph; waves = has_flag (codes "waves") rows }))

-- the request to compile that the words are
abbrev pub compile_request : List Text → Result CompileRequest WordsFault
compile_request words = taking (taken compile_command words) compile_in
