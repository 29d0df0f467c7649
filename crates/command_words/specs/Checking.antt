-- What `check GRAPH PLAN` asks for.
use Rattle.std.specs.Prelude.{ℕ, List, codes, Result, Ok}
use Rattle.clap.specs.Words.{App, Row, Text, new_app, with_rule}
use Rattle.command_words.specs.Commands.{positional, taken, taking, wanted}
use Rattle.command_words.specs.declared.check.CheckRequest.{CheckRequest as Said}
use Rattle.command_words.specs.declared.fault.WordsFault.{WordsFault}

-- the names of the graph's records and of the plan's text
pub record CheckRequest : Type 0 where
  pub graph : List ℕ
  pub plan : List ℕ

abbrev pub check_said : Said → CheckRequest
check_said r = record { graph = r.graph.now; plan = r.plan.now }

abbrev pub check_command : App
check_command = with_rule (with_rule (new_app (codes "check")) (positional (codes "GRAPH"))) (positional (codes "PLAN"))

abbrev pub check_in : List Row → Result CheckRequest WordsFault
check_in rows = taking (wanted (codes "GRAPH") rows) (λ graph. taking (wanted (codes "PLAN") rows) (λ plan.
    Ok (record { graph = graph; plan = plan })))

-- the request to check that the words are
abbrev pub check_request : List Text → Result CheckRequest WordsFault
check_request words = taking (taken check_command words) check_in
