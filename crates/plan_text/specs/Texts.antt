-- The text of a plan.
use Rattle.std.specs.Prelude.{ℕ, List, [], ◌∷◌, map}
use Rattle.std.specs.List.{All, flat_map}
use Rattle.graph_model.specs.declared.graph.Uid.{Uid}
use Rattle.plan_model.specs.declared.alignment.At.{At}
use Rattle.plan_model.specs.declared.alignment.LineAt.{LineAt}
use Rattle.plan_model.specs.declared.buffers.Home.{Home}
use Rattle.plan_model.specs.declared.flow.Units.{Units}
use Rattle.plan_model.specs.declared.plan.Plan.{Plan}
use Rattle.plan_model.specs.declared.schedule.Wave.{Wave}
use Rattle.plan_text.specs.declared.word.Word.{Word}
use Rattle.plan_text.specs.declared.word.Word.TheVariants as word
use Rattle.plan_text.specs.Lines.{line, lines_text, IsLine, Line}

abbrev pub names_of : List Uid → List ℕ
names_of us = map (λ u. u.0) us

abbrev pub at_line : At → Line
at_line a = line word.At (a.uid.0 ∷ a.at ∷ [])

abbrev pub delay_line : LineAt → Line
delay_line d = line word.Line (d.connection ∷ d.delay ∷ [])

abbrev pub arc_line : Units → Line
arc_line e = line word.Arc (e.tail ∷ e.head ∷ e.units ∷ [])

abbrev pub wave_line : Wave → Line
wave_line w = line word.Wave (names_of w.nodes)

abbrev pub home_line : Home → Line
home_line h = line word.Home (h.uid.0 ∷ h.channel ∷ h.buffer ∷ [])

-- a section of one line
abbrev pub sole : Word → List ℕ → List Line
sole w ns = line w ns ∷ []

-- the lines of a plan, section by section
abbrev pub sections_of : Plan → List (List Line)
sections_of p = sole word.Plan (1 ∷ [])
    ∷ sole word.Latency (p.latency ∷ [])
    ∷ sole word.Path (names_of p.path)
    ∷ map at_line p.at
    ∷ map delay_line p.lines
    ∷ sole word.Total (p.total ∷ [])
    ∷ map arc_line p.arcs
    ∷ sole word.Bound (p.bound ∷ [])
    ∷ map wave_line p.waves
    ∷ map home_line p.homes
    ∷ sole word.Channels (p.channels ∷ [])
    ∷ sole word.Peak (p.peak ∷ [])
    ∷ sole word.End []
    ∷ []

abbrev pub in_order : List (List Line) → List Line
in_order gs = flat_map (λ ls. ls) gs

abbrev pub lines_of : Plan → List Line
lines_of p = in_order (sections_of p)

unfoldable pub text_of : Plan → List ℕ
text_of p = lines_text (lines_of p)

-- the plan's numbers fit their types, as those of every plan in memory do
unfoldable pub IsInRange : Plan → Type 0
IsInRange p = All IsLine (lines_of p)
