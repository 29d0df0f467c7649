-- What `demo SEED NODES` asks for.
use Rattle.std.specs.Prelude.{ℕ, ◌&&◌, ◌^◌, List, codes, if◌then◌else◌, nat_lt, Result, Ok, Err}
use Rattle.std.specs.Str.Parse.{digits_value}
use Rattle.clap.specs.Words.{App, Row, Text, new_app, with_rule}
use Rattle.command_words.specs.Commands.{positional, taken, taking, wanted}
use Rattle.command_words.specs.Numbers.{is_numeral, is_within}
use Rattle.command_words.specs.declared.demo.DemoRequest.{DemoRequest as Said}
use Rattle.command_words.specs.declared.fault.WordsFault.{WordsFault}
use Rattle.command_words.specs.declared.fault.WordsFault.TheVariants.{NoRequest, OutOfRange}

-- what the graph is made of, and how many nodes it has
pub record DemoRequest : Type 0 where
  pub seed : ℕ
  pub nodes : ℕ

abbrev pub demo_said : Said → DemoRequest
demo_said r = record { seed = r.seed; nodes = r.nodes }

abbrev pub demo_command : App
demo_command = with_rule (with_rule (new_app (codes "demo")) (positional (codes "SEED"))) (positional (codes "NODES"))

-- a seed below 2 ^ 64 and 3 to 512 nodes
abbrev pub demo_within : ℕ → ℕ → Result DemoRequest WordsFault
demo_within seed nodes =
    if nat_lt seed (2 ^ 64) && is_within 3 512 nodes then Ok (record { seed = seed; nodes = nodes }) else Err OutOfRange

-- both words have to be numerals, and then their numbers within the ranges
abbrev pub demo_of : List ℕ → List ℕ → Result DemoRequest WordsFault
demo_of seed nodes =
    if is_numeral seed && is_numeral nodes then demo_within (digits_value 10 seed) (digits_value 10 nodes) else Err NoRequest

abbrev pub demo_in : List Row → Result DemoRequest WordsFault
demo_in rows = taking (wanted (codes "SEED") rows) (λ seed. taking (wanted (codes "NODES") rows) (λ nodes. demo_of seed nodes))

-- the request of a demo that the words are
abbrev pub demo_request : List Text → Result DemoRequest WordsFault
demo_request words = taking (taken demo_command words) demo_in
