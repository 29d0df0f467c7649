-- Commands of positionals, options and flags, and what clap's published function gives of words by them.
use Rattle.std.specs.Prelude.{Bool, true, false, List, [], ◌∷◌, Some, codes, Result, Ok, Err}
use Rattle.std.specs.Option.{ok_or, option_map_or}
use Rattle.std.specs.Str.{bytes_eq}
use Rattle.clap.specs.Words.{App, Kinds, Row, Rule, Text, fault_of, first_of, found_of, matches_of, new_rule, rows_of}
use Rattle.clap.specs.declared.builder.action.ArgAction.TheVariants.{SetTrue}
use Rattle.clap.specs.declared.parser.matches.ArgMatches.{ArgMatches}
use Rattle.graph_model.specs.Refusals.{and_then}
use Rattle.command_words.specs.declared.fault.WordsFault.{WordsFault}
use Rattle.command_words.specs.declared.fault.WordsFault.TheVariants.{NoRequest}

-- a value that is wanted, `--NAME VALUE`, and `--NAME`
abbrev pub positional : Text → Rule
positional name = record (new_rule name) { required = true }

abbrev pub option : Text → Rule
option name = record (new_rule name) { long = Some name }

abbrev pub flag : Text → Rule
flag name = record (new_rule name) { long = Some name; action = Some SetTrue }

-- first the one answer, and then what follows from it
abbrev pub taking : {A B : Type 0} → Result A WordsFault → (A → Result B WordsFault) → Result B WordsFault
taking r f = and_then f r

-- what clap reads of the words by a command, where it finds no fault in them
abbrev pub unless_fault : Kinds → List Row → Result (List Row) WordsFault
unless_fault [] rows = Ok rows
unless_fault (k ∷ ks) rows = Err NoRequest

unfoldable pub taken : App → List Text → Result (List Row) WordsFault
taken command words = unless_fault (fault_of command words) (matches_of command words)

abbrev pub rows_in : ArgMatches → List Row
rows_in m = rows_of (found_of m)

-- the value of an argument, which has to be there
abbrev pub wanted : Text → List Row → Result Text WordsFault
wanted name rows = ok_or (first_of name rows) NoRequest

-- the flag was given
abbrev pub has_flag : Text → List Row → Bool
has_flag name rows = option_map_or (λ t. bytes_eq t (codes "true")) (first_of name rows) false
