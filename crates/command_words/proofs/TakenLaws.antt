-- The two ends of a parse, as `taken` has them, and commands argument by argument.
use Rattle.std.proofs.Common.{◌≡◌, ◌&&◌, ◌∙◌, Bool, true, false, List, [], ◌∷◌, Ok, Err, refl, ap₂, inl, inr}
use Rattle.clap.specs.Words.{App, Row, Text, fault_of, is_simple, is_simple_and_free, matches_of, HasKind, IsAmong, Kinds, kind_of, AddsArg, Rule, app_of, rule_of, with_rule}
use Rattle.clap.specs.declared.builder.arg.Arg.{Arg}
use Rattle.clap.specs.declared.builder.command.Command.{Command}
use Rattle.clap.specs.declared.error.Error.{Error}
use Rattle.clap.specs.declared.error.kind.ErrorKind.{ErrorKind}
use Rattle.clap.specs.declared.error.kind.ErrorKind.TheVariants.{OutOfMemory}
use Rattle.command_words.specs.Commands.{taken, unless_fault}
use Rattle.command_words.specs.declared.fault.WordsFault.TheVariants.{NoRequest}

pub taken_ok : (a : App) (words : List Text) (rows : List Row) → fault_of a words ≡ [] → rows ≡ matches_of a words → taken a words ≡ Ok rows
unfolding taken
taken_ok a words rows e same = rw (e, same) refl

among_err : (k : ErrorKind) (kinds : Kinds) (rows : List Row) → IsAmong k kinds → unless_fault kinds rows ≡ Err NoRequest
among_err k [] rows h = absurd h
among_err k (x ∷ xs) rows h = refl

pub taken_err : (a : App) (words : List Text) (e : Error) → HasKind (fault_of a words) e → (kind_of e ≡ OutOfMemory → ⊥)
    → taken a words ≡ Err NoRequest
unfolding taken
taken_err a words e (inl m) other = absurd (other m)
taken_err a words e (inr among) other = among_err (kind_of e) (fault_of a words) _ among

pub simple_of : (a : App) → is_simple_and_free a ≡ true → is_simple a ≡ true
simple_of a h = first (is_simple a) _ h
  where
    first : (p q : Bool) → (p && q) ≡ true → p ≡ true
    first true q e = refl
    first false q e = e

-- a command with one more argument that is not global
pub adds : (old new : Command) (a : Arg) (o : App) (r : Rule) → AddsArg old a new → a.global ≡ false → app_of old ≡ o → rule_of a ≡ r
    → app_of new ≡ with_rule o r
adds old new a o r h local before is = h.shape local ∙ ap₂ with_rule before is
