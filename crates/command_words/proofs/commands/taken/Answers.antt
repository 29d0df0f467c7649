use Rattle.std.proofs.Common.{◌∙◌}
use Rattle.clap.specs.Words.{app_of}
use Rattle.command_words.proofs.TakenLaws.{taken_ok, taken_err, simple_of}
use Rattle.command_words.proofs.commands.taken.Goals as goal

pub returns-in-Ok : goal.returns-in-Ok
returns-in-Ok c = taken_ok _ _ _ (c.in-Ok.ensures.kinds c.requires) (c.in-Ok.ensures.matches (simple_of (app_of c.args.command) c.requires)).0

pub returns : goal.returns
returns c = taken_err _ _ c.in-Err.error (c.in-Err.ensures.kinds c.requires) (λ same. c.in_default.not-OutOfMemory (c.kind.ensures ∙ same))
