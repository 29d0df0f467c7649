use Rattle.std.proofs.Common.{◌∙◌, sym}
use Rattle.command_words.proofs.NumeralFacts.{parsed}
use Rattle.command_words.proofs.number.number.Goals as goal

pub returns-in-true : goal.returns-in-true
returns-in-true c = c.ok.ensures.value ∙ parsed c.args.text.now c.parse.result c.parse.ensures.value.0 (sym c.is_numeral.ensures ∙ c.in-true.is)
