use Rattle.std.proofs.Common.{◌∙◌, ap, take, drop}
use Rattle.std.specs.Char.{is_ascii_digit}
use Rattle.std.proofs.lemmas.List.Folds.{length-prefix_len}
use Rattle.plan_text.proofs.number.digits_first.Goals as goal

pub returns-clause-digits : goal.returns-clause-digits
returns-clause-digits c = c.split_at.ensures.front ∙ ap (λ k. take k c.args.text.now) (c.count_digits.ensures ∙ length-prefix_len is_ascii_digit c.args.text.now)

pub returns-clause-rest : goal.returns-clause-rest
returns-clause-rest c = c.split_at.ensures.back ∙ ap (λ k. drop k c.args.text.now) (c.count_digits.ensures ∙ length-prefix_len is_ascii_digit c.args.text.now)
