use Rattle.std.proofs.Common.{map, string_bytes}
use Rattle.command_words.proofs.RangeLaws.{given}
use Rattle.command_words.proofs.requests.request.Goals as goal

pub returns-in-len1-up-clause-range : goal.returns-in-len1-up-clause-range
returns-in-len1-up-clause-range c = given c.as_str.result.now (map string_bytes c.args.words.now) c.request_in.result c.request_in.ensures
