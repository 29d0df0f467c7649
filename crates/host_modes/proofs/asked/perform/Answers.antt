use Rattle.std.proofs.Common.{map, string_bytes}
use Rattle.command_words.specs.Requests.{request_of}
use Rattle.host_modes.proofs.asked.perform.Goals as goal

pub returns : goal.returns
returns g c = c.answered.ensures (request_of (map string_bytes c.args.words.now)) c.request-asked.ensures.exact
