use Rattle.std.proofs.Common.{◌+◌, ◌*◌, ◌∙◌, get_or, pos, arith}
use Rattle.graph_model.specs.Histories.{frame_in}
use Rattle.graph_model.proofs.BlockLaws.{row_within}
use Rattle.players.proofs.PartFacts.{slice_len}
use Rattle.players.proofs.ServeFacts.{entered_more}
use Rattle.players.proofs.serving.enter.Goals as goal

pub loop-c-preserved : goal.loop-c-preserved
loop-c-preserved c =
    let room = row_within c.loop-c.c c.args.outs c.args.count c.loop-c-test.true in
    let same = c.loop-c.auto.told in
    let size = slice_len (c.loop-c.c * c.args.count) (c.loop-c.c * c.args.count + c.args.count) c.loop-c.told (omega arith) in
    entered_more (λ d t. get_or (frame_in c.args.channels c.args.input.now (c.args.first + t)) d (pos 0)) c.args.count c.loop-c.c c.loop-c.told c.enter_row.new.row
    (omega arith) (c.enter_row.auto.row ∙ size) c.loop-c.invariant (λ t lt. c.enter_row.ensures t (omega arith))
