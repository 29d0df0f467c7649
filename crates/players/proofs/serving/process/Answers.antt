use Rattle.std.proofs.Common.{◌+◌, ◌*◌, ◌++◌, take, drop, pos, sym, ap, ◌∙◌, subst, arith}
use Rattle.std.proofs.lemmas.List.{get_or_append_left, length-take}
use Rattle.graph_model.specs.Blocks.{planar}
use Rattle.graph_model.specs.Histories.{History}
use Rattle.graph_model.specs.Kinds.{stream_of}
use Rattle.graph_model.proofs.BlockLaws.{row_within}
use Rattle.fixed_kernels.specs.Kernels.{Keeps}
use Rattle.players.proofs.ServeFacts.{planar_is, takes_block, gave_at}
use Rattle.players.proofs.serving.process.Goals as goal

pub process_block-requires : goal.process_block-requires
process_block-requires c =
    takes_block c.args.processor.now c.args.count c.args.ins c.args.outs c.args.sums.now c.args.told.now c.requires.ins c.requires.outs c.requires.sums c.requires.told c.requires.within

pub returns-clause-keeps : goal.returns-clause-keeps
returns-clause-keeps c = λ h at.
    subst (λ (z : History). Keeps c.process_block.new.self (z ++ h))
    (sym (ap (λ m. planar m c.args.count (take (c.args.ins * c.args.count) c.args.sums.now)) c.requires.ins) ∙ planar_is c.args.ins c.args.count c.args.sums.now)
    (c.process_block.ensures.stands h at)

pub returns-clause-told : goal.returns-clause-told
returns-clause-told c = λ h d t at lc lt.
    let row = row_within d c.args.outs c.args.count lc in
    let len = c.process_block.auto.outs in
    let cut = length-take (c.args.outs * c.args.count) c.args.told.now in
    get_or_append_left c.process_block.new.outs (drop (c.args.outs * c.args.count) c.args.told.now) (pos 0) (d * c.args.count + t) (omega arith)
    ∙ gave_at c.args.processor.now.kind c.args.outs c.args.ins c.args.count c.args.sums.now c.process_block.new.outs h
    (ap (λ m. planar m c.args.count c.process_block.new.outs) c.requires.outs
    ∙ c.process_block.ensures.last h at
    ∙ ap (λ (z : History). take c.args.count (stream_of c.args.processor.now.kind (z ++ h)))
    (sym (ap (λ m. planar m c.args.count (take (c.args.ins * c.args.count) c.args.sums.now)) c.requires.ins) ∙ planar_is c.args.ins c.args.count c.args.sums.now))
    d t lc lt
