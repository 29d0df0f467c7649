use Rattle.std.proofs.Common.{◌*◌, Option, take, subst}
use Rattle.gh_outside.specs.Holdings.{Holding}
use Rattle.streaming.specs.Appends.{IsAppended}
use Rattle.streaming.specs.Blocks.{put_of}
use Rattle.streaming.proofs.blocks.stream_block.Goals as goal

pub returns-in-Ok-put_next-clause-done : goal.returns-in-Ok-put_next-clause-done
returns-in-Ok-put_next-clause-done g c =
    let to = c.args.to.now in
    let n = c.args.count * to.channels in
    let w = c.in-Ok.ensures.rendered in
    let after = g.F.Folder.held c.put_next.new.folder in (
      w.0,
      take n c.render_next.new.went,
      w.1,
      subst (λ (o : Option Holding). IsAppended to.name.now (put_of to c.args.first (take n c.render_next.new.went)) o after) c.render_next.ensures.held
          c.in-Ok-put_next.ensures.ok,
    )
