use Rattle.std.proofs.Common.{◌∙◌, arith}
use Rattle.streaming.proofs.PartLaws.{keeps}
use Rattle.host_modes.proofs.WriteLaws.{begun_part, broken_file, halted_file, pad_missed, padless_file, whole_file}
use Rattle.host_modes.proofs.output.files.write_file.Goals as goal

pub returns-in-Err-clause-broken : goal.returns-in-Err-clause-broken
returns-in-Err-clause-broken g c = λ e.
    begun_part c.args.rendering.now c.args.engine.now (g.F.Folder.held c.args.folder.now) (g.F.Folder.held c.begin.new.folder) c.requires.new c.begin.ensures.part

pub returns-in-Err-stream-clause-others : goal.returns-in-Err-stream-clause-others
returns-in-Err-stream-clause-others g c = keeps c.args.rendering.now.to.name.now _ _ _ c.begin.ensures.others c.stream.ensures.others

pub returns-in-Err-stream-clause-unread : goal.returns-in-Err-stream-clause-unread
returns-in-Err-stream-clause-unread g c = λ e.
    let w = c.stream.ensures.unread (c.in-Err-stream.is ∙ e) in (
      w.0,
      w.1,
      halted_file c.args.rendering.now c.args.engine.now (g.F.Folder.held c.args.folder.now) (g.F.Folder.held c.begin.new.folder) c.requires.may c.begin.ensures.others c.in-Ok.ensures.ok
          (g.F.Folder.held c.stream.new.folder) c.stream.ensures.others w.0 c.stream.new.engine w.2,
    )

pub returns-in-Err-stream-clause-broken : goal.returns-in-Err-stream-clause-broken
returns-in-Err-stream-clause-broken g c = λ e.
    let w = c.stream.ensures.broken (c.in-Err-stream.is ∙ e) in (
      w.0,
      w.1,
      broken_file c.args.rendering.now c.args.engine.now (g.F.Folder.held c.args.folder.now) (g.F.Folder.held c.begin.new.folder) c.requires.may c.begin.ensures.others c.in-Ok.ensures.ok
          (g.F.Folder.held c.stream.new.folder) c.stream.ensures.others w.0 c.stream.new.engine w.2,
    )

pub returns-in-Ok-append_pad-clause-others : goal.returns-in-Ok-append_pad-clause-others
returns-in-Ok-append_pad-clause-others g c =
    keeps c.args.rendering.now.to.name.now _ _ _ (keeps c.args.rendering.now.to.name.now _ _ _ c.begin.ensures.others c.stream.ensures.others) c.append_pad.ensures.others

pub returns-in-Ok-append_pad-clause-done : goal.returns-in-Ok-append_pad-clause-done
returns-in-Ok-append_pad-clause-done g c =
    whole_file c.args.rendering.now c.args.engine.now (g.F.Folder.held c.args.folder.now) (g.F.Folder.held c.begin.new.folder) c.requires.may c.begin.ensures.others c.in-Ok.ensures.ok
    (g.F.Folder.held c.stream.new.folder) c.stream.ensures.others c.stream.new.engine c.in-Ok-stream.ensures.done (g.F.Folder.held c.append_pad.new.folder) c.append_pad.ensures.others
    c.in-Ok-append_pad.ensures.ok

pub returns-in-Err-append_pad-clause-others : goal.returns-in-Err-append_pad-clause-others
returns-in-Err-append_pad-clause-others g c =
    keeps c.args.rendering.now.to.name.now _ _ _ (keeps c.args.rendering.now.to.name.now _ _ _ c.begin.ensures.others c.stream.ensures.others) c.append_pad.ensures.others

pub returns-in-Err-append_pad-clause-broken : goal.returns-in-Err-append_pad-clause-broken
returns-in-Err-append_pad-clause-broken g c = λ e.
    padless_file c.args.rendering.now c.args.engine.now (g.F.Folder.held c.args.folder.now) (g.F.Folder.held c.begin.new.folder) c.requires.may c.begin.ensures.others c.in-Ok.ensures.ok
    (g.F.Folder.held c.stream.new.folder) c.stream.ensures.others c.stream.new.engine c.in-Ok-stream.ensures.done (g.F.Folder.held c.append_pad.new.folder) c.append_pad.ensures.others
    c.in-Err-append_pad.ensures.part

pub returns-in-Err-append_pad-clause-write_failed : goal.returns-in-Err-append_pad-clause-write_failed
returns-in-Err-append_pad-clause-write_failed g c = λ e.
    let first = c.begin.ensures.writes in
    let then = c.stream.ensures.writes in
    pad_missed c.args.rendering.now c.args.engine.now (g.F.Folder.held c.args.folder.now) (g.F.Folder.held c.begin.new.folder) c.requires.may c.begin.ensures.others c.in-Ok.ensures.ok
    (g.F.Folder.held c.stream.new.folder) c.stream.ensures.others c.stream.new.engine c.in-Ok-stream.ensures.done (g.F.Folder.held c.append_pad.new.folder) c.append_pad.ensures.others
    (g.F.Folder.write_faults c.args.folder.now) (g.F.Folder.write_faults c.stream.new.folder) (g.F.Folder.write_faults c.append_pad.new.folder) (omega (arith, first, then))
    c.in-Err-append_pad.ensures.failed
