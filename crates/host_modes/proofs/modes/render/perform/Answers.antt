use Rattle.std.proofs.Common.{List, ℕ, Some, refl, subst, sym, inl, inr}
use Rattle.std.specs.Prelude.{Ok}
use Rattle.gh_outside.specs.Holdings.{GainsAll, GainsPrefix}
use Rattle.streaming.specs.Blocks.{AreLengths}
use Rattle.command_words.specs.Rendering.{render_said}
use Rattle.command_words.specs.Requests.{render}
use Rattle.host_modes.specs.Outside.{outside}
use Rattle.host_modes.specs.Runs.{IsRun}
use Rattle.host_modes.specs.declared.ends.End.{End}
use Rattle.host_modes.specs.declared.ends.End.TheVariants.{Done, ReportFault}
use Rattle.host_modes.proofs.RenderLaws.{engine_is, ready_stream, ready_work, run_by}
use Rattle.host_modes.proofs.RunLaws.{render_words, unreported}
use Rattle.host_modes.proofs.modes.render.perform.Goals as goal

pub returns-in-Err : goal.returns-in-Err
returns-in-Err g c =
    let held = g.F.Folder.held c.args.folder.now in
    let q = render_said c.args.request.now in
    let j = c.args.job in
    unreported (Ok (render q)) held (g.F.Folder.read_faults c.args.folder.now) (g.F.Folder.write_faults c.args.folder.now) (g.R.Sink.bytes c.args.report.now)
    (g.R.Sink.bytes c.put.new.self) (g.R.Sink.faults c.args.report.now) (g.R.Sink.faults c.put.new.self) j.plan j.text.items (Some j.engine)
    c.in-Err.ensures.cause.later Done
    (render_words q ReportFault (λ e. absurd (cc)) (λ e. absurd (cc)) (λ e. absurd (cc)) c.requires.differs)
    (ready_work q j held c.requires.differs c.requires.ready)
    (j.engine, refl, engine_is q j held j.engine c.requires.ready (record { graph = refl; plan = refl; block = refl }), c.requires.ready.job.new)
    (subst (λ text. GainsPrefix text (g.R.Sink.bytes c.args.report.now) (g.R.Sink.bytes c.put.new.self)) c.deref.ensures.value c.in-Err.ensures.failed)
    (elim c.in-Err.ensures.cause.failed [
      | inl missed ↦ absurd missed
      | inr rose ↦ rose
    ])

pub write_file-written-requires-clause-may : goal.write_file-written-requires-clause-may
write_file-written-requires-clause-may g c κs within = ready_stream (render_said c.args.request.now) c.args.job (g.F.Folder.held c.args.folder.now) c.requires.differs c.requires.ready

pub write_file-written-requires-clause-lengths : goal.write_file-written-requires-clause-lengths
write_file-written-requires-clause-lengths g c κs within =
    subst (λ (l : List ℕ). AreLengths c.args.job.engine.block l) (sym c.as_slice-lengths.ensures) c.requires.ready.job.lengths

pub returns : goal.returns
returns g c =
    let held = g.F.Folder.held c.args.folder.now in
    let q = render_said c.args.request.now in
    let j = c.args.job in
    subst (λ (end : End). IsRun (Ok (render q))
    (outside held (g.F.Folder.read_faults c.args.folder.now) (g.F.Folder.write_faults c.args.folder.now) (g.R.Sink.bytes c.args.report.now) (g.R.Sink.faults c.args.report.now))
    (outside (g.F.Folder.held c.write_file-written.new.folder) (g.F.Folder.read_faults c.write_file-written.new.folder) (g.F.Folder.write_faults c.write_file-written.new.folder) (g.R.Sink.bytes c.put.new.self) (g.R.Sink.faults c.put.new.self))
    end (Some j.plan) (Some c.write_file-written.new.engine)) (sym c.end_of.ensures)
    (run_by q j held (g.F.Folder.held c.write_file-written.new.folder) (g.F.Folder.read_faults c.args.folder.now) (g.F.Folder.read_faults c.write_file-written.new.folder)
    (g.F.Folder.write_faults c.args.folder.now) (g.F.Folder.write_faults c.write_file-written.new.folder) (g.R.Sink.bytes c.args.report.now) (g.R.Sink.bytes c.put.new.self)
    (g.R.Sink.faults c.args.report.now) (g.R.Sink.faults c.put.new.self) c.write_file-written.new.engine c.requires.differs c.requires.ready c.write_file-written.ensures.same c.write_file-written.ensures.others
    (subst (λ text. GainsAll text (g.R.Sink.bytes c.args.report.now) (g.R.Sink.bytes c.put.new.self)) c.deref.ensures.value c.in-Ok.ensures.gained)
    c.in-Ok.ensures.cause.later c.write_file-written.ensures.reads c.write_file-written.ensures.writes c.write_file-written.result
    c.write_file-written.ensures.done c.write_file-written.ensures.unread c.write_file-written.ensures.read_failed c.write_file-written.ensures.broken c.write_file-written.ensures.write_failed)
