use Rattle.std.proofs.Common.{◌≡◌, ◌-◌, ◌*◌, drop, take, ◌∙◌, subst}
use Rattle.std.proofs.lemmas.List.{length-take-le}
use Rattle.wav_pcm.specs.Samples.{bytes_of}
use Rattle.streaming.specs.Appends.{IsAppended, IsPartAppended}
use Rattle.streaming.proofs.PartLaws.{on_err, on_ok}
use Rattle.streaming.proofs.TakeFacts.{kept_is}
use Rattle.streaming.proofs.blocks.put_next.Goals as goal

-- what is kept of the frames
kept : (g : _) (c : goal.After-slice_known-2-1 g) → let end = c.args.count * c.args.to.now.channels in
    take (end - c.left_out.result) (drop c.left_out.result c.args.went.now) ≡ drop ((c.args.to.now.skipped - c.args.first) * c.args.to.now.channels) (take end c.args.went.now)
kept g c =
    let end = c.args.count * c.args.to.now.channels in
    kept_is c.args.went.now c.left_out.result end c.left_out.ensures.few ∙ c.left_out.ensures.all (take end c.args.went.now) (length-take-le end c.args.went.now c.requires.go)

pub returns-clause-ok : goal.returns-clause-ok
returns-clause-ok g c =
    on_ok c.put_out.result (subst (λ xs. IsAppended c.args.to.now.name.now (bytes_of c.args.to.now.bits xs) (g.F.Folder.held c.args.folder.now) (g.F.Folder.held c.put_out.new.folder)) (kept g c))
    c.put_out.ensures.ok

pub returns-clause-part : goal.returns-clause-part
returns-clause-part g c =
    on_err c.put_out.result (subst (λ xs. IsPartAppended c.args.to.now.name.now (bytes_of c.args.to.now.bits xs) (g.F.Folder.held c.args.folder.now) (g.F.Folder.held c.put_out.new.folder)) (kept g c))
    c.put_out.ensures.part
