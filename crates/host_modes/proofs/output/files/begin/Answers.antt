use Rattle.std.proofs.Common.{[], subst}
use Rattle.std.proofs.lemmas.List.{append-nil}
use Rattle.streaming.specs.Appends.{IsPart}
use Rattle.streaming.proofs.PartLaws.{appended, either_part, keeps, part-appended, part-of, whole}
use Rattle.host_modes.proofs.output.files.begin.Goals as goal

pub returns-clause-part : goal.returns-clause-part
returns-clause-part g c =
    let name = c.args.name.now in
    let head = c.args.head.now in
    let before = c.in_ok-create.ensures.others in
    either_part c.append.result
    (λ gained. whole name head _ _ (keeps name _ _ _ before c.append.ensures.others) (appended name head _ _ c.append.ensures.others gained [] c.in_ok-create.ensures.made))
    (λ part. subst (λ bytes. IsPart name bytes (g.F.Folder.held c.args.folder.now) (g.F.Folder.held c.append.new.self)) (append-nil head)
    (part-of name [] head [] _ _ _ before c.append.ensures.others c.in_ok-create.ensures.made (part-appended name head _ _ c.append.ensures.others part)))
    c.append.ensures.gained c.append.ensures.failed
