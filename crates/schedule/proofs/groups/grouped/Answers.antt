use Rattle.std.proofs.Common.{◌<◌, sym, subst}
use Rattle.schedule.proofs.GroupFacts.{groups_more}
use Rattle.schedule.specs.declared.groups.Entry.{Entry}
use Rattle.schedule.proofs.groups.grouped.Goals as goal

pub loop-entry-preserved : goal.loop-entry-preserved
loop-entry-preserved g c =
    let e = c.entry-item.result in
    let lt = c.loop-entry-test.true in
    let within = subst (λ (x : Entry g.row.T.Denot). x.group < c.args.count) (sym c.entry-item.is) (c.requires c.loop-entry.entry-index c.entry-item.result lt) in
    groups_more c.args.count c.args.entries.now c.loop-entry.entry-index e c.loop-entry.groups.items c.index_mut.result.now c.push-in-loop-entry.new.self lt (sym c.entry-item.is) within
    c.index_mut.ensures.value c.in_ok-push-2.ensures.ok c.loop-entry.invariant
