use Rattle.std.proofs.Common.{◌+◌, ◌∙◌, sym, ap, subst, refl, take}
use Rattle.graph_model.specs.declared.graph.Connection.{Connection}
use Rattle.plan_jobs.specs.Made.{AreWiresOf}
use Rattle.std.proofs.lemmas.Bool.{eq-eqb, ne_eqb}
use Rattle.plan_jobs.proofs.MakeFacts.{wires_more, wires_stay}
use Rattle.plan_jobs.proofs.WireFacts.{fed_any}
use Rattle.std.specs.Prelude.{not, ◌==◌}
use Rattle.std.specs.List.{list_any}
use Rattle.plan_jobs.proofs.making.wires_of.Goals.{then-connection-uid+in_ok-push, else-connection-uid}
use Rattle.plan_jobs.proofs.making.wires_of.Goals as goal

abbrev no_connection : Connection
no_connection = record { src = record { 0 = 0 }; src_channel = 0; dst = record { 0 = 0 }; dst_channel = 0 }

pub loop-connection-preserved : goal.loop-connection-preserved
loop-connection-preserved c = elim c.if-connection-uid.branch [
  | then-connection-uid+in_ok-push w ↦
      subst (λ z. AreWiresOf (take (c.loop-connection.connection-index + 1) c.as_slice-connection-items.result.now) c.args.homes.now c.args.own.now c.args.uid.0 z)
      (sym (ap (λ l. l.items) w.list-is ∙ w.in_ok-push.ensures.items))
      (wires_more c.as_slice-connection-items.result.now c.args.homes.now c.args.own.now c.args.uid.0 c.loop-connection.list.items c.loop-connection.connection-index no_connection _ c.loop-connection-test.true
      (eq-eqb _ _ w.if-connection-uid.true) w.buffer_for-buffer.ensures refl w.own_of-own.ensures (ap not (w.is_fed-first.ensures ∙ ap (list_any (λ u. u.channel == _)) w.as_slice.ensures.value ∙ sym (fed_any _ c.loop-connection.list.items))) c.loop-connection.invariant)
  | else-connection-uid w ↦
      subst (λ z. AreWiresOf (take (c.loop-connection.connection-index + 1) c.as_slice-connection-items.result.now) c.args.homes.now c.args.own.now c.args.uid.0 z)
      (sym (ap (λ l. l.items) w.list-is))
      (wires_stay c.as_slice-connection-items.result.now c.args.homes.now c.args.own.now c.args.uid.0 c.loop-connection.list.items c.loop-connection.connection-index no_connection c.loop-connection-test.true
      (ne_eqb _ _ w.if-connection-uid.false) c.loop-connection.invariant)
]
