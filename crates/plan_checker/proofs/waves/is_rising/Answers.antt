use Rattle.std.proofs.Common.{◌≡◌, ◌-◌, ◌+◌, map, ap, arith, inl, inr}
use Rattle.std.specs.Prelude.{slice_index}
use Rattle.std.proofs.lemmas.Bool.{cases_lt}
use Rattle.std.proofs.lemmas.List.{length-map}
use Rattle.graph_model.specs.declared.graph.Uid.{Uid}
use Rattle.plan_checker.proofs.WaveFacts.{name_at}
use Rattle.plan_checker.proofs.waves.is_rising.Goals as goal

abbrev nobody : Uid
nobody = record { 0 = 0 }

pub returns-then-nodes-k : goal.returns-then-nodes-k
returns-then-nodes-k c rising =
    let us = c.args.nodes.now in
    let k = c.loop-k.k in
    let some = c.loop-k.auto.k in
    let next : k - 1 + 1 ≡ k = omega arith in
    let long = length-map us (λ (u : Uid). u.0) in
    let up = rising (k - 1) (omega arith) in
    let first = name_at us (k - 1) nobody (omega arith) in
    let second = name_at us k nobody (omega arith) in
    let place = ap (λ n. slice_index (map (λ (u : Uid). u.0) us) n) next in
    omega arith

pub loop-k-preserved : goal.loop-k-preserved
loop-k-preserved c j lt =
    let us = c.args.nodes.now in
    let k = c.loop-k.k in
    let some = c.loop-k.auto.k in
    elim (cases_lt (j + 1) k) [
      | inl less ↦ c.loop-k.invariant j less
      | inr le ↦
          (let here : j ≡ k - 1 = omega arith in
          let next : j + 1 ≡ k = omega arith in
          let first = name_at us (k - 1) nobody (omega arith) in
          let second = name_at us k nobody (omega arith) in
          let a = ap (λ n. slice_index (map (λ (u : Uid). u.0) us) n) here in
          let b = ap (λ n. slice_index (map (λ (u : Uid). u.0) us) n) next in
          omega arith)
    ]

pub returns : goal.returns
returns c k lt = let long = length-map c.args.nodes.now (λ (u : Uid). u.0) in c.loop-k.invariant k (omega arith)
