use Rattle.std.proofs.Common.{◌≡◌, ℕ, List, ◌++◌, [], ◌∷◌, set, ap, sym, ◌∙◌, Some, arith}
use Rattle.plan_model.specs.declared.buffers.Life.{Life}
use Rattle.buffer_plan.specs.Packed.{first_free}
use Rattle.buffer_plan.specs.declared.packing.Placed.{Placed}
use Rattle.buffer_plan.specs.declared.packing.Packing.{Packing}
use Rattle.buffer_plan.proofs.StepFacts.{step_reuse, step_open}
use Rattle.buffer_plan.proofs.packing.Packing.place.Goals as goal
use Rattle.buffer_plan.proofs.packing.Packing.place.Goals.{in-Some, in-None+in_ok-push-in-None}

pub returns-clause-packed : goal.returns-clause-packed
returns-clause-packed c =
    let y : Life = c.args.life.now in
    let old : List Life = c.args.self.now.holders.items in
    let z : Placed = record { life = y; buffer = c.match-free.buffer } in
    let found : first_free old y ≡ c.free.result = ap (λ l. first_free l y) (sym c.deref.ensures.value) ∙ sym c.free.ensures in
    elim c.match-free.branch [
      | in-Some w ↦
          step_reuse old c.args.self.now.placed.items c.args.self.now.peak c.requires.packed z c.requires.born_last c.requires.lasting
          c.match-free.self.holders.items c.push-2.new.self.items c.match-free.self.peak
          (c.in_ok-push.ensures.items ∙ ap (λ (s : Packing). s.placed.items ++ z ∷ []) w.self-is)
          (found ∙ w.in-Some.is ∙ ap (λ (n : ℕ). Some n) (sym w.buffer-is))
          (ap (λ (s : Packing). s.holders.items) w.self-is ∙ ap (λ n. set old n y) (sym w.buffer-is))
          (ap (λ (s : Packing). s.peak) w.self-is)
      | in-None+in_ok-push-in-None w ↦
          step_open old c.args.self.now.placed.items c.args.self.now.peak c.requires.packed z c.requires.born_last c.requires.lasting
          c.match-free.self.holders.items c.push-2.new.self.items c.match-free.self.peak
          (c.in_ok-push.ensures.items ∙ ap (λ (s : Packing). s.placed.items ++ z ∷ []) w.self-is)
          (found ∙ w.in-None.is)
          (let long = c.args.self.now.holders.ok.0 in omega (arith, w.buffer-is, w.len.ensures, w.in_ok-push-in-None.ensures.len, long))
          (ap (λ (s : Packing). s.holders.items) w.self-is ∙ w.in_ok-push-in-None.ensures.items)
          (ap (λ (s : Packing). s.peak) w.self-is)
    ]
