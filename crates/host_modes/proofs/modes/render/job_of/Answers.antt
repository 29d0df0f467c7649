use Rattle.std.proofs.Common.{ℕ, List, subst, sym}
use Rattle.wav_pcm.specs.Samples.{IsSize}
use Rattle.wav_pcm.specs.declared.head.Head.{Head}
use Rattle.streaming.specs.Blocks.{AreLengths, HasRoom}
use Rattle.host_modes.proofs.modes.render.job_of.Goals as goal

pub new-requires-2-clause-size : goal.new-requires-2-clause-size
new-requires-2-clause-size c =
    subst (λ (h : Head). IsSize h.bits) (sym (c.rendering_of-rendering.ensures c.args.graph.now c.requires.form).head_is) c.requires.head.size

pub new-requires-2-clause-form : goal.new-requires-2-clause-form
new-requires-2-clause-form c = (c.rendering_of-rendering.ensures c.args.graph.now c.requires.form).size

pub returns : goal.returns
returns c =
    let keeps = c.in_ok-engine.ensures.keeps in
    record {
      best = c.in-Ok.ensures.plan;
      text = c.in-Ok.ensures.text;
      rendering = c.rendering_of-rendering.ensures c.args.graph.now c.requires.form;
      of_graph = keeps.of_graph;
      by_plan = keeps.by_plan;
      new = c.in_ok-engine.ensures.stands;
      lengths = subst (λ (b : ℕ). AreLengths b c.args.request.now.cutting) (sym keeps.longest)
          (subst (λ (l : List ℕ). AreLengths c.longest-block.result l) c.as_slice.ensures c.longest-block.ensures.all);
      room = subst (λ (b : ℕ). HasRoom c.rendering_of-rendering.result.from c.rendering_of-rendering.result.to b c.in_ok-room.room) (sym keeps.longest) c.in_ok-room.ensures;
    }
