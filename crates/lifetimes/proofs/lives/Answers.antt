use Rattle.std.proofs.Common.{◌≡◌, ◌≤◌, ◌∙◌, List, length, ap, arith}
use Rattle.std.proofs.lemmas.Result.{IfOk-weaker}
use Rattle.plan_model.specs.Buffers.{AreLives}
use Rattle.plan_model.specs.Lives.{lives_of, values}
use Rattle.plan_model.specs.declared.schedule.Wave.{Wave}
use Rattle.lifetimes.specs.Reads.{reads_in, AreLivesBy}
use Rattle.lifetimes.proofs.LifeFacts.{few_reads, lives_are, lives_usable, same_reads}
use Rattle.lifetimes.proofs.WaveFacts.{few_waves}
use Rattle.lifetimes.proofs.lives.Goals as goal

pub node_waves-requires : goal.node_waves-requires
node_waves-requires c =
    omega (arith, few_waves c.args.g.now c.args.waves.now c.graph.ensures.sound c.requires.schedule, ap (λ (ws : List Wave). length ws) c.as_slice.ensures)

pub returns-clause-lives : goal.returns-clause-lives
returns-clause-lives c =
    let made : c.in_ok-reads.reads.items ≡ reads_in c.args.g.now c.args.waves.now =
    same_reads c.args.g.now c.graph.result.now c.args.waves.now c.as_slice.result.now c.graph.ensures.same c.as_slice.ensures c.deref.result.now (c.deref.ensures.value ∙ c.in_ok-node_waves.ensures)
    c.in_ok-reads.reads.items c.in_ok-reads.ensures.reads in
    IfOk-weaker c.lives_by.result (AreLivesBy c.in_ok-reads.reads.items) (λ lives. lives ≡ lives_of c.args.g.now c.args.waves.now (values c.args.g.now))
    (λ lives are. lives_are c.args.g.now c.args.waves.now c.in_ok-reads.reads.items made lives are) c.lives_by.ensures.lives

pub returns-clause-usable : goal.returns-clause-usable
returns-clause-usable c =
    IfOk-weaker c.lives_by.result (λ lives. lives ≡ lives_of c.args.g.now c.args.waves.now (values c.args.g.now)) (λ lives. AreLives lives (length c.args.waves.now))
    (λ lives are. lives_usable c.args.g.now c.args.waves.now c.graph.ensures.sound c.requires.schedule lives are) (returns-clause-lives c)

pub returns-clause-few : goal.returns-clause-few
returns-clause-few c =
    let made : c.in_ok-reads.reads.items ≡ reads_in c.args.g.now c.args.waves.now =
    same_reads c.args.g.now c.graph.result.now c.args.waves.now c.as_slice.result.now c.graph.ensures.same c.as_slice.ensures c.deref.result.now (c.deref.ensures.value ∙ c.in_ok-node_waves.ensures)
    c.in_ok-reads.reads.items c.in_ok-reads.ensures.reads in
    let few = few_reads c.args.g.now c.args.waves.now c.graph.ensures.sound in
    IfOk-weaker c.lives_by.result (λ lives. length lives ≤ length c.in_ok-reads.reads.items) (λ lives. length lives ≤ 8192) (λ lives le. omega (arith, ap length made, few)) c.lives_by.ensures.few
