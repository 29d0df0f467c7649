use Rattle.std.proofs.Common.{◌≡◌, List}
use Rattle.std.specs.List.{AllZip}
use Rattle.std.proofs.lemmas.Result.{IfOk-weaker}
use Rattle.plan_model.specs.Lives.{lives_of, ports_of, values}
use Rattle.plan_model.specs.declared.buffers.Life.{Life}
use Rattle.plan_model.proofs.UniqueLaws.{values_are_unique}
use Rattle.plan_model.proofs.ValueLaws.{values_are_listed}
use Rattle.plan_checker.proofs.HomeFacts.{lives_are, beside}
use Rattle.plan_checker.proofs.judged.lives_at_home.Goals as goal

pub returns-clause-lives : goal.returns-clause-lives
returns-clause-lives c =
    let g = c.args.g.now in
    let waves = c.args.plan.now.waves in
    let homes = c.args.plan.now.homes in
    let for : ports_of homes ≡ values g = values_are_unique g (ports_of homes) (values g) c.requires.homes (values_are_listed g) in
    IfOk-weaker c.lives.result (λ (xs : List Life). xs ≡ lives_of g waves (values g)) (λ (xs : List Life). xs ≡ lives_of g waves (ports_of homes))
    (λ xs are. lives_are g waves xs homes are for) c.lives.ensures.lives

pub returns-clause-beside : goal.returns-clause-beside
returns-clause-beside c =
    let g = c.args.g.now in
    let waves = c.args.plan.now.waves in
    let homes = c.args.plan.now.homes in
    let for : ports_of homes ≡ values g = values_are_unique g (ports_of homes) (values g) c.requires.homes (values_are_listed g) in
    IfOk-weaker c.lives.result (λ (xs : List Life). xs ≡ lives_of g waves (values g)) (λ (xs : List Life). AllZip (λ x h. (h.uid ≡ x.uid) × (h.channel ≡ x.channel)) xs homes)
    (λ xs are. beside g waves xs homes are for) c.lives.ensures.lives
