use Rattle.std.proofs.Common.{◌≤◌, AllPairs, List, length, sym, ap, subst, arith, IsPermutation}
use Rattle.std.proofs.lemmas.Result.{IfOk-weaker}
use Rattle.std.proofs.lemmas.List.Sorted.{length_permutation}
use Rattle.lifetimes.specs.Reads.{AreLivesBy, ReadBefore}
use Rattle.lifetimes.specs.contracts.reads.ReadOrd.TheImpl.Laws.{total-law}
use Rattle.lifetimes.specs.declared.reads.Read.{Read}
use Rattle.lifetimes.proofs.LifeFacts.{lives_permuted}
use Rattle.lifetimes.proofs.ReadOrderFacts.{reads_ascend}
use Rattle.lifetimes.proofs.grouped.lives_by.Goals as goal

pub grouped-requires : goal.grouped-requires
grouped-requires c =
    subst (AllPairs (λ r q. ¬ ReadBefore q r)) (sym c.deref.ensures.value) (reads_ascend total-law c.sort_unstable.new.self.items c.sort_unstable.ensures.sorted)

pub returns-clause-lives : goal.returns-clause-lives
returns-clause-lives c =
    let moved : IsPermutation c.args.reads.items c.deref.result.now = subst (IsPermutation c.args.reads.items) (sym c.deref.ensures.value) c.sort_unstable.ensures.permutation in
    IfOk-weaker c.grouped.result (AreLivesBy c.deref.result.now) (AreLivesBy c.args.reads.items) (λ lives are. lives_permuted c.args.reads.items c.deref.result.now lives moved are) c.grouped.ensures.lives

pub returns-clause-few : goal.returns-clause-few
returns-clause-few c =
    let long = length_permutation c.args.reads.items c.sort_unstable.new.self.items c.sort_unstable.ensures.permutation in
    IfOk-weaker c.grouped.result (λ lives. length lives ≤ length c.deref.result.now) (λ lives. length lives ≤ length c.args.reads.items)
    (λ lives le. omega (arith, long, ap (λ (rs : List Read). length rs) c.deref.ensures.value)) c.grouped.ensures.few
