-- Values that may share a buffer, place by place.
use Rattle.std.proofs.Common.{◌≡◌, ℕ, List, subst, Some}
use Rattle.std.specs.Prelude.{slice_get}
use Rattle.plan_model.specs.Buffers.{MayShare}
use Rattle.plan_model.specs.declared.buffers.Home.{Home}
use Rattle.plan_model.specs.declared.buffers.Life.{Life}
use Rattle.plan_checker.specs.Buffers.{AreApart}

module _ (lives : List Life) (homes : List Home) (j k : ℕ) (a b : Life) (at_j : slice_get lives j ≡ Some a) (at_k : slice_get lives k ≡ Some b) where
  pub apart_by : MayShare a b → AreApart lives homes j k
  apart_by share y x i h ey ex ei eh same =
      let first : a ≡ y = cc in
      let second : b ≡ x = cc in
      subst (λ z. MayShare y z) second (subst (λ z. MayShare z b) first share)

  pub shares_by : (i h : Home) → slice_get homes j ≡ Some i → slice_get homes k ≡ Some h → i.buffer ≡ h.buffer → AreApart lives homes j k → MayShare a b
  shares_by i h ei eh same apart = apart a b i h at_j at_k ei eh same
