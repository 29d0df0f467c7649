-- Values in their buffers.
use Rattle.std.specs.Prelude.{◌≡◌, ℕ, ◌<◌, ◌⊎◌, List, None, slice_index_or}
use Rattle.plan_model.specs.Buffers.{Follows}
use Rattle.plan_model.specs.declared.buffers.Home.{Home}
use Rattle.plan_model.specs.declared.buffers.Life.{Life}
use Rattle.plan_checker.specs.declared.tenants.Tenant.{Tenant}

abbrev pub tenant_of : List Life → List Home → ℕ → Tenant
tenant_of lives homes k = record {
  buffer = (slice_index_or homes k (record { uid = record { 0 = 0 }; channel = 0; buffer = 0 })).buffer;
  life = slice_index_or lives k (record { uid = record { 0 = 0 }; channel = 0; born = 0; dies = 0; reader = None });
  value = k;
}

-- y has a greater buffer than x, or the same after it
abbrev pub ComesNext : Tenant → Tenant → Type 0
ComesNext x y = (x.buffer < y.buffer) ⊎ ((x.buffer ≡ y.buffer) × Follows x.life y.life)
