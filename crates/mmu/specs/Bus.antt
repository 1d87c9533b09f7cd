-- Document 01, "Addresses": what stays of a `Bus` that a function is lent.
use Rattle.std.specs.Prelude.{◌≡◌, length}
use Rattle.mmu.specs.declared.bus.Bus.{Bus}

-- its references go where they went, to a memory of the same size, in the same address space and mode
pub record SameBus (b b' : Bus) : Type 0 where
  pub mem : b'.mem.ghost_name ≡ b.mem.ghost_name
  pub tlb : b'.tlb.ghost_name ≡ b.tlb.ghost_name
  pub hint : b'.hint.ghost_name ≡ b.hint.ghost_name
  pub size : length b'.mem.now ≡ length b.mem.now
  pub space : b'.space ≡ b.space
  pub user : b'.user ≡ b.user
