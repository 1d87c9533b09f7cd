-- Document 01, "Opcodes": "S and C forms extend the sign, H and B don't", at a format that a match has told.
use Prim.Native.Nat.{ℕ, ◌+◌, ◌≤◌}
use mathlib.Core.List.{List}
use mathlib.Core.Path.{◌≡◌}
use Rattle.memory.specs.Memory.{load_n, bytes}
use Rattle.decode.specs.declared.Format.{Format}
use Rattle.rules.specs.Transfer.{format_size, widened}

module _ {f g : Format} (e : f ≡ g) where
  -- the bytes that are read lie in memory
  pub format_fits : (at n : ℕ) → at + bytes (format_size f) ≤ n → at + bytes (format_size g) ≤ n
  format_fits at n h = rw e at h

  -- what they are widened to
  pub format_value : (m : List ℕ) (at : ℕ) {r : ℕ} → r ≡ widened g (load_n (bytes (format_size g)) m at) → r ≡ widened f (load_n (bytes (format_size f)) m at)
  format_value m at h = rw e h
