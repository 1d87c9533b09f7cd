-- Loads and stores at a size that a match has told.
use Prim.Native.Nat.{ℕ, ◌+◌, ◌≤◌}
use mathlib.Core.List.{List}
use mathlib.Core.Path.{◌≡◌}
use Rattle.memory.specs.declared.Size.{Size}
use Rattle.memory.specs.Memory.{load_n, store_n, bytes}

-- s is known to be t
module _ {s t : Size} (e : s ≡ t) where
  -- the bytes lie in memory
  pub size_fits : (at n : ℕ) → at + bytes s ≤ n → at + bytes t ≤ n
  size_fits at n h = rw e at h

  -- a load
  pub size_load : (m : List ℕ) (at : ℕ) {r : ℕ} → r ≡ load_n (bytes t) m at → r ≡ load_n (bytes s) m at
  size_load m at h = rw e h

  -- a store
  pub size_store : (m : List ℕ) (at v : ℕ) {m' : List ℕ} → m' ≡ store_n (bytes t) m at v → m' ≡ store_n (bytes s) m at v
  size_store m at v h = rw e h
