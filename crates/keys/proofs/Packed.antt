-- Document 01, "The record and the loaded program", the keys in bytes: how many there are, and each of them.
use Rattle.std.proofs.Common.{Some, slice_get}
use Prim.Native.Nat.{ℕ, zero, suc, ◌+◌, ◌/◌, ◌<◌}
use mathlib.Core.List.{List}
use mathlib.Core.Path.{◌≡◌, refl, ap}
use native.Mathlib.Omega.{arith}
use native.Mathlib.Nat.{not-suc-le-zero, le_of_suc-le-suc, add-zero, add-suc, suc-add, zero-add}
use lib.ListN.{length}
use Rattle.keys.specs.Packed.{key_at, keys_from, unpacked}

-- n packed keys from the i-th on: their number, and the j-th of them
length_from : (bs : List ℕ) (i n : ℕ) → length (keys_from bs i n) ≡ n
unfolding keys_from
length_from bs i zero = refl
length_from bs i (suc n) = ap suc (length_from bs (suc i) n)

nth_from : (bs : List ℕ) (i n j : ℕ) → j < n → slice_get (keys_from bs i n) j ≡ Some (key_at bs (i + j))
unfolding keys_from
nth_from bs i zero j l = absurd (not-suc-le-zero l)
nth_from bs i (suc n) zero l = rw (add-zero i)
nth_from bs i (suc n) (suc j) l = rw (nth_from bs (suc i) n j (le_of_suc-le-suc l), suc-add, add-suc)

-- a list of packed keys has one key for each nine bytes
pub length_unpacked : (bs : List ℕ) → length (unpacked bs) ≡ length bs / 9
unfolding unpacked
length_unpacked bs = length_from bs 0 (length bs / 9)

-- and its i-th key is the i-th packed one
pub nth_unpacked : (bs : List ℕ) (i : ℕ) → i < length (unpacked bs) → slice_get (unpacked bs) i ≡ Some (key_at bs i)
unfolding unpacked
nth_unpacked bs i l = rw (nth_from bs 0 (length bs / 9) i (omega (arith, l, length_unpacked bs)), zero-add)
