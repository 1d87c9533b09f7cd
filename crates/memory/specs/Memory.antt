-- Memory as a list of bytes. Document 01, "What is emulated": "Memory is lent; its length M is the machine's memory size. Words are
-- little-endian"; "Numbers returned": refusal 1.
use Rattle.std.specs.Prelude.{ℕ, zero, suc, ◌+◌, ◌*◌, ◌/◌, ◌%◌, Bool, ◌&&◌, List, eqb, ltb, leb, get_or, set}
use Rattle.memory.specs.declared.Size.{Size}
use Rattle.memory.specs.declared.Size.TheVariants.{Word, Half, Byte}

-- the n bytes from `at` on as a number, the lowest byte first
unfoldable pub load_n : ℕ → List ℕ → ℕ → ℕ
load_n zero m at = 0
load_n (suc n) m at = get_or m at 0 + 256 * load_n n m (suc at)

-- the low n bytes of v stored from `at` on, the lowest byte first
unfoldable pub store_n : ℕ → List ℕ → ℕ → ℕ → List ℕ
store_n zero m at v = m
store_n (suc n) m at v = store_n n (set m at (v % 256)) (suc at) (v / 256)

-- the number of bytes of a size
abbrev pub bytes : Size → ℕ
bytes Word = 4
bytes Half = 2
bytes Byte = 1

-- a memory size that is not refused with 1: neither 0, nor no multiple of 4,096, nor above 134,217,728
unfoldable pub size_ok : ℕ → Bool
size_ok size = ltb 0 size && eqb (size % 4096) 0 && leb size 134217728
