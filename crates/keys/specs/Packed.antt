-- Document 01, "The record and the loaded program": "The keys come as a list of records, each a step number and a byte". The same list in
-- bytes: nine a key, eight of its step number, the lowest first, and its byte; bytes past the last whole key are ignored.
use Rattle.std.specs.Prelude.{ℕ, zero, suc, ◌+◌, ◌*◌, ◌/◌, List, [], ◌∷◌, length, get_or}
use Rattle.memory.specs.Memory.{load_n}
use Rattle.rules.specs.declared.Key.{Key}

-- the i-th packed key
unfoldable pub key_at : List ℕ → ℕ → Key
key_at bs i = record { step = load_n 8 bs (9 * i); byte = get_or bs (9 * i + 8) 0 }

-- n packed keys, from the i-th on
unfoldable pub keys_from : List ℕ → ℕ → ℕ → List Key
keys_from bs i zero = []
keys_from bs i (suc n) = key_at bs i ∷ keys_from bs (suc i) n

-- the packed keys as a list
unfoldable pub unpacked : List ℕ → List Key
unfolding key_at keys_from
unpacked bs = keys_from bs 0 (length bs / 9)
