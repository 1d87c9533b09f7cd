-- Document 02, item 5: "an entry: page, frame, user right, write right", a word each.
use Rattle.std.specs.Prelude.{ℕ, zero, suc, ◌+◌, ◌-◌, Bool, true, ◌&&◌, List, [], ◌∷◌, ◌++◌, leb, replicate}
use Rattle.memory.specs.Memory.{load_n}
use Rattle.paging.specs.declared.Entry.{Entry}
use Rattle.rules.specs.Arithmetic.{flag}
use Rattle.rules.specs.Numbers.{flag_of}
use Rattle.rules.specs.Load.{zero_entry}
use Rattle.encoding.specs.declared.Width.{Width}
use Rattle.encoding.specs.declared.Width.TheVariants.{Four}
use Rattle.encoding.specs.Encoding.{encoded}

abbrev pub entry_longs : List Width
entry_longs = Four ∷ Four ∷ Four ∷ Four ∷ []

-- the bytes of an entry
abbrev pub entry_bytes : ℕ
entry_bytes = 16

abbrev pub entry_numbers : Entry → List ℕ
entry_numbers e = e.page ∷ e.frame ∷ flag e.user ∷ flag e.write ∷ []

unfoldable pub encoded_entries : List Entry → List ℕ
unfolding encoded
encoded_entries [] = []
encoded_entries (e ∷ es) = encoded entry_longs (entry_numbers e) ++ encoded_entries es

-- the entry that stands in a file at a place, and n of them
abbrev pub entry_in : List ℕ → ℕ → Entry
entry_in file at = record { page = load_n 4 file at; frame = load_n 4 file (at + 4); user = flag_of (load_n 4 file (at + 8)); write = flag_of (load_n 4 file (at + 12)) }

unfoldable pub entries_in : ℕ → List ℕ → ℕ → List Entry
unfolding load_n
entries_in zero file at = []
entries_in (suc n) file at = entry_in file at ∷ entries_in n file (at + entry_bytes)

-- whether the rights of an entry are 0 or 1
abbrev pub rights_are : List ℕ → ℕ → Bool
rights_are file at = leb (load_n 4 file (at + 8)) 1 && leb (load_n 4 file (at + 12)) 1

-- and those of n entries
unfoldable pub rights_ok : ℕ → List ℕ → ℕ → Bool
unfolding load_n
rights_ok zero file at = true
rights_ok (suc n) file at = rights_are file at && rights_ok n file (at + entry_bytes)

-- a record's slots with n entries in them: "slots past the count mean nothing", and are 0 after a read
abbrev pub slots_in : ℕ → List ℕ → ℕ → List Entry
slots_in n file at = entries_in n file at ++ replicate (64 - n) zero_entry
