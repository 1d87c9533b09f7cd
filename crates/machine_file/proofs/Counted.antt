-- Document 02, item 5: the counted slots of a record that was read are the entries of its file.
use Prim.Native.Nat.{ℕ, ◌-◌}
use native.Mathlib.Omega.{arith}
use mathlib.Core.List.{List}
use mathlib.Core.Path.{◌≡◌, ◌∙◌}
use lib.ListN.{replicate, length-append}
use lib.Seq.{take_at}
use Rattle.rules.specs.Load.{zero_entry}
use Rattle.refusals.specs.View.{entries_of}
use Rattle.refusals.proofs.Slots.{first_take}
use Rattle.encoding.specs.Entries.{entries_in, slots_in}
use Rattle.encoding.proofs.Entries.{length-entries_in}
use Rattle.machine_file.specs.declared.Counts.{Counts}
use Rattle.machine_file.specs.Layout.{entries_at}
use Rattle.machine_file.specs.Judged.{machine_in}

pub counted : (file : List ℕ) (k : Counts) → entries_of (machine_in file k) ≡ entries_in k.entries file entries_at
unfolding machine_in
counted file k =
    let n = length-entries_in k.entries file entries_at in
    let zeros = replicate (64 - k.entries) zero_entry in
    first_take k.entries (slots_in k.entries file entries_at) (rw (length-append (entries_in k.entries file entries_at) zeros, n) (omega arith))
    ∙ take_at (entries_in k.entries file entries_at) zeros k.entries n
