-- Document 02, item 5: the lengths of the blocks, and of a machine's file.
use Prim.Native.Nat.{ℕ, ◌*◌, ◌/◌, ◌≤◌}
use native.Mathlib.Omega.{arith}
use mathlib.Core.List.{List, ◌++◌}
use mathlib.Core.Path.{◌≡◌, refl, ◌∙◌}
use lib.ListN.{length, take, length-append}
use lib.Seq.{length-take-le}
use Rattle.rules.specs.declared.Cpu.{Cpu}
use Rattle.rules.specs.declared.Machine.{Machine}
use Rattle.rules.specs.Numbers.{numbers_of}
use Rattle.refusals.specs.View.{entries_of}
use Rattle.refusals.proofs.Slots.{first_length}
use Rattle.encoding.specs.Encoding.{little_endian, encoded}
use Rattle.encoding.specs.Entries.{entry_bytes, encoded_entries}
use Rattle.encoding.proofs.Entries.{length-encoded_entries}
use Rattle.machine_file.specs.declared.Counts.{Counts}
use Rattle.machine_file.specs.Layout.{header_longs, register_longs, header_bytes, register_bytes, page_bytes, header_of, length_by, counts_of, file_of}

pub length-header : (k : Counts) → length (encoded header_longs (header_of k)) ≡ header_bytes
unfolding encoded little_endian
length-header k = refl

pub length-registers : (c : Cpu) → length (encoded register_longs (numbers_of c)) ≡ register_bytes
unfolding encoded little_endian
length-registers c = refl

pub length-entries : (m : Machine) → length (encoded_entries (entries_of m)) ≡ entry_bytes * m.held
length-entries m = length-encoded_entries (entries_of m) ∙ omega (arith, first_length m.held m.entries)

-- whole pages, and a console that has the bytes that were written
pub length-file : (m : Machine) (mem con : List ℕ) → m.cpu.written ≤ length con → length mem ≡ page_bytes * (length mem / page_bytes)
    → length (file_of m mem con) ≡ length_by (counts_of m (length mem))
unfolding file_of
length-file m mem con w p =
    let k = counts_of m (length mem) in
    let text = take m.cpu.written con in
    rw (
      length-append (encoded header_longs (header_of k)),
      length-append (encoded register_longs (numbers_of m.cpu)),
      length-append (encoded_entries (entries_of m) ++ text) mem,
      length-append (encoded_entries (entries_of m)) text,
      length-header k,
      length-registers m.cpu,
      length-entries m,
      length-take-le m.cpu.written con w,
    )
    (omega (arith, p))
