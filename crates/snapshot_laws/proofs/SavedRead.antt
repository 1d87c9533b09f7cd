-- Document 02, item 5: "Saving and reading back gives the same machine". Each block stands in the file at its offset, so that it is read as it was written; a
-- machine that saving accepts passes the tests of reading.
use Rattle.std.proofs.Common.{Result, Ok, Option, Some, None}
use Prim.Native.Nat.{ℕ, ◌+◌, ◌*◌, ◌-◌, ◌/◌, ◌^◌, ◌≤◌, ◌<◌}
use native.Mathlib.Omega.{arith}
use mathlib.Core.Bool.{Bool, true, false, not, ◌&&◌}
use mathlib.Core.List.{List, [], ◌∷◌, ◌++◌, append_assoc}
use mathlib.Core.Path.{◌≡◌, refl, sym, ◌∙◌, ap}
use borrow.Author.Tests.{ltb-true, le-leb, eq-eqb}
use lib.Dec.{ltb, leb}
use lib.ListN.{length, get_or, take, drop, replicate}
use lib.Seq.{length-take-le, drop-drop, drop_at, take_at}
use Rattle.word.proofs.BoolLaws.{both}
use Rattle.memory.specs.Memory.{load_n, size_ok}
use Rattle.paging.specs.declared.Cause.{Cause}
use Rattle.paging.specs.declared.Cause.TheVariants.{AddressBeyondMemory, DirectoryAbsent, DirectoryBeyondMemory, TableAbsent, NoUserRight, NoWriteRight, FrameBeyondMemory}
use Rattle.paging.specs.declared.Entry.{Entry}
use Rattle.paging.specs.Buffer.{has, entry_page, entry_ok, entries_ok, buffer_ok}
use Rattle.rules.specs.declared.Cpu.{Cpu}
use Rattle.rules.specs.declared.Machine.{Machine}
use Rattle.rules.specs.declared.Stop.{Stop}
use Rattle.rules.specs.declared.Stop.TheVariants.{Running, Halted, Masked, NoFrame}
use Rattle.rules.specs.Arithmetic.{flag}
use Rattle.rules.specs.Load.{zero_entry}
use Rattle.rules.specs.Numbers.{numbers_of, record_of}
use Rattle.rules.specs.Record.{stop_number, cause_number}
use Rattle.rules.specs.Run.{registers_ok}
use Rattle.rules.proofs.RecordNumbers.{record_read}
use Rattle.refusals.specs.View.{entries_of}
use Rattle.refusals.proofs.Slots.{first_length}
use Rattle.encoding.specs.Encoding.{encoded, decoded, Fitting}
use Rattle.encoding.specs.Entries.{entry_bytes, encoded_entries, entries_in, rights_ok}
use Rattle.machine_file.specs.declared.Counts.{Counts}
use Rattle.machine_file.specs.Layout.{header_longs, register_longs, header_bytes, register_bytes, page_bytes, registers_at, entries_at, console_at, memory_at, length_by, header_of, counts_of, file_of}
use Rattle.machine_file.specs.Judged.{counts_in, numbers_in, cpu_in, machine_in, console_in, memory_in, counts_ok, offsets_ok, length_ok, numbers_ok, record_ok}
use Rattle.machine_file.proofs.Lengths.{length-header, length-registers, length-entries, length-file}
use Rattle.snapshot.specs.declared.ReadRefusal.{ReadRefusal}
use Rattle.snapshot.specs.Saving.{save}
use Rattle.snapshot.specs.Reading.{first_read_refusal, read_answer, read_by, read}
use Rattle.snapshot.proofs.Answers.{size_most, whole_pages, held_few, SaveAccepted, save_accepts}
use Rattle.snapshot_laws.specs.Carried.{Fits, none_taken, carried, saved_bytes, SavedRead}
use Rattle.snapshot_laws.proofs.Blocks.{decoded_standing, AllInWords, entries_standing, rights_read}

-- ---- what a record's own numbers pass

flag_ok : (b : Bool) → leb (flag b) 1 ≡ true
flag_ok true = refl
flag_ok false = refl

stop_ok : (s : Stop) → leb (stop_number s) 3 ≡ true
stop_ok Running = refl
stop_ok Halted = refl
stop_ok Masked = refl
stop_ok NoFrame = refl

cause_ok : (x : Option Cause) → leb (cause_number x) 7 ≡ true
cause_ok None = refl
cause_ok (Some AddressBeyondMemory) = refl
cause_ok (Some DirectoryAbsent) = refl
cause_ok (Some DirectoryBeyondMemory) = refl
cause_ok (Some TableAbsent) = refl
cause_ok (Some NoUserRight) = refl
cause_ok (Some NoWriteRight) = refl
cause_ok (Some FrameBeyondMemory) = refl

own_numbers : (c : Cpu) → numbers_ok (numbers_of c) ≡ true
unfolding numbers_ok
own_numbers c =
    rw (
      flag_ok c.system.user,
      flag_ok c.system.iena,
      flag_ok c.space.paging,
      flag_ok c.system.waiting,
      flag_ok c.clock.pending.key,
      flag_ok c.clock.pending.timer,
      stop_ok c.stop,
      cause_ok c.cause,
      flag_ok c.model.doubles,
    )

all_true : {a b c d : Bool} → a ≡ true → b ≡ true → c ≡ true → d ≡ true → a && b && c && d ≡ true
all_true p q r s = rw (p, q, r, s)

read_passes : {size header counts offsets registers : Bool} → size ≡ true → header ≡ true → counts ≡ true → offsets ≡ true → registers ≡ true
    → first_read_refusal size header counts offsets registers ≡ Ok tt
read_passes p q r s t = rw (p, q, r, s, t)

-- accepted entries are small
own_entries : (size : ℕ) (es : List Entry) → size ≤ 134217728 → entries_ok size es ≡ true → AllInWords es
unfolding entries_ok entry_ok AllInWords
own_entries size [] l e = tt
own_entries size (x ∷ es) l e =
    let a = both (entry_ok size x) (not (has entry_page x.page es) && entries_ok size es) e in
    let b = both (ltb x.page 1048576) (ltb x.frame (size / 4096)) a.0 in
    let p = ltb-true x.page 1048576 b.0 in
    let f = ltb-true x.frame (size / 4096) b.1 in
    ((omega arith, omega arith), own_entries size es l (both (not (has entry_page x.page es)) (entries_ok size es) a.1).1)

-- ---- the blocks of a saved machine

module _ (m : Machine) (mem con file : List ℕ) (fits : Fits m.cpu) (a : SaveAccepted m mem con file) where
  abbrev k : Counts
  k = counts_of m (length mem)

  abbrev saved : List ℕ
  saved = file_of m mem con

  abbrev text : List ℕ
  text = take m.cpu.written con

  most : length mem ≤ 134217728
  most = size_most (length mem) a.size

  whole : length mem ≡ page_bytes * (length mem / page_bytes)
  whole = whole_pages (length mem) a.size

  length-text : length text ≡ m.cpu.written
  length-text = length-take-le m.cpu.written con a.console

  length-saved : length saved ≡ length_by k
  length-saved = length-file m mem con a.console whole

  header_stands : saved ≡ encoded header_longs (header_of k) ++ (encoded register_longs (numbers_of m.cpu) ++ (encoded_entries (entries_of m) ++ (text ++ mem)))
  unfolding file_of
  header_stands =
      let h = encoded header_longs (header_of k) in
      let r = encoded register_longs (numbers_of m.cpu) in
      let e = encoded_entries (entries_of m) in
      append_assoc (h ++ r ++ e) text mem ∙ append_assoc (h ++ r) e (text ++ mem) ∙ append_assoc h r (e ++ (text ++ mem))

  registers_stand : drop registers_at saved ≡ encoded register_longs (numbers_of m.cpu) ++ (encoded_entries (entries_of m) ++ (text ++ mem))
  registers_stand =
      ap (drop registers_at) header_stands
      ∙ drop_at (encoded header_longs (header_of k)) (encoded register_longs (numbers_of m.cpu) ++ (encoded_entries (entries_of m) ++ (text ++ mem))) registers_at (length-header k)

  entries_stand : drop entries_at saved ≡ encoded_entries (entries_of m) ++ (text ++ mem)
  entries_stand =
      sym (drop-drop register_bytes registers_at saved)
      ∙ ap (drop register_bytes) registers_stand
      ∙ drop_at (encoded register_longs (numbers_of m.cpu)) (encoded_entries (entries_of m) ++ (text ++ mem)) register_bytes (length-registers m.cpu)

  console_stands : drop (console_at k) saved ≡ text ++ mem
  console_stands =
      sym (drop-drop (entry_bytes * m.held) entries_at saved)
      ∙ ap (drop (entry_bytes * m.held)) entries_stand
      ∙ drop_at (encoded_entries (entries_of m)) (text ++ mem) (entry_bytes * m.held) (length-entries m)

  memory_stands : drop (memory_at k) saved ≡ mem
  memory_stands =
      sym (drop-drop m.cpu.written (console_at k) saved) ∙ ap (drop m.cpu.written) console_stands ∙ drop_at text mem m.cpu.written length-text

  -- ---- read

  header_read : decoded header_longs saved 0 ≡ header_of k
  unfolding Fitting
  header_read =
      let few : entry_bytes * m.held + m.cpu.written < 2 ^ 32 = omega (arith, a.offset) in
      decoded_standing header_longs (header_of k) saved 0 (encoded register_longs (numbers_of m.cpu) ++ (encoded_entries (entries_of m) ++ (text ++ mem)))
      (omega (arith, most), (omega (arith, few), (omega (arith, few), (omega arith, (omega arith, (omega (arith, a.offset), (omega (arith, a.offset), tt))))))) refl
      header_stands

  counts_read : counts_in saved ≡ k
  unfolding decoded
  counts_read = λ i. record { pages = get_or (header_read i) 0 0; entries = get_or (header_read i) 1 0; console = get_or (header_read i) 2 0 }

  offsets_read : offsets_ok saved k ≡ true
  unfolding decoded offsets_ok
  offsets_read =
      rw (
        eq-eqb (load_n 4 saved 12) registers_at (ap (λ (l : List ℕ). get_or l 3 0) header_read),
        eq-eqb (load_n 4 saved 16) entries_at (ap (λ (l : List ℕ). get_or l 4 0) header_read),
        eq-eqb (load_n 4 saved 20) (console_at k) (ap (λ (l : List ℕ). get_or l 5 0) header_read),
        eq-eqb (load_n 4 saved 24) (memory_at k) (ap (λ (l : List ℕ). get_or l 6 0) header_read),
      )

  numbers_read : numbers_in saved ≡ numbers_of m.cpu
  unfolding numbers_in
  numbers_read = decoded_standing register_longs (numbers_of m.cpu) saved registers_at (encoded_entries (entries_of m) ++ (text ++ mem)) fits refl registers_stand

  cpu_read : cpu_in saved k ≡ none_taken m.cpu
  unfolding cpu_in
  cpu_read = ap (λ (l : List ℕ). record_of l 0 m.cpu.written) numbers_read ∙ record_read (none_taken m.cpu)

  small : AllInWords (entries_of m)
  unfolding buffer_ok
  small = own_entries (length mem) (entries_of m) most (both (leb (length (entries_of m)) 64) (entries_ok (length mem) (entries_of m)) a.buffer).1

  few : m.held ≤ 64
  few = held_few m (length mem) a.buffer

  entries_read : entries_in m.held saved entries_at ≡ entries_of m
  entries_read =
      ap (λ (n : ℕ). entries_in n saved entries_at) (sym (first_length m.held m.entries)) ∙ entries_standing saved (text ++ mem) (entries_of m) entries_at small entries_stand

  rights_judged : rights_ok m.held saved entries_at ≡ true
  rights_judged =
      ap (λ (n : ℕ). rights_ok n saved entries_at) (sym (first_length m.held m.entries)) ∙ rights_read saved (text ++ mem) (entries_of m) entries_at small entries_stand

  -- ---- the whole

  module _ (mem' con' : List ℕ) (same : length mem' ≡ length mem) (room : m.cpu.written ≤ length con') where
    counts_judged : counts_ok (length mem') (length con') k ≡ true
    unfolding counts_ok
    counts_judged =
        rw (
          eq-eqb (k.pages * page_bytes) (length mem') (omega (arith, whole, same)),
          le-leb m.held 64 few,
          le-leb m.cpu.written (length con') room,
        )

    registers_judged : registers_ok (length mem') (cpu_in saved k) ≡ true
    unfolding registers_ok
    registers_judged = ap (λ (c : Cpu). registers_ok (length mem') c) cpu_read ∙ ap (λ (n : ℕ). registers_ok n m.cpu) same ∙ a.registers

    record_judged : record_ok (length mem') saved k ≡ true
    unfolding record_ok
    record_judged =
        all_true (ap numbers_ok numbers_read ∙ own_numbers m.cpu) rights_judged registers_judged
        ((λ i. buffer_ok (same i) (entries_read i)) ∙ a.buffer)

    answer_read : read_answer saved (length mem') (length con') ≡ Ok tt
    unfolding read_answer
    answer_read =
        read_passes (ap size_ok same ∙ a.size) (le-leb header_bytes (length saved) (omega (arith, length-saved)))
        (ap (counts_ok (length mem') (length con')) counts_read ∙ counts_judged)
        (ap (λ (x : Counts). offsets_ok saved x && length_ok (length saved) x) counts_read ∙ rw (offsets_read, eq-eqb (length saved) (length_by k) length-saved))
        (ap (record_ok (length mem') saved) counts_read ∙ record_judged)

    machine_read : machine_in saved k ≡ carried m
    unfolding machine_in
    machine_read = λ i. record { cpu = cpu_read i; entries = entries_read i ++ replicate (64 - m.held) zero_entry; held = m.held }

    console_read : console_in saved k ≡ text
    console_read = ap (take m.cpu.written) console_stands ∙ take_at text mem m.cpu.written length-text

    saved_back : read saved mem' con'
        ≡ record { answer = Ok tt; machine = carried m; mem = mem; console = text ++ drop m.cpu.written con' }
    unfolding read
    saved_back =
        ap (λ (x : Result Unit ReadRefusal). read_by x saved mem' con') answer_read
        ∙ ap (λ (x : Counts). record { answer = Ok tt; machine = machine_in saved x; mem = memory_in saved x; console = console_in saved x ++ drop x.console con' }) counts_read
        ∙ (λ i. record { answer = Ok tt; machine = machine_read i; mem = memory_stands i; console = console_read i ++ drop m.cpu.written con' })

  -- the bytes that a save answers are the machine's
  bytes_saved : saved_bytes m mem con file ≡ saved
  unfolding save
  bytes_saved = rw a.answer (take_at saved (drop (length_by k) file) (length_by k) length-saved)

pub saved_read : SavedRead
unfolding SavedRead
saved_read m mem con file fits e mem' con' same room =
    let a = save_accepts m mem con file e in
    ap (λ (l : List ℕ). read l mem' con') (bytes_saved m mem con file fits a) ∙ saved_back m mem con file fits a mem' con' same room
