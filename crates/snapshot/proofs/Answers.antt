-- Document 02, item 5: what an accepted save and an accepted read tell: no test refused them.
use Rattle.std.proofs.Common.{Result, Ok, Err}
use Prim.Native.Nat.{ℕ, ◌*◌, ◌/◌, ◌%◌, ◌^◌, ◌≤◌, ◌<◌}
use native.Mathlib.Omega.{arith}
use mathlib.Core.Bool.{Bool, true, false, ◌&&◌}
use mathlib.Core.List.{List}
use mathlib.Core.Path.{◌≡◌, refl, sym, ◌∙◌, ap, subst}
use borrow.Author.Tests.{ltb-true, leb-true, eqb-true}
use lib.Dec.{eqb, ltb, leb}
use lib.ListN.{length}
use Rattle.word.proofs.BoolLaws.{both}
use Rattle.memory.specs.Memory.{size_ok}
use Rattle.paging.specs.Buffer.{entries_ok, buffer_ok}
use Rattle.rules.specs.declared.Machine.{Machine}
use Rattle.rules.specs.Run.{registers_ok}
use Rattle.refusals.specs.View.{entries_of}
use Rattle.refusals.proofs.Slots.{first_length}
use Rattle.encoding.specs.Entries.{entries_in, rights_ok}
use Rattle.machine_file.specs.Layout.{header_bytes, page_bytes, entries_at, memory_at, length_by, counts_of}
use Rattle.machine_file.specs.Judged.{counts_in, numbers_in, cpu_in, header_ok, counts_ok, offsets_ok, length_ok, numbers_ok, record_ok}
use Rattle.snapshot.specs.declared.SaveRefusal.{SaveRefusal}
use Rattle.snapshot.specs.declared.ReadRefusal.{ReadRefusal}
use Rattle.snapshot.specs.Saving.{save_number, first_save_refusal, save_answer, save_by, save}
use Rattle.snapshot.specs.Reading.{read_number, first_read_refusal, read_answer, read_by, read}

-- ---- the size of memory, by 1

pub size_most : (size : ℕ) → size_ok size ≡ true → size ≤ 134217728
unfolding size_ok
size_most size e = leb-true size 134217728 (both (ltb 0 size && eqb (size % 4096) 0) (leb size 134217728) e).1

pub whole_pages : (size : ℕ) → size_ok size ≡ true → size ≡ page_bytes * (size / page_bytes)
unfolding size_ok
whole_pages size e =
    let z = eqb-true (size % 4096) 0 (both (ltb 0 size) (eqb (size % 4096) 0) (both (ltb 0 size && eqb (size % 4096) 0) (leb size 134217728) e).0).1 in
    omega (arith, z)

-- ---- the counted entries, by 3

pub held_few : (m : Machine) (size : ℕ) → buffer_ok size (entries_of m) ≡ true → m.held ≤ 64
unfolding buffer_ok
held_few m size e =
    let l = leb-true (length (entries_of m)) 64 (both (leb (length (entries_of m)) 64) (entries_ok size (entries_of m)) e).0 in
    subst (λ (n : ℕ). n ≤ 64) (first_length m.held m.entries) l

-- ---- saving

save_answer_lem : (a : Result Unit SaveRefusal) (m : Machine) (mem con file : List ℕ) → (save_by a m mem con file).answer ≡ a
save_answer_lem (Ok tt) m mem con file = refl
save_answer_lem (Err e) m mem con file = refl

pub save_tests : (size registers buffer console room offset : Bool) → first_save_refusal size registers buffer console room offset ≡ Ok tt
    → (size ≡ true) × (registers ≡ true) × (buffer ≡ true) × (console ≡ true) × (room ≡ true) × (offset ≡ true)
save_tests true true true true true true e = (refl, refl, refl, refl, refl, refl)
save_tests true true true true true false e = absurd (omega (arith, ap save_number e))
save_tests true true true true false offset e = absurd (omega (arith, ap save_number e))
save_tests true true true false room offset e = absurd (omega (arith, ap save_number e))
save_tests true true false console room offset e = absurd (omega (arith, ap save_number e))
save_tests true false buffer console room offset e = absurd (omega (arith, ap save_number e))
save_tests false registers buffer console room offset e = absurd (omega (arith, ap save_number e))

pub record SaveAccepted (m : Machine) (mem con file : List ℕ) : Type 0 where
  pub answer : save_answer m (length mem) (length con) (length file) ≡ Ok tt
  pub size : size_ok (length mem) ≡ true
  pub registers : registers_ok (length mem) m.cpu ≡ true
  pub buffer : buffer_ok (length mem) (entries_of m) ≡ true
  pub console : m.cpu.written ≤ length con
  pub room : length_by (counts_of m (length mem)) ≤ length file
  pub offset : memory_at (counts_of m (length mem)) < 2 ^ 32

pub save_told : (m : Machine) (mem con file : List ℕ) → save_answer m (length mem) (length con) (length file) ≡ Ok tt → SaveAccepted m mem con file
unfolding save_answer
save_told m mem con file a =
    let k = counts_of m (length mem) in
    let t = save_tests (size_ok (length mem)) (registers_ok (length mem) m.cpu) (buffer_ok (length mem) (entries_of m)) (leb m.cpu.written (length con))
    (leb (length_by k) (length file)) (ltb (memory_at k) (2 ^ 32)) a in
    record {
      answer = a;
      size = t.0;
      registers = t.1;
      buffer = t.2;
      console = leb-true m.cpu.written (length con) t.3;
      room = leb-true (length_by k) (length file) t.4;
      offset = ltb-true (memory_at k) (2 ^ 32) t.5;
    }

pub save_accepts : (m : Machine) (mem con file : List ℕ) → (save m mem con file).answer ≡ Ok tt → SaveAccepted m mem con file
unfolding save
save_accepts m mem con file e =
    save_told m mem con file (sym (save_answer_lem (save_answer m (length mem) (length con) (length file)) m mem con file) ∙ e)

-- ---- reading

read_answer_lem : (a : Result Unit ReadRefusal) (file mem con : List ℕ) → (read_by a file mem con).answer ≡ a
read_answer_lem (Ok tt) file mem con = refl
read_answer_lem (Err e) file mem con = refl

read_tests : (size header counts offsets registers : Bool) → first_read_refusal size header counts offsets registers ≡ Ok tt
    → (size ≡ true) × (header ≡ true) × (counts ≡ true) × (offsets ≡ true) × (registers ≡ true)
read_tests true true true true true e = (refl, refl, refl, refl, refl)
read_tests true true true true false e = absurd (omega (arith, ap read_number e))
read_tests true true true false registers e = absurd (omega (arith, ap read_number e))
read_tests true true false offsets registers e = absurd (omega (arith, ap read_number e))
read_tests true false counts offsets registers e = absurd (omega (arith, ap read_number e))
read_tests false header counts offsets registers e = absurd (omega (arith, ap read_number e))

pub record ReadAccepted (file mem con : List ℕ) : Type 0 where
  pub answer : read_answer file (length mem) (length con) ≡ Ok tt
  pub size : size_ok (length mem) ≡ true
  pub header : header_bytes ≤ length file
  pub pages : (counts_in file).pages * page_bytes ≡ length mem
  pub few : (counts_in file).entries ≤ 64
  pub console : (counts_in file).console ≤ length con
  pub offsets : offsets_ok file (counts_in file) ≡ true
  pub total : length file ≡ length_by (counts_in file)
  pub numbers : numbers_ok (numbers_in file) ≡ true
  pub rights : rights_ok (counts_in file).entries file entries_at ≡ true
  pub registers : registers_ok (length mem) (cpu_in file (counts_in file)) ≡ true
  pub buffer : buffer_ok (length mem) (entries_in (counts_in file).entries file entries_at) ≡ true

pub read_told : (file mem con : List ℕ) → read_answer file (length mem) (length con) ≡ Ok tt → ReadAccepted file mem con
unfolding read_answer counts_ok record_ok
read_told file mem con a =
    let k = counts_in file in
    let size = length mem in
    let t = read_tests (size_ok size) (header_ok (length file)) (counts_ok size (length con) k) (offsets_ok file k && length_ok (length file) k) (record_ok size file k) a in
    let few = both _ (leb k.console (length con)) t.2 in
    let pages = both (eqb (k.pages * page_bytes) size) (leb k.entries 64) few.0 in
    let offsets = both (offsets_ok file k) (length_ok (length file) k) t.3 in
    let buffer = both _ (buffer_ok size (entries_in k.entries file entries_at)) t.4 in
    let registers = both _ (registers_ok size (cpu_in file k)) buffer.0 in
    let numbers = both (numbers_ok (numbers_in file)) (rights_ok k.entries file entries_at) registers.0 in
    record {
      answer = a;
      size = t.0;
      header = leb-true header_bytes (length file) t.1;
      pages = eqb-true (k.pages * page_bytes) size pages.0;
      few = leb-true k.entries 64 pages.1;
      console = leb-true k.console (length con) few.1;
      offsets = offsets.0;
      total = eqb-true (length file) (length_by k) offsets.1;
      numbers = numbers.0;
      rights = numbers.1;
      registers = registers.1;
      buffer = buffer.1;
    }

pub read_accepts : (file mem con : List ℕ) → (read file mem con).answer ≡ Ok tt → ReadAccepted file mem con
unfolding read
read_accepts file mem con e = read_told file mem con (sym (read_answer_lem (read_answer file (length mem) (length con)) file mem con) ∙ e)
