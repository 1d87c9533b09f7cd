-- Document 02, item 5: "an accepted file saves back to the same bytes". Each block of the file is what is written of what was read from it.
use Rattle.std.proofs.Common.{Result, Ok}
use Prim.Native.Nat.{ℕ, zero, suc, ◌*◌, ◌/◌, ◌^◌, ◌≤◌, ◌<◌}
use native.Mathlib.Nat.{pow-suc}
use native.Mathlib.Omega.{arith}
use mathlib.Core.Bool.{Bool, true}
use mathlib.Core.List.{List, [], ◌∷◌, ◌++◌}
use mathlib.Core.Path.{◌≡◌, refl, sym, ◌∙◌, ap, subst}
use borrow.Author.Tests.{eqb-true, le-leb, lt-ltb}
use lib.Dec.{eqb, leb, ltb}
use lib.ListN.{length, take, drop, length-append, length-drop, take-append-drop}
use lib.Seq.{length-take-le, take-add, take_at}
use Rattle.word.proofs.BoolLaws.{both}
use Rattle.memory.specs.Memory.{load_n, size_ok}
use Rattle.paging.specs.Buffer.{buffer_ok}
use Rattle.rules.specs.declared.Machine.{Machine}
use Rattle.rules.specs.Numbers.{numbers_of, record_by}
use Rattle.rules.specs.Run.{registers_ok}
use Rattle.refusals.specs.View.{entries_of}
use Rattle.encoding.specs.Encoding.{widths, encoded, decoded}
use Rattle.encoding.specs.Entries.{entry_bytes, encoded_entries}
use Rattle.machine_file.specs.declared.Counts.{Counts}
use Rattle.machine_file.specs.Layout.{header_longs, register_longs, header_bytes, register_bytes, page_bytes, registers_at, entries_at, console_at, memory_at, length_by, header_of, counts_of, file_of}
use Rattle.machine_file.proofs.Counted.{counted}
use Rattle.machine_file.specs.Judged.{counts_in, numbers_in, cpu_in, machine_in, console_in, memory_in, offsets_ok}
use Rattle.snapshot.specs.declared.SaveRefusal.{SaveRefusal}
use Rattle.snapshot.specs.declared.ReadRefusal.{ReadRefusal}
use Rattle.snapshot.specs.Saving.{first_save_refusal, save_answer, save_by, save}
use Rattle.snapshot.specs.Reading.{Restored, read_by, read}
use Rattle.snapshot.proofs.Answers.{ReadAccepted, read_accepts}
use Rattle.snapshot_laws.specs.Carried.{Bytes, ReadSaved}
use Rattle.snapshot_laws.proofs.Blocks.{encoded_back, entries_back}
use Rattle.snapshot_laws.proofs.NumbersBack.{numbers_back}

-- a number of n bytes
load_below : (n : ℕ) (f : List ℕ) (at : ℕ) → Bytes f → load_n n f at < 256 ^ n
unfolding load_n
load_below zero f at b = omega arith
load_below (suc n) f at b = rw (pow-suc 256 n) (let h = load_below n f (suc at) b in let l = b at in omega (arith, h, l))

pub save_passes : {size registers buffer console room offset : Bool} → size ≡ true → registers ≡ true → buffer ≡ true → console ≡ true → room ≡ true → offset ≡ true
    → first_save_refusal size registers buffer console room offset ≡ Ok tt
save_passes p q r s t u = rw (p, q, r, s, t, u)

-- ---- what an accepted read gives

module _ (file mem con : List ℕ) (a : ReadAccepted file mem con) where
  abbrev k : Counts
  k = counts_in file

  abbrev machine : Machine
  machine = machine_in file k

  abbrev memory : List ℕ
  memory = memory_in file k

  abbrev console : List ℕ
  console = console_in file k ++ drop k.console con

  pub gives : read file mem con ≡ record { answer = Ok tt; machine = machine; mem = memory; console = console }
  unfolding read
  gives = ap (λ (x : Result Unit ReadRefusal). read_by x file mem con) a.answer

  pub length-memory : length memory ≡ length mem
  length-memory = length-drop (memory_at k) file ∙ omega (arith, a.total, a.pages)

  length-block : length (console_in file k) ≡ k.console
  length-block = length-take-le k.console (drop (console_at k) file) (rw (length-drop (console_at k) file) (omega (arith, a.total)))

  pub length-console : length console ≡ length con
  length-console =
      length-append (console_in file k) (drop k.console con) ∙ omega (arith, length-block, length-drop k.console con, a.console)

  -- ---- saved again

  counts_back : counts_of machine (length memory) ≡ k
  unfolding machine_in cpu_in record_by
  counts_back =
      let p : length memory / page_bytes ≡ k.pages = omega (arith, length-memory, a.pages) in
      λ i. record { pages = p i; entries = k.entries; console = k.console }

  pub registers_again : registers_ok (length memory) machine.cpu ≡ true
  unfolding machine_in
  registers_again = ap (λ (n : ℕ). registers_ok n (cpu_in file k)) length-memory ∙ a.registers

  pub buffer_again : buffer_ok (length memory) (entries_of machine) ≡ true
  buffer_again = (λ i. buffer_ok (length-memory i) (counted file k i)) ∙ a.buffer

  pub console_again : machine.cpu.written ≤ length console
  unfolding machine_in cpu_in record_by
  console_again = rw length-console a.console

  -- ---- its bytes

  module _ (b : Bytes file) where
    -- the offsets are those that follow from the counts
    offset : (memory_at k < 2 ^ 32) × (header_of k ≡ decoded header_longs file 0)
    unfolding offsets_ok decoded
    offset =
        let p = both _ (eqb (load_n 4 file 24) (memory_at k)) a.offsets in
        let q = both _ (eqb (load_n 4 file 20) (console_at k)) p.0 in
        let r = both (eqb (load_n 4 file 12) registers_at) (eqb (load_n 4 file 16) entries_at) q.0 in
        let m = eqb-true (load_n 4 file 24) (memory_at k) p.1 in
        let c = eqb-true (load_n 4 file 20) (console_at k) q.1 in
        let e = eqb-true (load_n 4 file 16) entries_at r.1 in
        let s = eqb-true (load_n 4 file 12) registers_at r.0 in (
          subst (λ (n : ℕ). n < 2 ^ 32) m (load_below 4 file 24 b),
          λ i. k.pages ∷ k.entries ∷ k.console ∷ sym s i ∷ sym e i ∷ sym c i ∷ sym m i ∷ [],
        )

    header_back : encoded header_longs (header_of k) ≡ take header_bytes file
    unfolding widths
    header_back = ap (encoded header_longs) offset.1 ∙ encoded_back header_longs file 0 b a.header

    registers_back : encoded register_longs (numbers_of machine.cpu) ≡ take register_bytes (drop registers_at file)
    unfolding widths machine_in cpu_in numbers_in decoded
    registers_back =
        ap (encoded register_longs) (numbers_back (numbers_in file) 0 k.console refl a.numbers)
        ∙ encoded_back register_longs file registers_at b (omega (arith, a.total))

    entries_again : encoded_entries (entries_of machine) ≡ take (entry_bytes * k.entries) (drop entries_at file)
    entries_again = ap encoded_entries (counted file k) ∙ entries_back k.entries file entries_at b (omega (arith, a.total)) a.rights

    console_back : take k.console console ≡ take k.console (drop (console_at k) file)
    console_back = take_at (console_in file k) (drop k.console con) k.console length-block

    file_back : file_of machine memory console ≡ file
    unfolding file_of machine_in
    file_back =
        (λ i. encoded header_longs (header_of (counts_back i)) ++ encoded register_longs (numbers_of machine.cpu) ++ encoded_entries (entries_of machine) ++ take k.console console ++ memory)
        ∙ (λ i. header_back i ++ registers_back i ++ entries_again i ++ console_back i ++ memory)
        ∙ (λ i. sym (take-add header_bytes register_bytes file) i ++ take (entry_bytes * k.entries) (drop entries_at file) ++ take k.console (drop (console_at k) file) ++ memory)
        ∙ (λ i. sym (take-add entries_at (entry_bytes * k.entries) file) i ++ take k.console (drop (console_at k) file) ++ memory)
        ∙ (λ i. sym (take-add (console_at k) k.console file) i ++ memory)
        ∙ take-append-drop (memory_at k) file

    -- ---- the whole

    module _ (lent : List ℕ) (room : length file ≤ length lent) where
      answer_again : save_answer machine (length memory) (length console) (length lent) ≡ Ok tt
      unfolding save_answer
      answer_again =
          save_passes (ap size_ok length-memory ∙ a.size) registers_again buffer_again (le-leb machine.cpu.written (length console) console_again)
          (ap (λ (x : Counts). leb (length_by x) (length lent)) counts_back ∙ le-leb (length_by k) (length lent) (omega (arith, a.total, room)))
          (ap (λ (x : Counts). ltb (memory_at x) (2 ^ 32)) counts_back ∙ lt-ltb (memory_at k) (2 ^ 32) offset.0)

      saved_again : save machine memory console lent ≡ record { answer = Ok tt; length = length file; file = file ++ drop (length file) lent }
      unfolding save
      saved_again =
          let l : length_by (counts_of machine (length memory)) ≡ length file = ap length_by counts_back ∙ sym a.total in
          ap (λ (x : Result Unit SaveRefusal). save_by x machine memory console lent) answer_again
          ∙ (λ i. record { answer = Ok tt; length = l i; file = file_back i ++ drop (l i) lent })

pub read_saved : ReadSaved
unfolding ReadSaved
read_saved file mem con b e lent room =
    let a = read_accepts file mem con e in
    ap (λ (r : Restored). save r.machine r.mem r.console lent) (gives file mem con a) ∙ saved_again file mem con a b lent room
