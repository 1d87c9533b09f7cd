-- Document 02, item 5: "lower wins", as the code tests; before a test that needs them, what the ones before it tell.
use Rattle.std.proofs.Common.{Result, Ok, Err}
use Prim.Native.Nat.{ℕ, ◌*◌, ◌^◌, ◌≤◌, ◌<◌}
use native.Mathlib.Omega.{arith}
use mathlib.Core.Bool.{Bool, true, false, ◌&&◌}
use mathlib.Core.List.{List}
use mathlib.Core.Path.{◌≡◌, sym, ◌∙◌, subst}
use borrow.Author.Tests.{leb-true, eqb-true, le-leb, lt-leb, lt-ltb, le-ltb}
use lib.Dec.{leb, eqb}
use lib.ListN.{length}
use Rattle.word.proofs.BoolLaws.{both}
use Rattle.memory.specs.Memory.{size_ok}
use Rattle.paging.specs.Buffer.{buffer_ok}
use Rattle.rules.specs.declared.Machine.{Machine}
use Rattle.rules.specs.Run.{registers_ok}
use Rattle.refusals.specs.View.{entries_of}
use Rattle.machine_file.specs.declared.Counts.{Counts}
use Rattle.machine_file.specs.Layout.{page_bytes, memory_at, length_by, counts_of, Small}
use Rattle.machine_file.specs.Judged.{counts_in, counts_ok, offsets_ok, length_ok, record_ok, Held}
use Rattle.snapshot.specs.declared.SaveRefusal.{SaveRefusal}
use Rattle.snapshot.specs.declared.SaveRefusal.TheVariants as saves
use Rattle.snapshot.specs.declared.ReadRefusal.{ReadRefusal}
use Rattle.snapshot.specs.declared.ReadRefusal.TheVariants as reads
use Rattle.snapshot.specs.Saving.{save_answer}
use Rattle.snapshot.specs.Reading.{read_answer}
use Rattle.snapshot.proofs.Answers.{size_most, held_few}

-- the code asked a test b, which is the rules' t
module _ {b t : Bool} (same : b ≡ t) where
  pub passed : b ≡ true → t ≡ true
  passed left = sym same ∙ left

  pub failed : b ≡ false → t ≡ false
  failed taken = sym same ∙ taken

-- ---- saving

-- before the length is computed, in 64 bits
pub save_small : (m : Machine) (size console_size : ℕ) {k : Counts} → k ≡ counts_of m size → size_ok size ≡ true → buffer_ok size (entries_of m) ≡ true
    → m.cpu.written ≤ console_size → console_size < 2 ^ 63 → Small k
save_small m size console_size c p r s l =
    let few = held_few m size r in
    let most = size_most size p in
    subst (λ (x : Counts). Small x) (sym c) (record { pages = omega arith; entries = omega arith; console = omega arith })

module _ (m : Machine) (size console_size file_size : ℕ) where
  abbrev answer : Result Unit SaveRefusal
  answer = save_answer m size console_size file_size

  pub save_size : size_ok size ≡ false → Err saves.BadSize ≡ answer
  unfolding save_answer
  save_size e = rw e

  module _ (p : size_ok size ≡ true) where
    pub save_registers : registers_ok size m.cpu ≡ false → Err saves.BadRegisters ≡ answer
    unfolding save_answer
    save_registers e = rw (p, e)

    module _ (q : registers_ok size m.cpu ≡ true) where
      pub save_buffer : buffer_ok size (entries_of m) ≡ false → Err saves.BadBuffer ≡ answer
      unfolding save_answer
      save_buffer e = rw (p, q, e)

      module _ (r : buffer_ok size (entries_of m) ≡ true) where
        pub save_console : console_size < m.cpu.written → Err saves.BadConsole ≡ answer
        unfolding save_answer
        save_console l = rw (p, q, r, lt-leb _ _ l)

        module _ (s : m.cpu.written ≤ console_size) {k : Counts} (c : k ≡ counts_of m size) where
          pub save_room : {n : ℕ} → n ≡ length_by k → file_size < n → Err saves.ShortFile ≡ answer
          unfolding save_answer
          save_room e l = rw (p, q, r, le-leb _ _ s, lt-leb _ _ (rw (e, c) at l))

          module _ {n : ℕ} (t : n ≡ length_by k) (u : n ≤ file_size) {o : ℕ} (v : o ≡ memory_at k) where
            pub save_offset : 2 ^ 32 ≤ o → Err saves.BadOffset ≡ answer
            unfolding save_answer
            save_offset l = rw (p, q, r, le-leb _ _ s, le-leb _ _ (rw (t, c) at u), le-ltb _ _ (rw (v, c) at l))

            pub save_accepted : o < 2 ^ 32 → Ok tt ≡ answer
            unfolding save_answer
            save_accepted l = rw (p, q, r, le-leb _ _ s, le-leb _ _ (rw (t, c) at u), lt-ltb _ _ (rw (v, c) at l))

-- ---- reading

-- before the record is judged: the blocks of registers and entries lie in the file
pub read_held : (file : List ℕ) (size console_size : ℕ) (k : Counts) {b o l : Bool} → b ≡ counts_ok size console_size k → b ≡ true → o ≡ offsets_ok file k
    → l ≡ length_ok (length file) k → o && l ≡ true → Held file k
unfolding counts_ok
read_held file size console_size k {b} {o} {l} r t u v w =
    let counts = (both _ (leb k.console console_size) (sym r ∙ t)).0 in
    let few = (both (eqb (k.pages * page_bytes) size) (leb k.entries 64) counts).1 in
    let whole = eqb-true (length file) (length_by k) (sym v ∙ (both o l w).1) in
    record { few = leb-true k.entries 64 few; within = omega (arith, whole) }

module _ (file : List ℕ) (size console_size : ℕ) where
  abbrev answered : Result Unit ReadRefusal
  answered = read_answer file size console_size

  pub read_size : size_ok size ≡ false → Err reads.BadSize ≡ answered
  unfolding read_answer
  read_size e = rw e

  module _ (p : size_ok size ≡ true) where
    pub read_header : length file < 28 → Err reads.ShortFile ≡ answered
    unfolding read_answer
    read_header l = rw (p, lt-leb _ _ l)

    module _ (q : 28 ≤ length file) {k : Counts} (c : k ≡ counts_in file) where
      pub read_counts : {b : Bool} → b ≡ counts_ok size console_size k → b ≡ false → Err reads.BadCounts ≡ answered
      unfolding read_answer
      read_counts e f = rw (p, le-leb _ _ q, sym (rw c at e) ∙ f)

      module _ {b : Bool} (r : b ≡ counts_ok size console_size k) (t : b ≡ true) {o l : Bool} (u : o ≡ offsets_ok file k) (v : l ≡ length_ok (length file) k) where
        pub read_offsets : o && l ≡ false → Err reads.BadOffsets ≡ answered
        unfolding read_answer
        read_offsets f = rw (p, le-leb _ _ q, sym (rw c at r) ∙ t, ← (rw c at u), ← (rw c at v), f)

        module _ (w : o && l ≡ true) where
          pub read_record : {g : Bool} → g ≡ record_ok size file k → g ≡ false → Err reads.BadRecord ≡ answered
          unfolding read_answer
          read_record e f = rw (p, le-leb _ _ q, sym (rw c at r) ∙ t, ← (rw c at u), ← (rw c at v), w, sym (rw c at e) ∙ f)

          pub read_accepted : {g : Bool} → g ≡ record_ok size file k → g ≡ true → Ok tt ≡ answered
          unfolding read_answer
          read_accepted e f = rw (p, le-leb _ _ q, sym (rw c at r) ∙ t, ← (rw c at u), ← (rw c at v), w, sym (rw c at e) ∙ f)
