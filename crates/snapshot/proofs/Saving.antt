-- Document 02, item 5: a save by what its parts ensure: the answer decides whether the file is written, its blocks one after another.
use Rattle.std.specs.Result.{is_err}
use Rattle.executable.proofs.Accepted.{unrefused}
use Rattle.std.proofs.Common.{Result, Ok, Err}
use Prim.Native.Nat.{ℕ, ◌*◌, ◌≤◌}
use native.Mathlib.Omega.{arith}
use mathlib.Core.List.{List, ◌++◌}
use mathlib.Core.Bool.{Bool, true, false, false≢true}
use mathlib.Core.Path.{◌≡◌, refl, sym, ◌∙◌, ap, subst}
use lib.ListN.{length, take, drop, take-append-drop}
use lib.Seq.{length-take-le}
use Rattle.rules.specs.declared.Machine.{Machine}
use Rattle.rules.specs.Numbers.{numbers_of}
use Rattle.refusals.specs.View.{entries_of}
use Rattle.refusals.proofs.Slots.{first_take}
use Rattle.text.specs.Written.{Written}
use Rattle.text.specs.declared.Writer.{Writer}
use Rattle.text.specs.Adds.{Adds, Room}
use Rattle.text.proofs.Laws.{adds_then, adds_as}
use Rattle.encoding.specs.Encoding.{encoded}
use Rattle.encoding.specs.Entries.{entry_bytes, encoded_entries}
use Rattle.machine_file.specs.declared.Counts.{Counts}
use Rattle.machine_file.specs.Layout.{header_longs, register_longs, header_bytes, register_bytes, entries_at, console_at, header_of, length_by, counts_of, file_of, Small}
use Rattle.machine_file.proofs.Lengths.{length-header, length-registers, length-entries, length-file}
use Rattle.snapshot.specs.declared.SaveRefusal.{SaveRefusal}
use Rattle.snapshot.specs.declared.Saved.{Saved as SavedResult}
use Rattle.snapshot.specs.Saving.{Saved, save_number, save_answer, save_by, save}
use Rattle.snapshot.specs.Contract.{saved_with, SavesAs, Savable}
use Rattle.snapshot.proofs.Answers.{size_most, whole_pages, SaveAccepted, save_told, held_few}

-- ---- the blocks, one after another

module _ {m : Machine} {mem con file : List ℕ} (s : Savable m mem con file) {k : Counts} (c : k ≡ counts_of m (length mem))
    (w₀ : Writer) (start : (w₀.bytes.now ≡ file) × (w₀.end ≡ 0)) where
  lent : length w₀.bytes.now ≡ length file
  lent = ap length start.0

  pub header_room : Small k × Room header_bytes w₀
  header_room = (subst (λ (x : Counts). Small x) (sym c) s.small, omega (arith, s.room, lent, start.1))

  module _ {w₁ : Writer} (a₁ : Adds (encoded header_longs (header_of k)) w₀ w₁) where
    place₁ : w₁.end ≡ header_bytes
    place₁ = a₁.written.end ∙ omega (arith, length-header k, start.1)

    pub registers_room : Room register_bytes w₁
    registers_room = omega (arith, s.room, place₁, a₁.size, lent)

    module _ {w₂ : Writer} (a₂ : Adds (encoded register_longs (numbers_of m.cpu)) w₁ w₂) where
      place₂ : w₂.end ≡ entries_at
      place₂ = a₂.written.end ∙ omega (arith, place₁, length-registers m.cpu)

      pub entries_room : (m.held ≤ 64) × Room (entry_bytes * m.held) w₂
      entries_room = (s.few, omega (arith, s.room, place₂, a₂.size, a₁.size, lent))

      module _ (z : length m.entries ≡ 64) {w₃ : Writer} (a₃ : Adds (encoded_entries (take m.held m.entries)) w₂ w₃) where
        counted : Adds (encoded_entries (entries_of m)) w₂ w₃
        counted = adds_as (ap encoded_entries (sym (first_take m.held m.entries (omega (arith, s.few, z))))) a₃

        place₃ : w₃.end ≡ console_at (counts_of m (length mem))
        place₃ = counted.written.end ∙ omega (arith, place₂, length-entries m)

        pub console_room : Room (length (take m.cpu.written con)) w₃
        console_room = omega (arith, s.room, place₃, length-take-le m.cpu.written con s.written, a₃.size, a₂.size, a₁.size, lent)

        module _ {w₄ : Writer} (a₄ : Adds (take m.cpu.written con) w₃ w₄) where
          pub memory_room : Room (length mem) w₄
          memory_room =
              omega (arith, s.room, s.whole, place₃, length-take-le m.cpu.written con s.written, a₄.written.end, a₄.size, a₃.size, a₂.size, a₁.size, lent)

          pub all_added : {w₅ : Writer} → Adds mem w₄ w₅ → Adds (file_of m mem con) w₀ w₅
          unfolding file_of
          all_added {w₅} a₅ =
              let blocks = encoded register_longs (numbers_of m.cpu) ++ encoded_entries (entries_of m) ++ take m.cpu.written con ++ mem in
              subst (λ (x : Counts). Adds (encoded header_longs (header_of x) ++ blocks) w₀ w₅) c
              (adds_then (adds_then (adds_then (adds_then a₁ a₂) counted) a₄) a₅)

-- ---- the whole

-- what is saved by any other answer
refused_by_lem : (a : Result Unit SaveRefusal) (m : Machine) (mem con file : List ℕ) → is_err a ≡ true → saved_with (record { answer = a; length = 0 }) file ≡ save_by a m mem con file
refused_by_lem (Ok tt) m mem con file h = absurd (false≢true h)
refused_by_lem (Err e) m mem con file h = refl

-- a save as the rules have it answers with their number
as_ruled : (m : Machine) (mem con file : List ℕ) (r : SavedResult) {file' : List ℕ} → saved_with r file' ≡ save m mem con file → SavesAs m mem con file r file'
as_ruled m mem con file r e = record { number = ap (λ (s : Saved). save_number s.answer) e; same = e }

module _ (m : Machine) (mem con file : List ℕ) {a : Result Unit SaveRefusal} {b : Bool} (p : a ≡ save_answer m (length mem) (length con) (length file)) (q : b ≡ is_err a) where
  pub refused : b ≡ true → SavesAs m mem con file (record { answer = a; length = 0 }) file
  unfolding save
  refused h = as_ruled m mem con file (record { answer = a; length = 0 }) (rw (← p) (refused_by_lem a m mem con file (sym q ∙ h)))

  module _ (z : b ≡ false) where
    accepts : SaveAccepted m mem con file
    accepts = save_told m mem con file (sym p ∙ unrefused a (sym q ∙ z))

    pub savable : Savable m mem con file
    savable =
        let t = accepts in
        let most = size_most (length mem) t.size in
        let few = held_few m (length mem) t.buffer in
        record {
          few = few;
          written = t.console;
          whole = whole_pages (length mem) t.size;
          room = t.room;
          small = record { pages = omega arith; entries = omega arith; console = omega (arith, t.offset) };
        }

    pub accepted : {r : ℕ} {file' : List ℕ} → Written (file_of m mem con) file 0 file' r → SavesAs m mem con file (record { answer = a; length = r }) file'
    unfolding save
    accepted {r} {file'} w =
        let s = savable in
        let e : r ≡ length_by (counts_of m (length mem)) = w.end ∙ omega (arith, length-file m mem con s.written s.whole) in
        let f : file' ≡ file_of m mem con ++ drop (length_by (counts_of m (length mem))) file =
        sym (take-append-drop r file') ∙ rw (w.front, w.rest, e) in
        as_ruled m mem con file (record { answer = a; length = r }) (rw (← p, unrefused a (sym q ∙ z), e, f))
