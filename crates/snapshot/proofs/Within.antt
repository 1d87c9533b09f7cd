-- Document 02, item 5: a save answers a length within the lent file.
use Rattle.std.proofs.Common.{Result, Ok, Err}
use Prim.Native.Nat.{ℕ, ◌≤◌}
use native.Mathlib.Omega.{arith}
use mathlib.Core.List.{List}
use mathlib.Core.Path.{◌≡◌, refl, sym, ap, subst}
use lib.ListN.{length}
use Rattle.rules.specs.declared.Machine.{Machine}
use Rattle.machine_file.specs.Layout.{length_by, counts_of}
use Rattle.snapshot.specs.declared.SaveRefusal.{SaveRefusal}
use Rattle.snapshot.specs.declared.Saved.{Saved as SavedResult}
use Rattle.snapshot.specs.Saving.{Saved, save_answer, save_by, save}
use Rattle.snapshot.specs.Contract.{SavesAs}
use Rattle.snapshot.proofs.Answers.{save_told}

within_by : (a : Result Unit SaveRefusal) (m : Machine) (mem con file : List ℕ) → (a ≡ Ok tt → length_by (counts_of m (length mem)) ≤ length file) → (save_by a m mem con file).length ≤ length file
within_by (Ok tt) m mem con file room = room refl
within_by (Err e) m mem con file room = omega arith

pub saved_within : {m : Machine} {mem con file : List ℕ} {r : SavedResult} {file' : List ℕ} → SavesAs m mem con file r file' → r.length ≤ length file
unfolding save
saved_within {m} {mem} {con} {file} s =
    let within = within_by (save_answer m (length mem) (length con) (length file)) m mem con file (λ e. (save_told m mem con file e).room) in
    subst (λ (n : ℕ). n ≤ length file) (sym (ap (λ (x : Saved). x.length) s.same)) within
