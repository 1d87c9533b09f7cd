-- Trees that depend on a test, on the address of the next instruction, or on the record with pc moved on.
use Rattle.std.proofs.Common.{if◌then◌else◌}
use Prim.Native.Nat.{ℕ}
use mathlib.Core.Bool.{Bool, true, false}
use mathlib.Core.List.{List}
use mathlib.Core.Path.{◌≡◌, sym, subst}
use Rattle.mmu.specs.Good.{Good}
use Rattle.rules.specs.declared.Cpu.{Cpu}
use Rattle.rules.specs.Tree.{Tree}
use Rattle.rules.specs.Trap.{Final, next_pc}
use Rattle.contracts.specs.Contract.{Finishes}
use Rattle.system.specs.Moved.{moved_on}

-- ---- a test

module _ (t u : Tree Final) {k : Cpu} {m con l : List ℕ} {x : Cpu} {m' con' l' : List ℕ} {b : Bool} where
  pub finishes_then : b ≡ true → Finishes t k m con l x m' con' l' → Finishes (if b then t else u) k m con l x m' con' l'
  finishes_then e h = subst (λ z. Finishes (if z then t else u) k m con l x m' con' l') (sym e) h

  pub finishes_else : b ≡ false → Finishes u k m con l x m' con' l' → Finishes (if b then t else u) k m con l x m' con' l'
  finishes_else e h = subst (λ z. Finishes (if z then t else u) k m con l x m' con' l') (sym e) h

-- ---- the next instruction's address

module _ (t : ℕ → Tree Final) (c : Cpu) {m con l : List ℕ} {x : Cpu} {m' con' l' : List ℕ} where
  pub at_next : {n : ℕ} → n ≡ next_pc c → Finishes (t n) c m con l x m' con' l' → Finishes (t (next_pc c)) c m con l x m' con' l'
  at_next e h = subst (λ i. Finishes (t i) c m con l x m' con' l') e h

-- ---- the record with pc moved on

module _ (c : Cpu) {n : Cpu} (e : n ≡ moved_on c) where
  pub moved_good : {size : ℕ} {l : List ℕ} → Good size c.space.pdir l → Good size n.space.pdir l
  moved_good {size} {l} g = subst (λ y. Good size y.space.pdir l) (sym e) g

  -- count, address space, console count and mode are as before the fetch
  pub from_moved : (t : Cpu → Tree Final) {m con l : List ℕ} {x : Cpu} {m' con' l' : List ℕ} → Finishes (t n) n m con l x m' con' l'
      → Finishes (t (moved_on c)) c m con l x m' con' l'
  from_moved t {m} {con} {l} {x} {m'} {con'} {l'} h =
      let g = subst (λ y. Finishes (t y) y m con l x m' con' l') e h in
      record { same = g.same; good = g.good }
