-- Document 01, "Traps", and document 02, item 1: a delivery, a stop and a fault end as their trees say. One law for each `return`.
use Rattle.std.proofs.Common.{if◌then◌else◌, Ok, Err}
use Prim.Native.Nat.{ℕ}
use mathlib.Core.Bool.{true, false}
use mathlib.Core.List.{List}
use mathlib.Core.Path.{◌≡◌, refl, sym, subst}
use lib.ListN.{length}
use Rattle.word.specs.Word.{difference}
use Rattle.memory.specs.Memory.{store_n}
use Rattle.paging.specs.Answer.{Answer}
use Rattle.paging.specs.declared.Fault.{Fault}
use Rattle.paging.specs.TrapCode.{code_number}
use Rattle.mmu.specs.Good.{Good}
use Rattle.mmu.specs.Translates.{Translates}
use Rattle.rules.specs.declared.Cpu.{Cpu}
use Rattle.rules.specs.declared.Pending.{Pending}
use Rattle.rules.specs.declared.Stop.TheVariants.{Masked, NoFrame}
use Rattle.rules.specs.Record.{with_stop, with_fault, put_pending}
use Rattle.rules.specs.Tree.{ask, slots, slot}
use Rattle.rules.specs.Step.{space_after}
use Rattle.rules.specs.Trap.{ended, kernel_sp, code_of, entered, framed, deliver_tree, trap_tree, fault_tree}
use Rattle.contracts.specs.Contract.{Finishes}
use Rattle.contracts.proofs.Steps.{finishes_ended, finishes_first, finishes_second, finishes_both}

-- ---- a delivery

module _ (c : Cpu) (left : Pending) (code pc : ℕ) {top first second : ℕ} (h : top ≡ kernel_sp c) (p : first ≡ difference top 8) (q : second ≡ difference top 16) where
  -- the code's slots are the rules'
  at_slots : {m con l : List ℕ} {x : Cpu} {m' con' l' : List ℕ} → Finishes (ask (slots first second) (framed c left code pc)) c m con l x m' con' l'
      → Finishes (deliver_tree c left code pc) c m con l x m' con' l'
  unfolding deliver_tree
  at_slots {m} {con} {l} {x} {m'} {con'} {l'} f =
      let g = subst (λ u. Finishes (ask (slots u second) (framed c left code pc)) c m con l x m' con' l') p f in
      let k = subst (λ u. Finishes (ask (slots (difference top 8) u) (framed c left code pc)) c m con l x m' con' l') q g in
      subst (λ u. Finishes (ask (slots (difference u 8) (difference u 16)) (framed c left code pc)) c m con l x m' con' l') h k

  module _ {con m l : List ℕ} {a : Answer} {m' l' : List ℕ} (t : Translates c.space (slot first) m l a m' l') where
    -- the first slot is refused
    pub deliver_first : {z : Fault} {x : Cpu} → a ≡ Err z → x ≡ with_stop NoFrame c → Finishes (deliver_tree c left code pc) c m con l x m' con l'
    unfolding space_after
    deliver_first e f = at_slots (finishes_first first second (framed c left code pc) t e (finishes_ended f t.good))

    module _ {v : ℕ} (e : a ≡ Ok v) {b : Answer} {m'' l'' : List ℕ}
        (u : Translates c.space (slot second) m' l' b m'' l'') where
      -- the second slot is refused
      pub deliver_second : {z : Fault} {x : Cpu} → b ≡ Err z → x ≡ with_stop NoFrame c → Finishes (deliver_tree c left code pc) c m con l x m'' con l''
      unfolding space_after
      deliver_second d f = at_slots (finishes_second first second (framed c left code pc) t e u d (finishes_ended f u.good))

      -- both are granted, then pc and code are stored
      pub deliver_both : {w n : ℕ} {x : Cpu} {m₁ m₂ : List ℕ} → b ≡ Ok w → n ≡ code_of c code → m₁ ≡ store_n 4 m'' v pc → m₂ ≡ store_n 4 m₁ w n
          → x ≡ entered (put_pending left c) → Finishes (deliver_tree c left code pc) c m con l x m₂ con l''
      unfolding space_after
      deliver_both d g i j f = at_slots (finishes_both first second (framed c left code pc) t e u d refl f i (rw g at j))

-- ---- "If iena = 0 a fault or TRAP stops with 2"

module _ (c : Cpu) (code pc : ℕ) {m con l : List ℕ} {x : Cpu} where
  pub trap_delivered : {m' con' l' : List ℕ} → c.system.iena ≡ true → Finishes (deliver_tree c c.clock.pending code pc) c m con l x m' con' l'
      → Finishes (trap_tree c code pc) c m con l x m' con' l'
  unfolding trap_tree
  trap_delivered {m'} {con'} {l'} e h =
      subst (λ b. Finishes (if b then deliver_tree c c.clock.pending code pc else ended (with_stop Masked c)) c m con l x m' con' l') (sym e) h

  pub trap_masked : x ≡ with_stop Masked c → c.system.iena ≡ false → Good (length m) c.space.pdir l → Finishes (trap_tree c code pc) c m con l x m con l
  unfolding trap_tree space_after
  trap_masked f e g =
      subst (λ b. Finishes (if b then deliver_tree c c.clock.pending code pc else ended (with_stop Masked c)) c m con l x m con l) (sym e) (finishes_ended f g)

-- ---- a denied access sets vadr and the cause

pub fault_trapped : {c y : Cpu} (f : Fault) (pc : ℕ) {n : ℕ} {m con l : List ℕ} {x : Cpu} {m' con' l' : List ℕ} → n ≡ code_number f.code → y ≡ with_fault f c
    → Finishes (trap_tree y n pc) y m con l x m' con' l' → Finishes (fault_tree c f pc) c m con l x m' con' l'
unfolding fault_tree
fault_trapped f pc {m = m} {con} {l} {x} {m'} {con'} {l'} q e h =
    let g = subst (λ z. Finishes (trap_tree z (code_number f.code) pc) z m con l x m' con' l') e (rw q at h) in
    record { same = g.same; good = g.good }
