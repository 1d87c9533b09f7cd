-- Document 01, "One step" and "Traps": one law for each shape of a step's tree: an access, the two slots of a trap frame, an end.
use Rattle.std.proofs.Common.{Ok, Err}
use Prim.Native.Nat.{ℕ}
use mathlib.Core.List.{List, [], ◌∷◌}
use mathlib.Core.Path.{◌≡◌, refl, sym, ap, ◌∙◌}
use lib.ListN.{length, set}
use Rattle.memory.specs.Memory.{load_n, store_n}
use Rattle.memory.proofs.Laws.{length-store}
use Rattle.paging.specs.declared.Access.{Access}
use Rattle.paging.specs.declared.Access.TheVariants.{Read}
use Rattle.paging.specs.Answer.{Answer}
use Rattle.paging.specs.declared.Fault.{Fault}
use Rattle.paging.specs.declared.Space.{Space}
use Rattle.paging.specs.Walk.{is_write}
use Rattle.mmu.specs.Good.{Good}
use Rattle.mmu.specs.Translates.{Kept, Translates, kept_in, translator}
use Rattle.rules.specs.declared.Cpu.{Cpu}
use Rattle.rules.specs.Record.{with_count, with_regs, with_space}
use Rattle.rules.specs.Tree.{access, slots, Reply, got, denied, Tree, ask, Ended, slot, requested, reply_to, store_all, interpret}
use Rattle.rules.specs.Trap.{Effect, none, set_space, deliver, print, Final, final, ended}
use Rattle.rules.specs.Step.{State, space_after, console_after, buffer_after, finished}
use Rattle.contracts.specs.Contract.{fault_of, Finishes}
use Rattle.contracts.proofs.Trees.{asked, slots_first, slots_second, slots_both}
use Rattle.contracts.proofs.Laws.{fault_told}

-- a tree's end, from the record k
abbrev ending : Cpu → List ℕ → Ended Kept Final → State Kept
ending k con e = finished translator k.regs.count k.space k.written con e

-- ---- ends

-- the record of an end: count and address space are not the leaf's
abbrev pub record_after : Cpu → Effect → Cpu → Cpu
record_after k e c = with_space (space_after k.space e) (with_regs (with_count k.regs.count c.regs) c)

module _ {k : Cpu} {m con l : List ℕ} {c x : Cpu} where
  -- an end with any effect
  pub finishes_final : {vs : List ℕ} {e : Effect} {con' l' : List ℕ} → x ≡ record_after k e c → con' ≡ console_after con k.written e
      → kept_in l' ≡ buffer_after translator (kept_in l) e → Good (length m) x.space.pdir l' → Finishes (final c vs e) k m con l x m con' l'
  unfolding interpret finished store_all
  finishes_final p q b g = record { same = rw (p, q, b); good = g }

  -- the record changes, and nothing else
  pub finishes_ended : x ≡ record_after k none c → Good (length m) k.space.pdir l → Finishes (ended c) k m con l x m con l
  unfolding finished
  finishes_ended p g = finishes_final p refl refl (rw p g)

  -- PDIR and SPAG
  pub finishes_space : {t : Space} {l' : List ℕ} → x ≡ record_after k (set_space t) c → kept_in l' ≡ translator.empty (kept_in l) → Good (length m) t.pdir l'
      → Finishes (final c [] (set_space t)) k m con l x m con l'
  unfolding finished
  finishes_space p b g = finishes_final p refl b (rw p g)

  -- BOUT's byte
  pub finishes_printed : {b : ℕ} {con' : List ℕ} → x ≡ record_after k (print b) c → con' ≡ set con k.written b → Good (length m) k.space.pdir l
      → Finishes (final c [] (print b)) k m con l x m con' l
  unfolding finished
  finishes_printed p q g = finishes_final p q refl (rw p g)

-- ---- an access

module _ {k : Cpu} {con : List ℕ} {n va : ℕ} {m l : List ℕ} {a : Answer} {m' l' : List ℕ} (f : Reply → Tree Final)
    {c : Cpu} {m'' con'' l'' : List ℕ} where
  -- denied: the tree goes on with the fault
  pub finishes_denied : {kind : Access} → Translates k.space (requested kind n va k.system.user) m l a m' l'
      → {x y : Fault} → a ≡ Err x → y ≡ fault_of a → Finishes (f (denied y)) k m' con l' c m'' con'' l''
      → Finishes (ask (access kind n va) f) k m con l c m'' con'' l''
  unfolding reply_to finished
  finishes_denied t e q h =
      record { same = (rw (fault_told e q) at h).same ∙ sym (ap (ending k con) (rw e at (asked t f []))); good = h.good }

  -- a read that is granted: the tree goes on with the bytes there
  pub finishes_read : Translates k.space (requested Read n va k.system.user) m l a m' l'
      → {p v : ℕ} → a ≡ Ok p → v ≡ load_n n m' p → Finishes (f (got v)) k m' con l' c m'' con'' l''
      → Finishes (ask (access Read n va) f) k m con l c m'' con'' l''
  unfolding reply_to is_write finished
  finishes_read t e q h = record { same = (rw q at h).same ∙ sym (ap (ending k con) (rw e at (asked t f []))); good = h.good }

-- ---- the two slots of a trap frame

module _ {k : Cpu} {con : List ℕ} (x y : ℕ) {m l : List ℕ} {a : Answer} {m' l' : List ℕ} (f : Reply → Tree Final)
    (t : Translates k.space (slot x) m l a m' l') {c : Cpu} where
  -- the first is denied
  pub finishes_first : {z : Fault} {m'' con'' l'' : List ℕ} → a ≡ Err z → Finishes (f (denied z)) k m' con l' c m'' con'' l''
      → Finishes (ask (slots x y) f) k m con l c m'' con'' l''
  unfolding finished
  finishes_first e h = record { same = h.same ∙ sym (ap (ending k con) (slots_first k.space k.system.user x y t f [] e)); good = h.good }

  module _ {p : ℕ} (e : a ≡ Ok p) {b : Answer} {m'' l'' : List ℕ} (u : Translates k.space (slot y) m' l' b m'' l'') where
    -- the second is denied
    pub finishes_second : {z : Fault} {m''' con''' l''' : List ℕ} → b ≡ Err z → Finishes (f (denied z)) k m'' con l'' c m''' con''' l'''
        → Finishes (ask (slots x y) f) k m con l c m''' con''' l'''
    unfolding finished
    finishes_second d h =
        record { same = h.same ∙ sym (ap (ending k con) (slots_second k.space k.system.user x y t f [] u e d)); good = h.good }

    -- both are granted, and stored in order
    pub finishes_both : {q v w code : ℕ} {r : Cpu} {m₁ m₂ : List ℕ} → b ≡ Ok q → f (got 0) ≡ final r (v ∷ w ∷ []) (deliver code)
        → c ≡ record_after k (deliver code) r → m₁ ≡ store_n 4 m'' p v → m₂ ≡ store_n 4 m₁ q w → Finishes (ask (slots x y) f) k m con l c m₂ con l''
    unfolding finished interpret store_all
    finishes_both {q} {v} {w} d g h i j =
        record {
          same = rw (h, j, i) (sym (ap (ending k con) (rw g at (slots_both k.space k.system.user x y t f [] u e d))));
          good = rw (h, j, length-store 4 _ q w, i, length-store 4 m'' p v) u.good;
        }
