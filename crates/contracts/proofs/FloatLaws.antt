-- Document 02, item 7: one law for each shape of a floating instruction's tree: an end, a read, a store.
use Rattle.std.proofs.Common.{Ok, Err}
use Prim.Native.Nat.{ℕ}
use mathlib.Core.Bool.{Bool}
use mathlib.Core.List.{List, [], ◌++◌}
use mathlib.Core.Path.{◌≡◌, sym, ap, ◌∙◌}
use lib.ListN.{length}
use Rattle.memory.specs.Memory.{load_n, store_n}
use Rattle.memory.proofs.Laws.{length-store}
use Rattle.paging.specs.declared.Access.{Access}
use Rattle.paging.specs.declared.Access.TheVariants.{Read, Write}
use Rattle.paging.specs.Answer.{Answer}
use Rattle.paging.specs.declared.Fault.{Fault}
use Rattle.paging.specs.declared.Space.{Space}
use Rattle.paging.specs.declared.TrapCode.{TrapCode}
use Rattle.paging.specs.Walk.{is_write}
use Rattle.mmu.specs.Good.{Good}
use Rattle.mmu.specs.Translates.{Translates}
use Rattle.rules.specs.declared.Regs.{Regs}
use Rattle.rules.specs.declared.Floats.{Floats}
use Rattle.rules.specs.Tree.{access, Reply, Tree, ask, done, Grant, requested, reply_to, store_all, interpret}
use Rattle.rules.specs.Outcome.{Out, trap, floated, or_refused, reading}
use Rattle.rules.specs.Floating.{storing}
use Rattle.contracts.specs.declared.FloatDone.{FloatDone}
use Rattle.contracts.specs.declared.End.TheVariants as end
use Rattle.contracts.specs.Contract.{float_ok, float_bad, fault_of, made_by, made, FloatExecutes}
use Rattle.contracts.proofs.Trees.{asked}
use Rattle.contracts.proofs.Laws.{store_none, fault_told}

-- ---- ends

module _ {s : Space} {user : Bool} {gs : List Grant} {m l : List ℕ} (g : Good (length m) s.pdir l) {d : FloatDone} where
  -- new registers, f and g, and no store
  pub floats_fine : {r : Regs} {v : Floats} → d ≡ float_ok r v → FloatExecutes (done (floated r v [])) s user gs m l d m l
  unfolding interpret made_by
  floats_fine h = record { same = rw (h, store_none gs m); good = g }

  -- a fault without an address
  pub floats_trap : {r : Regs} {v : Floats} {code : TrapCode} → d ≡ float_bad r v (end.Trap code) → FloatExecutes (done (trap code)) s user gs m l d m l
  unfolding interpret made_by
  floats_trap h = record { same = rw h; good = g }

-- ---- accesses: "a fault ends the instruction"

module _ {s : Space} {user : Bool} {kind : Access} {n va : ℕ} {m l : List ℕ} {a : Answer} {m' l' : List ℕ}
    (t : Translates s (requested kind n va user) m l a m' l') (k : Reply → Tree Out) {d : FloatDone} {m'' l'' : List ℕ} where
  -- an access, however the code was answered
  floats_ask : FloatExecutes (k (reply_to kind n m' a).reply) s user ((reply_to kind n m' a).grants ++ []) m' l' d m'' l''
      → FloatExecutes (ask (access kind n va) k) s user [] m l d m'' l''
  floats_ask h = record { same = h.same ∙ sym (ap made (asked t k [])); good = h.good }

module _ {s : Space} {user : Bool} {n va : ℕ} {m l : List ℕ} {a : Answer} {m' l' : List ℕ} where
  -- one that is denied
  pub floats_denied : {kind : Access} → Translates s (requested kind n va user) m l a m' l' → {k : ℕ → Tree Out} {r : Regs} {v : Floats} {x f : Fault} {d : FloatDone}
      → a ≡ Err x → f ≡ fault_of a → d ≡ float_bad r v (end.Refused f) → FloatExecutes (ask (access kind n va) (or_refused k)) s user [] m l d m' l'
  unfolding reply_to interpret made_by
  floats_denied t e q h = floats_ask t _ (rw e (record { same = rw (h, fault_told e q); good = t.good }))

  -- a read
  pub floats_read : Translates s (requested Read n va user) m l a m' l' → {k : ℕ → Tree Out} {p x : ℕ} {d : FloatDone} {m'' l'' : List ℕ} → a ≡ Ok p → x ≡ load_n n m' p
      → FloatExecutes (k x) s user [] m' l' d m'' l'' → FloatExecutes (reading n va k) s user [] m l d m'' l''
  unfolding reply_to is_write
  floats_read t e f h = floats_ask t _ (rw (e, ← f) h)

  -- a store
  pub floats_stored : Translates s (requested Write n va user) m l a m' l' → {r : Regs} {v : Floats} {p x : ℕ} {d : FloatDone} {m'' : List ℕ} → a ≡ Ok p → d ≡ float_ok r v
      → m'' ≡ store_n n m' p x → FloatExecutes (storing n va x r v) s user [] m l d m'' l'
  unfolding reply_to is_write interpret made_by store_all
  floats_stored t {p = p} {x} e h q = floats_ask t _ (rw e (record { same = rw (h, q); good = rw (q, length-store n m' p x) t.good }))
