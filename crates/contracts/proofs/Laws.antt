-- Document 01, "Opcodes": one law for each shape of an instruction's tree: an access that is denied, an access that is granted and what follows,
-- an end.
use Rattle.std.proofs.Common.{Ok, Err}
use Prim.Native.Nat.{ℕ}
use mathlib.Core.Bool.{Bool, true, false}
use mathlib.Core.List.{List, [], ◌∷◌, ◌++◌}
use mathlib.Core.Path.{◌≡◌, refl, sym, ap, ◌∙◌}
use lib.ListN.{length}
use Rattle.memory.specs.Memory.{load_n, store_n}
use Rattle.memory.proofs.Laws.{length-store}
use Rattle.decode.specs.declared.SysOp.{SysOp}
use Rattle.paging.specs.declared.Access.{Access}
use Rattle.paging.specs.declared.Access.TheVariants.{Read, Write}
use Rattle.paging.specs.Answer.{Answer}
use Rattle.paging.specs.declared.Fault.{Fault}
use Rattle.paging.specs.declared.Space.{Space}
use Rattle.paging.specs.declared.TrapCode.{TrapCode}
use Rattle.paging.specs.Walk.{is_write}
use Rattle.mmu.specs.declared.bus.Bus.{Bus}
use Rattle.mmu.specs.Bus.{SameBus}
use Rattle.mmu.specs.Good.{Good}
use Rattle.mmu.specs.Translates.{Translates}
use Rattle.rules.specs.declared.Regs.{Regs}
use Rattle.rules.specs.Tree.{access, Reply, got, denied, Tree, ask, done, Grant, grant, requested, reply_to, store_all, interpret}
use Rattle.rules.specs.Outcome.{Out, fine, unfetched, trap, refused, system, undecoded, or_refused, reading, writing}
use Rattle.contracts.specs.declared.Done.{Done}
use Rattle.contracts.specs.declared.End.TheVariants as end
use Rattle.contracts.specs.Contract.{ok, bad, fault_of, refused_by, made_by, made, Executes}
use Rattle.contracts.proofs.Trees.{asked}

-- ---- ends

-- no value, no store
pub store_none : (gs : List Grant) (m : List ℕ) → store_all gs [] m ≡ m
unfolding store_all
store_none [] m = refl
store_none (g ∷ gs) m = refl

module _ {s : Space} {user : Bool} {gs : List Grant} {m l : List ℕ} (g : Good (length m) s.pdir l) {d : Done} where
  -- new registers and no store
  pub executes_fine : {r : Regs} → d ≡ ok r → Executes (done (fine r [])) s user gs m l d m l
  unfolding interpret made_by
  executes_fine h = record { same = rw (h, store_none gs m); good = g }

  -- a denied fetch
  pub executes_unfetched : {r : Regs} {f : Fault} → d ≡ bad r (end.Unfetched f) → Executes (done (unfetched f)) s user gs m l d m l
  unfolding interpret made_by
  executes_unfetched h = record { same = rw h; good = g }

  -- a fault without an address, or TRAP
  pub executes_trap : {r : Regs} {code : TrapCode} → d ≡ bad r (end.Trap code) → Executes (done (trap code)) s user gs m l d m l
  unfolding interpret made_by
  executes_trap h = record { same = rw h; good = g }

  -- a denied operand access
  pub executes_refused : {r : Regs} {f : Fault} → d ≡ bad r (end.Refused f) → Executes (done (refused f)) s user gs m l d m l
  unfolding interpret made_by
  executes_refused h = record { same = rw h; good = g }

  -- a privileged instruction
  pub executes_system : {r : Regs} {op : SysOp} → d ≡ bad r (end.System op) → Executes (done (system op)) s user gs m l d m l
  unfolding interpret made_by
  executes_system h = record { same = rw h; good = g }

  -- a word that document 01's table has no row for
  pub executes_undecoded : {r : Regs} {pad w : ℕ} → d ≡ bad r (end.Undecoded pad w) → Executes (done (undecoded w)) s user gs m l d m l
  unfolding interpret made_by
  executes_undecoded h = record { same = rw h; good = g }

  -- a store through the latest granted write
  pub executes_stored : {r : Regs} {p n v : ℕ} {m' : List ℕ} → d ≡ ok r → m' ≡ store_n n m p v
      → Executes (done (fine r (v ∷ []))) s user (grant p n ∷ gs) m l d m' l
  unfolding interpret made_by store_all
  executes_stored {p = p} {n} {v} h e = record { same = rw (h, e, store_none gs (store_n n m p v)); good = rw (e, length-store n m p v) g }

-- over the same bus, in the space and the mode that it had at first
pub executes_same : {b b' : Bus} → SameBus b b' → {t : Tree Out} {gs : List Grant} {m l : List ℕ} {d : Done} {m' l' : List ℕ}
    → Executes t b'.space b'.user gs m l d m' l' → Executes t b.space b.user gs m l d m' l'
executes_same s h = rw (← s.space, ← s.user) h

-- ---- accesses

module _ {s : Space} {user : Bool} {gs : List Grant} {kind : Access} {n va : ℕ} {m l : List ℕ} {a : Answer} {m' l' : List ℕ}
    (t : Translates s (requested kind n va user) m l a m' l') (k : Reply → Tree Out) {d : Done} {m'' l'' : List ℕ} where
  -- an access, however the code was answered
  executes_ask : Executes (k (reply_to kind n m' a).reply) s user ((reply_to kind n m' a).grants ++ gs) m' l' d m'' l''
      → Executes (ask (access kind n va) k) s user gs m l d m'' l''
  executes_ask h = record { same = h.same ∙ sym (ap made (asked t k gs)); good = h.good }

  -- denied: the tree goes on with the fault
  pub executes_not : {f : Fault} → a ≡ Err f → Executes (k (denied f)) s user gs m' l' d m'' l''
      → Executes (ask (access kind n va) k) s user gs m l d m'' l''
  unfolding reply_to
  executes_not e h = executes_ask (rw e h)

  -- a read or fetch that is granted: the tree goes on with the bytes there
  pub executes_got : {p v : ℕ} → is_write kind ≡ false → a ≡ Ok p → v ≡ load_n n m' p → Executes (k (got v)) s user gs m' l' d m'' l''
      → Executes (ask (access kind n va) k) s user gs m l d m'' l''
  unfolding reply_to
  executes_got w e f h = executes_ask (rw (e, w, ← f) h)

  -- a write that is granted: it is the latest granted write
  pub executes_granted : {p : ℕ} → is_write kind ≡ true → a ≡ Ok p → Executes (k (got (load_n n m' p))) s user (grant p n ∷ gs) m' l' d m'' l''
      → Executes (ask (access kind n va) k) s user gs m l d m'' l''
  unfolding reply_to
  executes_granted w e h = executes_ask (rw (e, w) h)

-- ---- operands: "a fault ends the instruction"

-- the fault that the code takes out of a denied access is the access's
pub fault_told : {a : Answer} {x f : Fault} → a ≡ Err x → f ≡ fault_of a → f ≡ x
fault_told e q = rw e at q

module _ {s : Space} {user : Bool} {gs : List Grant} {n va : ℕ} {m l : List ℕ} {a : Answer} {m' l' : List ℕ} where
  -- an operand access that is denied
  pub executes_denied : {kind : Access} → Translates s (requested kind n va user) m l a m' l' → {k : ℕ → Tree Out}
      {r : Regs} {x : Fault} {d : Done} → a ≡ Err x → d ≡ refused_by r a → Executes (ask (access kind n va) (or_refused k)) s user gs m l d m' l'
  executes_denied t e h = executes_not t _ e (executes_refused t.good (rw e at h))

  -- an operand that is read
  pub executes_read : Translates s (requested Read n va user) m l a m' l' → {k : ℕ → Tree Out} {p v : ℕ}
      {d : Done} {m'' l'' : List ℕ} → a ≡ Ok p → v ≡ load_n n m' p → Executes (k v) s user gs m' l' d m'' l'' → Executes (reading n va k) s user gs m l d m'' l''
  unfolding is_write
  executes_read t e f h = executes_got t _ refl e f h

  -- an access for writing that is granted
  pub executes_write : Translates s (requested Write n va user) m l a m' l' → {k : ℕ → Tree Out} {p : ℕ}
      {d : Done} {m'' l'' : List ℕ} → a ≡ Ok p → Executes (k (load_n n m' p)) s user (grant p n ∷ gs) m' l' d m'' l''
      → Executes (ask (access Write n va) (or_refused k)) s user gs m l d m'' l''
  unfolding is_write
  executes_write t e h = executes_granted t _ refl e h

  -- the same with its store, to the end
  pub executes_written : Translates s (requested Write n va user) m l a m' l' → {r : Regs} {p v : ℕ}
      {d : Done} {m'' : List ℕ} → a ≡ Ok p → d ≡ ok r → m'' ≡ store_n n m' p v → Executes (writing n va v r) s user gs m l d m'' l'
  executes_written t e h q = executes_write t e (executes_stored t.good h q)
