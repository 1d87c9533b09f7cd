-- A step's tree after its instruction stores only through the writes that it was granted itself: what was granted before does not count.
use Rattle.std.proofs.Common.{Ok, Err}
use Prim.Native.Nat.{ℕ}
use mathlib.Core.List.{List, [], ◌++◌}
use mathlib.Core.Path.{◌≡◌}
use Rattle.word.specs.Word.{difference}
use Rattle.memory.specs.Memory.{load_n}
use Rattle.paging.specs.declared.Access.TheVariants.{Read}
use Rattle.paging.specs.Answer.{Answer}
use Rattle.paging.specs.Walk.{is_write}
use Rattle.paging.specs.Event.{Event}
use Rattle.paging.specs.Translate.{Outcome}
use Rattle.mmu.specs.Translates.{Kept, translator}
use Rattle.rules.specs.declared.Cpu.{Cpu}
use Rattle.rules.specs.declared.Pending.{Pending}
use Rattle.rules.specs.declared.Stop.TheVariants.{NoFrame}
use Rattle.rules.specs.Record.{with_stop}
use Rattle.rules.specs.Tree.{Reply, got, denied, access, Tree, ask, Grant, Ended, Replied, reply_to, slot, requested, first_slot, second_slot, answered, store_all, interpret}
use Rattle.rules.specs.Trap.{Effect, none, Final, final, framed, kernel_sp, deliver_tree}
use Rattle.rules.specs.Step.{State, finished}
use Rattle.rules.proofs.StepTree.{Shapes}
use Rattle.contracts.proofs.Laws.{store_none}

module _ (k : Cpu) (con : List ℕ) where
  -- where a tree's end leaves the machine
  abbrev pub ends : Ended Kept Final → State Kept
  ends e = finished translator k.regs.count k.space k.written con e

  -- where a tree leaves it, from memory m and the entries es, with writes granted before
  abbrev pub run : Tree Final → List ℕ → Kept → List Grant → State Kept
  run t m es gs = ends (interpret translator k.space k.system.user t m es gs)

  -- the writes granted before the tree do not count
  pub record Fresh (t : Tree Final) : Type 0 where
    pub fresh : (m : List ℕ) (es : Kept) (gs : List Grant) → run t m es gs ≡ run t m es []

  -- a leaf without values
  fresh_final : (c : Cpu) (e : Effect) → Fresh (final c [] e)
  unfolding interpret finished store_all
  fresh_final c e = record { fresh = λ m es gs. rw (store_none gs m) }

  -- ---- a read grants no write
  module _ (n va : ℕ) (f : Reply → Tree Final) (h : (r : Reply) → Fresh (f r)) where
    read_reply : (a : Answer) (m : List ℕ) (es : Kept) (gs : List Grant)
        → run (f (reply_to Read n m a).reply) m es ((reply_to Read n m a).grants ++ gs) ≡ run (f (reply_to Read n m a).reply) m es ((reply_to Read n m a).grants ++ [])
    unfolding reply_to is_write
    read_reply (Ok p) m es gs = (h (got (load_n n m p))).fresh m es gs
    read_reply (Err x) m es gs = (h (denied x)).fresh m es gs

    fresh_read : Fresh (ask (access Read n va) f)
    unfolding interpret answered finished
    fresh_read = record {
      fresh = λ m es gs.
          let o = translator.translate k.space (requested Read n va k.system.user) m es in
          read_reply o.answer o.mem o.buffer gs;
    }

  -- ---- a trap frame is stored through the writes of its own two slots
  module _ (c : Cpu) (left : Pending) (code pc : ℕ) where
    abbrev framing : Outcome Kept Replied → List Grant → State Kept
    framing o gs = run (framed c left code pc o.answer.reply) o.mem o.buffer (o.answer.grants ++ gs)

    second_slot_lem : (p : ℕ) (ev : List Event) (o : Outcome Kept Answer) (a : Answer) (gs : List Grant)
        → framing (second_slot translator p ev o a) gs ≡ framing (second_slot translator p ev o a) []
    unfolding second_slot interpret finished store_all
    second_slot_lem p ev o (Ok q) gs = rw (store_none gs)
    second_slot_lem p ev o (Err f) gs = (fresh_final (with_stop NoFrame c) none).fresh o.mem o.buffer gs

    first_slot_lem : (va : ℕ) (o : Outcome Kept Answer) (a : Answer) (gs : List Grant)
        → framing (first_slot translator k.space va o a) gs ≡ framing (first_slot translator k.space va o a) []
    unfolding first_slot
    first_slot_lem va o (Ok p) gs =
        let t = translator.translate k.space (slot va) o.mem o.buffer in
        second_slot_lem p o.events t t.answer gs
    first_slot_lem va o (Err f) gs = (fresh_final (with_stop NoFrame c) none).fresh o.mem o.buffer gs

    -- of any number
    pub fresh_deliver : Fresh (deliver_tree c left code pc)
    unfolding deliver_tree interpret answered finished
    fresh_deliver = record {
      fresh = λ m es gs.
          let o = translator.translate k.space (slot (difference (kernel_sp c) 8)) m es in
          first_slot_lem (difference (kernel_sp c) 16) o o.answer gs;
    }

  -- every shape of tree
  pub fresh_shapes : (size console_size : ℕ) → Shapes size console_size Fresh (λ c. Unit {0})
  fresh_shapes size console_size = record {
    on_fault = λ c address g. tt;
    on_moved = λ c g. tt;
    waits = λ c g. fresh_final _ none;
    masks = λ c g. fresh_final _ none;
    computes = λ c op g. fresh_final _ none;
    returns = λ c code pc g. fresh_final _ none;
    fills = λ c g. fresh_final _ none;
    prints = λ c g e. fresh_final _ _;
    directs = λ c g e. fresh_final _ _;
    pages = λ c g. fresh_final _ _;
    delivers = λ c code pc g. fresh_deliver c c.clock.pending _ pc;
    reads = λ h. fresh_read 4 _ _ h;
  }
