-- Document 02, item 4, for any translator, so for both machines: a denied fetch or operand access sets vadr and the cause, wherever its trap ends (`fault_sets`); every
-- other trap keeps both, and so does a refused slot of any frame (`trap_keeps`, `delivery_keeps`); in a step both are kept or both are set (`fault_after`).
use Rattle.std.proofs.Common.{Option}
use Prim.Native.Nat.{ℕ}
use mathlib.Core.List.{List, []}
use mathlib.Core.Path.{◌≡◌, refl, ◌∙◌}
use lib.ListN.{length}
use Rattle.paging.specs.declared.Fault.{Fault}
use Rattle.paging.specs.TrapCode.{code_number}
use Rattle.paging.specs.Translate.{Translator}
use Rattle.rules.specs.declared.Cpu.{Cpu}
use Rattle.rules.specs.declared.Key.{Key}
use Rattle.rules.specs.declared.Pending.{Pending}
use Rattle.rules.specs.Record.{with_fault}
use Rattle.rules.specs.Tree.{Reply, got, denied, Tree, Ended, interpret}
use Rattle.rules.specs.Trap.{Final, framed, deliver_tree, trap_tree, fault_tree}
use Rattle.rules.specs.Clock.{next_of, ticked, due_of}
use Rattle.rules.specs.Step.{awake, due_tree, State, stepped_by, step}
use Rattle.rules.specs.LastFault.{KeepsFault, HasFault, FaultAfter, kept, set}
use Rattle.rules.proofs.Leaves.{Leaves, at_leaf, at_ask, leaves_all, leaves_if, leaf_at}
use Rattle.rules.proofs.StepTree.{Shapes, every_step}
use Rattle.rules.proofs.Kept.{Kept, computed_keeps, returned_keeps}

abbrev keeps : {c x : Cpu} → x.vadr ≡ c.vadr → x.cause ≡ c.cause → KeepsFault c x
keeps v e = record { vadr = v; cause = e }

-- ---- a trap

-- a frame, stored or not: "a refused slot doesn't set vadr"
frame_keeps : (c : Cpu) (left : Pending) (code pc : ℕ) (r : Reply) → Leaves (λ f. KeepsFault c f.cpu) (framed c left code pc r)
frame_keeps c left code pc (got v) = at_leaf (keeps refl refl)
frame_keeps c left code pc (denied f) = at_leaf (keeps refl refl)

-- of interrupts too
pub delivery_keeps : (c : Cpu) (left : Pending) (code pc : ℕ) → Leaves (λ f. KeepsFault c f.cpu) (deliver_tree c left code pc)
unfolding deliver_tree
delivery_keeps c left code pc = at_ask (frame_keeps c left code pc)

-- FPRIV, FINST, FSYS and FARITH, delivered or not
pub trap_keeps : (c : Cpu) (code pc : ℕ) → Leaves (λ f. KeepsFault c f.cpu) (trap_tree c code pc)
unfolding trap_tree
trap_keeps c code pc = leaves_if c.system.iena (delivery_keeps c c.clock.pending code pc) (at_leaf (keeps refl refl))

-- a fault of the fetch, of an operand access or of PDIR, delivered or not
pub fault_sets : (c : Cpu) (f : Fault) (pc : ℕ) → Leaves (λ x. HasFault f x.cpu) (fault_tree c f pc)
unfolding fault_tree
fault_sets c f pc = go (trap_keeps (with_fault f c) (code_number f.code) pc)
  where
    go : {t : Tree Final} → Leaves (λ x. KeepsFault (with_fault f c) x.cpu) t → Leaves (λ x. HasFault f x.cpu) t
    go (at_leaf k) = at_leaf (record { vadr = k.vadr; cause = k.cause })
    go (at_ask l) = at_ask (λ r. go (l r))

-- ---- a step

module _ (c : Cpu) where
  -- what was kept or set before may be kept once more
  after_then : {x y : Cpu} → FaultAfter c x → KeepsFault x y → FaultAfter c y
  after_then (kept k) l = kept (keeps (l.vadr ∙ k.vadr) (l.cause ∙ k.cause))
  after_then (set f h) l = set f (record { vadr = l.vadr ∙ h.vadr; cause = l.cause ∙ h.cause })

  after_kept : {x y : Cpu} → FaultAfter c x → Kept x y → FaultAfter c y
  after_kept g k = after_then g (keeps k.vadr k.cause)

  leaves_after : {x : Cpu} {t : Tree Final} → FaultAfter c x → Leaves (λ f. KeepsFault x f.cpu) t → Leaves (λ f. FaultAfter c f.cpu) t
  leaves_after g (at_leaf k) = at_leaf (after_then g k)
  leaves_after g (at_ask l) = at_ask (λ r. leaves_after g (l r))

  keeping : (size console_size : ℕ) → Shapes size console_size (Leaves (λ f. FaultAfter c f.cpu)) (FaultAfter c)
  keeping size console_size = record {
    on_fault = λ x f g. set f (record { vadr = refl; cause = refl });
    on_moved = λ x g. after_then g (keeps refl refl);
    waits = λ x g. at_leaf g;
    masks = λ x g. at_leaf (after_then g (keeps refl refl));
    computes = λ x op g. at_leaf (after_kept g (computed_keeps size op x));
    returns = λ x code pc g. at_leaf (after_kept g (returned_keeps x code pc));
    fills = λ x g. at_leaf (after_then g (keeps refl refl));
    prints = λ x g e. at_leaf (after_then g (keeps refl refl));
    directs = λ x g e. at_leaf (after_then g (keeps refl refl));
    pages = λ x g. at_leaf (after_then g (keeps refl refl));
    delivers = λ x code pc g. leaves_after g (delivery_keeps x x.clock.pending _ pc);
    reads = λ l. at_ask l;
  }

  every_fault_after : (size console_size : ℕ) → Leaves (λ f. FaultAfter c f.cpu) (due_tree (due_of c) size console_size c)
  every_fault_after size console_size =
      every_step (λ o. Unit {0}) (keeping size console_size) (λ x r vs g o. after_then g (keeps refl refl)) (λ x r v vs g o. after_then g (keeps refl refl)) (due_of c) c
      (kept (keeps refl refl)) (λ i e. leaves_after (kept (keeps refl refl)) (delivery_keeps (awake c) _ _ _)) (leaves_all _)

-- rules 1 to 3 keep both
from_clocked : {x : Cpu} (next : Option Key) (c : Cpu) → FaultAfter (ticked next c) x → FaultAfter c x
unfolding ticked
from_clocked next c (kept k) = kept (keeps k.vadr k.cause)
from_clocked next c (set f h) = set f h

-- and so does what follows the step's tree: the count, the address space and the console
to_stepped : {B : Type 0} (translator : Translator B) (c t : Cpu) (con : List ℕ) (e : Ended B Final) → FaultAfter t e.leaf.cpu
    → FaultAfter t (stepped_by translator c con e).state.cpu
unfolding stepped_by
to_stepped translator c t con e (kept k) = kept (keeps k.vadr k.cause)
to_stepped translator c t con e (set f h) = set f (record { vadr = h.vadr; cause = h.cause })

module _ {B : Type 0} (translator : Translator B) (ks : List Key) (s : State B) where
  -- the record after rules 1 to 3
  abbrev clocked : Cpu
  clocked = ticked (next_of ks s.cpu.clock.taken) s.cpu

  -- the end of the step's tree
  abbrev end : Ended B Final
  end =
      interpret translator s.cpu.space s.cpu.system.user (due_tree (due_of clocked) (length s.mem) (length s.console) clocked) s.mem s.buffer []

  -- a step of any machine
  pub fault_after : FaultAfter s.cpu (step translator ks s).state.cpu
  unfolding step
  fault_after =
      let l = every_fault_after clocked (length s.mem) (length s.console) in
      from_clocked (next_of ks s.cpu.clock.taken) s.cpu
      (to_stepped translator s.cpu clocked s.console end (leaf_at translator s.cpu.space s.cpu.system.user l s.mem s.buffer []))
