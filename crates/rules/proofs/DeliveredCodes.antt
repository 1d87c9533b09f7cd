-- Document 01, "Traps": what a step delivers, if anything, is one of the trap codes; the mark of user mode is added where the code is stored.
use Rattle.std.proofs.Common.{Option}
use Prim.Native.Nat.{ℕ}
use mathlib.Core.Path.{◌≡◌, refl}
use Rattle.paging.specs.declared.TrapCode.{TrapCode}
use Rattle.paging.specs.TrapCode.{code_number}
use Rattle.rules.specs.declared.Key.{Key}
use Rattle.rules.specs.declared.Cpu.{Cpu}
use Rattle.rules.specs.declared.Pending.{Pending}
use Rattle.rules.specs.Tree.{Reply, got, denied}
use Rattle.rules.specs.Trap.{Effect, none as nothing, set_space, deliver, print, framed, deliver_tree}
use Rattle.rules.specs.Clock.{due_of, ticked}
use Rattle.rules.specs.Step.{awake, step_tree}
use Rattle.rules.proofs.Leaves.{Leaves, at_leaf, at_ask, leaves_all}
use Rattle.rules.proofs.StepTree.{Shapes, every_step}

-- a number that is a trap code's
pub record IsCode (n : ℕ) : Type 0 where
  pub code : TrapCode
  pub is : n ≡ code_number code

-- an effect that, where it delivers a frame, is of a trap code
unfoldable pub DeliversCode : Effect → Type 0
DeliversCode nothing = Unit {0}
DeliversCode (set_space s) = Unit {0}
DeliversCode (deliver n) = IsCode n
DeliversCode (print x) = Unit {0}

is_code : (code : TrapCode) → IsCode (code_number code)
is_code code = record { code = code; is = refl }

-- a frame, stored or not
frame_code : (c : Cpu) (left : Pending) (n pc : ℕ) → IsCode n → (r : Reply) → Leaves (λ f. DeliversCode f.effect) (framed c left n pc r)
unfolding DeliversCode
frame_code c left n pc i (got x) = at_leaf i
frame_code c left n pc i (denied f) = at_leaf tt

delivery_code : (c : Cpu) (left : Pending) (n pc : ℕ) → IsCode n → Leaves (λ f. DeliversCode f.effect) (deliver_tree c left n pc)
unfolding deliver_tree
delivery_code c left n pc i = at_ask (frame_code c left n pc i)

codes : (size console_size : ℕ) → Shapes size console_size (Leaves (λ f. DeliversCode f.effect)) (λ c. Unit {0})
unfolding DeliversCode
codes size console_size = record {
  on_fault = λ c f g. tt;
  on_moved = λ c g. tt;
  waits = λ c g. at_leaf tt;
  masks = λ c g. at_leaf tt;
  computes = λ c op g. at_leaf tt;
  returns = λ c code pc g. at_leaf tt;
  fills = λ c g. at_leaf tt;
  prints = λ c g e. at_leaf tt;
  directs = λ c g e. at_leaf tt;
  pages = λ c g. at_leaf tt;
  delivers = λ c code pc g. delivery_code c c.clock.pending (code_number code) pc (is_code code);
  reads = λ l. at_ask l;
}

-- a whole step
pub step_code : (k : Option Key) (size console_size : ℕ) (c : Cpu) → Leaves (λ f. DeliversCode f.effect) (step_tree k size console_size c)
unfolding step_tree DeliversCode
step_code k size console_size c =
    every_step (λ o. Unit {0}) (codes size console_size) (λ c' r vs g o. tt) (λ c' r v vs g o. tt) (due_of (ticked k c)) (ticked k c) tt
    (λ i e. delivery_code (awake (ticked k c)) _ _ _ (is_code _)) (leaves_all _)
