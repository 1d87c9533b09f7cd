-- Document 02, item 1: the words of its laws (proofs/PendingLaws.antt, NoneLost.antt).
use Rattle.std.specs.Prelude.{Bool, true, false, List, [], ◌∷◌, ◌++◌, ◌≡◌, Option, Some}
use Rattle.paging.specs.Event.{Event, delivered}
use Rattle.paging.specs.TrapCode.{code_number}
use Rattle.rules.specs.declared.Key.{Key}
use Rattle.rules.specs.declared.Cpu.{Cpu}
use Rattle.rules.specs.declared.Interrupt.{Interrupt}
use Rattle.rules.specs.declared.Interrupt.TheVariants.{Keyboard, Timer}
use Rattle.rules.specs.declared.Pending.{Pending}
use Rattle.rules.specs.declared.Stop.TheVariants.{NoFrame}
use Rattle.rules.specs.Clock.{key_comes, timer_fires, interrupt_code, due_of}
use Rattle.rules.specs.Step.{Stepped}
use Rattle.rules.specs.Run.{Ran}

-- "a key or timer event", in the step from c
abbrev pub happens : Interrupt → Option Key → Cpu → Bool
happens Keyboard next c = key_comes next c
happens Timer next c = timer_fires c.clock

-- "its mark"
abbrev pub is_pending : Interrupt → Pending → Bool
is_pending Keyboard p = p.key
is_pending Timer p = p.timer

abbrev pub pending_of : Interrupt → Cpu → Bool
pending_of i c = is_pending i c.clock.pending

module _ {B : Type 0} (i : Interrupt) where
  -- "its delivery": the last event of the step
  pub record Delivered (r : Stepped B) : Type 0 where
    pub earlier : List Event
    pub last : r.events ≡ earlier ++ delivered (code_number (interrupt_code i)) ∷ []

  -- a mark after a step, where c is the record after rules 1 to 3: as it was, or the interrupt was due, is delivered, and the mark is clear
  pub data PendingAfter (c : Cpu) (r : Stepped B) : Type 0 where
    kept : pending_of i r.state.cpu ≡ pending_of i c → PendingAfter c r
    clear : due_of c ≡ Some i → Delivered r → pending_of i r.state.cpu ≡ false → PendingAfter c r

  -- an interrupt that was due is delivered, or the machine stopped with 3: "a stop with 3 keeps it"
  pub data DueAfter (r : Stepped B) : Type 0 where
    delivers : Delivered r → pending_of i r.state.cpu ≡ false → DueAfter r
    stops : r.state.cpu.stop ≡ NoFrame → pending_of i r.state.cpu ≡ true → DueAfter r

  -- it is delivered in one of these steps
  pub data DeliveredIn : List (Stepped B) → Type 0 where
    here : {r : Stepped B} {rs : List (Stepped B)} → Delivered r → DeliveredIn (r ∷ rs)
    later : {r : Stepped B} {rs : List (Stepped B)} → DeliveredIn rs → DeliveredIn (r ∷ rs)

  -- it is not lost over a run: delivered in one of its steps, or pending at its end
  pub data NotLost (r : Ran B) : Type 0 where
    in_time : DeliveredIn r.steps → NotLost r
    at_end : pending_of i r.state.cpu ≡ true → NotLost r
