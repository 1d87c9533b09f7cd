-- Document 01, "How much a contract says": what equal views of two records tell: every number and flag, the count of entries, and the counted
-- entries are the same; free are the slots past the count.
use Prim.Native.Nat.{ℕ}
use mathlib.Core.Path.{◌≡◌, sym, ◌∙◌, ap}
use mathlib.Core.List.{List}
use lib.ListN.{length}
use Rattle.paging.specs.declared.Entry.{Entry}
use Rattle.rules.specs.declared.Machine.{Machine}
use Rattle.rules.specs.Step.{State}
use Rattle.refusals.specs.View.{entries_of, view_of}
use Rattle.refusals.proofs.Slots.{first_length}

pub record SameView (x y : Machine) (mem con mem' con' : List ℕ) : Type 0 where
  pub cpu : x.cpu ≡ y.cpu
  pub held : x.held ≡ y.held
  pub entries : entries_of x ≡ entries_of y
  pub memory : mem ≡ mem'
  pub console : con ≡ con'

pub same_view : (x y : Machine) (mem con mem' con' : List ℕ) → view_of x mem con ≡ view_of y mem' con' → SameView x y mem con mem' con'
same_view x y mem con mem' con' e =
    let b : entries_of x ≡ entries_of y = ap (λ (s : State (List Entry)). s.buffer) e in
    record {
      cpu = ap (λ (s : State (List Entry)). s.cpu) e;
      held = sym (first_length x.held x.entries) ∙ ap (λ (es : List Entry). length es) b ∙ first_length y.held y.entries;
      entries = b;
      memory = ap (λ (s : State (List Entry)). s.mem) e;
      console = ap (λ (s : State (List Entry)). s.console) e;
    }
