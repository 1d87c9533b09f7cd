-- Document 02, item 6, "a run without PDIR or SPAG": the step in which one took effect. One that faults, or is refused for privilege, empties nothing.
use Rattle.std.specs.Prelude.{ℕ, zero, suc, Bool, true, false, ◌||◌, List, [], length, if◌then◌else◌}
use Rattle.paging.specs.Translate.{Translator}
use Rattle.rules.specs.declared.Key.{Key}
use Rattle.rules.specs.Record.{is_running}
use Rattle.rules.specs.Tree.{Ended, interpret}
use Rattle.rules.specs.Trap.{Effect, none, set_space, deliver, print, Final}
use Rattle.rules.specs.Clock.{next_of}
use Rattle.rules.specs.Step.{step_tree, State, step}

-- where the tree of a step ends
abbrev pub step_end : {B : Type 0} → Translator B → List Key → State B → Ended B Final
step_end tr ks s =
    interpret tr s.cpu.space s.cpu.system.user (step_tree (next_of ks s.cpu.clock.taken) (length s.mem) (length s.console) s.cpu) s.mem s.buffer []

-- only PDIR and SPAG have this effect
abbrev pub sets_space : Effect → Bool
sets_space none = false
sets_space (set_space t) = true
sets_space (deliver code) = false
sets_space (print x) = false

-- one took effect in a step of a run
unfoldable pub set_in_steps : {B : Type 0} → Translator B → List Key → ℕ → State B → Bool
set_in_steps tr ks zero s = false
set_in_steps tr ks (suc n) s =
    if is_running s.cpu.stop then sets_space (step_end tr ks s).leaf.effect || set_in_steps tr ks n (step tr ks s).state else false
