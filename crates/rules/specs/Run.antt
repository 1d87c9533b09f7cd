-- Document 01, "Numbers returned": a run's refusals, and a run.
use Rattle.std.specs.Prelude.{ℕ, zero, suc, ◌%◌, ◌^◌, Bool, true, false, ◌&&◌, List, [], ◌∷◌, length, eqb, ltb, leb, if◌then◌else◌, Result, Ok, Err}
use Rattle.memory.specs.Memory.{size_ok}
use Rattle.paging.specs.Translate.{Translator}
use Rattle.rules.specs.declared.Cpu.{Cpu}
use Rattle.rules.specs.declared.Key.{Key}
use Rattle.rules.specs.declared.RunRefusal.{RunRefusal}
use Rattle.rules.specs.declared.RunRefusal.TheVariants.{BadSize, BadRegisters, BadBuffer, BadKeys, BadConsole, BadBudget}
use Rattle.rules.specs.Record.{is_running}
use Rattle.rules.specs.Step.{State, Stepped, step}

-- the numbers of the answers
abbrev pub run_number : Result Unit RunRefusal → ℕ
run_number (Ok tt) = 0
run_number (Err BadSize) = 1
run_number (Err BadRegisters) = 2
run_number (Err BadBuffer) = 3
run_number (Err BadKeys) = 4
run_number (Err BadConsole) = 5
run_number (Err BadBudget) = 6

-- ---- the refusals: 1 is `size_ok`, 3 the translator's `accepts`

-- 2: "pc or ivec no multiple of 4; sp, usp or ksp no multiple of 8; pdir no multiple of 4,096 or not below M; step count 2^63 or more"
unfoldable pub registers_ok : ℕ → Cpu → Bool
registers_ok size c =
    eqb (c.regs.pc % 4) 0
    && eqb (c.system.ivec % 4) 0
    && eqb (c.regs.sp % 8) 0
    && eqb (c.system.usp % 8) 0
    && eqb (c.system.ksp % 8) 0
    && eqb (c.space.pdir % 4096) 0
    && ltb c.space.pdir size
    && ltb c.regs.count (2 ^ 63)

-- no step number of the list, after one of n, falls
unfoldable pub keys_rise : ℕ → List Key → Bool
keys_rise n [] = true
keys_rise n (key ∷ ks) = leb n key.step && keys_rise key.step ks

-- 4: "key step numbers ever fall, or keys taken exceed the list"
unfoldable pub keys_ok : List Key → ℕ → Bool
unfolding keys_rise
keys_ok ks taken = keys_rise 0 ks && leb taken (length ks)

-- 5: "console count exceeds the lent console"
abbrev pub console_ok : ℕ → List ℕ → Bool
console_ok written con = leb written (length con)

-- 6: "budget above 1,000,000"
abbrev pub budget_ok : ℕ → Bool
budget_ok budget = leb budget 1000000

-- "lower number wins"
abbrev pub first_refusal : (size registers buffer keys console budget : Bool) → Result Unit RunRefusal
first_refusal size registers buffer keys console budget =
    if size
    then (if registers
    then (if buffer then (if keys then (if console then (if budget then Ok tt else Err BadBudget) else Err BadConsole) else Err BadKeys) else Err BadBuffer)
    else Err BadRegisters)
    else Err BadSize

abbrev pub is_accepted : Result Unit RunRefusal → Bool
is_accepted (Ok tt) = true
is_accepted (Err e) = false

module _ {B : Type 0} (tr : Translator B) where
  unfoldable pub run_answer : List Key → ℕ → State B → Result Unit RunRefusal
  run_answer ks budget s =
      first_refusal (size_ok (length s.mem)) (registers_ok (length s.mem) s.cpu) (tr.accepts (length s.mem) s.buffer)
      (keys_ok ks s.cpu.clock.taken) (console_ok s.cpu.written s.console) (budget_ok budget)

  -- "it steps until the budget is used or the machine stops": the states after each step, with their events
  unfoldable pub steps_of : List Key → ℕ → State B → List (Stepped B)
  steps_of ks zero s = []
  steps_of ks (suc n) s =
      let t = step tr ks s in
      let ts = t ∷ steps_of ks n t.state in
      if is_running s.cpu.stop then ts else []

-- the state in which a run ends: its last, or where it began
unfoldable pub last_of : {B : Type 0} → State B → List (Stepped B) → State B
last_of s [] = s
last_of s (t ∷ ts) = last_of t.state ts

-- a run: the answer, the steps made, and the state at the end; the reported steps (document 01's term) are the steps' number
pub record Ran (B : Type 0) : Type 0 where
  pub answer : Result Unit RunRefusal
  pub steps : List (Stepped B)
  pub state : State B

abbrev pub ran : {B : Type 0} → Result Unit RunRefusal → State B → List (Stepped B) → Ran B
ran a s ts = record { answer = a; steps = ts; state = last_of s ts }

abbrev pub reported : {B : Type 0} → Ran B → ℕ
reported r = length r.steps

-- the budget of a refused run is not used
abbrev pub allowance : Result Unit RunRefusal → ℕ → ℕ
allowance a budget = if is_accepted a then budget else 0

unfoldable pub run : {B : Type 0} → Translator B → List Key → ℕ → State B → Ran B
unfolding run_answer steps_of last_of
run tr ks budget s = ran (run_answer tr ks budget s) s (steps_of tr ks (allowance (run_answer tr ks budget s) budget) s)
