-- Document 01, "The table reader" and "How much a contract says": what the comparison of demand 3 refuses. Two lists of runs that differ in one part of
-- one run do not agree, where the first makes no store of demand 3's kind: in the answer; in the reported steps; in the state after a step; in the state at
-- the end. A state differs by a byte of memory, by a byte of the console, past the count too, by any number of the record, by the keys taken, by the console count.
use Prim.Native.Nat.{ℕ, ◌<◌}
use mathlib.Core.Path.{◌≡◌, refl, ap, ◌∙◌}
use mathlib.Core.Logic.{◌≢◌}
use mathlib.Core.Bool.{false}
use mathlib.Core.List.{List, [], ◌∷◌, ◌++◌, map, head-eq_of_cons-eq, tail-eq_of_cons-eq}
use lib.ListN.{length, get_or, set}
use lib.Seq.{get_or-set_same}
use Rattle.paging.specs.Event.{Event, Words}
use Rattle.paging.specs.Held.{held_after, stores_held}
use Rattle.word.proofs.BoolLaws.{neither}
use Rattle.rules.specs.declared.Cpu.{Cpu}
use Rattle.rules.specs.Numbers.{numbers_of}
use Rattle.rules.specs.Step.{State, Stepped}
use Rattle.agreement.specs.Agreement.{Transcript, shown, AgreeSteps, Agree}
use Rattle.agreement.proofs.Comparison.{held_through, stores_through}
use Rattle.agreement.proofs.EqualTranscripts.{stores_in_runs, compared, runs_equal}

-- ---- a run, and a state, with one part put in place

module _ {B : Type 0} where
  -- the answer
  abbrev pub with_answer : ℕ → Transcript B → Transcript B
  with_answer a t = record { answer = a; reported = t.reported; steps = t.steps; last = t.last }

  -- the reported steps
  abbrev pub with_reported : ℕ → Transcript B → Transcript B
  with_reported n t = record { answer = t.answer; reported = n; steps = t.steps; last = t.last }

  -- among the steps, after xs and before ys, one with the events es that comes to s
  abbrev pub with_step : List (Stepped B) → List Event → List (Stepped B) → Transcript B → State B → Transcript B
  with_step xs es ys t s = record { answer = t.answer; reported = t.reported; steps = xs ++ record { state = s; events = es } ∷ ys; last = t.last }

  -- the state at the end
  abbrev pub with_end : Transcript B → State B → Transcript B
  with_end t s = record { answer = t.answer; reported = t.reported; steps = t.steps; last = s }

  -- the record of a state
  abbrev pub with_cpu : Cpu → State B → State B
  with_cpu c s = record { cpu = c; mem = s.mem; console = s.console; buffer = s.buffer }

  -- a byte of memory
  abbrev pub with_byte : ℕ → ℕ → State B → State B
  with_byte a x s = record { cpu = s.cpu; mem = set s.mem a x; console = s.console; buffer = s.buffer }

  -- a byte of the console
  abbrev pub with_output : ℕ → ℕ → State B → State B
  with_output a x s = record { cpu = s.cpu; mem = s.mem; console = set s.console a x; buffer = s.buffer }

-- ---- one item of a list

-- two lists that are the same but for one item, compared by f
item_equal : {A C : Type 0} (f : A → C) (before later : List A) (x y : A) → map f (before ++ x ∷ later) ≡ map f (before ++ y ∷ later) → f x ≡ f y
item_equal f [] later x y e = head-eq_of_cons-eq e
item_equal f (z ∷ before) later x y e = item_equal f before later x y (tail-eq_of_cons-eq e)

module _ {B : Type 0} (before later : List (Transcript B)) where
  -- a list of runs that has t in this place
  abbrev pub runs_with : Transcript B → List (Transcript B)
  runs_with t = before ++ t ∷ later

  -- they make no store of demand 3's kind
  abbrev pub WithoutStore : Transcript B → Type 0
  WithoutStore t = stores_in_runs [] (runs_with t) ≡ false

  -- with u in the place of t the runs do not agree
  abbrev pub Disagree : Transcript B → Transcript B → Type 0
  Disagree t u = Agree [] (runs_with t) (runs_with u) → ⊥

  -- what agreement gives here: all that is compared of the two runs is equal
  pub run_equal : (t u : Transcript B) → WithoutStore t → Agree [] (runs_with t) (runs_with u) → compared t ≡ compared u
  run_equal t u q a = item_equal compared before later t u (runs_equal [] (runs_with t) (runs_with u) a q)

  -- ---- the differences

  -- in an answer
  pub answers_differ : (t : Transcript B) (a : ℕ) → WithoutStore t → t.answer ≢ a → Disagree t (with_answer a t)
  answers_differ t a q h g = h (ap (λ c. c.answer) (run_equal t (with_answer a t) q g))

  -- in reported steps
  pub reported_differ : (t : Transcript B) (n : ℕ) → WithoutStore t → t.reported ≢ n → Disagree t (with_reported n t)
  reported_differ t n q h g = h (ap (λ c. c.reported) (run_equal t (with_reported n t) q g))

  -- a place in a run, where a state is put: it is compared
  abbrev pub Seen : (State B → Transcript B) → Type 0
  Seen put = (s u : State B) → compared (put s) ≡ compared (put u) → shown s ≡ shown u

  -- after any step
  pub middle_seen : (xs : List (Stepped B)) (es : List Event) (ys : List (Stepped B)) (t : Transcript B) → Seen (with_step xs es ys t)
  middle_seen xs es ys t s u e =
      item_equal (λ t. shown t.state) xs ys (record { state = s; events = es }) (record { state = u; events = es }) (ap (λ c. c.states) e)

  -- at the end
  pub end_seen : (t : Transcript B) → Seen (with_end t)
  end_seen t s u e = ap (λ c. c.last) e

  -- in a state, in the middle (middle-seen) or at the end (end_seen)
  module _ (put : State B → Transcript B) (seen : Seen put) (s : State B) (q : WithoutStore (put s)) where
    -- in any part of it
    pub states_differ : (u : State B) → shown s ≢ shown u → Disagree (put s) (put u)
    states_differ u h g = h (seen s u (run_equal (put s) (put u) q g))

    -- in a memory byte
    pub memory_differs : (a x : ℕ) → a < length s.mem → get_or s.mem a 0 ≢ x → Disagree (put s) (put (with_byte a x s))
    memory_differs a x l h = states_differ (with_byte a x s) (λ e. h (ap (λ c. get_or c.mem a 0) e ∙ get_or-set_same s.mem a x 0 l))

    -- in a console byte, past the count too
    pub console_differs : (a x : ℕ) → a < length s.console → get_or s.console a 0 ≢ x → Disagree (put s) (put (with_output a x s))
    console_differs a x l h = states_differ (with_output a x s) (λ e. h (ap (λ c. get_or c.console a 0) e ∙ get_or-set_same s.console a x 0 l))

    -- in anything that is told of the record
    pub record_differs : {A : Type 0} (told : Cpu → A) (c : Cpu) → told s.cpu ≢ told c → Disagree (put s) (put (with_cpu c s))
    record_differs told c h = states_differ (with_cpu c s) (λ e. h (ap (λ x. told x.cpu) e))

    -- in a register: any of the record's numbers, its flags, stop reason and step count among them
    pub register_differs : (i : ℕ) (c : Cpu) → get_or (numbers_of s.cpu) i 0 ≢ get_or (numbers_of c) i 0 → Disagree (put s) (put (with_cpu c s))
    register_differs i = record_differs (λ c. get_or (numbers_of c) i 0)

    -- in keys taken
    pub taken_differ : (c : Cpu) → s.cpu.clock.taken ≢ c.clock.taken → Disagree (put s) (put (with_cpu c s))
    taken_differ = record_differs (λ c. c.clock.taken)

    -- in the console count
    pub written_differs : (c : Cpu) → s.cpu.written ≢ c.written → Disagree (put s) (put (with_cpu c s))
    written_differs = record_differs (λ c. c.written)

  -- in a state in the middle: the step after xs
  pub middle_differs : (xs : List (Stepped B)) (es : List Event) (ys : List (Stepped B)) (t : Transcript B) (s u : State B) → WithoutStore (with_step xs es ys t s)
      → shown s ≢ shown u → Disagree (with_step xs es ys t s) (with_step xs es ys t u)
  middle_differs xs es ys t s u q = states_differ (with_step xs es ys t) (middle_seen xs es ys t) s q u

  -- in the state at the end
  pub end_differs : (t : Transcript B) (s u : State B) → WithoutStore (with_end t s) → shown s ≢ shown u → Disagree (with_end t s) (with_end t u)
  end_differs t s u q = states_differ (with_end t) (end_seen t) s q u

-- ---- without a difference

-- steps agree with themselves
itself_steps : {B : Type 0} (Rest : List Words → Type 0) (E : Type 0) (hs : List Words) (ts : List (Stepped B)) → stores_through hs ts ≡ false → Rest (held_through hs ts)
    → AgreeSteps hs ts ts Rest E
itself_steps Rest E hs [] q rest = rest
itself_steps Rest E hs (t ∷ ts) q rest =
    let n = neither (stores_held hs t.events) (stores_through (held_after hs t.events) ts) q in
    (refl, rw n.0 (itself_steps Rest E (held_after hs t.events) ts n.1 rest))

-- a list of runs agrees with itself
pub itself_agrees : {B : Type 0} (hs : List Words) (ts : List (Transcript B)) → stores_in_runs hs ts ≡ false → Agree hs ts ts
itself_agrees hs [] q = tt
itself_agrees hs (t ∷ ts) q =
    let n = neither (stores_through hs t.steps) (stores_in_runs (held_through hs t.steps) ts) q in
    (refl, itself_steps _ _ hs t.steps n.0 (refl, (refl, itself_agrees (held_through hs t.steps) ts n.1)))
