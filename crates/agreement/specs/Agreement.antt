-- Demand 3, the statement. Document 01, "The table reader": the machine with the page buffer agrees with the table reader over any list of runs,
-- through the first store of demand 3's kind. It assumes nothing but that both start alike, the buffer empty.
use Rattle.std.specs.Prelude.{ℕ, ◌≡◌, true, false, List, [], ◌∷◌, MatchBool}
use Rattle.paging.specs.Event.{Words}
use Rattle.paging.specs.Held.{held_after, stores_held}
use Rattle.paging.specs.Translate.{Translator, buffered, reader}
use Rattle.rules.specs.declared.Cpu.{Cpu}
use Rattle.rules.specs.declared.Key.{Key}
use Rattle.rules.specs.Step.{State, Stepped}
use Rattle.rules.specs.Run.{run_number, Ran, reported, run}

-- what each run is given
pub record Input : Type 0 where
  pub keys : List Key
  pub budget : ℕ

-- what is known of a run: its answer number, its reported steps, the state after every step, and the state at the end
pub record Transcript (B : Type 0) : Type 0 where
  pub answer : ℕ
  pub reported : ℕ
  pub steps : List (Stepped B)
  pub last : State B

abbrev pub transcript : {B : Type 0} → Ran B → Transcript B
transcript r = record { answer = run_number r.answer; reported = reported r; steps = r.steps; last = r.state }

-- the runs one after another, each from the state in which the one before it ended
unfoldable pub transcripts : {B : Type 0} → Translator B → List Input → State B → List (Transcript B)
transcripts tr [] s = []
transcripts tr (i ∷ is) s =
    let r = run tr i.keys i.budget s in
    transcript r ∷ transcripts tr is r.state

-- ---- the comparison

-- what is compared of a state: the record without the buffer (numbers, flags, step count, keys taken, stop reason, console count), memory, console
pub record Shown : Type 0 where
  pub cpu : Cpu
  pub mem : List ℕ
  pub console : List ℕ

abbrev pub shown : {B : Type 0} → State B → Shown
shown s = record { cpu = s.cpu; mem = s.mem; console = s.console }

-- a claim that is made if no step follows
abbrev pub IfLast : {B : Type 0} → List (Stepped B) → Type 0 → Type 0
IfLast [] E = E
IfLast (t ∷ ts) E = Unit

-- step by step, through the first with a store of demand 3's kind: there E is claimed if the run ends with it. Without such a step the run goes on to
-- its end, and `Rest` is claimed of what is held then
abbrev pub AgreeSteps : {B C : Type 0} → List Words → List (Stepped B) → List (Stepped C) → (Rest : List Words → Type 0) → (E : Type 0) → Type 0
AgreeSteps hs [] [] Rest E = Rest hs
AgreeSteps hs [] (t ∷ ts) Rest E = ⊥
AgreeSteps hs (b ∷ bs) [] Rest E = ⊥
AgreeSteps hs (b ∷ bs) (t ∷ ts) Rest E =
    (shown b.state ≡ shown t.state)
    × MatchBool (stores_held hs b.events) (IfLast bs E) (AgreeSteps (held_after hs b.events) bs ts Rest E)

-- run by run: the answers; the steps; then reported steps, the states at the end, and the runs that follow
abbrev pub Agree : {B C : Type 0} → List Words → List (Transcript B) → List (Transcript C) → Type 0
Agree hs [] [] = Unit
Agree hs [] (t ∷ ts) = ⊥
Agree hs (b ∷ bs) [] = ⊥
Agree hs (b ∷ bs) (t ∷ ts) =
    (b.answer ≡ t.answer)
    × AgreeSteps hs b.steps t.steps (λ held. (b.reported ≡ t.reported) × ((shown b.last ≡ shown t.last) × Agree held bs ts))
    (b.reported ≡ t.reported)

abbrev pub started : {B : Type 0} → Shown → B → State B
started s b = record { cpu = s.cpu; mem = s.mem; console = s.console; buffer = b }

-- demand 3: for every memory, console and record with an empty buffer, and every list of runs
unfoldable pub Demand3 : Type 0
Demand3 = (start : Shown) (runs : List Input) → Agree [] (transcripts buffered runs (started start [])) (transcripts reader runs (started start tt))
