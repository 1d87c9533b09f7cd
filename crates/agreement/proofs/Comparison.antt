-- What demand 3's statement takes in, each by a law that a weaker statement breaks: every state is a start, and all of it but the buffer is compared; each run
-- gets its own keys and budget; the comparison has the first step with a store of demand 3's kind in it, and the reported steps where the run ends there.
use Rattle.std.proofs.Common.{if◌then◌else◌}
use Prim.Native.Nat.{ℕ}
use mathlib.Core.Path.{◌≡◌, refl}
use mathlib.Core.Bool.{Bool, true, false, ◌||◌}
use mathlib.Core.List.{List, [], ◌∷◌, ◌++◌, map}
use lib.ListN.{length, take}
use Rattle.paging.specs.Event.{Words}
use Rattle.paging.specs.Held.{held_after, stores_held}
use Rattle.paging.specs.Translate.{Translator, buffered, reader}
use Rattle.word.proofs.BoolLaws.{neither}
use Rattle.rules.specs.declared.Cpu.{Cpu}
use Rattle.rules.specs.Step.{State, Stepped}
use Rattle.rules.specs.Run.{run_number, reported, run}
use Rattle.agreement.specs.Agreement.{Input, Transcript, transcripts, Shown, shown, AgreeSteps, Agree, started, Demand3}

-- ---- the start, and the runs

-- a state is what is compared of it, and its buffer
pub all_compared : {B : Type 0} (s : State B) → started (shown s) s.buffer ≡ s
all_compared s = refl

-- demand 3 is claimed of every record, memory and console, the buffer empty, and of every list of runs
pub every_start : Demand3 → (c : Cpu) (mem con : List ℕ) (runs : List Input)
    → Agree [] (transcripts buffered runs (record { cpu = c; mem = mem; console = con; buffer = [] }))
    (transcripts reader runs (record { cpu = c; mem = mem; console = con; buffer = tt }))
unfolding Demand3
every_start claim c mem con runs = claim (record { cpu = c; mem = mem; console = con }) runs

-- a run has its own keys and budget and begins where the one before it ended; its answer, reported steps, steps and end are known
pub each_run : {B : Type 0} (tr : Translator B) (i : Input) (is : List Input) (s : State B)
    → transcripts tr (i ∷ is) s
    ≡ record {
      answer = run_number (run tr i.keys i.budget s).answer;
      reported = reported (run tr i.keys i.budget s);
      steps = (run tr i.keys i.budget s).steps;
      last = (run tr i.keys i.budget s).state;
    }
    ∷ transcripts tr is (run tr i.keys i.budget s).state
unfolding transcripts
each_run tr i is s = refl

-- ---- one run, through its first step with a store of demand 3's kind

-- what is held after some steps, and whether one of them makes a store of demand 3's kind
abbrev pub held_through : {B : Type 0} → List Words → List (Stepped B) → List Words
held_through hs [] = hs
held_through hs (t ∷ ts) = held_through (held_after hs t.events) ts

abbrev pub stores_through : {B : Type 0} → List Words → List (Stepped B) → Bool
stores_through hs [] = false
stores_through hs (t ∷ ts) = stores_held hs t.events || stores_through (held_after hs t.events) ts

-- the states after some steps
abbrev pub states_of : {B : Type 0} → List (Stepped B) → List Shown
states_of ts = map (λ t. shown t.state) ts

-- the steps through that one
abbrev pub through_store : {B : Type 0} → List Words → List (Stepped B) → List (Stepped B)
through_store hs [] = []
through_store hs (t ∷ ts) = t ∷ (if stores_held hs t.events then [] else through_store (held_after hs t.events) ts)

-- the states after all of them are equal
through_equal : {B C : Type 0} (Rest : List Words → Type 0) (E : Type 0) (hs : List Words) (bs : List (Stepped B)) (ts : List (Stepped C))
    → AgreeSteps hs bs ts Rest E → states_of (through_store hs bs) ≡ take (length (through_store hs bs)) (states_of ts)
through_equal Rest E hs [] [] a = refl
through_equal Rest E hs [] (t ∷ ts) a = absurd a
through_equal Rest E hs (b ∷ bs) [] a = absurd a
through_equal {B} {C} Rest E hs (b ∷ bs) (t ∷ ts) a =
    go (stores_held hs b.events) (λ q. through_equal Rest E (held_after hs b.events) bs ts (rw q at a.1))
  where
    later : List (Stepped B)
    later = through_store (held_after hs b.events) bs

    go : (c : Bool) → (c ≡ false → states_of later ≡ take (length later) (states_of ts))
        → states_of (b ∷ (if c then [] else later))
        ≡ take (length (b ∷ (if c then [] else later))) (states_of (t ∷ ts))
    go true k = rw a.0
    go false k = rw (a.0, k refl)

-- where the run ends with the first such step, E is claimed
last_claimed : {B C : Type 0} (Rest : List Words → Type 0) (E : Type 0) (hs : List Words) (bs : List (Stepped B)) (b : Stepped B) (ts : List (Stepped C))
    → AgreeSteps hs (bs ++ b ∷ []) ts Rest E → stores_through hs bs ≡ false → stores_held (held_through hs bs) b.events ≡ true → E
last_claimed Rest E hs [] b [] a q e = absurd a
last_claimed Rest E hs [] b (t ∷ ts) a q e = rw e at a.1
last_claimed Rest E hs (x ∷ bs) b [] a q e = absurd a
last_claimed Rest E hs (x ∷ bs) b (t ∷ ts) a q e =
    let n = neither (stores_held hs x.events) (stores_through (held_after hs x.events) bs) q in
    last_claimed Rest E (held_after hs x.events) bs b ts (rw n.0 at a.1) n.1 e

-- ---- the same, of a run in a list

module _ {B C : Type 0} (hs : List Words) (b : Transcript B) (bs : List (Transcript B)) (t : Transcript C) (ts : List (Transcript C)) where
  -- "compared in its answer number"
  pub answer_compared : Agree hs (b ∷ bs) (t ∷ ts) → b.answer ≡ t.answer
  answer_compared a = a.0

  -- "and through that step"
  pub store_step_compared : Agree hs (b ∷ bs) (t ∷ ts)
      → states_of (through_store hs b.steps) ≡ take (length (through_store hs b.steps)) (states_of t.steps)
  store_step_compared a = through_equal _ _ hs b.steps t.steps a.1

  -- "and in reported steps only if it ends there": then they are compared
  pub last_reported_compared : (xs : List (Stepped B)) (x : Stepped B) → b.steps ≡ xs ++ x ∷ [] → stores_through hs xs ≡ false
      → stores_held (held_through hs xs) x.events ≡ true → Agree hs (b ∷ bs) (t ∷ ts) → b.reported ≡ t.reported
  last_reported_compared xs x e q l a = last_claimed _ (b.reported ≡ t.reported) hs xs x t.steps (rw e at a.1) q l
