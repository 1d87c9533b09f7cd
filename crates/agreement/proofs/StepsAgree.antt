-- Demand 3, one run: its steps in both machines, through the first store of demand 3's kind.
use Rattle.std.proofs.Common.{if◌then◌else◌, MatchBool}
use Prim.Native.Nat.{ℕ, zero, suc}
use mathlib.Core.Path.{◌≡◌, refl, ap}
use mathlib.Core.Bool.{Bool, true, false}
use mathlib.Core.List.{List, [], ◌∷◌}
use lib.ListN.{length}
use Rattle.paging.specs.declared.Entry.{Entry}
use Rattle.paging.specs.Buffer.{buffer_ok}
use Rattle.paging.specs.Event.{Words}
use Rattle.paging.specs.Held.{held_after, stores_held}
use Rattle.paging.specs.Translate.{buffered, reader}
use Rattle.paging.proofs.Coherent.{Coherent}
use Rattle.rules.specs.declared.Key.{Key}
use Rattle.rules.specs.Record.{is_running}
use Rattle.rules.specs.Step.{State, Stepped, step}
use Rattle.rules.specs.Run.{steps_of, last_of}
use Rattle.rules.proofs.StepAgrees.{without_buffer, StepAgrees, step_agrees}
use Rattle.rules.proofs.SoundStep.{SoundState, step_sound}
use Rattle.agreement.specs.Agreement.{shown, IfLast, AgreeSteps}

-- the two machines
abbrev pub Buffered : Type 0
Buffered = State (List Entry)

abbrev pub Reader : Type 0
Reader = State (Unit {0})

-- what holds between two runs
pub record Between (s : Buffered) (hs : List Words) : Type 0 where
  pub coherent : Coherent s.mem s.cpu.space.pdir s.buffer hs
  pub ok : buffer_ok (length s.mem) s.buffer ≡ true

-- a run may end before any step
pub between : {s : Buffered} {hs : List Words} → SoundState s hs → Between s hs
between o = record { coherent = o.coherent; ok = o.valid.ok }

-- what follows from the end of a run that made no store of demand 3's kind: as many steps, the same state, and the buffer is coherent
abbrev pub Ending : Buffered → Reader → List (Stepped (List Entry)) → List (Stepped (Unit {0})) → (List Words → Type 0) → Type 0
Ending s u bs ts Rest =
    (hs : List Words) → length bs ≡ length ts → without_buffer (last_of s bs) ≡ last_of u ts → Between (last_of s bs) hs → Rest hs

-- the steps that a machine makes if it runs
abbrev made : {B : Type 0} → Bool → List (Stepped B) → List (Stepped B)
made running ts = if running then ts else []

-- a machine that has stopped makes none
made_agrees : {Rest : List Words → Type 0} {E : Type 0} (r : Bool) (s : Buffered) (u : Reader) (hs : List Words) (bs : List (Stepped (List Entry)))
    (ts : List (Stepped (Unit {0}))) → without_buffer s ≡ u → Between s hs
    → (Ending s u bs ts Rest → (length bs ≡ length ts → E) → AgreeSteps hs bs ts Rest E)
    → Ending s u (made r bs) (made r ts) Rest → (length (made r bs) ≡ length (made r ts) → E) → AgreeSteps hs (made r bs) (made r ts) Rest E
unfolding last_of
made_agrees true s u hs bs ts e w k rest end = k rest end
made_agrees false s u hs bs ts e w k rest end = rest hs refl e w

-- and so none follows
made_last : {E : Type 0} (r : Bool) (b : Stepped (List Entry)) (t : Stepped (Unit {0})) (bs : List (Stepped (List Entry))) (ts : List (Stepped (Unit {0})))
    → (length (made r (b ∷ bs)) ≡ length (made r (t ∷ ts)) → E) → IfLast (made r (b ∷ bs)) E
made_last true b t bs ts end = tt
made_last false b t bs ts end = end refl

module _ (ks : List Key) where
  -- the steps of each machine
  abbrev pub buffer_steps : ℕ → Buffered → List (Stepped (List Entry))
  buffer_steps n s = steps_of buffered ks n s

  abbrev pub reader_steps : ℕ → Reader → List (Stepped (Unit {0}))
  reader_steps n u = steps_of reader ks n u

  -- where no step follows in one machine, none follows in the other
  if_last : {E : Type 0} (n : ℕ) (s : Buffered) (u : Reader) → without_buffer s ≡ u → (length (buffer_steps n s) ≡ length (reader_steps n u) → E)
      → IfLast (buffer_steps n s) E
  unfolding steps_of
  if_last zero s u e = λ end. end refl
  if_last (suc n) s u e =
      rw (← e)
      (made_last (is_running s.cpu.stop) (step buffered ks s) (step reader ks (without_buffer s)) (buffer_steps n (step buffered ks s).state)
      (reader_steps n (step reader ks (without_buffer s)).state))

  -- n steps from states that are the same but for the buffer
  abbrev pub Claim : ℕ → Buffered → Reader → List Words → (List Words → Type 0) → Type 0 → Type 0
  Claim n s u hs Rest E =
      Ending s u (buffer_steps n s) (reader_steps n u) Rest → (length (buffer_steps n s) ≡ length (reader_steps n u) → E)
      → AgreeSteps hs (buffer_steps n s) (reader_steps n u) Rest E

  -- n steps, or as many as are made before the machine stops
  pub steps_agree : {Rest : List Words → Type 0} {E : Type 0} (n : ℕ) (s : Buffered) (u : Reader) (hs : List Words) → without_buffer s ≡ u → SoundState s hs
      → Claim n s u hs Rest E
  unfolding steps_of last_of
  steps_agree zero s u hs e o = λ rest end. rest hs refl e (between o)
  steps_agree {Rest} {E} (suc n) s u hs e o =
      rw (← e)
      (made_agrees (is_running s.cpu.stop) s (without_buffer s) hs (b ∷ bs) (t ∷ ts) refl (between o)
      (next (λ hs' w. steps_agree n b.state t.state hs' g.same w)))
    where
      b : Stepped (List Entry)
      b = step buffered ks s

      t : Stepped (Unit {0})
      t = step reader ks (without_buffer s)

      bs : List (Stepped (List Entry))
      bs = buffer_steps n b.state

      ts : List (Stepped (Unit {0}))
      ts = reader_steps n t.state

      g : StepAgrees hs b t
      g = step_agrees ks s hs o

      Later : Type 0
      Later = (hs' : List Words) → SoundState b.state hs' → Claim n b.state t.state hs' Rest E

      -- a store of demand 3's kind ends the comparison; without one it goes on
      after : Later → (c : Bool) → stores_held hs b.events ≡ c → Ending b.state t.state bs ts Rest → (length bs ≡ length ts → E)
          → MatchBool c (IfLast bs E) (AgreeSteps (held_after hs b.events) bs ts Rest E)
      after later true q rest end = if_last n b.state t.state g.same end
      after later false q rest end =
          later (held_after hs b.events) (step_sound ks s hs o q) rest end

      -- this step
      next : Later → Ending s (without_buffer s) (b ∷ bs) (t ∷ ts) Rest → (length (b ∷ bs) ≡ length (t ∷ ts) → E) → AgreeSteps hs (b ∷ bs) (t ∷ ts) Rest E
      next later rest end =
          (ap shown g.same, after later (stores_held hs b.events) refl (λ hs' l q w. rest hs' (ap suc l) q w) (λ l. end (ap suc l)))
