-- What demand 3 claims where no store of its kind is made: all that is compared of every run is equal in both machines.
use Prim.Native.Nat.{ℕ}
use mathlib.Core.Path.{◌≡◌, refl}
use mathlib.Core.Bool.{Bool, false, ◌||◌}
use mathlib.Core.List.{List, [], ◌∷◌, ◌++◌, map}
use lib.ListN.{length, drop}
use Rattle.paging.specs.Event.{Words}
use Rattle.paging.specs.Held.{held_after, stores_held}
use Rattle.word.proofs.BoolLaws.{neither}
use Rattle.rules.specs.Step.{Stepped}
use Rattle.agreement.specs.Agreement.{Transcript, Shown, shown, AgreeSteps, Agree}
use Rattle.agreement.proofs.Comparison.{held_through, stores_through, states_of}

-- what is held after some runs, and whether one of them makes a store of demand 3's kind
abbrev pub held_in_runs : {B : Type 0} → List Words → List (Transcript B) → List Words
held_in_runs hs [] = hs
held_in_runs hs (t ∷ ts) = held_in_runs (held_through hs t.steps) ts

abbrev pub stores_in_runs : {B : Type 0} → List Words → List (Transcript B) → Bool
stores_in_runs hs [] = false
stores_in_runs hs (t ∷ ts) = stores_through hs t.steps || stores_in_runs (held_through hs t.steps) ts

-- all that is compared of a run
pub record Compared : Type 0 where
  pub answer : ℕ
  pub reported : ℕ
  pub states : List Shown
  pub last : Shown

abbrev pub compared : {B : Type 0} → Transcript B → Compared
compared t = record { answer = t.answer; reported = t.reported; states = states_of t.steps; last = shown t.last }

-- the steps of a run, and what is claimed of its end
steps_equal : {B C : Type 0} (Rest : List Words → Type 0) (E : Type 0) (hs : List Words) (bs : List (Stepped B)) (ts : List (Stepped C))
    → AgreeSteps hs bs ts Rest E → stores_through hs bs ≡ false → (states_of bs ≡ states_of ts) × Rest (held_through hs bs)
steps_equal Rest E hs [] [] a q = (refl, a)
steps_equal Rest E hs [] (t ∷ ts) a q = absurd a
steps_equal Rest E hs (b ∷ bs) [] a q = absurd a
steps_equal Rest E hs (b ∷ bs) (t ∷ ts) a q =
    let n = neither (stores_held hs b.events) (stores_through (held_after hs b.events) bs) q in
    let r = steps_equal Rest E (held_after hs b.events) bs ts (rw n.0 at a.1) n.1 in
    (rw (a.0, r.0), r.1)

-- run after run
pub runs_equal : {B C : Type 0} (hs : List Words) (bs : List (Transcript B)) (ts : List (Transcript C)) → Agree hs bs ts → stores_in_runs hs bs ≡ false
    → map compared bs ≡ map compared ts
runs_equal hs [] [] a q = refl
runs_equal hs [] (t ∷ ts) a q = absurd a
runs_equal hs (b ∷ bs) [] a q = absurd a
runs_equal hs (b ∷ bs) (t ∷ ts) a q =
    let n = neither (stores_through hs b.steps) (stores_in_runs (held_through hs b.steps) bs) q in
    let Rest : List Words → Type 0 = λ held. (b.reported ≡ t.reported) × ((shown b.last ≡ shown t.last) × Agree held bs ts) in
    let s = steps_equal Rest (b.reported ≡ t.reported) hs b.steps t.steps a.1 n.0 in
    let r = s.1 in
    rw (a.0, s.0, r.0, r.1.0, runs_equal (held_through hs b.steps) bs ts r.1.1 n.1)

-- after runs without such a store the others agree, with what is held then
pub later_agree : {B C : Type 0} (hs : List Words) (before later : List (Transcript B)) (ts : List (Transcript C))
    → Agree hs (before ++ later) ts → stores_in_runs hs before ≡ false → Agree (held_in_runs hs before) later (drop (length before) ts)
later_agree hs [] later ts a q = a
later_agree hs (b ∷ before) later [] a q = absurd a
later_agree hs (b ∷ before) later (t ∷ ts) a q =
    let n = neither (stores_through hs b.steps) (stores_in_runs (held_through hs b.steps) before) q in
    let s = steps_equal _ (b.reported ≡ t.reported) hs b.steps t.steps a.1 n.0 in
    later_agree (held_through hs b.steps) before later ts s.1.1.1 n.1
