-- Demand 3, proved: any list of runs, from any memory, console and record with an empty buffer.
use Rattle.std.proofs.Common.{if◌then◌else◌}
use Prim.Native.Nat.{ℕ}
use mathlib.Core.Path.{◌≡◌, refl, ap}
use mathlib.Core.Bool.{Bool, true, false}
use mathlib.Core.List.{List, [], ◌∷◌, map}
use lib.ListN.{length}
use Rattle.paging.specs.Buffer.{buffer_ok}
use Rattle.paging.specs.Event.{Words}
use Rattle.paging.specs.Translate.{buffered, reader}
use Rattle.paging.proofs.Coherent.{none_held}
use Rattle.paging.proofs.BufferLaws.{empty_ok}
use Rattle.rules.specs.declared.Key.{Key}
use Rattle.rules.specs.Run.{run_answer, is_accepted, steps_of, last_of, run}
use Rattle.rules.proofs.AcceptedRun.{accepted_state}
use Rattle.rules.proofs.StepAgrees.{without_buffer}
use Rattle.rules.proofs.SoundStep.{SoundState}
use Rattle.agreement.specs.Agreement.{Input, transcripts, Shown, shown, Agree, started, Demand3}
use Rattle.agreement.proofs.EqualTranscripts.{stores_in_runs, compared, runs_equal}
use Rattle.agreement.proofs.StepsAgree.{Buffered, Reader, Between, Claim, steps_agree}

-- "it refuses a run with the same numbers": refusal 3 does not come
same_answer : (ks : List Key) (budget : ℕ) (s : Buffered) → buffer_ok (length s.mem) s.buffer ≡ true
    → run_answer buffered ks budget s ≡ run_answer reader ks budget (without_buffer s)
unfolding run_answer
same_answer ks budget s ok = rw ok

-- an accepted run may step
accepted_sound : (ks : List Key) (budget : ℕ) (s : Buffered) (hs : List Words) → Between s hs → is_accepted (run_answer buffered ks budget s) ≡ true → SoundState s hs
accepted_sound ks budget s hs w e =
    let a = accepted_state buffered ks budget s e in
    record { valid = record { aligned = a.aligned; whole = a.whole; ok = w.ok }; coherent = w.coherent }

-- the steps of a run: a refused one makes none
run_agrees : {Rest : List Words → Type 0} {E : Type 0} (ks : List Key) (budget : ℕ) (s : Buffered) (hs : List Words) → Between s hs → (a : Bool) → (a ≡ true → SoundState s hs)
    → Claim ks (if a then budget else 0) s (without_buffer s) hs Rest E
unfolding steps_of last_of
run_agrees ks budget s hs w true k = steps_agree ks budget s (without_buffer s) hs refl (k refl)
run_agrees ks budget s hs w false k = λ rest end. rest hs refl refl w

-- run after run
runs_agree : (runs : List Input) (s : Buffered) (u : Reader) (hs : List Words) → without_buffer s ≡ u → Between s hs
    → Agree hs (transcripts buffered runs s) (transcripts reader runs u)
unfolding transcripts run
runs_agree [] s u hs e w = tt
runs_agree (i ∷ is) s u hs e w =
    let a = same_answer i.keys i.budget s w.ok in
    rw (← e, ← a) (
      refl,
      run_agrees i.keys i.budget s hs w (is_accepted (run_answer buffered i.keys i.budget s)) (accepted_sound i.keys i.budget s hs w)
          (λ hs' l q w'. (l, (ap shown q, runs_agree is _ _ hs' q w'))) (λ l. l),
    )

-- the whole of it
pub demand3 : Demand3
unfolding Demand3
demand3 start runs = runs_agree runs (started start []) (started start tt) [] refl (record { coherent = none_held; ok = empty_ok (length start.mem) })

-- where no store of demand 3's kind is made, all that is compared is equal
pub equal_without_stores : (start : Shown) (runs : List Input) → stores_in_runs [] (transcripts buffered runs (started start [])) ≡ false
    → map compared (transcripts buffered runs (started start [])) ≡ map compared (transcripts reader runs (started start tt))
unfolding Demand3
equal_without_stores start runs q =
    runs_equal [] (transcripts buffered runs (started start [])) (transcripts reader runs (started start tt)) (demand3 start runs) q
