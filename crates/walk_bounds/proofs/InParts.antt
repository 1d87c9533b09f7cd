-- Document 02, item 6: the walks of a run in two parts sum to those of the whole, in each machine. So do those of a run in calls of budget 1.
use Prim.Native.Nat.{ℕ, ◌+◌}
use mathlib.Core.Path.{◌≡◌, refl, ap, ◌∙◌}
use mathlib.Core.Bool.{true}
use mathlib.Core.List.{List, [], ◌∷◌, ◌++◌, append_assoc}
use Rattle.paging.specs.Translate.{Translator}
use Rattle.paging.specs.Counting.{walks_in}
use Rattle.paging.proofs.CountingLaws.{walks_append}
use Rattle.rules.specs.declared.Key.{Key}
use Rattle.rules.specs.Step.{State, Stepped}
use Rattle.rules.specs.Run.{is_accepted, run_answer, steps_of, last_of, run}
use Rattle.rules.specs.Walks.{events_of, walks_of}
use Rattle.rules.proofs.StepsInParts.{steps_both}

events_both : {B : Type 0} (ts us : List (Stepped B)) → events_of (ts ++ us) ≡ events_of ts ++ events_of us
unfolding events_of
events_both [] us = refl
events_both (t ∷ ts) us = rw (events_both ts us, append_assoc t.events (events_of ts) (events_of us))

module _ {B : Type 0} (tr : Translator B) (ks : List Key) (first second : ℕ) (s : State B) where
  steps_sum : walks_in (events_of (steps_of tr ks (first + second) s))
      ≡ walks_in (events_of (steps_of tr ks first s)) + walks_in (events_of (steps_of tr ks second (last_of s (steps_of tr ks first s))))
  steps_sum =
      let ts = steps_of tr ks first s in
      let us = steps_of tr ks second (last_of s ts) in
      ap (λ (vs : List (Stepped B)). walks_in (events_of vs)) (steps_both tr ks first second s) ∙ ap walks_in (events_both ts us) ∙ walks_append (events_of ts) (events_of us)

  -- where no part is refused
  pub walks_sum : is_accepted (run_answer tr ks (first + second) s) ≡ true → is_accepted (run_answer tr ks first s) ≡ true
      → is_accepted (run_answer tr ks second (run tr ks first s).state) ≡ true
      → walks_of (run tr ks (first + second) s) ≡ walks_of (run tr ks first s) + walks_of (run tr ks second (run tr ks first s).state)
  unfolding run
  walks_sum whole a b =
      let c : is_accepted (run_answer tr ks second (last_of s (steps_of tr ks first s))) ≡ true = rw a at b in
      rw (whole, a, c) steps_sum
