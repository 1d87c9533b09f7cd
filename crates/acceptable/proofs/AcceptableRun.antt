-- Document 01, "Numbers returned": an accepted record stays acceptable. After an accepted run, a run with the same keys and a budget of at most 1,000,000 is
-- accepted too, in either machine, unless the step count has reached 2^63; then it is refused with 2, and for nothing else.
use Rattle.std.proofs.Common.{if◌then◌else◌, Ok, Err}
use Prim.Native.Nat.{ℕ, zero, suc, ◌%◌, ◌^◌}
use mathlib.Core.Path.{◌≡◌, refl, ap, sym, ◌∙◌}
use mathlib.Core.Bool.{Bool, true, false}
use mathlib.Core.List.{List, [], ◌∷◌}
use native.Mathlib.Omega.{arith}
use lib.ListN.{length}
use lib.Dec.{ltb, leb}
use borrow.Author.Tests.{leb-true, le-leb}
use Rattle.memory.specs.Memory.{size_ok}
use Rattle.paging.specs.declared.Entry.{Entry}
use Rattle.paging.specs.Translate.{Translator, buffered, reader}
use Rattle.word.proofs.BoolLaws.{both}
use Rattle.paging.proofs.BufferLaws.{empty_ok}
use Rattle.paging.proofs.Coherent.{none_held}
use Rattle.paging.proofs.ValidBuffer.{Valid}
use Rattle.rules.specs.declared.Key.{Key}
use Rattle.rules.specs.declared.RunRefusal.TheVariants.{BadRegisters}
use Rattle.rules.specs.Record.{is_running}
use Rattle.rules.specs.Step.{State, Stepped, step}
use Rattle.rules.specs.Run.{registers_ok, keys_rise, keys_ok, console_ok, budget_ok, is_accepted, run_answer, steps_of, last_of, run}
use Rattle.rules.proofs.StepAgrees.{step_agrees}
use Rattle.rules.proofs.ValidStep.{step_keeps}
use Rattle.rules.proofs.StepCount.{count_of}
use Rattle.rules.proofs.AcceptedRun.{accepted_tests, size_whole}
use Rattle.rules.proofs.AcceptableRecord.{registers_acceptable, acceptable_registers}
use Rattle.acceptable.proofs.AcceptableStep.{StateAcceptable, step_record, step_console}

-- ---- what a step keeps besides

-- the size of memory, and that refusal 3 does not come
abbrev pub Keeping : {B : Type 0} → Translator B → Type 0
Keeping {B} tr =
    (ks : List Key) (s : State B) → s.cpu.space.pdir % 4 ≡ 0 → length s.mem % 4096 ≡ 0 → tr.accepts (length s.mem) s.buffer ≡ true
    → (length (step tr ks s).state.mem ≡ length s.mem) × (tr.accepts (length s.mem) (step tr ks s).state.buffer ≡ true)

-- the machine with the page buffer
pub buffered_keeping : Keeping buffered
buffered_keeping ks s p w ok =
    let g = step_keeps ks s (record { aligned = p; whole = w; ok = ok }) in
    (g.size, rw g.size at g.valid.ok)

-- the table reader: a step from an empty buffer agrees with its own
pub reader_keeping : Keeping reader
reader_keeping ks s p w ok =
    let b : State (List Entry) = record { cpu = s.cpu; mem = s.mem; console = s.console; buffer = [] } in
    let v : Valid s.cpu.space s.mem [] = record { aligned = p; whole = w; ok = empty_ok (length s.mem) } in
    (ap (λ t. length t.mem) (sym (step_agrees ks b [] (record { valid = v; coherent = none_held })).same) ∙ (step_keeps ks b v).size, refl)

-- ---- runs

-- after an accepted run the next, with the same keys, is accepted or, its step count at 2^63 or more, refused with 2
abbrev pub Again : {B : Type 0} → Translator B → List Key → Type 0
Again {B} tr ks =
    (budget next : ℕ) (s : State B) → is_accepted (run_answer tr ks budget s) ≡ true → budget_ok next ≡ true
    → run_answer tr ks next (run tr ks budget s).state ≡ (if ltb (count_of (run tr ks budget s).state) (2 ^ 63) then Ok tt else Err BadRegisters)

module _ {B : Type 0} (tr : Translator B) (kept : Keeping tr) (ks : List Key) where
  -- a state from which a run with these keys is refused with nothing but 2 for its step count, or 6
  record Ready (s : State B) : Type 0 where
    size : size_ok (length s.mem) ≡ true
    accepts : tr.accepts (length s.mem) s.buffer ≡ true
    acceptable : StateAcceptable ks s

  -- it is such a state after a step
  step_ready : (s : State B) → Ready s → Ready (step tr ks s).state
  step_ready s g =
      let d = g.acceptable.directory.aligned in
      let k = kept ks s (omega arith) (size_whole (length s.mem) g.size) g.accepts in
      record {
        size = rw k.0 g.size;
        accepts = rw k.0 k.1;
        acceptable = rw (k.0, step_console tr ks s) (step_record tr ks s g.acceptable);
      }

  -- and after n, or as many as are made before the machine stops
  steps_ready : (n : ℕ) (s : State B) → Ready s → Ready (last_of s (steps_of tr ks n s))
  unfolding steps_of last_of
  steps_ready zero s g = g
  steps_ready (suc n) s g = go (is_running s.cpu.stop) (steps_ready n (step tr ks s).state (step_ready s g))
    where
      t : Stepped B
      t = step tr ks s

      go : (b : Bool) → Ready (last_of t.state (steps_of tr ks n t.state)) → Ready (last_of s (if b then t ∷ steps_of tr ks n t.state else []))
      go true r = r
      go false r = g

  -- the answer of a run from such a state
  ready_answer : (budget : ℕ) (s : State B) → Ready s → keys_rise 0 ks ≡ true → budget_ok budget ≡ true
      → run_answer tr ks budget s ≡ (if ltb (count_of s) (2 ^ 63) then Ok tt else Err BadRegisters)
  unfolding run_answer keys_ok
  ready_answer budget s g r q =
      let p = g.acceptable.passes in
      rw (
        g.size,
        acceptable_registers s.cpu g.acceptable,
        g.accepts,
        r,
        le-leb s.cpu.clock.taken (length ks) p.listed,
        le-leb s.cpu.written (length s.console) p.fits,
        q,
      )

  -- a run that is accepted starts from such a state, and its keys rise
  accepted_ready : (budget : ℕ) (s : State B) → is_accepted (run_answer tr ks budget s) ≡ true → Ready s × (keys_rise 0 ks ≡ true)
  unfolding run_answer keys_ok
  accepted_ready budget s e =
      let n = length s.mem in
      let p =
      accepted_tests (size_ok n) (registers_ok n s.cpu) (tr.accepts n s.buffer) (keys_ok ks s.cpu.clock.taken)
      (console_ok s.cpu.written s.console) (budget_ok budget) e in
      let k = both (keys_rise 0 ks) (leb s.cpu.clock.taken (length ks)) p.3 in
      let g =
      registers_acceptable n (length ks) (length s.console) s.cpu p.1 (leb-true s.cpu.clock.taken (length ks) k.1)
      (leb-true s.cpu.written (length s.console) p.4) in
      (record { size = p.0; accepts = p.2; acceptable = g }, k.0)

  -- the law, for any machine that keeps those
  pub accepted_again : Again tr ks
  unfolding run
  accepted_again budget next s e q =
      let r = accepted_ready budget s e in
      ready_answer next (run tr ks budget s).state (rw e (steps_ready budget s r.0)) r.1 q

-- in the machine with the page buffer
pub buffered_again : (ks : List Key) → Again buffered ks
buffered_again = accepted_again buffered buffered_keeping

-- in the table reader
pub reader_again : (ks : List Key) → Again reader ks
reader_again = accepted_again reader reader_keeping
