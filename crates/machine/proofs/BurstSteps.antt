-- Document 02, item 7: the loop over floating instructions: it starts where document 01's table ended, goes on after one that ended well, and ends.
use Prim.Native.Nat.{ℕ, ◌+◌, ◌-◌, ◌<◌}
use native.Mathlib.Omega.{arith}
use mathlib.Core.Bool.{Bool, true, false, true≢false}
use mathlib.Core.List.{List, []}
use mathlib.Core.Path.{◌≡◌, refl, sym, ap, ◌∙◌, subst}
use lib.ListN.{length}
use Rattle.floating_decode.specs.Opcodes.{floating_decode_of}
use Rattle.mmu.specs.Translates.{Kept, result, kept_in}
use Rattle.rules.specs.declared.Clock.{Clock}
use Rattle.rules.specs.declared.Cpu.{Cpu}
use Rattle.rules.specs.declared.Floats.{Floats}
use Rattle.rules.specs.declared.Key.{Key}
use Rattle.rules.specs.declared.Regs.{Regs}
use Rattle.rules.specs.declared.Stop.TheVariants.{Running}
use Rattle.rules.specs.Record.{with_count, with_floats}
use Rattle.rules.specs.Outcome.{Out, floated}
use Rattle.rules.specs.Execute.{moved}
use Rattle.rules.specs.Floating.{float_tree}
use Rattle.rules.specs.Clock.{next_of}
use Rattle.rules.specs.Step.{State}
use Rattle.contracts.specs.declared.Done.{Done}
use Rattle.contracts.specs.declared.End.{End}
use Rattle.contracts.specs.declared.End.TheVariants.{Ok, Unfetched, Trap, Refused, System, Undecoded}
use Rattle.contracts.specs.declared.FloatDone.{FloatDone}
use Rattle.contracts.specs.Contract.{float_bad, out_by, out_of, float_out_by, float_out_of, state_of, FloatExecutes, end_of}
use Rattle.clock.specs.Quiet.{Quiet, after_quiet}
use Rattle.machine.specs.Settled.{completed, settled}
use Rattle.machine.specs.Instructions.{raise_count, instruction_from, InstructionsEnd}
use Rattle.machine.specs.Burst.{stepping, reached, BurstEnd, Paused}
use Rattle.machine.proofs.QuietAgain.{after_again, quiet_again}
use Rattle.machine.proofs.BurstLaws.{Settles, by_float_end, well, floated_state, carried, settles, by_float}

-- ---- whether an end is well

abbrev pub is_ok : End → Bool
is_ok Ok = true
is_ok (Unfetched f) = false
is_ok (Trap code) = false
is_ok (Refused f) = false
is_ok (System op) = false
is_ok (Undecoded pad w) = false

pub is_ok_lem : (e : End) → is_ok e ≡ true → e ≡ Ok
is_ok_lem Ok q = refl
is_ok_lem (Unfetched f) q = absurd (true≢false (sym q))
is_ok_lem (Trap code) q = absurd (true≢false (sym q))
is_ok_lem (Refused f) q = absurd (true≢false (sym q))
is_ok_lem (System op) q = absurd (true≢false (sym q))
is_ok_lem (Undecoded pad w) q = absurd (true≢false (sym q))

pub not_ok_end : (e : End) → is_ok e ≡ false → e ≡ Ok → ⊥
not_ok_end e q z = true≢false (sym (ap is_ok z) ∙ q)

-- ---- the loop starts

module _ (c : Cpu) (limit : ℕ) (m l : List ℕ) where
  pub paused_start : {b : Done} {m' l' : List ℕ} → length m' ≡ length m → InstructionsEnd c limit m l b m' l' → Paused c limit m l b c.floats m' l'
  paused_start {b} {m'} {l'} size h = record {
    good = h.good;
    size = size;
    later = h.later;
    start = λ e. (h.start e, refl);
    all_first = λ e q t con.
        well (length m) (stepping t c) con m' (kept_in l') b.regs
        ∙ ap (λ (y : End). settled (length m) (stepping t c) con (result (out_by b.regs y) m' (kept_in l'))) (sym e)
        ∙ h.first q (stepping t c) con;
    all = λ e. h.all e;
    early_first = λ n q t con. h.first q (stepping t c) con;
    early = λ n. h.early n;
  }

  -- ---- it ends in no floating instruction

  pub paused_end : {b : Done} {v : Floats} {m' l' : List ℕ} → Paused c limit m l b v m' l' → Settles c.model.doubles b.end
      → BurstEnd c limit m l (float_bad b.regs v b.end) m' l'
  paused_end {b} {v} {m'} {l'} p s = record {
    good = p.good;
    later = p.later;
    first = λ q t con. first q t con (is_ok b.end) refl;
    all = λ e. p.all e;
    early = λ n. (
      (p.early n).0,
      λ ks i con runs quiet.
          (p.early n).1 ks i con runs quiet
          ∙ ap (end_of ks (i + (limit - (b.regs.count + 1))))
          (sym (settles (length m) (reached c (raise_count b.regs) v) con m' (kept_in l') b.regs b.end s)),
    );
  }
    where
      first : limit ≡ c.regs.count + 1 → (t : Clock) (con : List ℕ) → (o : Bool) → is_ok b.end ≡ o
          → completed (length m) (with_floats v (stepping t c)) con (result (out_by b.regs b.end) m' (kept_in l'))
          ≡ settled (length m) (stepping t c) con (instruction_from c m l)
      first q t con true e =
          let k = is_ok_lem b.end e in
          ap (λ (y : End). completed (length m) (with_floats v (stepping t c)) con (result (out_by b.regs y) m' (kept_in l'))) k
          ∙ carried (length m) (stepping t c) con m' (kept_in l') b.regs v
          ∙ p.all_first k q t con
      first q t con false e =
          let n = not_ok_end b.end e in
          let z = (p.start (omega (arith, q, (p.early n).0, p.later))).1 in
          ap (λ (u : Floats). completed (length m) (with_floats u (stepping t c)) con (result (out_by b.regs b.end) m' (kept_in l'))) z
          ∙ settles (length m) (stepping t c) con m' (kept_in l') b.regs b.end s
          ∙ p.early_first n q t con

  -- in the old mode: as document 01's table ended
  pub old_end : {b : Done} {m' l' : List ℕ} → c.model.doubles ≡ false → length m' ≡ length m → InstructionsEnd c limit m l b m' l'
      → BurstEnd c limit m l (float_bad b.regs c.floats b.end) m' l'
  old_end e size h = paused_end (paused_start size h) (λ z. absurd (true≢false (sym z ∙ e)))

-- ---- a floating instruction

-- it is under way below the limit
pub undecoded_below : {c : Cpu} {limit : ℕ} {m l : List ℕ} {b : Done} {v : Floats} {m₁ l₁ : List ℕ} → Paused c limit m l b v m₁ l₁ → {pad w : ℕ} → b.end ≡ Undecoded pad w
    → b.regs.count < limit
undecoded_below p q = (p.early (λ z. true≢false (ap is_ok (sym z ∙ q)))).0

module _ (c : Cpu) (limit : ℕ) (m l : List ℕ) {b : Done} {v : Floats} {m₁ l₁ : List ℕ} (p : Paused c limit m l b v m₁ l₁) {pad w : ℕ} (q : b.end ≡ Undecoded pad w)
    (doubles : c.model.doubles ≡ true) {d : FloatDone} {m₂ l₂ : List ℕ}
    (h : FloatExecutes (float_tree (floating_decode_of w) (moved (raise_count b.regs)) v) c.space c.system.user [] m₁ l₁ d m₂ l₂) where
  not_end : b.end ≡ Ok → ⊥
  not_end z = true≢false (ap is_ok (sym z ∙ q))

  below : b.regs.count < limit
  below = (p.early not_end).0

  -- its step, among quiet ones
  under_way : (con : List ℕ) → settled (length m) (reached c (raise_count b.regs) v) con (result (out_of b) m₁ (kept_in l₁))
      ≡ completed (length m) (reached c (raise_count b.regs) v) con (result (float_out_of d) m₂ (kept_in l₂))
  under_way con =
      ap (λ (y : End). settled (length m) (reached c (raise_count b.regs) v) con (result (out_by b.regs y) m₁ (kept_in l₁))) q
      ∙ by_float (length m) (reached c (raise_count b.regs) v) con doubles w h

  -- its step alone
  module _ (e : limit ≡ c.regs.count + 1) where
    unmoved : (b.regs ≡ c.regs) × (v ≡ c.floats)
    unmoved = p.start (omega (arith, e, below, p.later))

    alone : (t : Clock) (con : List ℕ)
        → completed (length m) (stepping t c) con (result (float_out_of d) m₂ (kept_in l₂)) ≡ settled (length m) (stepping t c) con (instruction_from c m l)
    alone t con =
        let tree : Regs → Floats → Type 0 = λ r u.
        FloatExecutes (float_tree (floating_decode_of w) (moved (raise_count r)) u) c.space c.system.user [] m₁ l₁ d m₂ l₂ in
        let h' : tree c.regs c.floats = subst (tree c.regs) unmoved.1 (subst (λ (r : Regs). tree r v) unmoved.0 h) in
        sym (by_float (length m) (stepping t c) con doubles w h')
        ∙ ap (λ (y : End). settled (length m) (stepping t c) con (result (out_by b.regs y) m₁ (kept_in l₁))) (sym q)
        ∙ p.early_first not_end e t con

  -- it did not end well: the loop ends
  pub float_early : (d.end ≡ Ok → ⊥) → BurstEnd c limit m l (float_bad b.regs v d.end) m₂ l₂
  float_early n =
      let other = by_float_end b.regs d.regs d.floats d.end n in
      record {
        good = h.good;
        later = p.later;
        first = λ e t con.
            ap (λ (u : Floats). completed (length m) (with_floats u (stepping t c)) con (result (out_by b.regs d.end) m₂ (kept_in l₂))) (unmoved e).1
            ∙ ap (λ (o : Out). completed (length m) (stepping t c) con (result o m₂ (kept_in l₂))) other
            ∙ alone e t con;
        all = λ z. absurd (n z);
        early = λ _. (
          below,
          λ ks i con runs quiet.
              (p.early not_end).1 ks i con runs quiet
              ∙ ap (end_of ks (i + (limit - (b.regs.count + 1)))) (under_way con)
              ∙ ap (λ (o : Out).
              end_of ks (i + (limit - (b.regs.count + 1))) (completed (length m) (reached c (raise_count b.regs) v) con (result o m₂ (kept_in l₂)))) (sym other),
        );
      }

  -- it did: the loop goes on from the registers that it left, with the step counted
  module _ (good : d.end ≡ Ok) where
    abbrev pub next : Regs
    next = with_count (b.regs.count + 1) d.regs

    abbrev at : Cpu
    at = reached c next d.floats

    -- among quiet steps
    one_more : (ks : List Key) (n : ℕ) (con : List ℕ) → c.stop ≡ Running → Quiet (next_of ks c.clock.taken) c limit
        → end_of ks (n + (limit - c.regs.count)) (state_of c m con l) ≡ end_of ks (n + (limit - (b.regs.count + 1))) (state_of at m₂ con l₂)
    one_more ks n con runs quiet =
        (p.early not_end).1 ks n con runs quiet
        ∙ ap (end_of ks (n + (limit - (b.regs.count + 1))))
        (under_way con
        ∙ ap (λ (y : End).
        completed (length m) (reached c (raise_count b.regs) v) con (result (float_out_by d.regs d.floats y) m₂ (kept_in l₂))) good
        ∙ floated_state (length m) (reached c (raise_count b.regs) v) con m₂ (kept_in l₂) d.regs d.floats)

    module _ {b₂ : Done} {m₃ l₃ : List ℕ} (size₂ : length m₂ ≡ length m₁) (size₃ : length m₃ ≡ length m₂) (g : InstructionsEnd at limit m₂ l₂ b₂ m₃ l₃) where
      quiet_on : (ks : List Key) → Quiet (next_of ks c.clock.taken) c limit → Quiet (next_of ks c.clock.taken) at limit
      quiet_on ks quiet = quiet_again c d.floats next (omega (arith, p.later)) (next_of ks c.clock.taken) limit quiet (omega (arith, below))

      -- no step is left
      last : b₂.end ≡ Ok → (e : limit ≡ c.regs.count + 1) → (t : Clock) (con : List ℕ)
          → completed (length m) (stepping t c) con (result (floated b₂.regs d.floats []) m₃ (kept_in l₃)) ≡ settled (length m) (stepping t c) con (instruction_from c m l)
      last z e t con =
          let k : limit ≡ b.regs.count + 1 = omega (arith, e, below, p.later) in
          let state : Regs → List ℕ → List ℕ → State Kept = λ r x y. completed (length m) (stepping t c) con (result (floated r d.floats []) x (kept_in y)) in
          ap (λ (r : Regs). state r m₃ l₃) (g.start ((g.all z).0 ∙ k))
          ∙ ap (λ (x : List ℕ). state next x l₃) (g.idle k).0
          ∙ ap (λ (y : List ℕ). state next m₂ y) (g.idle k).1
          ∙ floated_state (length m) (stepping t c) con m₂ (kept_in l₂) next d.floats
          ∙ sym (floated_state (length m) (stepping t c) con m₂ (kept_in l₂) d.regs d.floats)
          ∙ ap (λ (y : End). completed (length m) (stepping t c) con (result (float_out_by d.regs d.floats y) m₂ (kept_in l₂))) (sym good)
          ∙ alone e t con

      pub float_go : Paused c limit m l b₂ d.floats m₃ l₃
      float_go = record {
        good = g.good;
        size = size₃ ∙ size₂ ∙ p.size;
        later = omega (arith, g.later, p.later);
        start = λ e. absurd (omega (arith, e, g.later, p.later));
        all_first = last;
        all = λ e. (
          (g.all e).0,
          λ ks n con runs quiet.
              one_more ks n con runs quiet
              ∙ (g.all e).1 ks n con runs (quiet_on ks quiet)
              ∙ ap (λ (x : Cpu). end_of ks n (state_of x m₃ con l₃)) (after_again c d.floats next (omega (arith, p.later)) b₂.regs g.later),
        );
        early_first = λ n e t con. absurd (omega (arith, (g.early n).0, g.later, e, p.later));
        early = λ n. (
          (g.early n).0,
          λ ks i con runs quiet.
              let rest = i + (limit - (b₂.regs.count + 1)) in
              one_more ks i con runs quiet
              ∙ (g.early n).1 ks i con runs (quiet_on ks quiet)
              ∙ ap (λ (z : ℕ). end_of ks rest (settled z (after_quiet at (raise_count b₂.regs)) con (result (out_of b₂) m₃ (kept_in l₃)))) (size₂ ∙ p.size)
              ∙ ap (λ (x : Cpu). end_of ks rest (settled (length m) x con (result (out_of b₂) m₃ (kept_in l₃))))
              (after_again c d.floats next (omega (arith, p.later)) (raise_count b₂.regs) (omega (arith, g.later))),
        );
      }
