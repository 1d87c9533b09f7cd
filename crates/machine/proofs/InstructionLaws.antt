-- Document 01, "One step": instructions one after another: the loop starts, goes on, ends early or at its limit.
use Prim.Native.Nat.{ℕ, ◌+◌, ◌-◌, ◌≤◌, ◌<◌}
use native.Mathlib.Omega.{arith}
use mathlib.Core.Bool.{Bool}
use mathlib.Core.List.{List, []}
use mathlib.Core.Path.{◌≡◌, refl, sym, ap, ◌∙◌, subst}
use lib.ListN.{length}
use Rattle.paging.specs.declared.Space.{Space}
use Rattle.mmu.specs.Good.{Good}
use Rattle.mmu.specs.Translates.{Kept, result, kept_in, translator}
use Rattle.rules.specs.declared.Regs.{Regs}
use Rattle.rules.specs.declared.Cpu.{Cpu}
use Rattle.rules.specs.declared.Key.{Key}
use Rattle.rules.specs.declared.Stop.TheVariants.{Running}
use Rattle.rules.specs.Record.{with_count}
use Rattle.rules.specs.Tree.{Tree, interpret}
use Rattle.rules.specs.Outcome.{Out}
use Rattle.rules.specs.Execute.{instruction_tree}
use Rattle.rules.specs.Clock.{next_of}
use Rattle.rules.specs.Step.{State, step}
use Rattle.contracts.specs.declared.End.{End}
use Rattle.contracts.specs.declared.End.TheVariants.{Ok}
use Rattle.contracts.specs.declared.Done.{Done}
use Rattle.contracts.specs.Contract.{ok, bad, out_by, out_of, made, state_of, Executes, end_of}
use Rattle.clock.specs.Quiet.{Quiet, after_quiet}
use Rattle.clock.proofs.QuietSteps.{after_none}
use Rattle.machine.specs.Settled.{settled}
use Rattle.machine.specs.Instructions.{raise_count, instruction_from, InstructionsEnd, InstructionsMade}
use Rattle.machine.proofs.SettledLaws.{settled_ok, settled_count, by_end}
use Rattle.machine.proofs.QuietStep.{run_on, step_quiet}

module _ (c : Cpu) (limit : ℕ) (m l : List ℕ) where
  -- no step is made yet
  pub instructions_start : Good (length m) c.space.pdir l → c.regs.count ≤ limit → InstructionsMade c limit m l c.regs m l
  instructions_start g h = record {
    good = g;
    size = refl;
    later = omega arith;
    within = h;
    none = λ _. (refl, (refl, refl));
    first = λ e. absurd (omega (arith, e));
    same = λ ks n con _ _. ap (λ (x : Cpu). end_of ks (n + (limit - c.regs.count)) (state_of x m con l)) (sym (after_none c));
  }

  module _ {r : Regs} {m' l' : List ℕ} (b : InstructionsMade c limit m l r m' l') where
    module _ (below : r.count < limit) {d : Done} {m'' l'' : List ℕ} (size : length m'' ≡ length m')
        (h : Executes (instruction_tree (raise_count r)) c.space c.system.user [] m' l' d m'' l'') where
      -- one step more
      one_more : (ks : List Key) (n : ℕ) (con : List ℕ) → c.stop ≡ Running → Quiet (next_of ks c.clock.taken) c limit
          → end_of ks (n + (limit - c.regs.count)) (state_of c m con l)
          ≡ end_of ks (n + (limit - (r.count + 1))) (settled (length m) (after_quiet c (raise_count r)) con (result (out_of d) m'' (kept_in l'')))
      unfolding step
      one_more ks n con runs quiet =
          let rest = n + (limit - (r.count + 1)) in
          b.same ks n con runs quiet
          ∙ run_on ks (n + (limit - r.count)) rest (state_of (after_quiet c r) m' con l') (omega arith) runs
          ∙ ap (end_of ks rest) (step_quiet (next_of ks c.clock.taken) c limit quiet r b.later below con h)
          ∙ ap (λ (size : ℕ). end_of ks rest (settled size (after_quiet c (raise_count r)) con (result (out_of d) m'' (kept_in l'')))) b.size

      -- the first step's instruction
      alone : r.count ≡ c.regs.count → (x : Cpu) (con : List ℕ)
          → settled (length m) x con (result (out_of d) m'' (kept_in l'')) ≡ settled (length m) x con (instruction_from c m l)
      alone e x con =
          let z = b.none e in
          let from : Regs → List ℕ → List ℕ → State Kept = λ q v w.
          settled (length m) x con (made (interpret translator c.space c.system.user (instruction_tree (raise_count q)) v (kept_in w) [])) in
          ap (settled (length m) x con) h.same
          ∙ ap (λ (q : Regs). from q m' l') z.0
          ∙ ap (λ (v : List ℕ). from c.regs v l') z.1.0
          ∙ ap (λ (w : List ℕ). from c.regs m w) z.1.1

      -- it ended well
      pub instructions_go : d.end ≡ Ok → InstructionsMade c limit m l (with_count (r.count + 1) d.regs) m'' l''
      instructions_go e = record {
        good = h.good;
        size = size ∙ b.size;
        later = omega (arith, b.later);
        within = omega (arith, below);
        none = λ q. absurd (omega (arith, q, b.later));
        first = λ q x con.
            settled_count (length m) x con (r.count + 1) d.regs m'' (kept_in l'')
            ∙ ap (λ (y : End). settled (length m) x con (result (out_by d.regs y) m'' (kept_in l''))) (sym e)
            ∙ alone (omega (arith, q)) x con;
        same = λ ks n con runs quiet.
            one_more ks n con runs quiet
            ∙ ap (end_of ks (n + (limit - (r.count + 1)))) (settled_ok (length m) (after_quiet c (raise_count r)) con d m'' (kept_in l'') e);
      }

      -- it did not
      pub instructions_early : (d.end ≡ Ok → ⊥) → InstructionsEnd c limit m l (bad r d.end) m'' l''
      instructions_early n = record {
        good = h.good;
        later = b.later;
        start = λ q. (b.none q).0;
        idle = λ q. absurd (omega (arith, q, below, b.later));
        first = λ q x con.
            ap (λ (o : Out). settled (length m) x con (result o m'' (kept_in l''))) (by_end r d.regs d.end n)
            ∙ alone (omega (arith, q, below, b.later)) x con;
        all = λ e. absurd (n e);
        early = λ _. (
          below,
          λ ks i con runs quiet.
              one_more ks i con runs quiet
              ∙ ap (λ (o : Out). end_of ks (i + (limit - (r.count + 1))) (settled (length m) (after_quiet c (raise_count r)) con (result o m'' (kept_in l''))))
              (by_end d.regs r d.end n),
        );
      }

    -- the limit is reached
    pub instructions_all : limit ≤ r.count → InstructionsEnd c limit m l (ok r) m' l'
    instructions_all h =
        let e : r.count ≡ limit = omega (arith, b.within, h) in
        record {
          good = b.good;
          later = b.later;
          start = λ q. (b.none q).0;
          idle = λ q. (b.none (e ∙ q)).1;
          first = λ q x con. b.first (omega (arith, e, q)) x con;
          all = λ _. (e, λ ks n con runs quiet. b.same ks n con runs quiet ∙ ap (λ (i : ℕ). end_of ks i (state_of (after_quiet c r) m' con l')) (omega (arith, e)));
          early = λ n. absurd (n refl);
        }

-- ---- the same beside a record: for every record with registers s, in a mode and an address space

abbrev pub MadeFrom : Regs → Bool → Space → ℕ → (m l : List ℕ) → Regs → (m' l' : List ℕ) → Type 0
MadeFrom s user space limit m l r m' l' =
    (c : Cpu) → c.regs ≡ s → user ≡ c.system.user → space ≡ c.space → InstructionsMade c limit m l r m' l'

pub good_beside : {space space' : Space} {n : ℕ} {l : List ℕ} → space ≡ space' → Good n space'.pdir l → Good n space.pdir l
good_beside {n = n} {l} e g = subst (λ (s : Space). Good n s.pdir l) (sym e) g

pub executes_beside : {user user' : Bool} {space space' : Space} {t : Tree Out} {m l : List ℕ} {d : Done} {m' l' : List ℕ}
    → user ≡ user' → space ≡ space' → Executes t space user [] m l d m' l' → Executes t space' user' [] m l d m' l'
executes_beside {user} {space' = space'} {t} {m} {l} {d} {m'} {l'} u e h =
    subst (λ (v : Bool). Executes t space' v [] m l d m' l') u (subst (λ (s : Space). Executes t s user [] m l d m' l') e h)

module _ (s : Regs) (user : Bool) (space : Space) (limit : ℕ) (m l : List ℕ) where
  pub from_start : Good (length m) space.pdir l → s.count ≤ limit → MadeFrom s user space limit m l s m l
  from_start g h = λ c e u v.
      subst (λ (r : Regs). InstructionsMade c limit m l r m l) e
      (instructions_start c limit m l (good_beside (sym v) g) (omega (arith, h, ap (λ (r : Regs). r.count) e)))

  pub from_go : {r : Regs} {m' l' : List ℕ} → MadeFrom s user space limit m l r m' l' → r.count < limit → {d : Done} {m'' l'' : List ℕ}
      → length m'' ≡ length m' → Executes (instruction_tree (raise_count r)) space user [] m' l' d m'' l'' → d.end ≡ Ok
      → MadeFrom s user space limit m l (with_count (r.count + 1) d.regs) m'' l''
  from_go b below size h told = λ c e u v. instructions_go c limit m l (b c e u v) below size (executes_beside u v h) told
