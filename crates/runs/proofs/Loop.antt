-- Document 01, "One step": the loop of a run up to its next key: how it starts, goes on, and ends.
use Rattle.std.proofs.Common.{Option}
use Prim.Native.Nat.{ℕ, zero, suc, ◌+◌, ◌≤◌, ◌<◌}
use native.Mathlib.Omega.{arith}
use mathlib.Core.Bool.{Bool, true, false, ◌&&◌, true≢false}
use mathlib.Core.Path.{◌≡◌, refl, sym, ◌∙◌, ap, subst}
use mathlib.Core.List.{List}
use lib.ListN.{length}
use lib.Dec.{ltb, eqb}
use borrow.Author.Tests.{ltb-true, eqb-true, lt-ltb, eq-eqb}
use Rattle.word.proofs.BoolLaws.{both}
use Rattle.mmu.specs.Good.{Good}
use Rattle.clock.specs.Taken.{KeyFits}
use Rattle.rules.specs.declared.Cpu.{Cpu}
use Rattle.rules.specs.declared.Key.{Key}
use Rattle.rules.specs.declared.Stop.TheVariants.{Running}
use Rattle.rules.specs.Clock.{next_of}
use Rattle.contracts.specs.Contract.{state_of, end_of}
use Rattle.machine.specs.declared.Advanced.{Advanced}
use Rattle.machine.specs.Advance.{Ready, Advances}
use Rattle.runs.specs.Advance.{left_of, Goes}
use Rattle.runs.proofs.Left.{left_least, left_running, end_left}

-- a turn's start: the record x with n steps left, after some steps or none from the record c with `left`
pub record Turn (c : Cpu) (left : ℕ) (k : Option Key) (m con l : List ℕ) (x : Cpu) (n : ℕ) (m' con' l' : List ℕ) : Type 0 where
  pub good : Good (length m') x.space.pdir l'
  pub running : 0 < n → x.stop ≡ Running
  pub least : n ≤ left
  pub moved : (x.clock.taken ≡ c.clock.taken → ⊥) → n < left
  pub after : c.regs.count ≤ x.regs.count
  pub later : n < left → c.regs.count < x.regs.count
  pub count : x.regs.count + n ≤ c.regs.count + left
  pub same : (ks : List Key) → next_of ks c.clock.taken ≡ k → end_of ks left (state_of c m con l) ≡ end_of ks n (state_of x m' con' l')

module _ {c : Cpu} {left : ℕ} {k : Option Key} {m con l : List ℕ} (r : Ready c left m l) where
  pub turn_first : Turn c left k m con l c left m con l
  turn_first = record {
    good = r.good;
    running = λ _. r.running;
    least = omega arith;
    moved = λ h. absurd (h refl);
    after = omega arith;
    later = λ h. omega (arith, h);
    count = omega arith;
    same = λ ks e. refl;
  }

  module _ {x : Cpu} {n : ℕ} {m' con' l' : List ℕ} (t : Turn c left k m con l x n m' con' l') where
    abbrev Tested : Bool → Type 0
    Tested b = (ltb 0 n && eqb x.clock.taken c.clock.taken) ≡ b

    some : Tested true → 0 < n
    some e = ltb-true _ _ (both (ltb 0 n) _ e).0

    untaken : Tested true → x.clock.taken ≡ c.clock.taken
    untaken e = eqb-true _ _ (both (ltb 0 n) _ e).1

    pub turn_ready : Tested true → Ready x n m' l'
    turn_ready e = record { good = t.good; running = t.running (some e); some = some e; count = omega (arith, t.count, r.count) }

    pub turn_fits : Tested true → KeyFits k c.clock.taken → KeyFits k x.clock.taken
    turn_fits e f = subst (λ (i : ℕ). KeyFits k i) (sym (untaken e)) f

    module _ (e : Tested true) {a : Advanced} {m'' con'' l'' : List ℕ} (h : Advances x n k m' con' l' a m'' con'' l'') {i : ℕ} (q : i ≡ left_of a.cpu.stop a.left) where
      few : i ≤ a.left
      few = rw q (left_least a.cpu.stop a.left)

      pub turn_less : i < n
      turn_less = omega (arith, few, h.less)

      pub turn_next : Turn c left k m con l a.cpu i m'' con'' l''
      turn_next = record {
        good = h.good;
        running = λ z. left_running a.cpu.stop a.left (rw q at z);
        least = omega (arith, turn_less, t.least);
        moved = λ _. omega (arith, turn_less, t.least);
        after = omega (arith, h.less, h.count, t.after);
        later = λ _. omega (arith, h.less, h.count, t.after);
        count = omega (arith, few, h.count, t.count);
        same = λ ks z. t.same ks z ∙ h.same ks (ap (next_of ks) (untaken e) ∙ z)
            ∙ end_left ks a.left (state_of a.cpu m'' con'' l'') ∙ ap (λ (j : ℕ). end_of ks j (state_of a.cpu m'' con'' l'')) (sym q);
      }

    module _ (e : Tested false) where
      taken_some : 0 < n → x.clock.taken ≡ c.clock.taken → ⊥
      taken_some p u = contra _ _ (lt-ltb _ _ p) (eq-eqb _ _ u) e
        where
          contra : (a b : Bool) → a ≡ true → b ≡ true → (a && b) ≡ false → ⊥
          contra true true i j h = true≢false h
          contra true false i j h = true≢false (sym j)
          contra false b i j h = true≢false (sym i)

      less : n < left
      less = go n refl
        where
          go : (i : ℕ) → n ≡ i → n < left
          go zero q = omega (arith, q, r.some)
          go (suc i) q = t.moved (taken_some (omega (arith, q)))

      pub turn_last : Goes c left k m con l (record { cpu = x; left = n }) m' con' l'
      turn_last = record { good = t.good; running = t.running; less = less; later = t.later less; count = t.count; same = t.same }
