-- Document 01, "Numbers returned": a run goes on by one key, from what its parts ensure.
use Rattle.std.proofs.Common.{Result, Option}
use Prim.Native.Nat.{ℕ, ◌+◌, ◌-◌}
use native.Mathlib.Omega.{arith}
use mathlib.Core.Bool.{Bool}
use mathlib.Core.Path.{◌≡◌, refl, sym, ◌∙◌, ap, subst}
use mathlib.Core.List.{List}
use lib.ListN.{length, take}
use Rattle.paging.specs.declared.Entry.{Entry}
use Rattle.paging.specs.Buffer.{buffer_ok}
use Rattle.paging.specs.Counting.{counted}
use Rattle.buffer.specs.Held.{count, walks, entries_in, Buffer}
use Rattle.mmu.specs.Translates.{Kept, kept_in}
use Rattle.clock.specs.Taken.{KeyFits}
use Rattle.rules.specs.declared.Key.{Key}
use Rattle.rules.specs.declared.Cpu.{Cpu}
use Rattle.rules.specs.declared.Machine.{Machine}
use Rattle.rules.specs.declared.RunRefusal.{RunRefusal}
use Rattle.rules.specs.Clock.{next_of}
use Rattle.rules.specs.Run.{allowance}
use Rattle.contracts.specs.Contract.{end_of}
use Rattle.machine.specs.declared.Advanced.{Advanced}
use Rattle.machine.specs.Advance.{Ready}
use Rattle.refusals.specs.Refusal.{refusal_of}
use Rattle.refusals.specs.View.{first_slots, entries_of}
use Rattle.runs.specs.declared.UnderWay.{UnderWay}
use Rattle.runs.specs.Advance.{Goes, left_of}
use Rattle.runs.specs.UnderWay.{Able, Proceeds, begin_of}
use Rattle.runs.proofs.Entries.{unpacked_first}

module _ {g : UnderWay} {size : ℕ} (b : Able g size) where
  pub able_key : {key : Option Key} → KeyFits key g.taken → KeyFits key g.ran.machine.cpu.clock.taken
  able_key {key} f = subst (λ (i : ℕ). KeyFits key i) b.taken f

module _ {g : UnderWay} {m : List ℕ} (b : Able g (length m)) {l : List ℕ}
    (h : kept_in l ≡ counted (entries_of g.ran.machine) g.ran.walks) (u : Buffer l) where
  pub able_ready : Ready g.ran.machine.cpu g.left m l
  able_ready = record {
    good = record { directory = b.directory; buffer = u; entries = ap (λ (k : Kept). buffer_ok (length m) k.held) h ∙ b.entries };
    running = b.running;
    some = b.some;
    count = b.count;
  }

  module _ {k : Option Key} {con m' con' l' : List ℕ} {a : Advanced} (t : Goes g.ran.machine.cpu g.left k m con l a m' con' l') where
    module _ (es : List Entry) (e : take (count l') es ≡ entries_in l') {n w : ℕ} (c : n ≡ count l') (d : w ≡ walks l') where
      first : first_slots n es ≡ entries_in l'
      first = rw c (unpacked_first l' es t.good.buffer e)

      kept : counted (first_slots n es) w ≡ kept_in l'
      kept = rw (first, d)

      abbrev gone : Machine → UnderWay
      gone x = record {
        taken = a.cpu.clock.taken;
        left = a.left;
        ran = record { machine = x; answer = g.ran.answer; steps = g.ran.steps + (a.cpu.regs.count - g.ran.machine.cpu.regs.count); walks = w };
      }

      proceeds : Proceeds g k m con (gone (record { cpu = a.cpu; entries = es; held = n })) m' con'
      proceeds = record {
        able = λ s. record {
          directory = t.good.directory;
          entries = ap (buffer_ok (length m')) first ∙ t.good.entries;
          running = t.running s;
          taken = refl;
          some = s;
          count = omega (arith, t.count, b.count);
          steps = omega (arith, t.later, b.steps);
        };
        less = t.less;
        answer = refl;
        steps = omega (arith, t.later);
        more = omega (arith, t.later);
        same = λ ks z. ap (λ (k : Kept). end_of ks g.left (record { cpu = g.ran.machine.cpu; mem = m; console = con; buffer = k })) (sym h)
            ∙ t.same ks (ap (next_of ks) (sym b.taken) ∙ z)
            ∙ ap (λ (k : Kept). end_of ks a.left (record { cpu = a.cpu; mem = m'; console = con'; buffer = k })) (sym kept);
      }

      -- of a record x that was changed in place
      pub proceeds_in_place : (x : Machine) → x.entries ≡ es → x.cpu ≡ a.cpu → x.held ≡ n → Proceeds g k m con (gone x) m' con'
      proceeds_in_place x p q r = subst (λ (y : Machine). Proceeds g k m con (gone y) m' con')
          (sym (ap (λ (d : Cpu). record { cpu = d; entries = x.entries; held = x.held }) q
          ∙ ap (λ (i : ℕ). record { cpu = a.cpu; entries = x.entries; held = i }) r
          ∙ ap (λ (xs : List Entry). record { cpu = a.cpu; entries = xs; held = n }) p))
          proceeds

-- how a run begins
pub begins : (m : Machine) (size console_size : ℕ) (rising : Bool) (keys budget : ℕ) {a : Result Unit RunRefusal} {n i : ℕ} → a ≡ refusal_of m size console_size rising keys budget
    → n ≡ allowance a budget → i ≡ left_of m.cpu.stop n
    → record { taken = m.cpu.clock.taken; left = i; ran = record { machine = m; answer = a; steps = 0; walks = 0 } } ≡ begin_of m size console_size rising keys budget
unfolding begin_of
begins m size console_size rising keys budget p q r = rw (r, q, p)
