-- What a caller of translation learns beside its equation, and what keeps a memory, a directory and a page buffer good.
use Rattle.std.proofs.Common.{Ok}
use Prim.Native.Nat.{ℕ, ◌+◌, ◌%◌, ◌≤◌, ◌<◌}
use mathlib.Core.Bool.{Bool, true}
use native.Mathlib.Omega.{arith}
use mathlib.Core.Path.{◌≡◌, sym, ap, ◌∙◌, subst}
use mathlib.Core.List.{List}
use lib.ListN.{length}
use Rattle.memory.specs.declared.Size.{Size}
use Rattle.memory.specs.Memory.{bytes}
use Rattle.paging.specs.declared.Access.{Access}
use Rattle.paging.specs.Answer.{Answer}
use Rattle.paging.specs.declared.Space.{Space}
use Rattle.paging.specs.Buffer.{buffer_ok}
use Rattle.paging.specs.Translate.{Request, buffered}
use Rattle.paging.proofs.BufferLaws.{empty_ok}
use Rattle.paging.proofs.ValidBuffer.{Keeps, request_keeps}
use Rattle.buffer.specs.Held.{entries_in, Buffer}
use Rattle.mmu.specs.declared.bus.Bus.{Bus}
use Rattle.mmu.specs.Good.{Good}
use Rattle.mmu.specs.Bus.{SameBus}
use Rattle.mmu.specs.Translates.{Kept, translator, kept_in, Result, result, seen, request, Translates}
use Rattle.mmu.proofs.Rules.{Within, translate_within}

-- ---- a translated access

module _ {s : Space} {m l : List ℕ} (g : Good (length m) s.pdir l) (q : Request) where
  keeps : Keeps s m (buffered.translate s q m (entries_in l)).mem (buffered.translate s q m (entries_in l)).buffer
  keeps =
      let a : s.pdir % 4 ≡ 0 = omega (arith, g.directory.aligned) in
      request_keeps s q m (entries_in l) (record { aligned = a; whole = g.directory.whole; ok = g.entries })

  -- what is equal to the rules' outcome is good
  pub translated : {a : Answer} {m' l' : List ℕ} → result a m' (kept_in l') ≡ seen (translator.translate s q m (kept_in l)) → Buffer l'
      → Translates s q m l a m' l'
  translated {a} {m'} {l'} e b =
      let z : length m' ≡ length m = ap (λ (x : Result Answer). length x.mem) e ∙ keeps.size in
      let o : buffer_ok (length m') (entries_in l') ≡ true = rw (ap (λ (x : Result Answer). x.mem) e, ap (λ (x : Result Answer). x.buffer.held) e) keeps.valid.ok in
      record { same = e; good = record { directory = rw z g.directory; buffer = b; entries = o } }

pub length-kept : {s : Space} {q : Request} {m l : List ℕ} {a : Answer} {m' l' : List ℕ}
    → Good (length m) s.pdir l → Translates s q m l a m' l' → length m' ≡ length m
length-kept {s} {q} g t = ap (λ (x : Result Answer). length x.mem) t.same ∙ (keeps {s = s} g q).size

-- an answered address lies in memory with all its bytes
pub at_within : (n : Size) {s : Space} {k : Access} {addr : ℕ} {user : Bool} {m l : List ℕ} {a : Answer} {m' l' : List ℕ} {p : ℕ}
    → Good (length m) s.pdir l → Translates s (request k n addr user) m l a m' l' → a ≡ Ok p → p + bytes n ≤ length m'
unfolding Within
at_within n {s} {k} {addr} {user} {m} {l} {a} {m'} {l'} {p} g t e =
    let w = translate_within k n addr user m g.directory.whole s.paging s.pdir (entries_in l) g.entries in
    let w' : p + bytes n ≤ length m = subst (Within (length m) (bytes n)) (ap (λ (x : Result Answer). x.answer) (sym t.same) ∙ e) w in
    rw (length-kept g t) w'

-- an access after another one, over the same bus: in the space and the mode that the bus had at first
pub same_access : {b b' : Bus} → SameBus b b' → {k : Access} {n addr : ℕ} {m l : List ℕ} {a : Answer} {m' l' : List ℕ}
    → Translates b'.space (record { kind = k; size = n; addr = addr; user = b'.user }) m l a m' l'
    → Translates b.space (record { kind = k; size = n; addr = addr; user = b.user }) m l a m' l'
same_access s t = rw (← s.space, ← s.user) t

-- ---- what stays good

-- an emptied buffer, with this directory or another one
pub good_emptied : {n pdir pdir' : ℕ} {l l' : List ℕ} → Good n pdir l → pdir' % 4096 ≡ 0 → pdir' < n → kept_in l' ≡ translator.empty (kept_in l) → Buffer l'
    → Good n pdir' l'
good_emptied {n} g z h e b =
    record {
      directory = record { whole = g.directory.whole; small = g.directory.small; aligned = z; below = h };
      buffer = b;
      entries = rw (ap (λ (k : Kept). k.held) e) (empty_ok n);
    }
