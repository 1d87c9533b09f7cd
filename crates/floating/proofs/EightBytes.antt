-- Document 02, item 7: "eight-byte accesses drop three address bits". Eight bytes are translated as the word at their address is, with three bits of an answered
-- address dropped; a fault is the same.
use Rattle.std.proofs.Common.{if◌then◌else◌, Ok, Err}
use Prim.Native.Nat.{ℕ, ◌+◌, ◌*◌, ◌/◌, ◌≤◌}
use native.Mathlib.Omega.{arith}
use mathlib.Core.Bool.{Bool, true, false}
use mathlib.Core.List.{List}
use mathlib.Core.Option.{Option, none, some}
use mathlib.Core.Path.{◌≡◌, refl, sym, ap, ◌∙◌, subst}
use lib.ListN.{length}
use lib.Dec.{ltb}
use Rattle.word.specs.Word.{cut}
use Rattle.memory.specs.declared.Size.TheVariants.{Word}
use Rattle.paging.specs.declared.Access.{Access}
use Rattle.paging.specs.declared.Entry.{Entry}
use Rattle.paging.specs.Answer.{Answer}
use Rattle.paging.specs.declared.Cause.TheVariants.{AddressBeyondMemory}
use Rattle.paging.specs.declared.Fault.{Fault}
use Rattle.paging.specs.declared.Space.{Space}
use Rattle.paging.specs.declared.TrapCode.TheVariants.{Fmem}
use Rattle.paging.specs.Walk.{Found, fault, found}
use Rattle.paging.specs.Buffer.{hit}
use Rattle.paging.specs.Translate.{Outcome, outcome, page_of, in_frame, denied, direct, answer_of, refilled, paged_by, paged, translate_by}
use Rattle.mmu.specs.Good.{Good}
use Rattle.mmu.specs.Translates.{Result, result, kept_in, request, Translates}
use Rattle.mmu.proofs.Rules.{Within, translate_within}
use Rattle.mmu.proofs.Laws.{length-kept}
use Rattle.rules.specs.Tree.{requested}

-- an answer with three address bits dropped
unfoldable eight : Answer → Answer
eight (Ok p) = Ok (p / 8 * 8)
eight (Err f) = Err f

-- an outcome, its answer so
abbrev eight_by : Outcome (List Entry) Answer → Outcome (List Entry) Answer
eight_by o = outcome (eight o.answer) o.mem o.buffer o.events

module _ (k : Access) (a : ℕ) (u : Bool) where
  frame_eight : (f : ℕ) → in_frame f (requested k 8 a u) ≡ eight (in_frame f (request k Word a u))
  unfolding eight
  frame_eight f = ap Ok (omega arith)

  found_eight : (r : Found) → answer_of (requested k 8 a u) r ≡ eight (answer_of (request k Word a u) r)
  unfolding answer_of eight
  found_eight (fault code cause) = refl
  found_eight (found f us w da ta) = frame_eight f

  direct_eight : (m : List ℕ) → direct (requested k 8 a u) m ≡ eight (direct (request k Word a u) m)
  unfolding direct eight
  direct_eight m = go (ltb a (length m))
    where
      go : (b : Bool) → (if b then Ok (cut 8 a) else denied Fmem AddressBeyondMemory (requested k 8 a u))
          ≡ eight (if b then Ok (cut 4 a) else denied Fmem AddressBeyondMemory (request k Word a u))
      go true = ap Ok (omega arith)
      go false = refl

  paged_eight : (o : Option ℕ) (pdir : ℕ) (m : List ℕ) (es : List Entry) → paged_by o pdir (requested k 8 a u) m es ≡ eight_by (paged_by o pdir (request k Word a u) m es)
  unfolding paged_by refilled
  paged_eight (some f) pdir m es = rw (frame_eight f)
  paged_eight none pdir m es = rw (found_eight _)

  translate_eight : (paging : Bool) (pdir : ℕ) (m : List ℕ) (es : List Entry)
      → translate_by paging pdir (requested k 8 a u) m es ≡ eight_by (translate_by paging pdir (request k Word a u) m es)
  unfolding translate_by paged
  translate_eight true pdir m es = paged_eight (hit (page_of (request k Word a u)) k u es) pdir m es
  translate_eight false pdir m es = rw (direct_eight m)

module _ {s : Space} {k : Access} {a : ℕ} {u : Bool} {m l : List ℕ} {r : Answer} {m' l' : List ℕ} (t : Translates s (request k Word a u) m l r m' l') where
  -- eight bytes, as the word there
  eight_told : Translates s (requested k 8 a u) m l (eight r) m' l'
  eight_told =
      record {
        same = rw (translate_eight k a u s.paging s.pdir m (kept_in l).held) (ap (λ (x : Result Answer). result (eight x.answer) x.mem x.buffer) t.same);
        good = t.good;
      }

  pub eight_at : {p : ℕ} → r ≡ Ok p → Translates s (requested k 8 a u) m l (Ok (p / 8 * 8)) m' l'
  unfolding eight
  eight_at e = subst (λ x. Translates s (requested k 8 a u) m l (eight x) m' l') e eight_told

  pub eight_denied : {f : Fault} → r ≡ Err f → Translates s (requested k 8 a u) m l (Err f) m' l'
  unfolding eight
  eight_denied e = subst (λ x. Translates s (requested k 8 a u) m l (eight x) m' l') e eight_told

-- in a multiple of eight bytes the eight bytes lie where the word at their address does
within_eight : (n : ℕ) → n / 8 * 8 ≡ n → (r : Answer) → Within n 4 r → Within n 8 (eight r)
unfolding Within eight
within_eight n z (Ok p) h = omega arith
within_eight n z (Err f) h = tt

-- an answered address of eight bytes lies in memory with all of them
pub eight_within : {s : Space} {k : Access} {a : ℕ} {u : Bool} {m l : List ℕ} {r : Answer} {m' l' : List ℕ} {p : ℕ}
    → Good (length m) s.pdir l → Translates s (requested k 8 a u) m l r m' l' → r ≡ Ok p → p + 8 ≤ length m'
unfolding Within
eight_within {s} {k} {a} {u} {m} {l} {r} {m'} {l'} {p} g t e =
    let word = translate_within k Word a u m g.directory.whole s.paging s.pdir (kept_in l).held g.entries in
    let whole : length m / 8 * 8 ≡ length m = omega (arith, g.directory.whole) in
    let eight-bytes = within_eight (length m) whole _ word in
    let same = ap (λ (x : Outcome (List Entry) Answer). x.answer) (sym (translate_eight k a u s.paging s.pdir m (kept_in l).held)) in
    let within : p + 8 ≤ length m = subst (Within (length m) 8) (same ∙ ap (λ (x : Result Answer). x.answer) (sym t.same) ∙ e) eight-bytes in
    rw (length-kept g t) within
