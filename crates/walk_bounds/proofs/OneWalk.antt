-- Document 02, item 6: a translation makes one table walk at most, in the machine with the page buffer and in the table reader; and a tree of accesses as many as its
-- translations.
use Rattle.std.proofs.Common.{Ok, Err}
use Prim.Native.Nat.{ℕ, ◌+◌, ◌≤◌}
use mathlib.Core.Path.{◌≡◌, refl}
use mathlib.Core.Bool.{Bool, true, false}
use mathlib.Core.List.{List, ◌++◌}
use mathlib.Core.Option.{Option, none, some}
use native.Mathlib.Omega.{arith}
use Rattle.paging.specs.declared.Entry.{Entry}
use Rattle.paging.specs.declared.Space.{Space}
use Rattle.paging.specs.Answer.{Answer}
use Rattle.paging.specs.Event.{Event}
use Rattle.paging.specs.Buffer.{hit}
use Rattle.paging.specs.Translate.{Request, Outcome, Translator, buffered, reader, page_of, refilled, paged_by, paged, translate_by, walked_by, read_by}
use Rattle.paging.specs.Counting.{walks_in}
use Rattle.paging.proofs.CountingLaws.{walks_append}
use Rattle.paging.proofs.CountedWalk.{walk_walks, refill_walks}
use Rattle.rules.specs.Tree.{Ask, access, slots, Tree, Grant, slot, second_slot, first_slot, answered, interpret}
use Rattle.walk_bounds.proofs.Within.{translations, Within, at_leaf, at_ask}

-- a translator that walks at most once a request, and never to empty what it holds
pub record OneWalk {B : Type 0} (tr : Translator B) : Type 0 where
  pub each : (s : Space) (q : Request) (m : List ℕ) (b : B) → walks_in (tr.translate s q m b).events ≤ 1
  pub emptying : walks_in tr.empty_events ≡ 0

-- ---- the machine with the page buffer

-- a hit is none
paged_walks : (h : Option ℕ) (pdir : ℕ) (q : Request) (m : List ℕ) (es : List Entry) → walks_in (paged_by h pdir q m es).events ≤ 1
unfolding paged_by refilled walks_in
paged_walks (some f) pdir q m es = omega arith
paged_walks none pdir q m es =
    omega (arith, refill_walks m pdir (page_of q) q.kind q.user es)

buffered_each : (paging : Bool) (pdir : ℕ) (q : Request) (m : List ℕ) (es : List Entry) → walks_in (translate_by paging pdir q m es).events ≤ 1
unfolding translate_by paged walks_in
buffered_each true pdir q m es = paged_walks (hit (page_of q) q.kind q.user es) pdir q m es
buffered_each false pdir q m es = omega arith

pub one_buffered : OneWalk buffered
unfolding walks_in
one_buffered = record { each = λ s q m es. buffered_each s.paging s.pdir q m es; emptying = refl }

-- ---- the table reader

reader_each : (paging : Bool) (pdir : ℕ) (q : Request) (m : List ℕ) → walks_in (read_by paging pdir q m).events ≤ 1
unfolding read_by walked_by walks_in
reader_each true pdir q m = omega (arith, walk_walks m pdir (page_of q) q.kind q.user)
reader_each false pdir q m = omega arith

pub one_reader : OneWalk reader
unfolding walks_in
one_reader = record { each = λ s q m b. reader_each s.paging s.pdir q m; emptying = refl }

-- ---- a tree

module _ {B : Type 0} {tr : Translator B} (one : OneWalk tr) (s : Space) where
  second_walks : (p : ℕ) (es : List Event) (o : Outcome B Answer) (a : Answer) → walks_in (second_slot tr p es o a).events ≡ walks_in es + walks_in o.events
  unfolding second_slot
  second_walks p es o (Ok q) = walks_append es o.events
  second_walks p es o (Err f) = walks_append es o.events

  first_walks : (va : ℕ) (o : Outcome B Answer) (a : Answer) → walks_in o.events ≤ 1 → walks_in (first_slot tr s va o a).events ≤ 2
  unfolding first_slot
  first_walks va o (Ok p) h =
      let t = tr.translate s (slot va) o.mem o.buffer in
      omega (arith, second_walks p o.events t t.answer, one.each s (slot va) o.mem o.buffer)
  first_walks va o (Err f) h = omega arith

  -- one ask
  ask_walks : (user : Bool) (q : Ask) (m : List ℕ) (b : B) → walks_in (answered tr s user q m b).events ≤ translations q
  unfolding answered
  ask_walks user (access k n va) m b = one.each s _ m b
  ask_walks user (slots x y) m b =
      let t = tr.translate s (slot x) m b in
      first_walks y t t.answer (one.each s (slot x) m b)

  -- a whole tree: its walks and the weight of the leaf at which it ends
  pub tree_walks : {A : Type 0} {weight : A → ℕ} (n : ℕ) (user : Bool) {t : Tree A} → Within weight n t → (m : List ℕ) (b : B) (gs : List Grant)
      → walks_in (interpret tr s user t m b gs).events + weight (interpret tr s user t m b gs).leaf ≤ n
  unfolding interpret walks_in
  tree_walks n user (at_leaf l) m b gs = omega (arith, l)
  tree_walks n user (at_ask {q = q} {k = k} rest l h) m b gs =
      let o = answered tr s user q m b in
      let e = interpret tr s user (k o.answer.reply) o.mem o.buffer (o.answer.grants ++ gs) in
      omega (arith, l, walks_append o.events e.events, ask_walks user q m b, tree_walks rest user (h o.answer.reply) o.mem o.buffer (o.answer.grants ++ gs))
