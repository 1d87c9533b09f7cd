-- Document 01, "Traps": each delivery among the events of a step, and of a run, is of one of the trap codes.
use Prim.Native.Nat.{ℕ}
use mathlib.Core.Bool.{Bool, true, false}
use mathlib.Core.List.{List, [], ◌∷◌, ◌++◌}
use mathlib.Core.Option.{Option, none, some}
use lib.ListN.{length}
use Rattle.paging.specs.declared.Access.{Access}
use Rattle.paging.specs.declared.Entry.{Entry}
use Rattle.paging.specs.declared.Space.{Space}
use Rattle.paging.specs.Event.{Event, walked, kept, emptied, marked, stored, delivered, Words}
use Rattle.paging.specs.Walk.{Found, fault, found, walk}
use Rattle.paging.specs.Buffer.{hit, fits, keep_events, walk_events}
use Rattle.paging.specs.Counting.{counting}
use Rattle.paging.specs.Translate.{Request, page_of, paged_by, translate_by, walked_by, read_by, refilled, paged, buffered, reader, Translator}
use Rattle.paging.proofs.CountedWalk.{Marks, no_mark, one_mark, SingleWalk, began, walk_single}
use Rattle.rules.specs.declared.Key.{Key}
use Rattle.rules.specs.Tree.{Tree, Grant, store_events, Ended, interpret}
use Rattle.rules.specs.Trap.{Effect, none as nothing, set_space, deliver, print, Final}
use Rattle.rules.specs.Clock.{next_of}
use Rattle.rules.specs.Step.{State, effect_events, finished_events, stepped_by, step_by, step_tree, step}
use Rattle.rules.specs.Run.{steps_of}
use Rattle.rules.specs.Walks.{events_of}
use Rattle.rules.proofs.Leaves.{leaf_at}
use Rattle.rules.proofs.TreeInvariant.{tree_invariant}
use Rattle.rules.proofs.RunInvariant.{steps_invariant}
use Rattle.rules.proofs.DeliveredCodes.{IsCode, DeliversCode, step_code}

-- an event that, where it is a delivery, is of a trap code
unfoldable pub CodeIn : Event → Type 0
CodeIn walked = Unit {0}
CodeIn (kept w) = Unit {0}
CodeIn emptied = Unit {0}
CodeIn (marked a) = Unit {0}
CodeIn (stored a n) = Unit {0}
CodeIn (delivered n) = IsCode n

-- all of a list are
pub data Coded : List Event → Type 0 where
  no_event : Coded []
  one_more : {e : Event} {es : List Event} → CodeIn e → Coded es → Coded (e ∷ es)

pub coded_both : {es fs : List Event} → Coded es → Coded fs → Coded (es ++ fs)
coded_both no_event q = q
coded_both (one_more p c) q = one_more p (coded_both c q)

-- ---- a walk: it began, and set marks

marks_coded : {es : List Event} → Marks es → Coded es
unfolding CodeIn
marks_coded no_mark = no_event
marks_coded (one_mark m) = one_more tt (marks_coded m)

single_coded : {es : List Event} → SingleWalk es → Coded es
unfolding CodeIn
single_coded (began m) = one_more tt (marks_coded m)

walk_coded : (m : List ℕ) (pdir page : ℕ) (k : Access) (user : Bool) → Coded (walk m pdir page k user).events
walk_coded m pdir page k user = single_coded (walk_single m pdir page k user)

keep_coded : (room : Bool) (w : Words) → Coded (keep_events room w)
unfolding keep_events CodeIn
keep_coded true w = one_more tt no_event
keep_coded false w = one_more tt (one_more tt no_event)

found_coded : (p : ℕ) (es : List Entry) (f : Found) → Coded (walk_events p es f)
unfolding walk_events
found_coded p es (fault code cause) = no_event
found_coded p es (found f u w da ta) = keep_coded (fits p es) _

-- ---- the translators

-- what a translator reports is no delivery but of a trap code
pub record CodedTranslator {B : Type 0} (tr : Translator B) : Type 0 where
  pub translates : (s : Space) (q : Request) (m : List ℕ) (b : B) → Coded (tr.translate s q m b).events
  pub empties : Coded tr.empty_events

paged_coded : (h : Option ℕ) (pdir : ℕ) (q : Request) (m : List ℕ) (es : List Entry) → Coded (paged_by h pdir q m es).events
unfolding paged_by refilled
paged_coded none pdir q m es = coded_both (walk_coded m pdir (page_of q) q.kind q.user) (found_coded (page_of q) es (walk m pdir (page_of q) q.kind q.user).found)
paged_coded (some f) pdir q m es = no_event

translate_coded : (on : Bool) (pdir : ℕ) (q : Request) (m : List ℕ) (es : List Entry) → Coded (translate_by on pdir q m es).events
unfolding translate_by paged
translate_coded true pdir q m es = paged_coded (hit (page_of q) q.kind q.user es) pdir q m es
translate_coded false pdir q m es = no_event

read_coded : (on : Bool) (pdir : ℕ) (q : Request) (m : List ℕ) → Coded (read_by on pdir q m).events
unfolding read_by walked_by
read_coded true pdir q m = walk_coded m pdir (page_of q) q.kind q.user
read_coded false pdir q m = no_event

pub buffered_coded : CodedTranslator buffered
unfolding CodeIn
buffered_coded = record { translates = λ s q m es. translate_coded s.paging s.pdir q m es; empties = one_more tt no_event }

pub reader_coded : CodedTranslator reader
reader_coded = record { translates = λ s q m b. read_coded s.paging s.pdir q m; empties = no_event }

pub counting_coded : {B : Type 0} (tr : Translator B) → CodedTranslator tr → CodedTranslator (counting tr)
counting_coded tr t = record { translates = λ s q m b. t.translates s q m b.held; empties = t.empties }

-- ---- a step

stores_coded : (gs : List Grant) (vs : List ℕ) → Coded (store_events gs vs)
unfolding store_events CodeIn
stores_coded [] vs = no_event
stores_coded (g ∷ gs) [] = no_event
stores_coded (g ∷ gs) (v ∷ vs) = one_more tt (stores_coded gs vs)

module _ {B : Type 0} (tr : Translator B) (t : CodedTranslator tr) where
  effect_coded : (x : Effect) → DeliversCode x → Coded (effect_events tr x)
  unfolding effect_events CodeIn DeliversCode
  effect_coded nothing d = no_event
  effect_coded (set_space s) d = t.empties
  effect_coded (deliver n) d = one_more d no_event
  effect_coded (print x) d = no_event

  end_coded : (e : Ended B Final) → Coded e.events → DeliversCode e.leaf.effect → Coded (finished_events tr e)
  unfolding finished_events
  end_coded e c d = coded_both (coded_both c (stores_coded e.grants e.leaf.values)) (effect_coded e.leaf.effect d)

  tree_coded : {A : Type 0} (s : Space) (user : Bool) (x : Tree A) (m : List ℕ) (b : B) → Coded (interpret tr s user x m b []).events
  tree_coded s user x m b =
      tree_invariant tr s (λ es m b. Coded es) (λ q es m b c. coded_both c (t.translates s q m b)) user x [] m b [] no_event

  pub step_events_coded : (ks : List Key) (s : State B) → Coded (step tr ks s).events
  unfolding step step_by stepped_by
  step_events_coded ks s =
      let x = step_tree (next_of ks s.cpu.clock.taken) (length s.mem) (length s.console) s.cpu in
      end_coded (interpret tr s.cpu.space s.cpu.system.user x s.mem s.buffer []) (tree_coded s.cpu.space s.cpu.system.user x s.mem s.buffer)
      (leaf_at tr s.cpu.space s.cpu.system.user (step_code (next_of ks s.cpu.clock.taken) (length s.mem) (length s.console) s.cpu) s.mem s.buffer [])

-- a whole run
pub run_events_coded : {B : Type 0} (tr : Translator B) (t : CodedTranslator tr) (ks : List Key) (n : ℕ) (s : State B) → Coded (events_of (steps_of tr ks n s))
run_events_coded tr t ks n s =
    steps_invariant tr ks (λ es s. Coded es) (λ es s c. coded_both c (step_events_coded tr t ks s)) n [] s no_event
