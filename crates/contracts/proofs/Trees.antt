-- Document 01, "One step" and "Addresses": trees of accesses, interpreted with the page buffer: an access that the code has translated, and one tree
-- after another.
use Rattle.std.proofs.Common.{Ok, Err}
use Prim.Native.Nat.{ℕ}
use mathlib.Core.Bool.{Bool}
use mathlib.Core.List.{List, [], ◌∷◌, ◌++◌, append_assoc}
use mathlib.Core.Path.{◌≡◌, ◌∙◌, refl, ap}
use Rattle.paging.specs.declared.Access.{Access}
use Rattle.paging.specs.Answer.{Answer}
use Rattle.paging.specs.declared.Fault.{Fault}
use Rattle.paging.specs.declared.Space.{Space}
use Rattle.paging.specs.Event.{Event}
use Rattle.paging.specs.Translate.{Request, Outcome, outcome, Translator}
use Rattle.mmu.specs.Translates.{Kept, Translates, kept_in, result, seen, translator}
use Rattle.rules.specs.Tree.{access, slots, Reply, got, denied, Tree, ask, done, bind, Grant, grant, slot, requested, Replied, replied, reply_to}
use Rattle.rules.specs.Tree.{first_slot, second_slot, answered, Ended, after, interpret}

-- the events of a translation
abbrev pub events_of : Space → Request → List ℕ → List ℕ → List Event
events_of s q m l = (translator.translate s q m (kept_in l)).events

-- ---- an access

module _ {A : Type 0} {s : Space} {user : Bool} {kind : Access} {n va : ℕ} {m l : List ℕ} {a : Answer} {m' l' : List ℕ}
    (t : Translates s (requested kind n va user) m l a m' l') (k : Reply → Tree A) (gs : List Grant) where
  -- the tree goes on with the code's answer, memory and buffer
  pub asked : interpret translator s user (ask (access kind n va) k) m (kept_in l) gs
      ≡ after (events_of s (requested kind n va user) m l) (interpret translator s user (k (reply_to kind n m' a).reply) m' (kept_in l') ((reply_to kind n m' a).grants ++ gs))
  unfolding interpret answered
  asked = rw (ap (λ z. z.answer) t.same, ap (λ z. z.mem) t.same, ap (λ z. z.buffer) t.same)

-- ---- the two slots of a trap frame

-- a slot's outcome, from its answer, memory and buffer
module _ (o : Outcome Kept Answer) {a : Answer} {m : List ℕ} {b : Kept} (h : result a m b ≡ seen o) where
  first_denied : (s : Space) (y : ℕ) {f : Fault} → a ≡ Err f → first_slot translator s y o o.answer ≡ outcome (replied (denied f) []) m b o.events
  unfolding first_slot
  first_denied s y e = rw (← ap (λ z. z.answer) h, e, ← ap (λ z. z.mem) h, ← ap (λ z. z.buffer) h)

  first_granted : (s : Space) (y : ℕ) {p : ℕ} → a ≡ Ok p → first_slot translator s y o o.answer
      ≡ second_slot translator p o.events (translator.translate s (slot y) m b) (translator.translate s (slot y) m b).answer
  unfolding first_slot
  first_granted s y e = rw (← ap (λ z. z.answer) h, e, ← ap (λ z. z.mem) h, ← ap (λ z. z.buffer) h)

  second_denied : (p : ℕ) (es : List Event) {f : Fault} → a ≡ Err f → second_slot translator p es o o.answer ≡ outcome (replied (denied f) []) m b (es ++ o.events)
  unfolding second_slot
  second_denied p es e = rw (← ap (λ z. z.answer) h, e, ← ap (λ z. z.mem) h, ← ap (λ z. z.buffer) h)

  second_granted : (p : ℕ) (es : List Event) {q : ℕ} → a ≡ Ok q
      → second_slot translator p es o o.answer ≡ outcome (replied (got 0) (grant p 4 ∷ grant q 4 ∷ [])) m b (es ++ o.events)
  unfolding second_slot
  second_granted p es e = rw (← ap (λ z. z.answer) h, e, ← ap (λ z. z.mem) h, ← ap (λ z. z.buffer) h)

module _ {A : Type 0} (s : Space) (user : Bool) (x y : ℕ) {m l : List ℕ} {a : Answer} {m' l' : List ℕ}
    (t : Translates s (slot x) m l a m' l') (k : Reply → Tree A) (gs : List Grant) where
  -- the tree goes on with what both slots answer
  unfoldable goes_on : Outcome Kept Replied → Ended Kept A
  unfolding interpret
  goes_on o = after o.events (interpret translator s user (k o.answer.reply) o.mem o.buffer (o.answer.grants ++ gs))

  abbrev first : Outcome Kept Answer
  first = translator.translate s (slot x) m (kept_in l)

  -- the first is denied
  pub slots_first : {f : Fault} → a ≡ Err f → interpret translator s user (ask (slots x y) k) m (kept_in l) gs
      ≡ after (events_of s (slot x) m l) (interpret translator s user (k (denied f)) m' (kept_in l') gs)
  unfolding interpret answered goes_on
  slots_first e = ap goes_on (first_denied first t.same s y e)

  module _ {b : Answer} {m'' l'' : List ℕ} (u : Translates s (slot y) m' l' b m'' l'') {p : ℕ} (e : a ≡ Ok p) where
    abbrev second : Outcome Kept Answer
    second = translator.translate s (slot y) m' (kept_in l')

    -- the second is denied
    pub slots_second : {f : Fault} → b ≡ Err f → interpret translator s user (ask (slots x y) k) m (kept_in l) gs
        ≡ after (events_of s (slot x) m l ++ events_of s (slot y) m' l') (interpret translator s user (k (denied f)) m'' (kept_in l'') gs)
    unfolding interpret answered goes_on
    slots_second d = ap goes_on (first_granted first t.same s y e ∙ second_denied second u.same p first.events d)

    -- both are granted
    pub slots_both : {q : ℕ} → b ≡ Ok q → interpret translator s user (ask (slots x y) k) m (kept_in l) gs
        ≡ after (events_of s (slot x) m l ++ events_of s (slot y) m' l') (interpret translator s user (k (got 0)) m'' (kept_in l'') (grant p 4 ∷ grant q 4 ∷ gs))
    unfolding interpret answered goes_on
    slots_both d = ap goes_on (first_granted first t.same s y e ∙ second_granted second u.same p first.events d)

-- ---- one tree after another

module _ {B A C : Type 0} (tr : Translator B) (s : Space) (user : Bool) (f : A → Tree C) where
  -- the rest of a tree, from where its first part ended
  abbrev pub rest : Ended B A → Ended B C
  rest e = after e.events (interpret tr s user (f e.leaf) e.mem e.buffer e.grants)

  -- the first part, then the rest
  pub bind_law : (t : Tree A) (m : List ℕ) (b : B) (gs : List Grant) → interpret tr s user (bind t f) m b gs ≡ rest (interpret tr s user t m b gs)
  unfolding interpret bind
  bind_law (ask q k) m b gs =
      let o = answered tr s user q m b in
      rw (bind_law (k o.answer.reply) o.mem o.buffer (o.answer.grants ++ gs), append_assoc)
  bind_law (done a) m b gs = refl
