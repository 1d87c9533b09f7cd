-- A step as a tree of accesses: `ask` for one and go on with the reply, or be `done`. Both machines interpret the same trees.
-- All stores stand in the leaf, and name no address: the values go, in order, through the latest granted writes. So nothing is translated after
-- a store, a faulting instruction changes no byte, and what is stored was translated for writing.
use Rattle.std.specs.Prelude.{ℕ, Bool, false, List, [], ◌∷◌, ◌++◌, if◌then◌else◌, Ok, Err}
use Rattle.memory.specs.Memory.{load_n, store_n}
use Rattle.paging.specs.declared.Access.{Access}
use Rattle.paging.specs.declared.Access.TheVariants.{Write}
use Rattle.paging.specs.declared.Space.{Space}
use Rattle.paging.specs.declared.Fault.{Fault}
use Rattle.paging.specs.Answer.{Answer}
use Rattle.paging.specs.Event.{Event, stored}
use Rattle.paging.specs.Walk.{is_write}
use Rattle.paging.specs.Translate.{Request, Outcome, outcome, Translator}

-- an access of a given size at an address, in the record's mode; or the two slots of a trap frame, translated for kernel writing, in that order
pub data Ask : Type 0 where
  access : Access → (size addr : ℕ) → Ask
  slots : (first second : ℕ) → Ask

-- the bytes there, read at once; or the fault
pub data Reply : Type 0 where
  got : ℕ → Reply
  denied : Fault → Reply

pub data Tree (A : Type 0) : Type 0 where
  ask : Ask → (Reply → Tree A) → Tree A
  done : A → Tree A

-- one tree after another
unfoldable pub bind : {A B : Type 0} → Tree A → (A → Tree B) → Tree B
bind (ask q rest) f = ask q (λ r. bind (rest r) f)
bind (done a) f = f a

-- ---- granted writes, and stores through them

pub record Grant : Type 0 where
  pub at : ℕ
  pub size : ℕ

abbrev pub grant : ℕ → ℕ → Grant
grant p n = record { at = p; size = n }

unfoldable pub store_all : List Grant → List ℕ → List ℕ → List ℕ
store_all [] vs m = m
store_all (g ∷ gs) [] m = m
store_all (g ∷ gs) (v ∷ vs) m = store_all gs vs (store_n g.size m g.at v)

unfoldable pub store_events : List Grant → List ℕ → List Event
store_events [] vs = []
store_events (g ∷ gs) [] = []
store_events (g ∷ gs) (v ∷ vs) = stored g.at g.size ∷ store_events gs vs

-- ---- one ask

-- a reply, with the writes that it grants
pub record Replied : Type 0 where
  pub reply : Reply
  pub grants : List Grant

abbrev pub replied : Reply → List Grant → Replied
replied r gs = record { reply = r; grants = gs }

-- what translation's answer tells the rule
unfoldable pub reply_to : Access → ℕ → List ℕ → Answer → Replied
reply_to kind n m (Ok p) = replied (got (load_n n m p)) (if is_write kind then grant p n ∷ [] else [])
reply_to kind n m (Err f) = replied (denied f) []

-- a slot is four bytes, written in kernel mode
abbrev pub slot : ℕ → Request
slot va = record { kind = Write; size = 4; addr = va; user = false }

abbrev pub requested : Access → ℕ → ℕ → Bool → Request
requested kind n va user = record { kind = kind; size = n; addr = va; user = user }

module _ {B : Type 0} (tr : Translator B) where
  unfoldable pub second_slot : ℕ → List Event → Outcome B Answer → Answer → Outcome B Replied
  second_slot p es o (Err f) = outcome (replied (denied f) []) o.mem o.buffer (es ++ o.events)
  second_slot p es o (Ok q) = outcome (replied (got 0) (grant p 4 ∷ grant q 4 ∷ [])) o.mem o.buffer (es ++ o.events)

  unfoldable pub first_slot : Space → ℕ → Outcome B Answer → Answer → Outcome B Replied
  unfolding second_slot
  first_slot s va o (Err f) = outcome (replied (denied f) []) o.mem o.buffer o.events
  first_slot s va o (Ok p) =
      let t = tr.translate s (slot va) o.mem o.buffer in
      second_slot p o.events t t.answer

  -- an ask answered, in a mode
  unfoldable pub answered : Space → Bool → Ask → List ℕ → B → Outcome B Replied
  unfolding reply_to first_slot
  answered s user (access kind n va) m b =
      let o = tr.translate s (requested kind n va user) m b in
      outcome (reply_to kind n o.mem o.answer) o.mem o.buffer o.events
  answered s user (slots x y) m b =
      let o = tr.translate s (slot x) m b in
      first_slot s y o o.answer

-- ---- a whole tree

-- where a tree ends: its leaf, memory, what the translator holds, the granted writes, the latest first, and the events
pub record Ended (B A : Type 0) : Type 0 where
  pub leaf : A
  pub mem : List ℕ
  pub buffer : B
  pub grants : List Grant
  pub events : List Event

abbrev pub after : {B A : Type 0} → List Event → Ended B A → Ended B A
after es e = record { leaf = e.leaf; mem = e.mem; buffer = e.buffer; grants = e.grants; events = es ++ e.events }

module _ {B A : Type 0} (tr : Translator B) (s : Space) (user : Bool) where
  unfoldable pub interpret : Tree A → List ℕ → B → List Grant → Ended B A
  interpret (ask q rest) m b gs =
      let o = answered tr s user q m b in
      after o.events (interpret (rest o.answer.reply) o.mem o.buffer (o.answer.grants ++ gs))
  interpret (done a) m b gs = record { leaf = a; mem = m; buffer = b; grants = gs; events = [] }
