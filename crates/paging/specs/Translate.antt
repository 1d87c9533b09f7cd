-- Document 01, "Addresses" and "The table reader", and document 02, item 4: translation, in the machine with the page buffer and in the table reader.
use Rattle.std.specs.Prelude.{ℕ, ◌+◌, ◌*◌, ◌/◌, ◌%◌, Bool, true, false, List, [], ◌∷◌, ◌++◌, length, ltb, if◌then◌else◌, Ok, Err}
use Rattle.std.proofs.Math.Option.{Option, none, some}
use Rattle.word.specs.Word.{cut}
use Rattle.paging.specs.declared.Access.{Access}
use Rattle.paging.specs.declared.Cause.{Cause}
use Rattle.paging.specs.declared.Cause.TheVariants.{AddressBeyondMemory}
use Rattle.paging.specs.declared.Entry.{Entry}
use Rattle.paging.specs.declared.Space.{Space}
use Rattle.paging.specs.declared.TrapCode.{TrapCode}
use Rattle.paging.specs.declared.TrapCode.TheVariants.{Fmem}
use Rattle.paging.specs.Answer.{Answer}
use Rattle.paging.specs.Event.{Event, emptied}
use Rattle.paging.specs.Walk.{Found, fault, found, Walked, walk}
use Rattle.paging.specs.Buffer.{hit, after_walk, walk_events, buffer_ok}

-- an access: what for, its size in bytes, the address asked, and the mode it is made in
pub record Request : Type 0 where
  pub kind : Access
  pub size : ℕ
  pub addr : ℕ
  pub user : Bool

-- an answer with memory, what the translator holds (B), and the events
pub record Outcome (B A : Type 0) : Type 0 where
  pub answer : A
  pub mem : List ℕ
  pub buffer : B
  pub events : List Event

abbrev pub outcome : {B A : Type 0} → A → List ℕ → B → List Event → Outcome B A
outcome a m b es = record { answer = a; mem = m; buffer = b; events = es }

-- a way to translate; what PDIR and SPAG do to what it holds, with the events of that; and refusal 3's judgement of it, for a memory size
pub record Translator (B : Type 0) : Type 0 where
  pub translate : Space → Request → List ℕ → B → Outcome B Answer
  pub empty : B → B
  pub empty_events : List Event
  pub accepts : ℕ → B → Bool

-- ---- answers

-- faults "set vadr to the address asked, before low bits drop"; "translation should name its cause with every fault"
abbrev pub denied : TrapCode → Cause → Request → Answer
denied code cause q = Err (record { code = code; cause = cause; address = q.addr })

-- "Accesses drop low address bits to the natural size": the address in a frame
abbrev pub in_frame : ℕ → Request → Answer
in_frame f q = Ok (f * 4096 + cut q.size q.addr % 4096)

-- the page of an address: its top twenty bits
abbrev pub page_of : Request → ℕ
page_of q = q.addr / 4096 % 1048576

-- "Paging off: the address itself, FMEM if not below M"
unfoldable pub direct : Request → List ℕ → Answer
direct q m = if ltb q.addr (length m) then Ok (cut q.size q.addr) else denied Fmem AddressBeyondMemory q

unfoldable pub answer_of : Request → Found → Answer
answer_of q (fault code cause) = denied code cause q
answer_of q (found f u w da ta) = in_frame f q

-- ---- the machine with the page buffer

-- a walk, whose finding is kept
unfoldable pub refilled : Request → List Entry → Walked → Outcome (List Entry) Answer
unfolding answer_of
refilled q es w =
    outcome (answer_of q w.found) w.mem (after_walk (page_of q) es w.found) (w.events ++ walk_events (page_of q) es w.found)

unfoldable pub paged_by : Option ℕ → ℕ → Request → List ℕ → List Entry → Outcome (List Entry) Answer
unfolding refilled
paged_by (some f) pdir q m es = outcome (in_frame f q) m es []
paged_by none pdir q m es = refilled q es (walk m pdir (page_of q) q.kind q.user)

-- "Paging on, no usable entry": a walk
unfoldable pub paged : ℕ → Request → List ℕ → List Entry → Outcome (List Entry) Answer
unfolding paged_by
paged pdir q m es = paged_by (hit (page_of q) q.kind q.user es) pdir q m es

unfoldable pub translate_by : Bool → ℕ → Request → List ℕ → List Entry → Outcome (List Entry) Answer
translate_by true pdir q m es = paged pdir q m es
translate_by false pdir q m es = outcome (direct q m) m es []

abbrev pub buffered : Translator (List Entry)
buffered = record {
  translate = λ s q m es. translate_by s.paging s.pdir q m es;
  empty = λ es. [];
  empty_events = emptied ∷ [];
  accepts = buffer_ok;
}

-- ---- the table reader (document 01's term): "each access walks from pdir", "and no entry is kept"; "3 never comes"

unfoldable pub walked_by : Request → Walked → Outcome (Unit {0}) Answer
unfolding answer_of
walked_by q w = outcome (answer_of q w.found) w.mem tt w.events

unfoldable pub read_by : Bool → ℕ → Request → List ℕ → Outcome (Unit {0}) Answer
unfolding walked_by
read_by true pdir q m = walked_by q (walk m pdir (page_of q) q.kind q.user)
read_by false pdir q m = outcome (direct q m) m tt []

abbrev pub reader : Translator (Unit {0})
reader = record {
  translate = λ s q m b. read_by s.paging s.pdir q m;
  empty = λ b. b;
  empty_events = [];
  accepts = λ size b. true;
}
