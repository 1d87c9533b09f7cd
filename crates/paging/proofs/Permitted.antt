-- Document 01, "Addresses": where an access is answered with an address, the page tables permitted it, in memory as it was before the access. Of the
-- machine with the page buffer this follows from its agreement with the table reader: entries need no argument of their own.
use Rattle.std.proofs.Common.{Ok}
use Prim.Native.Nat.{ℕ, ◌+◌, ◌*◌, ◌/◌, ◌%◌}
use mathlib.Core.Path.{◌≡◌, refl, sym, ◌∙◌}
use mathlib.Core.Bool.{Bool, true, false, false≢true}
use mathlib.Core.List.{List}
use native.Mathlib.Omega.{arith}
use lib.ListN.{length}
use lib.Dec.{ltb}
use Rattle.word.specs.Word.{cut}
use Rattle.memory.specs.Memory.{load_n}
use Rattle.paging.specs.declared.Access.{Access}
use Rattle.paging.specs.declared.Entry.{Entry}
use Rattle.paging.specs.declared.Space.{Space}
use Rattle.paging.specs.Event.{Event, Words}
use Rattle.paging.specs.Walk.{bit, present, mark, mark_for, dir_at, tab_at, allows, Found, fault, found, walk_frame, walk_table, walk_below, walk_dir, walk}
use Rattle.paging.specs.Translate.{Request, page_of, answer_of, buffered, read_by}
use Rattle.paging.proofs.TableWord.{MarkedWord, mark_A, mark_marks}
use Rattle.paging.proofs.Coherent.{dir_aligned, tab_aligned}
use Rattle.paging.proofs.RequestAgrees.{Sound, request_agrees}

-- a directory word and a table word permit an access, and give the frame f
pub record Permits (dw tw : ℕ) (k : Access) (user : Bool) (f : ℕ) : Type 0 where
  pub dir_present : present dw ≡ true
  pub allowed : allows dw tw k user ≡ true
  pub frame_is : tw / 4096 ≡ f

-- the words of a page, in memory m
abbrev pub PagePermits : List ℕ → ℕ → ℕ → Access → Bool → ℕ → Type 0
PagePermits m pdir page k user f = Permits (load_n 4 m (dir_at pdir page)) (load_n 4 m (tab_at (load_n 4 m (dir_at pdir page)) page)) k user f

-- marks change no right
permits_before : {dw tw tv f : ℕ} {k : Access} {user : Bool} → MarkedWord tw tv → Permits dw tv k user f → Permits dw tw k user f
unfolding allows bit
permits_before g p = record {
  dir_present = p.dir_present;
  allowed = rw (← g.present, ← g.writable, ← g.user) p.allowed;
  frame_is = sym g.frame ∙ p.frame_is;
}

-- what a walk finds is permitted
abbrev FoundPermits : ℕ → ℕ → Access → Bool → Found → Type 0
FoundPermits dw tw k user (fault code cause) = Unit
FoundPermits dw tw k user (found f u w da ta) = Permits dw tw k user f

module _ (k : Access) (user : Bool) (dw da : ℕ) (hp : present dw ≡ true) where
  -- the stages, from the last to the first
  frame_permits : (b : Bool) (es : List Event) (m : List ℕ) (tw ta : ℕ) → allows dw tw k user ≡ true → FoundPermits dw tw k user (walk_frame b es m dw tw da ta).found
  unfolding walk_frame
  frame_permits false es m tw ta ha = tt
  frame_permits true es m tw ta ha = record { dir_present = hp; allowed = ha; frame_is = refl }

  table_permits : (b : Bool) (es : List Event) (m : List ℕ) (tw ta : ℕ) → allows dw tw k user ≡ b → FoundPermits dw tw k user (walk_table b es m dw tw da ta k user).found
  unfolding walk_table
  table_permits false es m tw ta ha = tt
  table_permits true es m tw ta ha = frame_permits (ltb (cut 4096 tw) (length m)) _ (mark_for k m ta) tw ta ha

  below_permits : (b : Bool) (es : List Event) (m : List ℕ) (page : ℕ) → FoundPermits dw (load_n 4 m (tab_at dw page)) k user (walk_below b es m dw da page k user).found
  unfolding walk_below
  below_permits false es m page = tt
  below_permits true es m page = table_permits (allows dw (load_n 4 m (tab_at dw page)) k user) es m (load_n 4 m (tab_at dw page)) (tab_at dw page) refl

module _ (m : List ℕ) (pdir page : ℕ) (k : Access) (user : Bool) where
  abbrev da : ℕ
  da = dir_at pdir page

  abbrev dw : ℕ
  dw = load_n 4 m da

  dir_permits : (b : Bool) → present dw ≡ b → FoundPermits dw (load_n 4 (mark 32 m da) (tab_at dw page)) k user (walk_dir b m dw da page k user).found
  unfolding walk_dir
  dir_permits false hp = tt
  dir_permits true hp = below_permits k user dw da hp (ltb (cut 4096 dw) (length m)) _ (mark 32 m da) page

  -- the whole walk
  walk_permits : FoundPermits dw (load_n 4 (mark 32 m da) (tab_at dw page)) k user (walk m pdir page k user).found
  unfolding walk
  walk_permits = dir_permits (present dw) refl

-- an answer at p is in the frame that was found
answer_permits : {dw tw : ℕ} (q : Request) (p : ℕ) (o : Found) → answer_of q o ≡ Ok p → FoundPermits dw tw q.kind q.user o → Permits dw tw q.kind q.user (p / 4096)
unfolding answer_of
answer_permits q p (fault code cause) e g = let z : ◌≡◌ {A = ℕ} 0 1 = cc in absurd (omega arith)
answer_permits q p (found f u w da ta) e g =
    let a : f * 4096 + cut q.size q.addr % 4096 ≡ p = cc in
    record { dir_present = g.dir_present; allowed = g.allowed; frame_is = g.frame_is ∙ omega arith }

module _ (s : Space) (q : Request) (m : List ℕ) (p : ℕ) (al : s.pdir % 4 ≡ 0) where
  -- the table reader
  reader_permits : (on : Bool) → on ≡ true → (read_by on s.pdir q m).answer ≡ Ok p → PagePermits m s.pdir (page_of q) q.kind q.user (p / 4096)
  unfolding read_by
  reader_permits false h e = absurd (false≢true h)
  reader_permits true h e =
      let da = dir_at s.pdir (page_of q) in
      let ta = tab_at (load_n 4 m da) (page_of q) in
      permits_before ((mark_marks mark_A m da (dir_aligned s.pdir (page_of q) al)).words ta (tab_aligned (load_n 4 m da) (page_of q)))
      (answer_permits q p (walk m s.pdir (page_of q) q.kind q.user).found e (walk_permits m s.pdir (page_of q) q.kind q.user))

-- the machine with the page buffer
pub request_permits : (s : Space) (q : Request) (m : List ℕ) (es : List Entry) (hs : List Words) (p : ℕ) → Sound s m es hs → s.paging ≡ true
    → (buffered.translate s q m es).answer ≡ Ok p → PagePermits m s.pdir (page_of q) q.kind q.user (p / 4096)
request_permits s q m es hs p o h e =
    reader_permits s q m p o.valid.aligned s.paging h (sym (request_agrees s q m es hs o).answer ∙ e)
