-- Document 02, item 4: why a request is denied. In the table reader it is denied with the first of the seven checks that fails, by the code that comes with this
-- cause, and answered where none fails (`reader_fault`); so it is in the machine with the page buffer, from a coherent buffer (`request_fault`), and whatever the buffer holds no other
-- cause is named (`denied_first`).
use Rattle.std.proofs.Common.{if◌then◌else◌, Ok}
use Prim.Native.Nat.{ℕ, ◌%◌}
use mathlib.Core.Path.{◌≡◌, refl, sym, ap, ◌∙◌}
use mathlib.Core.Bool.{Bool, true, false, ◌&&◌}
use mathlib.Core.List.{List, [], ◌∷◌}
use mathlib.Core.Option.{Option, none, some}
use native.Mathlib.Omega.{arith}
use lib.Dec.{ltb}
use lib.ListN.{length}
use Rattle.word.specs.Word.{cut}
use Rattle.memory.specs.Memory.{load_n}
use Rattle.paging.specs.declared.Access.{Access}
use Rattle.paging.specs.declared.Cause.TheVariants.{AddressBeyondMemory, DirectoryAbsent, DirectoryBeyondMemory, TableAbsent, NoUserRight, NoWriteRight, FrameBeyondMemory}
use Rattle.paging.specs.declared.Entry.{Entry}
use Rattle.paging.specs.declared.Fault.{Fault}
use Rattle.paging.specs.declared.Space.{Space}
use Rattle.paging.specs.Event.{Event, Words}
use Rattle.paging.specs.declared.TrapCode.{TrapCode}
use Rattle.paging.specs.declared.TrapCode.TheVariants.{Fmem}
use Rattle.paging.specs.TrapCode.{page_fault}
use Rattle.paging.specs.Walk.{bit, present, mark, mark_for, dir_at, tab_at, user_ok, write_ok, allows, refused_by, walk_frame, walk_table, walk_below, walk_dir, walk}
use Rattle.paging.specs.Translate.{Request, page_of, denied, direct, answer_of, refilled, paged_by, paged, translate_by, buffered, walked_by, read_by, reader}
use Rattle.paging.specs.Buffer.{hit}
use Rattle.paging.specs.Cause.{Check, check, walk_checks, checks, first_failing, fault_code, fault_of, fault_in, dir_word, tab_word}
use Rattle.paging.proofs.TableWord.{MarkedWord, mark_A, mark_marks}
use Rattle.paging.proofs.Coherent.{dir_aligned, tab_aligned}
use Rattle.paging.proofs.RequestAgrees.{Sound, request_agrees}

-- ---- the three tests of the table word

-- the first of them that fails is the cause that `refused_by` names
refused_first : (p u w : Bool) (rest : List Check)
    → first_failing (check p TableAbsent ∷ check u NoUserRight ∷ check w NoWriteRight ∷ rest)
    ≡ (if p && u && w then first_failing rest else some (if p then (if u then NoWriteRight else NoUserRight) else TableAbsent))
unfolding first_failing
refused_first false u w rest = refl
refused_first true false w rest = refl
refused_first true true false rest = refl
refused_first true true true rest = refl

-- it comes with a page fault
refused_code : (k : Access) (dw tw : ℕ) (user : Bool) → fault_code k (refused_by dw tw user) ≡ page_fault k
unfolding refused_by fault_code
refused_code k dw tw user = go (present tw) (user_ok dw tw user)
  where
    go : (p u : Bool) → fault_code k (if p then (if u then NoWriteRight else NoUserRight) else TableAbsent) ≡ page_fault k
    go false u = refl
    go true false = refl
    go true true = refl

-- ---- the stages of the walk, from the last to the first

module _ (q : Request) (dw da : ℕ) where
  frame_fault : (b : Bool) (es : List Event) (m : List ℕ) (tw ta : ℕ)
      → fault_in (answer_of q (walk_frame b es m dw tw da ta).found) ≡ fault_of q (first_failing (check b FrameBeyondMemory ∷ []))
  unfolding answer_of walk_frame first_failing fault_code
  frame_fault false es m tw ta = refl
  frame_fault true es m tw ta = refl

  table_fault : (b : Bool) (es : List Event) (m : List ℕ) (tw ta : ℕ)
      → fault_in (answer_of q (walk_table b es m dw tw da ta q.kind q.user).found)
      ≡ fault_of q (if b then first_failing (check (ltb (cut 4096 tw) (length m)) FrameBeyondMemory ∷ []) else some (refused_by dw tw q.user))
  unfolding answer_of walk_table
  table_fault false es m tw ta =
      ap (λ (c : TrapCode). some (record { code = c; cause = refused_by dw tw q.user; address = q.addr })) (sym (refused_code q.kind dw tw q.user))
  table_fault true es m tw ta = frame_fault (ltb (cut 4096 tw) (length m)) _ (mark_for q.kind m ta) tw ta

  -- the checks of the table word
  abbrev table_checks : (tw size : ℕ) → List Check
  table_checks tw size =
      check (present tw) TableAbsent ∷ check (user_ok dw tw q.user) NoUserRight ∷ check (write_ok dw tw q.kind) NoWriteRight
      ∷ check (ltb (cut 4096 tw) size) FrameBeyondMemory ∷ []

  tested_fault : (es : List Event) (m : List ℕ) (tw ta : ℕ)
      → fault_in (answer_of q (walk_table (allows dw tw q.kind q.user) es m dw tw da ta q.kind q.user).found) ≡ fault_of q (first_failing (table_checks tw (length m)))
  unfolding allows refused_by
  tested_fault es m tw ta =
      table_fault (allows dw tw q.kind q.user) es m tw ta
      ∙ ap (fault_of q) (sym (refused_first (present tw) (user_ok dw tw q.user) (write_ok dw tw q.kind) _))

  below_fault : (b : Bool) (es : List Event) (m : List ℕ)
      → fault_in (answer_of q (walk_below b es m dw da (page_of q) q.kind q.user).found)
      ≡ fault_of q (first_failing (check b DirectoryBeyondMemory ∷ table_checks (load_n 4 m (tab_at dw (page_of q))) (length m)))
  unfolding answer_of walk_below first_failing fault_code
  below_fault false es m = refl
  below_fault true es m = tested_fault es m _ _

  -- marks change no check
  marked_checks : {tw tv : ℕ} (size : ℕ) → MarkedWord tw tv → table_checks tv size ≡ table_checks tw size
  unfolding user_ok write_ok bit
  marked_checks size g = rw (g.present, g.user, g.writable, g.frame)

-- ---- a request

module _ (s : Space) (q : Request) (m : List ℕ) (al : s.pdir % 4 ≡ 0) where
  abbrev da : ℕ
  da = dir_at s.pdir (page_of q)

  abbrev dw : ℕ
  dw = dir_word s q m

  -- the whole walk; the table word is read once the directory word is marked
  dir_fault : (b : Bool) → fault_in (answer_of q (walk_dir b m dw da (page_of q) q.kind q.user).found)
      ≡ fault_of q (first_failing (check b DirectoryAbsent ∷ check (ltb (cut 4096 dw) (length m)) DirectoryBeyondMemory ∷ table_checks q dw da (tab_word s q m) (length m)))
  unfolding answer_of walk_dir first_failing fault_code
  dir_fault false = refl
  dir_fault true =
      let m1 = mark 32 m da in
      let marked = mark_marks mark_A m da (dir_aligned s.pdir (page_of q) al) in
      let same = marked_checks q dw da (length m1) (marked.words (tab_at dw (page_of q)) (tab_aligned dw (page_of q)))
      ∙ ap (table_checks q dw da (tab_word s q m)) marked.size in
      below_fault q dw da (ltb (cut 4096 dw) (length m)) _ m1
      ∙ ap (λ (l : List Check). fault_of q (first_failing (check (ltb (cut 4096 dw) (length m)) DirectoryBeyondMemory ∷ l))) same

  by_paging : (on : Bool) → fault_in (read_by on s.pdir q m).answer ≡ fault_of q (first_failing (checks (record { pdir = s.pdir; paging = on }) q m))
  unfolding read_by walked_by checks walk_checks walk first_failing direct fault_code
  by_paging true = dir_fault (present dw)
  by_paging false = go (ltb q.addr (length m))
    where
      go : (b : Bool) → fault_in (if b then Ok (cut q.size q.addr) else denied Fmem AddressBeyondMemory q) ≡ fault_of q (if b then none else some AddressBeyondMemory)
      go true = refl
      go false = refl

  -- the table reader
  pub reader_fault : fault_in (reader.translate s q m tt).answer ≡ fault_of q (first_failing (checks s q m))
  reader_fault = by_paging s.paging

-- the machine with the page buffer
pub request_fault : (s : Space) (q : Request) (m : List ℕ) (es : List Entry) (hs : List Words) → Sound s m es hs
    → fault_in (buffered.translate s q m es).answer ≡ fault_of q (first_failing (checks s q m))
request_fault s q m es hs o = ap fault_in (request_agrees s q m es hs o).answer ∙ reader_fault s q m o.valid.aligned

-- whatever the buffer holds, a denial is the table reader's: where an entry serves, nothing is denied
pub denied_first : (s : Space) (q : Request) (m : List ℕ) (es : List Entry) (f : Fault) → s.pdir % 4 ≡ 0 → fault_in (buffered.translate s q m es).answer ≡ some f
    → fault_of q (first_failing (checks s q m)) ≡ some f
unfolding translate_by paged paged_by refilled read_by walked_by
denied_first s q m es f al e = sym (reader_fault s q m al) ∙ go s.paging (hit (page_of q) q.kind q.user es) refl e
  where
    go : (on : Bool) (h : Option ℕ) → hit (page_of q) q.kind q.user es ≡ h → fault_in (translate_by on s.pdir q m es).answer ≡ some f
        → fault_in (read_by on s.pdir q m).answer ≡ some f
    go false h k e = e
    go true none k e = rw k at e
    go true (some x) k e =
        let n = rw k at e in
        let z : ◌≡◌ {A = ℕ} 0 1 = cc in
        absurd (omega arith)
