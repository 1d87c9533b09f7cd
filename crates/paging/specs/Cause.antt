-- Document 02, item 4: the seven checks of translation, in its order, "which is document 01's order of checking", and the trap code that comes with each cause.
use Rattle.std.specs.Prelude.{ℕ, Bool, ◌||◌, List, [], ◌∷◌, ltb, length, if◌then◌else◌, Ok, Err}
use Rattle.std.proofs.Math.Option.{Option, none, some}
use Rattle.word.specs.Word.{cut}
use Rattle.memory.specs.Memory.{load_n}
use Rattle.paging.specs.declared.Access.{Access}
use Rattle.paging.specs.Answer.{Answer}
use Rattle.paging.specs.declared.Cause.{Cause}
use Rattle.paging.specs.declared.Cause.TheVariants.{AddressBeyondMemory, DirectoryAbsent, DirectoryBeyondMemory, TableAbsent, NoUserRight, NoWriteRight, FrameBeyondMemory}
use Rattle.paging.specs.declared.Fault.{Fault}
use Rattle.paging.specs.declared.Space.{Space}
use Rattle.paging.specs.declared.TrapCode.{TrapCode}
use Rattle.paging.specs.declared.TrapCode.TheVariants.{Fmem}
use Rattle.paging.specs.TrapCode.{page_fault}
use Rattle.paging.specs.Walk.{present, user_ok, write_ok, dir_at, tab_at}
use Rattle.paging.specs.Translate.{Request, page_of}

-- whether a check passes, and the cause that it names where it doesn't
pub record Check : Type 0 where
  pub passes : Bool
  pub cause : Cause

abbrev pub check : Bool → Cause → Check
check passes cause = record { passes = passes; cause = cause }

-- the directory word of a request's page, and the table word, in memory as it is before the access
abbrev pub dir_word : Space → Request → List ℕ → ℕ
dir_word s q m = load_n 4 m (dir_at s.pdir (page_of q))

abbrev pub tab_word : Space → Request → List ℕ → ℕ
tab_word s q m = load_n 4 m (tab_at (dir_word s q m) (page_of q))

-- the six checks of a walk, of these two words and M
unfoldable pub walk_checks : (dw tw size : ℕ) → Request → List Check
unfolding user_ok write_ok
walk_checks dw tw size q =
    check (present dw) DirectoryAbsent
    ∷ check (ltb (cut 4096 dw) size) DirectoryBeyondMemory
    ∷ check (present tw) TableAbsent
    ∷ check (user_ok dw tw q.user) NoUserRight
    ∷ check (write_ok dw tw q.kind) NoWriteRight
    ∷ check (ltb (cut 4096 tw) size) FrameBeyondMemory
    ∷ []

-- all seven: the first is of an access with paging off, the others are of one with paging on
unfoldable pub checks : Space → Request → List ℕ → List Check
unfolding walk_checks
checks s q m =
    check (s.paging || ltb q.addr (length m)) AddressBeyondMemory
    ∷ (if s.paging then walk_checks (dir_word s q m) (tab_word s q m) (length m) q else [])

-- "the first in that order"
unfoldable pub first_failing : List Check → Option Cause
first_failing [] = none
first_failing (c ∷ cs) = if c.passes then first_failing cs else some c.cause

-- the code that comes with a cause
unfoldable pub fault_code : Access → Cause → TrapCode
unfolding page_fault
fault_code kind AddressBeyondMemory = Fmem
fault_code kind DirectoryAbsent = page_fault kind
fault_code kind DirectoryBeyondMemory = Fmem
fault_code kind TableAbsent = page_fault kind
fault_code kind NoUserRight = page_fault kind
fault_code kind NoWriteRight = page_fault kind
fault_code kind FrameBeyondMemory = Fmem

-- a request is denied with the cause x: by its code, and the address asked
abbrev pub fault_by : Request → Cause → Fault
fault_by q x = record { code = fault_code q.kind x; cause = x; address = q.addr }

-- the fault that a request must come to, or none
abbrev pub fault_of : Request → Option Cause → Option Fault
fault_of q none = none
fault_of q (some x) = some (fault_by q x)

-- the fault of an answer, or none
abbrev pub fault_in : Answer → Option Fault
fault_in (Ok x) = none
fault_in (Err f) = some f
