-- Document 01, "Addresses": what the code of the page table walk answers, against the rules' finding.
use Rattle.std.specs.Prelude.{ℕ, Bool, ◌||◌, ◌≡◌, List, length, ltb, eqb, Result, Ok, Err}
use Rattle.word.specs.Word.{cut}
use Rattle.memory.specs.Memory.{load_n}
use Rattle.paging.specs.declared.Access.{Access}
use Rattle.paging.specs.declared.TrapCode.{TrapCode}
use Rattle.paging.specs.declared.Cause.{Cause}
use Rattle.paging.specs.Event.{Event}
use Rattle.paging.specs.Walk as Walk
use Rattle.paging.specs.Walk.{Found, fault, found, allows, walk_frame, walk_table}
use Rattle.walk.specs.declared.Mapping.{Mapping}
use Rattle.walk.specs.declared.Denial.{Denial}

-- the value of a mark: A or D
abbrev pub is_mark : ℕ → Bool
is_mark v = eqb v 32 || eqb v 64

abbrev pub Finding : Type 0
Finding = Result Mapping Denial

abbrev pub mapped : ℕ → Bool → Bool → Finding
mapped f u w = Ok (record { frame = f; user = u; write = w })

abbrev pub faulted : TrapCode → Cause → Finding
faulted code cause = Err (record { code = code; cause = cause })

-- a finding without the addresses of the words read
unfoldable pub found_by : Found → Finding
found_by (fault code cause) = faulted code cause
found_by (found f u w da ta) = mapped f u w

-- a finding with the memory after it
pub record WalkResult : Type 0 where
  pub answer : Finding
  pub mem : List ℕ

abbrev pub walk_result : Finding → List ℕ → WalkResult
walk_result r m = record { answer = r; mem = m }

-- a walk of the rules, without its events
unfoldable pub walked_by : Walk.Walked → WalkResult
unfolding found_by
walked_by w = walk_result (found_by w.found) w.mem

-- the walk from the marked table word at `at` on, and from the table word at `at` on, give what the rules say, whichever events came before
-- and wherever the directory word is
abbrev pub FrameWalk : (dir table at : ℕ) → List ℕ → Finding → Type 0
FrameWalk dir table at m r =
    (es : List Event) (da : ℕ) → walk_result r m ≡ walked_by (walk_frame (ltb (cut 4096 table) (length m)) es m dir table da at)

abbrev pub TableWalk : (dir at : ℕ) → Access → Bool → List ℕ → Finding → List ℕ → Type 0
TableWalk dir at kind user m r m' =
    (es : List Event) (da : ℕ) → walk_result r m' ≡ walked_by (walk_table (allows dir (load_n 4 m at) kind user) es m dir (load_n 4 m at) da at kind user)
