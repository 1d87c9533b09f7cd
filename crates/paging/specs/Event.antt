-- What a step did, in the order it happened. Events are there for theorems alone: no rule reads them.
use Rattle.std.specs.Prelude.{ℕ}

-- an entry of the page buffer, by its page and the addresses of the directory word and the table word that its walk read
pub record Words : Type 0 where
  pub page : ℕ
  pub dir : ℕ
  pub tab : ℕ

pub data Event : Type 0 where
  -- a page table walk began
  walked : Event
  -- an entry was kept, new or in the place of the same page's
  kept : Words → Event
  -- the page buffer was emptied
  emptied : Event
  -- a walk's mark A or D changed the word at an address
  marked : ℕ → Event
  -- an instruction or a trap frame stored: address and size
  stored : (addr size : ℕ) → Event
  -- a trap frame was delivered: its code, without the mark of user mode
  delivered : ℕ → Event
