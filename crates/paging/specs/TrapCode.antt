-- Document 01, "Traps": the trap codes' numbers, in the source's order. 16 is added from user mode.
use Rattle.std.specs.Prelude.{ℕ}
use Rattle.paging.specs.declared.Access.{Access}
use Rattle.paging.specs.declared.Access.TheVariants.{Fetch, Read, Write}
use Rattle.paging.specs.declared.TrapCode.{TrapCode}
use Rattle.paging.specs.declared.TrapCode.TheVariants.{Fmem, Ftimer, Fkeybd, Fpriv, Finst, Fsys, Farith, Fipage, Fwpage, Frpage}

-- the number of a code
abbrev pub code_number : TrapCode → ℕ
code_number Fmem = 0
code_number Ftimer = 1
code_number Fkeybd = 2
code_number Fpriv = 3
code_number Finst = 4
code_number Fsys = 5
code_number Farith = 6
code_number Fipage = 7
code_number Fwpage = 8
code_number Frpage = 9

-- user mode exception: the mark added to a code
abbrev pub USER : ℕ
USER = 16

-- the page fault of an access
unfoldable pub page_fault : Access → TrapCode
page_fault Fetch = Fipage
page_fault Read = Frpage
page_fault Write = Fwpage
