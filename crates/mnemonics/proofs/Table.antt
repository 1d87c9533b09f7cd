-- Document 02, item 2: the table of mnemonics, tested whole by computing, beside the opcode table: it names exactly the legal opcodes, "signed operand in decimal
-- where 000 writes i or imme, but for JMP, JSR and branches only the target".
use Rattle.std.proofs.Common.{if◌then◌else◌}
use Prim.Native.Nat.{ℕ, suc, ◌<◌}
use mathlib.Core.Bool.{Bool, true, false, not, ◌&&◌, ◌||◌, beq}
use mathlib.Core.List.{List, [], ◌∷◌}
use mathlib.Core.Path.{◌≡◌, refl}
use lib.Dec.{eqb}
use lib.ListN.{length}
use Rattle.decode.specs.Opcodes.{table, opcode_of, is_illegal}
use Rattle.decode.specs.Target.{has_target}
use Rattle.decode.proofs.Table.{every, every_below, same}
use Rattle.text.specs.Ascii.{ascii}
use Rattle.mnemonics.specs.declared.OperandForm.{OperandForm}
use Rattle.mnemonics.specs.declared.OperandForm.TheVariants.{Nothing, Immediate, Target}
use Rattle.mnemonics.specs.Mnemonics.{Row, mnemonics, form_of}

-- the opcode has a row
abbrev pub named : ℕ → List Row → Bool
named op [] = false
named op (r ∷ t) = eqb op r.code || named op t

-- no opcode has two
abbrev pub distinct : List Row → Bool
distinct [] = true
distinct (r ∷ t) = not (named r.code t) && distinct t

abbrev pub has_operand : OperandForm → Bool
has_operand Nothing = false
has_operand Immediate = true
has_operand Target = true

abbrev pub is_target : OperandForm → Bool
is_target Nothing = false
is_target Immediate = false
is_target Target = true

-- how many rows pass
abbrev pub count : (OperandForm → Bool) → List Row → ℕ
count p [] = 0
count p (r ∷ t) = if p r.form.operand then suc (count p t) else count p t

-- an opcode has a row exactly if it is legal
unfoldable pub named_if_legal : ℕ → ℕ → ℕ → Bool
named_if_legal imm field op = beq (named op mnemonics) (not (is_illegal (opcode_of op imm field)))

-- its operand is a target exactly if the instruction has one
unfoldable pub target_if_jump : ℕ → ℕ → ℕ → Bool
target_if_jump imm field op = beq (is_target (form_of op).operand) (has_target (opcode_of op imm field))

-- what is tested of the table
pub record Tested (imm field : ℕ) : Type 0 where
  pub rows_distinct : distinct mnemonics ≡ true
  pub rows : length mnemonics ≡ 137
  pub operands : count has_operand mnemonics ≡ 88
  pub targets : count is_target mnemonics ≡ 10
  pub all_named : every (named_if_legal imm field) 0 256 ≡ true
  pub all_targets : every (target_if_jump imm field) 0 256 ≡ true

-- the table passes
pub mnemonics_tested : (imm field : ℕ) → Tested imm field
unfolding table opcode_of ascii mnemonics form_of named_if_legal target_if_jump
mnemonics_tested imm field = record { rows_distinct = refl; rows = refl; operands = refl; targets = refl; all_named = refl; all_targets = refl }

-- the mnemonics are those of the legal opcodes
pub named_legal : (op imm field : ℕ) → op < 256 → named op mnemonics ≡ not (is_illegal (opcode_of op imm field))
unfolding named_if_legal
named_legal op imm field h =
    same (named op mnemonics) (not (is_illegal (opcode_of op imm field))) (every_below (named_if_legal imm field) 256 (mnemonics_tested imm field).all_named op h)

-- the targets are those of JMP, JSR and the branches
pub target_of_jump : (op imm field : ℕ) → op < 256 → is_target (form_of op).operand ≡ has_target (opcode_of op imm field)
unfolding target_if_jump
target_of_jump op imm field h =
    same (is_target (form_of op).operand) (has_target (opcode_of op imm field)) (every_below (target_if_jump imm field) 256 (mnemonics_tested imm field).all_targets op h)
