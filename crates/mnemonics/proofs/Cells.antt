-- The bytes of an opcode in the table of cells, by what the cells are made of.
use Rattle.std.proofs.Common.{if◌then◌else◌}
use Prim.Native.Nat.{ℕ, zero, suc, ◌+◌, ◌-◌, ◌*◌, ◌<◌, ◌≤◌}
use mathlib.Core.Bool.{Bool, true, false, ◌&&◌}
use mathlib.Core.List.{List, [], ◌∷◌, ◌++◌, append_assoc}
use mathlib.Core.Path.{◌≡◌, refl, sym, ◌∙◌, ap}
use native.Mathlib.Nat.{zero-add, add-zero, add-suc, suc-add}
use native.Mathlib.Omega.{arith}
use borrow.Author.Tests.{eqb-true}
use lib.Dec.{eqb}
use lib.ListN.{length, get_or, take, drop, replicate, length-append, length-take, length-replicate}
use lib.Seq.{take-append_seam, take_at, take-take, drop-append-add, get_or_at}
use Rattle.std.specs.Str.{IsTrimAsciiEnd}
use Rattle.std.specs.List.{suffix_len}
use Rattle.std.specs.Char.{is_ascii_whitespace}
use Rattle.std.proofs.lemmas.Str.Ascii.{trim_ascii_end_is}
use Rattle.word.proofs.BoolLaws.{both}
use Rattle.text.specs.Ascii.{ascii}
use Rattle.mnemonics.specs.declared.OperandForm.{OperandForm}
use Rattle.mnemonics.specs.declared.OperandForm.TheVariants.{Nothing, Immediate, Target}
use Rattle.mnemonics.specs.Mnemonics.{Form, Row, data_form, find, mnemonics, form_of}
use Rattle.mnemonics.specs.Cells.{operand_byte, cell_of, cells}

-- ---- a test that the form of each row passes

unfoldable pub all_forms : (Form → Bool) → List Row → Bool
all_forms p [] = p data_form
all_forms p (r ∷ t) = p r.form && all_forms p t

chosen : (p : Form → Bool) (b : Bool) (f g : Form) → p f ≡ true → p g ≡ true → p (if b then f else g) ≡ true
chosen p true f g l m = l
chosen p false f g l m = m

-- passes at the form that is found
pub found : (p : Form → Bool) (op : ℕ) (t : List Row) → all_forms p t ≡ true → p (find op t) ≡ true
unfolding all_forms
found p op [] e = e
found p op (r ∷ t) e =
    let h = both (p r.form) (all_forms p t) e in
    chosen p (eqb op r.code) r.form (find op t) h.0 (found p op t h.1)

-- ---- the name in a cell

-- what is left of its first four bytes without the spaces at their end
name_field : Form → List ℕ
name_field f = take 4 (cell_of f)

measured : Form → Bool
measured f = eqb (length (name_field f) - suffix_len is_ascii_whitespace (name_field f)) (length f.name)

name_length : (op : ℕ) → length (name_field (form_of op)) - suffix_len is_ascii_whitespace (name_field (form_of op)) ≡ length (form_of op).name
unfolding form_of mnemonics all_forms measured name_field ascii
name_length op = eqb-true _ _ (found measured op mnemonics refl)

pub name_short : (op : ℕ) → length (form_of op).name ≤ 4
unfolding name_field
name_short op = omega (arith, name_length op, length-take 4 (cell_of (form_of op)))

pub trimmed : (op : ℕ) {c r : List ℕ} → c ≡ cell_of (form_of op) → IsTrimAsciiEnd (take 4 c) r → r ≡ (form_of op).name
unfolding name_field
trimmed op {c} {r} e t =
    let f = form_of op in
    let rest = replicate (4 - length f.name) 32 ++ (operand_byte f.operand ∷ 32 ∷ []) in
    trim_ascii_end_is (name_field f) r (rw e at t)
    ∙ ap (λ (n : ℕ). take n (name_field f)) (name_length op)
    ∙ take-take (length f.name) 4 (cell_of f) (name_short op)
    ∙ ap (take (length f.name)) (append_assoc f.name (replicate (4 - length f.name) 32) (operand_byte f.operand ∷ 32 ∷ []))
    ∙ take-append_seam f.name rest

-- ---- where an opcode's cell is

pad : Form → List ℕ
pad f = replicate (4 - length f.name) 32

length-cell : (op : ℕ) → length (cell_of (form_of op)) ≡ 6
unfolding pad
length-cell op =
    let f = form_of op in
    length-append (f.name ++ pad f) (operand_byte f.operand ∷ 32 ∷ [])
    ∙ rw (length-append f.name (pad f), length-replicate) (omega (arith, name_short op))

-- after those of k opcodes
drop_cells : (k n op : ℕ) → drop (6 * k) (cells (k + n) op) ≡ cells n (op + k)
unfolding cells
drop_cells zero n op = rw (zero-add n, add-zero op)
drop_cells (suc k) n op =
    let c = cell_of (form_of op) in
    let e : 6 * suc k ≡ length c + 6 * k = omega (arith, length-cell op) in
    rw (suc-add k n, e) (drop-append-add c (cells (k + n) (suc op)) (6 * k) ∙ drop_cells k n (suc op) ∙ ap (λ (i : ℕ). cells n i) (suc-add op k ∙ sym (add-suc op k)))

-- in the whole table
from_cell : (op : ℕ) → op < 256 → drop (6 * op) (cells 256 0) ≡ cell_of (form_of op) ++ cells (255 - op) (suc op)
unfolding cells
from_cell op h =
    let e : 256 ≡ op + suc (255 - op) = omega arith in
    ap (λ (n : ℕ). drop (6 * op) (cells n 0)) e ∙ drop_cells op (suc (255 - op)) 0 ∙ ap (λ (i : ℕ). cells (suc (255 - op)) i) (zero-add op)

pub cell_taken : (op : ℕ) {n : ℕ} → op < 256 → n ≡ op → take (6 * n + 6 - 6 * n) (drop (6 * n) (cells 256 0)) ≡ cell_of (form_of op)
cell_taken op {n} h e =
    let k : 6 * n + 6 - 6 * n ≡ 6 = omega arith in
    rw (k, e) (ap (take 6) (from_cell op h) ∙ take_at (cell_of (form_of op)) (cells (255 - op) (suc op)) 6 (length-cell op))

-- its fifth byte is the operand's
cell_operand : (op : ℕ) → get_or (cell_of (form_of op)) 4 0 ≡ operand_byte (form_of op).operand
unfolding pad
cell_operand op =
    let f = form_of op in
    get_or_at (f.name ++ pad f) (operand_byte f.operand) (32 ∷ []) 0 4
    (length-append f.name (pad f) ∙ rw length-replicate (omega (arith, name_short op)))

-- ---- by the code's tests

-- the form that a byte stands for
byte_immediate : (o : OperandForm) → operand_byte o ≡ 105 → Immediate ≡ o
byte_immediate Nothing e = absurd (omega arith)
byte_immediate Immediate e = refl
byte_immediate Target e = absurd (omega arith)

byte_target : (o : OperandForm) → operand_byte o ≡ 116 → Target ≡ o
byte_target Nothing e = absurd (omega arith)
byte_target Immediate e = absurd (omega arith)
byte_target Target e = refl

byte_nothing : (o : OperandForm) → (operand_byte o ≡ 105 → ⊥) → (operand_byte o ≡ 116 → ⊥) → Nothing ≡ o
byte_nothing Nothing e f = refl
byte_nothing Immediate e f = absurd (e refl)
byte_nothing Target e f = absurd (f refl)

module _ (op : ℕ) {c : List ℕ} (p : c ≡ cell_of (form_of op)) where
  is_byte : operand_byte (form_of op).operand ≡ get_or c 4 0
  is_byte = sym (ap (λ (l : List ℕ). get_or l 4 0) p ∙ cell_operand op)

  pub form_immediate : get_or c 4 0 ≡ 105 → Immediate ≡ (form_of op).operand
  form_immediate e = byte_immediate (form_of op).operand (is_byte ∙ e)

  pub form_target : get_or c 4 0 ≡ 116 → Target ≡ (form_of op).operand
  form_target e = byte_target (form_of op).operand (is_byte ∙ e)

  pub form_nothing : (get_or c 4 0 ≡ 105 → ⊥) → (get_or c 4 0 ≡ 116 → ⊥) → Nothing ≡ (form_of op).operand
  form_nothing e f = byte_nothing (form_of op).operand (λ z. e (sym is_byte ∙ z)) (λ z. f (sym is_byte ∙ z))
