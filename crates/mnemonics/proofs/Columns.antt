-- Document 02, item 2: where the fields of a word's line stand, whatever its form; and how long a line is.
use Rattle.std.proofs.Common.{if◌then◌else◌}
use Prim.Native.Nat.{ℕ, ◌+◌, ◌-◌, ◌/◌, ◌%◌, ◌^◌, ◌<◌, ◌≤◌}
use mathlib.Core.Bool.{Bool, true, false}
use mathlib.Core.List.{List, [], ◌∷◌, ◌++◌, append_assoc}
use mathlib.Core.Path.{◌≡◌, refl, sym, ◌∙◌, ap}
use native.Mathlib.Omega.{arith}
use borrow.Author.Tests.{ltb-true, ltb-false}
use lib.Dec.{ltb}
use lib.ListN.{length, length-append}
use lib.Seq.{append_snoc}
use Rattle.word.specs.Word.{extend}
use Rattle.text.specs.Ascii.{ascii}
use Rattle.text.specs.Digits.{decimal_of}
use Rattle.text.specs.Hex.{hex_of, hex_value}
use Rattle.text.specs.Signed.{signed_of}
use Rattle.text.proofs.Laws.{short_digits, signed_plain, signed_minus}
use Rattle.text.proofs.HexLaws.{length-hex, hex_back}
use Rattle.decode.specs.Target.{target_of}
use Rattle.mnemonics.specs.declared.OperandForm.{OperandForm}
use Rattle.mnemonics.specs.declared.OperandForm.TheVariants.{Nothing, Immediate, Target}
use Rattle.mnemonics.specs.Mnemonics.{Form, data_form, form_of}
use Rattle.mnemonics.specs.Line.{spaced, operand_of, imm_of, fields_of, line_by, text_line, data_line}
use Rattle.mnemonics.proofs.Cells.{name_short}
use Rattle.mnemonics.proofs.Lines.{length_fields}

-- ---- columns 0 to 7 and 9 to 16

-- what follows the word
rest : Form → (a w : ℕ) → List ℕ
rest f a w = spaced f.name ++ operand_of f.operand a (imm_of w)

after_address : (f : Form) (a w : ℕ) → line_by f a w ≡ [] ++ hex_of a ++ (spaced (hex_of w) ++ rest f a w)
unfolding line_by rest
after_address f a w =
    append_assoc (fields_of a w) (spaced f.name) (operand_of f.operand a (imm_of w)) ∙ append_assoc (hex_of a) (spaced (hex_of w)) (rest f a w)

after_word : (f : Form) (a w : ℕ) → line_by f a w ≡ (hex_of a ++ (32 ∷ [])) ++ hex_of w ++ rest f a w
unfolding line_by rest
after_word f a w =
    append_assoc (fields_of a w) (spaced f.name) (operand_of f.operand a (imm_of w))
    ∙ ap (λ (t : List ℕ). t ++ rest f a w) (sym (append_snoc (hex_of a) 32 (hex_of w)))

-- a line's address and word, read from their columns
pub record Columns (l : List ℕ) (a w : ℕ) : Type 0 where
  pub address : hex_value 8 l 0 ≡ a
  pub word : hex_value 8 l 9 ≡ w
  pub long : 17 ≤ length l

pub columns : (f : Form) (a w : ℕ) → a < 2 ^ 32 → w < 2 ^ 32 → Columns (line_by f a w) a w
columns f a w h k = record {
  address = ap (λ (l : List ℕ). hex_value 8 l 0) (after_address f a w) ∙ hex_back [] (spaced (hex_of w) ++ rest f a w) 8 a h;
  word =
      let nine : length (hex_of a ++ (32 ∷ [])) ≡ 9 = length-append (hex_of a) (32 ∷ []) ∙ rw (length-hex 8 a) (omega arith) in
      ap (λ (l : List ℕ). hex_value 8 l 9) (after_word f a w)
      ∙ ap (hex_value 8 ((hex_of a ++ (32 ∷ [])) ++ hex_of w ++ rest f a w)) (sym nine)
      ∙ hex_back (hex_of a ++ (32 ∷ [])) (rest f a w) 8 w k;
  long = rw (after_address f a w, length-append (hex_of a) (spaced (hex_of w) ++ rest f a w), length-hex 8 a, length-append (spaced (hex_of w)) (rest f a w), length-hex 8 w) (omega arith);
}

-- ---- at most 31 bytes

-- an operand of 24 bits takes eight
signed_by : (b : Bool) (f : ℕ) → ltb f (2 ^ 23) ≡ b → f < 2 ^ 24 → length (signed_of (if b then f else f + (2 ^ 32 - 2 ^ 24))) ≤ 8
signed_by true f e h =
    let l = ltb-true f (2 ^ 23) e in
    rw (← signed_plain f (omega arith)) (omega (arith, short_digits 20 6 f (omega arith)))
signed_by false f e h =
    let l = ltb-false f (2 ^ 23) e in
    let w : ℕ = f + (2 ^ 32 - 2 ^ 24) in
    let s : length (decimal_of (2 ^ 32 - w)) ≤ 7 = short_digits 20 6 (2 ^ 32 - w) (omega arith) in
    rw (← signed_minus w (omega arith)) (omega (arith, s))

operand_short : (o : OperandForm) (a w : ℕ) → w < 2 ^ 32 → length (operand_of o a (imm_of w)) ≤ 9
unfolding operand_of extend
operand_short Nothing a w h = omega arith
operand_short Immediate a w h = let s = signed_by (ltb (w / 256) (2 ^ 23)) (w / 256) refl (omega arith) in omega (arith, s)
operand_short Target a w h = rw (length-hex 8 (target_of a (imm_of w))) (omega arith)

line_short : (f : Form) (a w : ℕ) → w < 2 ^ 32 → length f.name ≤ 4 → length (line_by f a w) ≤ 31
unfolding line_by
line_short f a w h n =
    rw (length-append (fields_of a w ++ spaced f.name) (operand_of f.operand a (imm_of w)), length-append (fields_of a w) (spaced f.name), length_fields a w)
    (omega (arith, n, operand_short f.operand a w h))

pub text_short : (a w : ℕ) → w < 2 ^ 32 → length (text_line a w) ≤ 31
text_short a w h = line_short (form_of (w % 256)) a w h (name_short (w % 256))

pub data_short : (a w : ℕ) → w < 2 ^ 32 → length (data_line a w) ≤ 31
unfolding ascii
data_short a w h = line_short data_form a w h (omega arith)
