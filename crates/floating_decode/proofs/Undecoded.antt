-- Document 02, item 7: a word that is a floating instruction is none of document 01's.
use Rattle.std.proofs.Common.{if◌then◌else◌}
use native.Mathlib.Omega.{arith}
use mathlib.Core.Path.{◌≡◌, refl, sym, ap, ◌∙◌}
use mathlib.Core.Bool.{Bool, true, false, not, ◌&&◌, true≢false}
use mathlib.Core.List.{List, [], ◌∷◌}
use Prim.Native.Nat.{ℕ, ◌/◌, ◌%◌}
use lib.Dec.{eqb}
use Rattle.word.specs.Word.{extend}
use Rattle.decode.specs.declared.Instr.TheVariants.{Illegal}
use Rattle.decode.specs.Opcodes.{Row, find, table, opcode_of, decode_of, is_illegal}
use Rattle.floating_decode.specs.Opcodes.{floating_decode_of}
use Rattle.floating_decode.specs.Listed.{is_listed}
use Rattle.floating_decode.proofs.Table.{disjoint}

-- no row of document 01's table means the illegal instruction
abbrev all_legal : List Row → Bool
all_legal [] = true
all_legal (r ∷ t) = not (is_illegal r.means) && all_legal t

rows_legal : (imm field : ℕ) → all_legal (table imm field) ≡ true
unfolding table
rows_legal imm field = refl

-- so that an opcode byte decoded to it has none
found_illegal : (op : ℕ) (t : List Row) → all_legal t ≡ true → is_illegal (find op t) ≡ true → find op t ≡ Illegal
found_illegal op [] h e = refl
found_illegal op (r ∷ t) h e = go (eqb op r.code) (is_illegal r.means) refl h e (found_illegal op t)
  where
    go : (b i : Bool) → is_illegal r.means ≡ i → not i && all_legal t ≡ true → is_illegal (if b then r.means else find op t) ≡ true
        → (all_legal t ≡ true → is_illegal (find op t) ≡ true → find op t ≡ Illegal) → (if b then r.means else find op t) ≡ Illegal
    go true true k p q f = absurd (true≢false (sym p))
    go true false k p q f = absurd (true≢false (sym q ∙ k))
    go false true k p q f = absurd (true≢false (sym p))
    go false false k p q f = f p q

-- a test that can not fail passes
passes : (b : Bool) → (b ≡ false → ⊥) → b ≡ true
passes true h = refl
passes false h = absurd (h refl)

pub floating_illegal : (w : ℕ) → is_listed (floating_decode_of w) ≡ true → decode_of w ≡ Illegal
unfolding floating_decode_of decode_of opcode_of
floating_illegal w e =
    let op = w % 256 in
    let imm = extend 24 (w / 256) in
    let field = w / 256 in
    found_illegal op (table imm field) (rows_legal imm field)
    (passes (is_illegal (opcode_of op imm field)) (λ q. true≢false (sym e ∙ ap is_listed (disjoint op imm field (omega arith) q))))
