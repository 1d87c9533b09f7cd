-- Document 02, item 7: every floating instruction. pc has moved 4 on already.
use Rattle.std.specs.Prelude.{ℕ, Bool, not, [], ◌∷◌}
use Rattle.word.specs.Word.{sum, difference}
use Rattle.std.specs.Prelude.{Option, None, Some}
use Rattle.double.specs.Arithmetic.{value_of, sum_of, difference_of, product_of, quotient_of, absolute_of}
use Rattle.double.specs.Comparison.{equals, less, at_least}
use Rattle.double.specs.Single.{double_of, single_of}
use Rattle.double.specs.Whole.{of_signed, of_unsigned, cut_signed, cut_unsigned, floor_of, ceiling_of}
use Rattle.decode.specs.declared.Base.{Base}
use Rattle.floating_decode.specs.declared.FloatReg.{FloatReg}
use Rattle.floating_decode.specs.declared.FloatReg.TheVariants.{F, G}
use Rattle.floating_decode.specs.declared.Precision.{Precision}
use Rattle.floating_decode.specs.declared.Precision.TheVariants.{Double, Single}
use Rattle.floating_decode.specs.declared.FloatOp.{FloatOp}
use Rattle.floating_decode.specs.declared.FloatOp.TheVariants.{Add, Sub, Mul, Div}
use Rattle.floating_decode.specs.declared.FloatTest.{FloatTest}
use Rattle.floating_decode.specs.declared.FloatTest.TheVariants.{Eq, Ne, Lt, Ge}
use Rattle.floating_decode.specs.declared.FloatInstr.{FloatInstr}
use Rattle.floating_decode.specs.declared.FloatInstr.TheVariants.{Unlisted, Load, Store, LoadImm, Lbad, Arith, Compare, Bzf, Bnzf, Branch, Cid, Cud, Cdi, Cdu}
use Rattle.floating_decode.specs.declared.FloatInstr.TheVariants.{Push, Pop, Fabs, Flor, Ceil}
use Rattle.paging.specs.declared.Access.TheVariants.{Write}
use Rattle.paging.specs.declared.TrapCode.TheVariants.{Finst, Farith}
use Rattle.rules.specs.declared.Regs.{Regs}
use Rattle.rules.specs.declared.Floats.{Floats}
use Rattle.rules.specs.Record.{with_a, set_sp, with_f, with_g}
use Rattle.rules.specs.Tree.{Tree, ask, done, access}
use Rattle.rules.specs.Outcome.{Out, trap, floated, or_refused, reading}
use Rattle.rules.specs.Arithmetic.{flag}
use Rattle.rules.specs.Transfer.{base_of}
use Rattle.rules.specs.Jump.{branched}

-- ---- the registers

abbrev pub float_of : FloatReg → Floats → ℕ
float_of F v = v.f
float_of G v = v.g

abbrev pub put_float : FloatReg → ℕ → Floats → Floats
put_float F x v = with_f x v
put_float G x v = with_g x v

-- ---- ends: new registers, f and g; with a store of n bytes of x at an address

abbrev pub computing : Regs → Floats → Tree Out
computing r v = done (floated r v [])

abbrev pub storing : ℕ → ℕ → ℕ → Regs → Floats → Tree Out
storing n va x r v = ask (access Write n va) (or_refused (λ old. done (floated r v (x ∷ []))))

-- ---- loads, stores, pushes and pops

-- "eight-byte accesses drop three address bits", as an access drops its size's
abbrev pub precision_bytes : Precision → ℕ
precision_bytes Double = 8
precision_bytes Single = 4

-- "Single precision is widened exactly and narrowed to nearest, ties to even"; a double is moved with its bits
abbrev pub loaded : Precision → ℕ → ℕ
loaded Double x = x
loaded Single w = double_of w

abbrev pub narrowed : Precision → ℕ → ℕ
narrowed Double x = x
narrowed Single x = single_of x

unfoldable pub float_load_tree : FloatReg → Base → Precision → ℕ → Regs → Floats → Tree Out
float_load_tree d b p imm r v = reading (precision_bytes p) (sum (base_of b r) imm) (λ x. computing r (put_float d (loaded p x) v))

-- stores are of f
unfoldable pub float_store_tree : Base → Precision → ℕ → Regs → Floats → Tree Out
float_store_tree b p imm r v = storing (precision_bytes p) (sum (base_of b r) imm) (narrowed p v.f) r v

-- "PSHF and PSHG store eight bytes"
unfoldable pub float_push_tree : ℕ → Regs → Floats → Tree Out
float_push_tree x r v = storing 8 (difference r.sp 8) x (set_sp (difference r.sp 8) r) v

unfoldable pub float_pop_tree : FloatReg → Regs → Floats → Tree Out
float_pop_tree d r v = reading 8 r.sp (λ x. computing (set_sp (sum r.sp 8) r) (put_float d x v))

-- ---- arithmetic, comparisons and conversions

-- "ADDF to DIVF"
unfoldable pub arith_of : FloatOp → ℕ → ℕ → ℕ
arith_of Add x y = sum_of x y
arith_of Sub x y = difference_of x y
arith_of Mul x y = product_of x y
arith_of Div x y = quotient_of x y

-- "GEF and BGEF are ≥"
unfoldable pub float_holds : FloatTest → ℕ → ℕ → Bool
float_holds Eq x y = equals x y
float_holds Ne x y = not (equals x y)
float_holds Lt x y = less x y
float_holds Ge x y = at_least x y

-- CDI, CDU: "NaN or a value that doesn't fit afterwards is FARITH"
unfoldable pub cut_tree : Option ℕ → Regs → Floats → Tree Out
cut_tree None r v = done (trap Farith)
cut_tree (Some x) r v = computing (with_a x r) v

-- ---- every floating instruction

unfoldable pub float_tree : FloatInstr → Regs → Floats → Tree Out
unfolding float_load_tree float_store_tree float_push_tree float_pop_tree arith_of float_holds cut_tree
float_tree Unlisted r v = done (trap Finst)
float_tree (Load d b p i) r v = float_load_tree d b p i r v
float_tree (Store b p i) r v = float_store_tree b p i r v
float_tree (LoadImm d i) r v = computing r (put_float d (of_signed i) v)
float_tree Lbad r v = computing r (with_g v.f v)
float_tree (Arith op) r v = computing r (with_f (arith_of op v.f v.g) v)
float_tree (Compare t) r v = computing (with_a (flag (float_holds t v.f v.g)) r) v
float_tree (Bzf i) r v = computing (branched (float_holds Eq v.f 0) i r) v
float_tree (Bnzf i) r v = computing (branched (float_holds Ne v.f 0) i r) v
float_tree (Branch t i) r v = computing (branched (float_holds t v.f v.g) i r) v
float_tree Cid r v = computing r (with_f (of_signed r.a) v)
float_tree Cud r v = computing r (with_f (of_unsigned r.a) v)
float_tree Cdi r v = cut_tree (cut_signed (value_of v.f)) r v
float_tree Cdu r v = cut_tree (cut_unsigned (value_of v.f)) r v
float_tree (Push d) r v = float_push_tree (float_of d v) r v
float_tree (Pop d) r v = float_pop_tree d r v
float_tree Fabs r v = computing r (with_f (absolute_of v.f) v)
float_tree Flor r v = computing r (with_f (floor_of v.f) v)
float_tree Ceil r v = computing r (with_f (ceiling_of v.f) v)
