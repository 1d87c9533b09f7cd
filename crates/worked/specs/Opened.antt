-- The rules of document 01, opened: a step and a run under which every definition computes. What unfolds one of these unfolds all that its line names.
use Rattle.std.specs.Prelude.{ℕ, List}
use Rattle.std.specs.Float.Ieee.{add, sub, mul, div, eq, lt, le, of_int, round, of_bits, to_bits}
use Rattle.word.specs.Word.{extend, quotient, remainder, shift_left, shift_right, shift_right_unsigned, shift_count, less_signed}
use Rattle.word.specs.Magnitude.{with_sign}
use Rattle.memory.specs.Memory.{load_n, store_n, size_ok}
use Rattle.double.specs.Arithmetic.{sum_of, difference_of, product_of, quotient_of, absolute_of}
use Rattle.double.specs.Comparison.{equals, less, at_least}
use Rattle.double.specs.Single.{double_of, single_of}
use Rattle.double.specs.Whole.{of_signed, of_unsigned, cut_signed, cut_unsigned, floor_of, ceiling_of}
use Rattle.decode.specs.Opcodes.{table, opcode_of, decode_of}
use Rattle.floating_decode.specs.Opcodes.{floating_table, floating_opcode_of, floating_decode_of}
use Rattle.paging.specs.TrapCode.{page_fault}
use Rattle.paging.specs.Walk.{bit, mark, mark_for, mark_events, dir_at, tab_at, allows, walk}
use Rattle.paging.specs.Buffer.{serves, hit, has, place, fits, after_walk, walk_events, buffer_ok}
use Rattle.paging.specs.Translate.{Translator, direct, paged, translate_by, read_by}
use Rattle.rules.specs.declared.Key.{Key}
use Rattle.rules.specs.Arithmetic.{holds}
use Rattle.rules.specs.Clock.{next_of, ticked, due_of}
use Rattle.rules.specs.Tree.{bind, store_all, store_events, answered, interpret}
use Rattle.rules.specs.Step.{State, Stepped, step}
use Rattle.rules.specs.Run.{Ran, registers_ok, keys_ok, run}

module _ {B : Type 0} (tr : Translator B) where
  -- one step
  unfoldable pub stepped : List Key → State B → Stepped B
  unfolding extend quotient remainder shift_left shift_right shift_right_unsigned shift_count less_signed load_n store_n table opcode_of decode_of
      page_fault bit mark mark_for mark_events dir_at tab_at allows walk serves hit has place fits after_walk walk_events direct
      paged translate_by read_by floating_table floating_opcode_of floating_decode_of add sub mul div eq lt le of_int round of_bits to_bits sum_of difference_of product_of
      quotient_of absolute_of equals less at_least double_of single_of of_signed of_unsigned cut_signed cut_unsigned floor_of ceiling_of with_sign
      holds next_of ticked due_of bind store_all store_events answered interpret step
  stepped ks s = step tr ks s

  -- a run
  unfoldable pub ran_by : List Key → ℕ → State B → Ran B
  unfolding stepped size_ok buffer_ok registers_ok keys_ok run
  ran_by ks budget s = run tr ks budget s
