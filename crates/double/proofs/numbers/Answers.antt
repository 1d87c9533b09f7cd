-- By the two tests.
use Rattle.std.proofs.Common.{sym, ◌∙◌}
use Rattle.double.proofs.Nan.{none_left, none_right, both_numbers}
use Rattle.double.proofs.numbers.Goals as goal
use Rattle.double.proofs.numbers.Goals.{then-is_nan-via-then-is_nan, then-is_nan-via-else-is_nan+then-is_nan-2}

pub returns-then-is_nan : goal.returns-then-is_nan
returns-then-is_nan c =
    elim c.then-is_nan.branch [
      | then-is_nan-via-then-is_nan w ↦ none_left c.args.x c.args.y (sym c.is_nan.ensures ∙ w.if-is_nan.true)
      | then-is_nan-via-else-is_nan+then-is_nan-2 w ↦ none_right c.args.x c.args.y (sym c.is_nan.ensures ∙ w.if-is_nan.false) (sym w.is_nan-else-is_nan.ensures ∙ w.if-is_nan-2.true)
    ]

pub returns : goal.returns
returns c =
    both_numbers c.args.x c.args.y (sym c.is_nan.ensures ∙ c.if-is_nan.false) (sym c.is_nan-else-is_nan.ensures ∙ c.if-is_nan-2.false)
