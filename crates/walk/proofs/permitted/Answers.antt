-- The tests of the code are those of `allows` and of `refused_by`, in the same order.
use Rattle.std.proofs.Common.{sym, ◌∙◌}
use Rattle.paging.specs.Walk.{allows, refused_by}
use Rattle.walk.proofs.permitted.Goals as goal

pub returns-then-not-bit : goal.returns-then-not-bit
unfolding allows refused_by
returns-then-not-bit c =
    let absent = sym c.bit.ensures ∙ c.if-not-bit.true in
    (rw absent, rw absent)

pub returns-then-not-user_ok : goal.returns-then-not-user_ok
unfolding allows refused_by
returns-then-not-user_ok c =
    let present = sym c.bit.ensures ∙ c.if-not-bit.false in
    let no_right = sym c.user_ok.ensures ∙ c.if-not-user_ok.true in
    (rw (present, no_right), rw (present, no_right))

pub returns-then-not-write_ok : goal.returns-then-not-write_ok
unfolding allows refused_by
returns-then-not-write_ok c =
    let present = sym c.bit.ensures ∙ c.if-not-bit.false in
    let user_right = sym c.user_ok.ensures ∙ c.if-not-user_ok.false in
    let no_right = sym c.write_ok.ensures ∙ c.if-not-write_ok.true in
    (rw (present, user_right, no_right), rw (present, user_right))

pub returns : goal.returns
unfolding allows
returns c =
    let present = sym c.bit.ensures ∙ c.if-not-bit.false in
    let user_right = sym c.user_ok.ensures ∙ c.if-not-user_ok.false in
    let write_right = sym c.write_ok.ensures ∙ c.if-not-write_ok.false in
    rw (present, user_right, write_right)
