-- What is written is the line of the word as text, then as data, and the comparisons are those of the definition.
use Rattle.listing.proofs.Equal.{pointwise_equal}
use Rattle.listing.proofs.Tests.{not_listed_there, as_text, not_text, as_data}
use mathlib.Core.Path.{◌∙◌}
use Rattle.listing.proofs.is_line_of.Goals as goal

pub returns-then-address : goal.returns-then-address
returns-then-address c = not_listed_there _ _ _ c.if-address.true

pub returns-then-eq : goal.returns-then-eq
returns-then-eq c =
    as_text _ _ _ c.if-address.false (c.eq.ensures ∙ pointwise_equal _ _) c.text_line-end.ensures.front c.if-eq.true

pub returns-then-address-lt4 : goal.returns-then-address-lt4
returns-then-address-lt4 c =
    not_text _ _ _ c.if-address.false (c.eq.ensures ∙ pointwise_equal _ _) c.text_line-end.ensures.front c.if-eq.false c.if-address-lt4.true

pub returns : goal.returns
returns c =
    as_data _ _ _ c.if-address.false (c.eq.ensures ∙ pointwise_equal _ _) c.text_line-end.ensures.front c.if-eq.false c.if-address-lt4.false
    (c.eq-2.ensures ∙ pointwise_equal _ _) c.data_line-end.ensures.front
