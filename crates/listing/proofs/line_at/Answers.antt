-- The answer decides between the refused line and the words; only an accepted file is divided into words (`fits`, `has_word`).
use mathlib.Core.Path.{refl}
use Rattle.listing.proofs.Lines.{line_refused, none_refused, line_within, line_past, shown_as, shown_nothing}
use Rattle.listing.proofs.Words.{number_of, numbered, unnumbered, fits, has_word}
use Rattle.listing.proofs.line_at.Goals as goal

pub returns-then-n-eq0 : goal.returns-then-n-eq0
returns-then-n-eq0 c =
    let file = c.judge-answer.ensures in
    let number = c.load_number.ensures in
    shown_as (line_refused _ (number_of _ file number) (numbered _ file c.is_err.ensures.value number c.if-is_err.true) c.if-n-eq0.true) c.refused_line.ensures

pub returns-then-is_err : goal.returns-then-is_err
returns-then-is_err c =
    let file = c.judge-answer.ensures in
    shown_nothing _ (none_refused _ _ (number_of _ file refl) (numbered _ file c.is_err.ensures.value refl c.if-is_err.true) c.if-n-eq0.false)

pub overflow_sub-file : goal.overflow_sub-file
overflow_sub-file c = (fits _ c.judge-answer.ensures c.is_err.ensures.value c.if-is_err.false).header

pub returns-then-file-n : goal.returns-then-file-n
returns-then-file-n c =
    let accepted = unnumbered _ c.judge-answer.ensures c.is_err.ensures.value c.if-is_err.false in
    shown_nothing _ (line_past _ refl accepted _ c.if-file-n.true)

pub word_line-requires : goal.word_line-requires
word_line-requires c = has_word _ c.judge-answer.ensures c.is_err.ensures.value _ c.if-is_err.false c.if-file-n.false

pub returns : goal.returns
returns c =
    let accepted = unnumbered _ c.judge-answer.ensures c.is_err.ensures.value c.if-is_err.false in
    shown_as (line_within _ refl accepted _ c.if-file-n.false) c.word_line.ensures
