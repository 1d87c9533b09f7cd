-- The word read from the file is that of the body (`load_body`), and its address is below data start or not.
use Prim.Native.Nat.{◌*◌}
use mathlib.Core.Path.{refl, ◌∙◌}
use borrow.Author.Rules.{rules}
use Rattle.listing.proofs.Lines.{shown_data, shown_text}
use Rattle.listing.proofs.Words.{load_body}
use Rattle.listing.proofs.word_line.Goals as goal

pub returns-then-load4-address : goal.returns-then-load4-address
returns-then-load4-address c =
    let word = c.padded_word-word.ensures ∙ load_body 4 c.args.file.now (4 * c.args.n) in
    shown_data _ _ refl word (search rules) c.load4.ensures c.if-load4-address.true c.data_line.ensures

pub returns : goal.returns
returns c =
    let word = c.padded_word-word.ensures ∙ load_body 4 c.args.file.now (4 * c.args.n) in
    shown_text _ _ refl word (search rules) c.load4.ensures c.if-load4-address.false c.text_line.ensures
