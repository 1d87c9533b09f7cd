-- `executable::judge` tests in the order of the numbers: each of its answers is the law of that test, from what the tests before it left (`Laws.antt`).
use Rattle.executable.proofs.Laws.{bad_size, short_file, bad_magic, bad_body, bad_data_start, bad_entry, accepted}
use Rattle.executable.proofs.judge.Goals as goal

pub returns-then-not-size_ok : goal.returns-then-not-size_ok
returns-then-not-size_ok c = search bad_size

pub returns-then-len-lt16 : goal.returns-then-len-lt16
returns-then-len-lt16 c = search short_file

pub returns-then-load4-ne3235835917 : goal.returns-then-load4-ne3235835917
returns-then-load4-ne3235835917 c = search bad_magic

pub returns-then-not-body_ok : goal.returns-then-not-body_ok
returns-then-not-body_ok c = search bad_body

pub returns-then-len-start : goal.returns-then-len-start
returns-then-len-start c = search bad_data_start

pub returns-then-not-entry_ok : goal.returns-then-not-entry_ok
returns-then-not-entry_ok c = search bad_entry

pub returns : goal.returns
returns c = search accepted
