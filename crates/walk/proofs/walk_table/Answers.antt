-- The table word refuses the access (`table_refused`), or is marked and leads to the frame (`table_allowed`).
use Rattle.walk.proofs.Stages.{table_refused, table_allowed}
use Rattle.walk.proofs.walk_table.Goals as goal

pub returns-in-Err : goal.returns-in-Err
returns-in-Err c =
    table_refused _ _ _ _ _ c.load4-table.ensures c.in-Err.ensures.0 c.page_fault.ensures c.in-Err.ensures.1

pub returns : goal.returns
returns c =
    table_allowed _ _ _ _ _ c.load4-table.ensures c.in_default.ensures c.mark_for.ensures c.walk_frame.ensures
