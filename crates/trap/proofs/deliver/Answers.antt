-- One law of `Delivery` a return: the first slot is denied (`deliver_first`), the second (`deliver_second`), or both are stored (`deliver_both`); the slots
-- lie in memory still, as a translation and a store keep its length. What the bus leaves in memory and buffer the caller gets back (`rules`).
use borrow.Author.Rules.{rules}
use Rattle.memory.specs.declared.Size.TheVariants.{Word}
use Rattle.mmu.proofs.Laws.{at_within, length-kept, same_access}
use Rattle.trap.proofs.Delivery.{deliver_first, deliver_second, deliver_both}
use Rattle.trap.proofs.deliver.Goals as goal

pub returns-in_default : goal.returns-in_default
returns-in_default c =
    λ con. search (
      rules,
      deliver_first c.args.c c.args.left c.args.code c.args.pc c.kernel_sp-top.ensures c.difference-first.ensures c.difference-second.ensures {con = con}
          c.translate-p.ensures.answer c.in_default.is c.stopped.ensures,
    )

pub returns-in_default-q : goal.returns-in_default-q
returns-in_default-q c =
    λ con. search (
      rules,
      deliver_second c.args.c c.args.left c.args.code c.args.pc c.kernel_sp-top.ensures c.difference-first.ensures c.difference-second.ensures {con = con}
          c.translate-p.ensures.answer c.in-Ok.is (same_access c.translate-p.ensures.bus c.translate-q.ensures.answer) c.in_default-q.is c.stopped-in_default-q.ensures,
    )

pub store-requires : goal.store-requires
store-requires c =
    let second = same_access c.translate-p.ensures.bus c.translate-q.ensures.answer in
    let within = at_within Word c.requires c.translate-p.ensures.answer c.in-Ok.is in
    search (rules, within, length-kept c.translate-p.ensures.answer.good second)

pub store-requires-2 : goal.store-requires-2
store-requires-2 c =
    let second = same_access c.translate-p.ensures.bus c.translate-q.ensures.answer in
    let within = at_within Word c.translate-p.ensures.answer.good second c.in-Ok-q.is in
    search (rules, within, c.store.auto.mem)

pub returns : goal.returns
returns c =
    λ con. search (
      rules,
      deliver_both c.args.c c.args.left c.args.code c.args.pc c.kernel_sp-top.ensures c.difference-first.ensures c.difference-second.ensures {con = con}
          c.translate-p.ensures.answer c.in-Ok.is (same_access c.translate-p.ensures.bus c.translate-q.ensures.answer) c.in-Ok-q.is c.trap_code.ensures (search (rules, c.store.ensures))
          c.store-2.ensures c.entered.ensures,
    )
