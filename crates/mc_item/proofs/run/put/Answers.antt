use Rattle.std.proofs.Common.{◌+◌, length, take, drop, List, ℕ, ap, ◌∙◌}
use Rattle.mc_item.proofs.LayoutLemmas.{take-with_part, drop-with_part, length-with_part}
use Rattle.mc_item.proofs.RunLemmas.{Wrote, wrote}
use Rattle.mc_item.proofs.run.put.Goals as goal

wrote_is : (c : goal.After-write_at) → Wrote c.args.chunks.now c.write_at.new.self c.args.offset c.args.source.now
wrote_is c = wrote c.args.chunks.now c.write_at.new.self c.args.offset c.args.source.now c.requires.are c.requires.room c.write_at.ensures.cut c.write_at.ensures.lent

pub returns-clause-head : goal.returns-clause-head
returns-clause-head c = (wrote_is c).head

pub returns-clause-before : goal.returns-clause-before
returns-clause-before c = ap (λ (l : List ℕ). take (c.args.offset + length c.args.source.now) l) (wrote_is c).bytes
    ∙ take-with_part c.args.offset c.args.source.now c.args.chunks.now.bytes c.requires.room

pub returns-clause-behind : goal.returns-clause-behind
returns-clause-behind c = ap (λ (l : List ℕ). drop (c.args.offset + length c.args.source.now) l) (wrote_is c).bytes
    ∙ drop-with_part c.args.offset c.args.source.now c.args.chunks.now.bytes c.requires.room

pub returns-clause-size : goal.returns-clause-size
returns-clause-size c = ap length (wrote_is c).bytes ∙ length-with_part c.args.offset c.args.source.now c.args.chunks.now.bytes c.requires.room

pub returns-clause-need : goal.returns-clause-need
returns-clause-need c = (wrote_is c).need
