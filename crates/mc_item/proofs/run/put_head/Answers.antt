use Rattle.std.proofs.Common.{◌+◌, length, take, drop, List, ℕ, ap, ◌∙◌}
use Rattle.mc_item.proofs.LayoutLemmas.{take-with_part, drop-with_part, length-with_part}
use Rattle.mc_item.proofs.RunLemmas.{WroteHead, wrote_head}
use Rattle.mc_item.proofs.run.put_head.Goals as goal

wrote_is : (c : goal.After-write_head) → WroteHead c.args.chunks.now c.write_head.new.self c.args.offset c.args.source.now
wrote_is c = wrote_head c.args.chunks.now c.write_head.new.self c.args.offset c.args.source.now c.requires.are c.requires.room c.write_head.ensures.cut c.write_head.ensures.lent

pub returns-clause-before : goal.returns-clause-before
returns-clause-before c = ap (λ (l : List ℕ). take (c.args.offset + length c.args.source.now) l) (wrote_is c).head
    ∙ take-with_part c.args.offset c.args.source.now c.args.chunks.now.head c.requires.room

pub returns-clause-behind : goal.returns-clause-behind
returns-clause-behind c = ap (λ (l : List ℕ). drop (c.args.offset + length c.args.source.now) l) (wrote_is c).head
    ∙ drop-with_part c.args.offset c.args.source.now c.args.chunks.now.head c.requires.room

pub returns-clause-bytes : goal.returns-clause-bytes
returns-clause-bytes c = (wrote_is c).bytes

pub returns-clause-head : goal.returns-clause-head
returns-clause-head c = ap length (wrote_is c).head ∙ length-with_part c.args.offset c.args.source.now c.args.chunks.now.head c.requires.room

pub returns-clause-size : goal.returns-clause-size
returns-clause-size c = (wrote_is c).size

pub returns-clause-need : goal.returns-clause-need
returns-clause-need c = (wrote_is c).need
