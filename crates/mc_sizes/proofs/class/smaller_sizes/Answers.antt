use Rattle.std.proofs.Common.{ltb, rules}
use Rattle.std.proofs.lemmas.List.Sorted.{IsPartitionPoint-from_clause}
use Rattle.mc_sizes.proofs.ClassLemmas.{table, chunk_sizes-is, sizes_part, PartsAt-from}
use Rattle.mc_sizes.proofs.class.smaller_sizes.Goals as goal

pub returns : goal.returns
returns c =
    PartsAt-from c.args.charge _ (rw chunk_sizes-is c.partition_point.ensures.bound)
    (rw chunk_sizes-is
    (IsPartitionPoint-from_clause (λ size. ltb size c.args.charge) table _ c.partition_point.ensures.partitioned (rw chunk_sizes-is at (sizes_part c.args.charge)) (λ a r q k. search rules)))
