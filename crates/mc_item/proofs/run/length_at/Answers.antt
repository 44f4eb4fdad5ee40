use Rattle.std.proofs.Common.{◌≡◌, ◌-◌, ◌*◌, ℕ, take, min, Some, sym, ap, ◌∙◌}
use Rattle.mc_slab.specs.Classes.{size_of}
use Rattle.mc_slab.specs.Chunks.{chunk_at}
use Rattle.mc_item.specs.Layout.{block_length_in}
use Rattle.mc_item.proofs.RunLemmas.{part-beside}
use Rattle.mc_item.proofs.run.length_at.Goals as goal

pub returns-clause-value : goal.returns-clause-value
returns-clause-value c =
    let size : ℕ = size_of c.args.chunks.now.class in
    let same : c.min.result ≡ min (block_length_in c.args.chunks.now.head - c.args.at * size) size = cc in
    part-beside c.args.chunks.now c.args.at c.requires.item c.requires.beside c.requires.place
    ∙ ap (λ (n : ℕ). Some (take n (chunk_at c.args.chunks.now c.args.at))) (sym same)
