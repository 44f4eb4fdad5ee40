-- What runs are, by the table of the chunk sizes. The other lemmas of the table are those of `mc_sizes`.
use Rattle.std.proofs.Common.{◌≡◌, ℕ, ◌≤◌}
use Rattle.mc_sizes.specs.Classes.{IsClass}
use Rattle.mc_sizes.proofs.ClassLemmas.{one_fits}
use Rattle.mc_slab.specs.Runs.{chunks_a_run}
pub use Rattle.mc_sizes.proofs.ClassLemmas.{length-chunk_sizes, size_of-last, size_of-least, size_of-most, chunks_a_page-least, chunks_a_page-most, class_holding-size_of}

-- a run of a class from 27 on has one chunk
pub run_of-lone : (class : ℕ) → IsClass class → 27 ≤ class → chunks_a_run class ≡ 1
run_of-lone class is lone = one_fits class is lone
