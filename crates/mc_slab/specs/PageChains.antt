-- Chunks of a page's size that are linked.
use Rattle.std.specs.Prelude.{ℕ, ◌+◌, List, [], ◌++◌}
use Rattle.mc_slab.specs.declared.page_chain.Node.{Node}
use Rattle.mc_slab.specs.declared.page_chain.Node.TheVariants.{Last, Before, Hollow}

-- how many chunks a sheet has, its own and those behind it, and their bytes one after another
abbrev pub sheets_in : Node → ℕ × List ℕ
sheets_in (Last whole) = (1, whole)
sheets_in (Before whole behind) = (1 + behind.value.0, whole ++ behind.value.1.0)
sheets_in Hollow = (0, [])
