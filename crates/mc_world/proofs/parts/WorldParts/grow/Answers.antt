use Rattle.mc_world.proofs.Words.{ℕ, ◌-◌, ◌∙◌, ap, slice_set, StoreState, state_of}
use Rattle.std.proofs.Common.{slice_index}
use Rattle.mc_world.proofs.parts.WorldParts.grow.Goals as goal

pub returns : goal.returns
returns g c =
    let left = c.args.self.now.store.left in
    ap (λ (store : StoreState g.row.K.Denot). state_of (record c.args.self.now { store = store })) c.grow.ensures.left
    ∙ ap (λ (n : ℕ). record (state_of c.args.self.now) { left = slice_set left c.args.shelf (slice_index left c.args.shelf - n) }) c.grow.ensures.moved
