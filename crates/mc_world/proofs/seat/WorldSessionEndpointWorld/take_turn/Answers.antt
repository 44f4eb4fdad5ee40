use Rattle.mc_world.proofs.Words.{◌≡◌, ℕ, refl, ap, ◌∙◌, ◌∷◌, [], subst, sym, eight_moved, Told, shelf_of, turn_events, Turn}
use Rattle.std.proofs.Common.{◌%◌}
use Rattle.std.specs.Prelude.{max}
use Rattle.mc_world.proofs.WorldLemmas.{turn_told}
use Rattle.mc_world.proofs.seat.WorldSessionEndpointWorld.take_turn.Goals as goal

pub returns-in-Ok-clause-ok : goal.returns-in-Ok-clause-ok
returns-in-Ok-clause-ok g c = let n = c.args.self.now.number in let shelf = shelf_of c.args.self.now.turns c.args.world.now.settings.shelves in
    let told = subst (λ w. Told g.K.KeyHash.hash_of w (Turn n ∷ []) c.turn.new.self) c.set_moment.ensures c.in-Ok.ensures.ok in
    let same : shelf ≡ c.args.self.now.turns % c.from.result =
    ap (λ (k : ℕ). c.args.self.now.turns % k) (sym (c.from.ensures ∙ c.max.ensures ∙ ap (λ (k : ℕ). max k 1) c.shelves.ensures)) in
    let grown = subst (λ (s : ℕ). Told g.K.KeyHash.hash_of c.args.world.now (turn_events n shelf c.args.now) (record c.turn.new.self { left = eight_moved s c.turn.new.self.left })) same
    (turn_told n shelf c.args.now told) in
    (refl, subst (λ w. Told g.K.KeyHash.hash_of c.args.world.now (turn_events n shelf c.args.now) w) (sym c.grow.ensures) grown)
