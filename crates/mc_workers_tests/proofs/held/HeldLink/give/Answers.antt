use Rattle.std.proofs.Common.{◌≡◌, ◌<◌, ◌+◌, ◌++◌, ℕ, List, length, take, get_or, refl, sym, subst, ap, ◌∙◌, arith, Option, Some, true}
use Rattle.std.proofs.Math.ListN.{set}
use Rattle.mc_links.proofs.LinkLemmas.{given_one, some_set}
use Rattle.mc_guests.specs.Links.{LinkState, asked, grown, gave}
use Rattle.mc_workers_tests.proofs.held.HeldLink.give.Goals as goal

-- a link that gave one byte more
gives_byte : (inside old new : LinkState) (known more piece : List ℕ) → inside ≡ old → inside.given ≡ Some known → more ≡ known ++ take 1 piece
    → new ≡ record inside { given = Some more; was_read = true; requested = new.requested } → new ≡ gave (asked true new.requested old) (take 1 piece)
gives_byte inside old new known more piece is given grows so =
    subst (λ (l : LinkState). new ≡ gave (asked true new.requested l) (take 1 piece)) is
    (so ∙ ap (λ (m : List ℕ). record inside { given = Some m; was_read = true; requested = new.requested }) grows
    ∙ ap (λ (g : Option (List ℕ)). record inside { given = grown g (take 1 piece); was_read = true; requested = new.requested }) (sym given))

pub returns-clause-gives : goal.returns-clause-gives
returns-clause-gives c =
    let s = c.self.inside in
    let piece = c.args.piece.now in
    let inside : s.at < length s.input.now = omega arith in
    let room : 0 < length piece = omega arith in (
      some_set piece _ room,
      gives_byte _ c.args.self.now _ (take s.at s.input.now) (take (s.at + 1) s.input.now) (set piece 0 (get_or s.input.now s.at 0))
          c.self.view_is refl (given_one s.input.now piece s.at inside room) refl,
    )
