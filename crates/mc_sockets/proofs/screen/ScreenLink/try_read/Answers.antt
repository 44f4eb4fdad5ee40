use Rattle.std.proofs.Common.{◌∙◌, refl, sym, subst}
use Rattle.std.specs.Prelude.{Ok}
use Rattle.mc_links.specs.Links.{Gives, LinkState}
use Rattle.mc_links.specs.declared.link.Got.{Got}
use Rattle.mc_sockets.specs.Screens.{Stands, screened}
use Rattle.mc_sockets.proofs.ScreenLemmas.{hands_gives, hands_stands}
use Rattle.mc_sockets.proofs.screen.ScreenLink.try_read.Goals as goal

pub returns-in-Ok-Bytes-clause-gives : goal.returns-in-Ok-Bytes-clause-gives
returns-in-Ok-Bytes-clause-gives g c =
    let below = subst (λ (got : Got). Gives (g.L.Link.shown c.args.self.now.link) c.try_read.new.piece (Ok got) (g.L.Link.shown c.try_read.new.self)) c.in-Ok-Bytes.field-0-is c.in-Ok-Bytes.ensures.gives in
    subst (λ (link : LinkState). Gives (screened c.args.self.now.opening c.args.self.now.reads (g.L.Link.shown c.args.self.now.link)) c.try_read.new.piece
    (Ok c.hand_on.result) (screened c.hand_on.new.self.opening c.hand_on.new.self.reads link)) (sym c.hand_on.ensures.same)
    (hands_gives c.args.self.now.opening c.hand_on.new.self.opening c.args.self.now.reads _ c.hand_on.new.self.reads
    (g.L.Link.shown c.args.self.now.link) (g.L.Link.shown c.try_read.new.self) c.try_read.new.piece c.in-Ok-Bytes.count c.hand_on.result
    (sym c.is_other.ensures ∙ c.if-is_other.false) refl refl below c.hand_on.ensures.hands)

pub returns-in-Ok-Bytes-clause-stands : goal.returns-in-Ok-Bytes-clause-stands
returns-in-Ok-Bytes-clause-stands g c = λ stood.
    let below = subst (λ (got : Got). Gives (g.L.Link.shown c.args.self.now.link) c.try_read.new.piece (Ok got) (g.L.Link.shown c.try_read.new.self)) c.in-Ok-Bytes.field-0-is c.in-Ok-Bytes.ensures.gives in
    subst (λ (link : LinkState). Stands c.hand_on.new.self.opening c.hand_on.new.self.reads link.given) (sym c.hand_on.ensures.same)
    (hands_stands c.args.self.now.opening c.hand_on.new.self.opening c.args.self.now.reads _ c.hand_on.new.self.reads
    (g.L.Link.shown c.args.self.now.link) (g.L.Link.shown c.try_read.new.self) c.try_read.new.piece c.in-Ok-Bytes.count c.hand_on.result below c.hand_on.ensures.hands stood)
