use Rattle.std.proofs.Common.{subst, append-nil, refl}
use Rattle.mc_links.specs.Links.{IsWrite}
use Rattle.mc_sockets.specs.Channels.{AnswersWrite, at, link_of}
use Rattle.mc_sockets.proofs.channel.ChannelLink.try_write.Goals as goal

pub returns-clause-takes : goal.returns-clause-takes
returns-clause-takes g c =
    subst (λ bytes. IsWrite (link_of (g.S.Stream.flow c.args.self.now.stream) c.args.self.now.calls) bytes c.try_write_all.result (link_of (g.S.Stream.flow c.try_write_all.new.self.stream) c.try_write_all.new.self.calls))
    (append-nil c.args.bytes.now) c.try_write_all.ensures.takes

pub returns-clause-answers : goal.returns-clause-answers
returns-clause-answers g c = λ few.
    let old = at c.args.self.now.stream (g.F.ReadinessCell.known c.args.self.now.readiness) c.args.self.now.entry.parting in
    let new = at c.try_write_all.new.self.stream (g.F.ReadinessCell.known c.try_write_all.new.self.readiness) c.try_write_all.new.self.entry.parting in
    subst (λ offered. AnswersWrite g.S.Stream.sends c.args.bytes.now offered c.try_write_all.result old new)
    (c.try_write_all.ensures.empty refl refl)
    (subst (λ bytes. AnswersWrite g.S.Stream.sends bytes c.try_write_all.new.self.calls.requested c.try_write_all.result old new)
    (append-nil c.args.bytes.now) (c.try_write_all.ensures.answers few))
