use Rattle.std.proofs.Common.{subst, ap, ◌∙◌, arith, ◌<◌, ◌≤◌, ◌++◌, [], List, ℕ, Ok, take, false, append-nil}
use Rattle.mc_bytes.specs.Parts.{IsFront}
use Rattle.mc_session.specs.Turns.{sent}
use Rattle.mc_guests.specs.Links.{IsWrite, TakesWithin, asked, took}
use Rattle.mc_guests.specs.Guests.{GuestState}
use Rattle.mc_links.specs.declared.link.Took.TheVariants.{Bytes as TookBytes}
use Rattle.mc_guests.proofs.VisitLemmas.{writes_front}
use Rattle.mc_guests.proofs.guest.Guest.write_out.Goals as goal

pub returns-else-taken-eq0-clause-writes : goal.returns-else-taken-eq0-clause-writes
returns-else-taken-eq0-clause-writes g c =
    let n = c.in-Ok-Bytes.taken in
    let first = c.fronts.result.0.now in
    let behind = c.fronts.result.1.now in
    let old = g.L.Link.shown c.self.inside.link in
    let new = g.L.Link.shown c.try_write_all.new.self in
    let took_all = subst (λ f. IsWrite old (first ++ (behind ++ [])) (Ok f) new) c.in-Ok-Bytes.field-0-is c.in-Ok-Bytes.ensures.takes in
    let t = subst (λ (more : List ℕ). IsWrite old (first ++ more) (Ok (TookBytes n)) new) (append-nil behind) took_all in
    let inside : n ≤ new.requested = subst (λ f. TakesWithin new.requested (Ok f)) c.in-Ok-Bytes.field-0-is c.in-Ok-Bytes.ensures.offered.within in
    let some : 0 < n = omega arith in
    writes_front _ _ n first behind (subst (λ (s : GuestState). IsFront s.session.out first) c.self.view_is c.fronts.ensures.front)
    (subst (λ (s : GuestState). IsFront s.session.out (first ++ behind)) c.self.view_is c.fronts.ensures.both) c.requires some t.0
    (c.sent.ensures ∙ ap (λ (s : GuestState). sent s.session n) c.self.view_is)
    (t.1 ∙ ap (λ (s : GuestState). took (asked false new.requested s.link) (take n (first ++ behind))) c.self.view_is)
    c.in-Ok-Bytes.ensures.offered.least (omega (arith, c.in-Ok-Bytes.ensures.offered.most)) inside
