-- The parts of a visit.
use Rattle.std.proofs.Common.{◌≡◌, ℕ, ◌<◌, ◌≤◌, ◌+◌, List, [], ◌∷◌, ◌++◌, length, take, drop, refl, sym, ap, ◌∙◌}
use Rattle.std.proofs.Common.{subst, arith, inl, inr, Option, Some, None, Bool, true, false, ◌⊎◌, IsTrue, IsFalse}
use Rattle.mc_protocol.specs.declared.step.Steps.{Ghosts as Relations}
use Rattle.std.proofs.lemmas.List.{take-append-drop, take-append-le, length-append, length-take-le, append-nil}
use Rattle.mc_bytes.specs.Parts.{IsFront}
use Rattle.mc_session.specs.Turns.{SessionState, DecidesStep, TurnIsDue, FedPiece, sent, closed}
use Rattle.mc_guests.specs.Links.{LinkState, IsRoom, asked, grown, gave, took, failed, ended}
use Rattle.mc_guests.specs.Guests.{GuestState, IsWaiting, IsOffer}
use Rattle.mc_guests.specs.Visits.{WritesFront, ReadsPiece, WaitsForLink, EndsServed, EndsBroken, RefusesPiece, RefusesTurn, Reads, Does}
use Rattle.mc_guests.specs.declared.guest.Visit.{Visit}
use Rattle.mc_guests.specs.declared.guest.Visit.TheVariants.{Wrote, Turned, Read, Later, Served, Broken, Refused}

-- a front of what isn't empty
is_offer : (all front : List ℕ) → IsFront all front → (all ≡ [] → ⊥) → IsOffer (length front) (length all)
is_offer all [] is some = absurd (some (is.some refl))
is_offer all (byte ∷ front) is some =
    let long = ap length is.parts ∙ length-append (byte ∷ front) is.rest in
    (omega arith, omega (arith, long))

-- the link took a front of the first part of the output and of the one behind it
pub writes_front : (old new : GuestState) (n : ℕ) (first behind : List ℕ) → IsFront old.session.out first → IsFront old.session.out (first ++ behind)
    → (old.session.out ≡ [] → ⊥) → 0 < n → n ≤ length (first ++ behind)
    → new.session ≡ sent old.session n → new.link ≡ took (asked false new.link.requested old.link) (take n (first ++ behind))
    → length first ≤ new.link.requested → new.link.requested ≤ length first + length behind → n ≤ new.link.requested → WritesFront old new
writes_front old new n first behind begins is has some low s l least most inside =
    let front = first ++ behind in
    let some_first = is_offer old.session.out first begins has in
    let few = is_offer old.session.out front is has in
    let sum = length-append first behind in
    let long : length (take n front) ≡ n = length-take-le n front low in
    let same : take n old.session.out ≡ take n front = ap (take n) is.parts ∙ take-append-le n front is.rest low in
    record {
      part = take n front;
      some = subst (λ k. 0 < k) (sym long) some;
      parts = subst (λ (t : SessionState). old.session.out ≡ take n front ++ t.out) (sym s)
          (sym (take-append-drop n old.session.out) ∙ ap (λ l. l ++ drop n old.session.out) same);
      session = subst (λ (t : SessionState). t ≡ record old.session { out = t.out }) (sym s) refl;
      link = l;
      offered = (omega (arith, some_first.0, least), omega (arith, few.1, sum, most));
      within = omega (arith, long, inside);
    }

-- a guest of these parts
abbrev pub guest_of : SessionState → LinkState → Option Visit → GuestState
guest_of session link last = record { session = session; link = link; last = last }

no_items : (piece : List ℕ) → 0 ≡ length piece → piece ≡ []
no_items [] zero = refl
no_items (byte ∷ piece) zero = absurd (omega (arith, zero))

-- a link that gave no bytes is as it was
gave_none : (link : LinkState) (given : Option (List ℕ)) → link.given ≡ given → gave link [] ≡ link
gave_none link None is = ap (λ (g : Option (List ℕ)). record link { given = grown g [] }) is ∙ ap (λ (g : Option (List ℕ)). record link { given = g }) (sym is)
gave_none link (Some known) is =
    ap (λ (g : Option (List ℕ)). record link { given = grown g [] }) is
    ∙ ap (λ (k : List ℕ). record link { given = Some k }) (append-nil known)
    ∙ ap (λ (g : Option (List ℕ)). record link { given = g }) (sym is)

-- A link was read into a session that was idle, and this piece was fed of it.
module _ (session between : SessionState) (link later : LinkState) (last : Option Visit) (old : GuestState) (piece : List ℕ)
    (is : guest_of session link last ≡ old) (waits : IsWaiting old.session) (came : FedPiece session between piece) where
  waits_here : IsWaiting session
  waits_here = subst (λ (g : GuestState). IsWaiting g.session) (sym is) waits

  pub reads_piece : 0 < length piece → later ≡ gave (asked true later.requested link) piece → IsRoom later.requested → ReadsPiece old (guest_of between later last)
  reads_piece some given room =
      subst (λ (g : GuestState). ReadsPiece g (guest_of between later last)) is
      (record { piece = piece; some = some; waits = waits_here; session = came.0; link = given; room = room })

  pub reads_later : piece ≡ [] → later ≡ asked true later.requested link → IsRoom later.requested → WaitsForLink old (guest_of between later last)
  reads_later none same room =
      subst (λ (g : GuestState). WaitsForLink g (guest_of between later last)) is
      (record { awaits = inr waits_here; session = came.1 none; link = same; demand = room })

  pub reads_nothing : 0 ≡ length piece → later ≡ gave (asked true later.requested link) piece → IsRoom later.requested → WaitsForLink old (guest_of between later last)
  reads_nothing zero given room =
      let none : piece ≡ [] = no_items piece zero in
      reads_later none (given ∙ ap (gave (asked true later.requested link)) none ∙ gave_none (asked true later.requested link) link.given refl) room

  pub reads_end : (new : SessionState) → new ≡ closed between → piece ≡ [] → later ≡ ended (asked true later.requested link) → IsRoom later.requested
      → EndsServed old (guest_of new later last)
  reads_end new shut none over room = subst (λ (g : GuestState). EndsServed g (guest_of new later last)) is
      (record { written = waits_here.written; session = shut ∙ ap closed (came.1 none); over = inr (waits_here, over, room) })

  pub reads_fault : (new : SessionState) → new ≡ closed between → piece ≡ [] → later ≡ failed (asked true later.requested link) → IsRoom later.requested
      → EndsBroken old (guest_of new later last)
  reads_fault new shut none fails room = subst (λ (g : GuestState). EndsBroken g (guest_of new later last)) is
      (record { awaits = inr waits_here; session = shut ∙ ap closed (came.1 none); link = fails; demand = room })

-- there was no memory for a read's room, and nothing was read
pub refuses_room : (session between new : SessionState) (link later : LinkState) (last : Option Visit) (old : GuestState) → guest_of session link last ≡ old → IsWaiting old.session
    → between ≡ session → new ≡ closed between → later ≡ link → RefusesPiece old (guest_of new later last)
refuses_room session between new link later last old is waits same shut stays = subst (λ (g : GuestState). RefusesPiece g (guest_of new later last)) is (record {
  waits = subst (λ (g : GuestState). IsWaiting g.session) (sym is) waits;
  session = shut ∙ ap closed same;
  link = stays;
})

reads_so : {S : Type 0} (relations : Relations S) (now : ℕ) (answer : Visit) (old new : GuestState) (before after : S)
    → after ≡ before → Reads answer old new → Does relations now answer old new before after
reads_so relations now Wrote old new before after same r = elim r [ ]
reads_so relations now Turned old new before after same r = elim r [ ]
reads_so relations now Read old new before after same r = (r, same)
reads_so relations now Later old new before after same r = (r, same)
reads_so relations now Served old new before after same r = (r, same)
reads_so relations now Broken old new before after same r = (r, same)
reads_so relations now Refused old new before after same r = inr (r, same)

-- where no turn was due, what comes of the read is what is done
pub reads_does : {S : Type 0} (relations : Relations S) (now : ℕ) (answer : Visit) (link : LinkState) (last : Option Visit) (s t : SessionState) (old new : GuestState) (before after : S)
    → s ≡ t → guest_of t link last ≡ old → after ≡ before → Reads answer (guest_of s link last) new → Does relations now answer old new before after
reads_does relations now answer link last s t old new before after session is same r =
    let whole = ap (λ (x : SessionState). guest_of x link last) session ∙ is in
    reads_so relations now answer old new before after same (subst (λ (g : GuestState). Reads answer g new) whole r)

-- memory ran out over a turn, and its step was decided, or it wasn't
either_way : {A B : Type 0} (decided : Bool) → (IsFalse decided → A) → (IsTrue decided → B) → A ⊎ B
either_way true stays takes = inr (takes refl)
either_way false stays takes = inl (stays refl)

pub refuses_turn : {S : Type 0} (relations : Relations S) (now : ℕ) (decided : Bool) (inside old new : GuestState) (before after : S) → inside ≡ old → old.session.out ≡ [] → TurnIsDue inside.session
    → new.session ≡ closed inside.session → new.link ≡ inside.link → (IsFalse decided → relations.same before after) → (IsTrue decided → DecidesStep relations now inside.session before after)
    → RefusesTurn relations now old new before after
refuses_turn relations now decided inside old new before after is written due session link stays takes =
    subst (λ (s : GuestState). RefusesTurn relations now s new before after) is
    (record { due = record { written = subst (λ (s : GuestState). s.session.out ≡ []) (sym is) written; due = due }; session = session; link = link; store = either_way decided stays takes })
