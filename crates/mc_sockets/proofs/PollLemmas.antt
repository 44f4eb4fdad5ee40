-- What is done behind a poll.
use Rattle.std.proofs.Common.{◌≡◌, ℕ, Option, Some, subst, sym, true, MatchBool, nat_lt}
use Rattle.std.specs.declared.time.Instant.{Instant}
use Rattle.mc_sockets.specs.declared.connection.CloseReason.{CloseReason}
use Rattle.mc_sockets.specs.declared.idle.SweepCursor.{SweepCursor}
use Rattle.mc_sockets.specs.declared.readiness.Readiness.{Readiness}
use Rattle.mc_sockets.specs.declared.link_table.SweepAction.TheVariants.{EndIdle}
use Rattle.mc_sockets.specs.declared.link_table.LinkTable.{LinkTable}
use Rattle.mc_sockets.specs.LinkTables.{AsksUnheard, ByWatch, LooksAround, LooksInTurn}
use Rattle.mc_sockets.specs.SweepCursors.{IfAllHeard}

-- idle links were ended and then unheard ones asked, and neither changed the watch of the other
pub looked_around : {F R : Type 0} (known : F → Option Readiness) (sends : R → ℕ → R → Type 0) (parting : CloseReason) (before now : Instant)
    (idle later_idle last_idle unheard mid_unheard last_unheard : Option SweepCursor) (old mid new : LinkTable F) (old_rests rests new_rests : R)
    → ByWatch (LooksInTurn known sends (EndIdle parting) before now) idle later_idle old mid old_rests rests
    → ByWatch (AsksUnheard known sends 2_000_000_000 before now) mid_unheard last_unheard mid new rests new_rests
    → last_idle ≡ later_idle → mid_unheard ≡ unheard
    → LooksAround known sends parting before now idle last_idle unheard last_unheard old new old_rests new_rests
looked_around known sends parting before now idle later_idle last_idle unheard mid_unheard last_unheard old mid new old_rests rests new_rests ends asks same first =
    record {
      mid = mid;
      rests = rests;
      ends = subst (λ watch. ByWatch (LooksInTurn known sends (EndIdle parting) before now) idle watch old mid old_rests rests) (sym same) ends;
      asks = subst (λ watch. ByWatch (AsksUnheard known sends 2_000_000_000 before now) watch last_unheard mid new rests new_rests) first asks;
    }

-- a poll before reported fewer events than it may, so that is done
pub all_heard : (heard most : ℕ) (polled : Option Instant) (before : Instant) (done : Instant → Type 0) (nothing : Type 0)
    → polled ≡ Some before → nat_lt heard most ≡ true → done before → IfAllHeard heard most polled done nothing
all_heard heard most polled before done nothing is few it =
    subst (λ last. IfAllHeard heard most last done nothing) (sym is) (subst (λ test. MatchBool test (done before) nothing) (sym few) it)
