-- What a look at a place finds, and what is done then.
use Rattle.std.proofs.Common.{◌≡◌, ◌∙◌, ◌||◌, ℕ, Bool, true, false, List, MatchBool, Option}
use Rattle.mc_sockets.specs.LinkRecords.{AsksIfUnheard, AsksOrCloses, EndsIfIdle, Finds, HappensTo, WasDropped, lingers, seen_waiting, waits_for_client}
use Rattle.mc_sockets.specs.Readiness.{AskedAgain, Ended}
use Rattle.mc_sockets.specs.declared.connection.CloseReason.{CloseReason}
use Rattle.mc_sockets.specs.declared.link_record.LinkRecord.{LinkRecord}
use Rattle.mc_sockets.specs.declared.link_record.SweepLimits.{SweepLimits}
use Rattle.mc_sockets.specs.declared.readiness.Readiness.{Readiness}

module _ {F : Type 0} (known : F → Option Readiness) (look : SweepLimits) (IsFull : Type 0) (old new : LinkRecord F) (old_names new_names : List ℕ) (is_so answer : Bool) (seen : LinkRecord F)
    (first : seen.number ≡ old.number) (then : new.number ≡ seen.number) where
  -- nothing but the look is noted
  abbrev IsNoted : Type 0
  IsNoted = (new ≡ seen) × (new_names ≡ old_names)

  -- a connection ends if its link has waited
  pub ends_if_idle : (parting : CloseReason) → Finds (known old.readiness) look (λ stood. waits_for_client stood) (λ stood. seen_waiting stood old.waits_since) is_so seen.waits_since
      → MatchBool is_so (HappensTo known (Ended parting) IsFull seen new old_names new_names) IsNoted
      → MatchBool is_so (WasDropped (known seen.readiness) answer) (answer ≡ false)
      → EndsIfIdle known look parting IsFull answer old new old_names new_names
  ends_if_idle parting finds ends left = record { has_waited = is_so; seen = seen; number = then ∙ first; finds = finds; ends = ends; left = left }

  -- a link is asked again if nothing was heard of it
  pub asks_if_unheard : Finds (known old.readiness) look (λ stood. stood.waits || stood.leaves) (λ _. old.asked_since) is_so seen.asked_since
      → MatchBool is_so (HappensTo known AskedAgain IsFull seen new old_names new_names) IsNoted
      → MatchBool is_so (WasDropped (known new.readiness) answer) (answer ≡ false)
      → AsksIfUnheard known look IsFull answer old new old_names new_names
  asks_if_unheard finds asks left = record { is_unheard = is_so; seen = seen; number = then ∙ first; finds = finds; asks = asks; left = left }

  -- a connection is to be closed if it has lingered, and else its link is asked again if nothing was heard of it
  pub asks_or_closes : (linger : SweepLimits) → Finds (known old.readiness) linger (λ stood. lingers stood) (λ _. old.lingers_since) is_so seen.lingers_since
      → MatchBool is_so ((new ≡ seen) × ((new_names ≡ old_names) × (answer ≡ true))) (AsksIfUnheard known look IsFull answer seen new old_names new_names)
      → AsksOrCloses known linger look IsFull answer old new old_names new_names
  asks_or_closes linger finds asks = record { has_lingered = is_so; seen = seen; number = then ∙ first; finds = finds; asks = asks }
