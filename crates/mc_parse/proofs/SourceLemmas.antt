-- What a feed holds after a source wrote into its room.
use Rattle.std.proofs.Common.{◌≡◌, ◌≤◌, ◌-◌, ℕ, ◌⊎◌, inl, inr, List, [], ◌++◌, length, drop, refl, sym, ap, ◌∙◌, subst, arith, length-append, Option}
use Rattle.mc_parse.specs.declared.cursor.Cursor.{Cursor}
use Rattle.mc_parse.specs.declared.ahead.Ahead.{Ahead}
use Rattle.mc_parse.specs.Aheads.{Knew, Knows}
use Rattle.mc_parse.specs.Feeds.{Unread, pushed, TakesPiece, IsSettled, IsKept}
use Rattle.mc_parse.proofs.AheadLemmas.{knew_more}
use Rattle.mc_parse.proofs.FeedLemmas.{unread, settled_pushed, view_pushed, cursor_pushed, pushed_none}

-- A piece has come behind the bytes, and of both together the first bytes, so many, are passed over.
module _ (greatest passed skipped : ℕ) (cursor : Option Cursor) (ahead : Ahead) (bytes piece new : List ℕ)
    (kept : IsKept greatest passed cursor ahead bytes) (is : new ≡ drop skipped (bytes ++ piece))
    (whole : length (bytes ++ piece) ≤ passed → skipped ≡ length (bytes ++ piece)) (front : passed ≤ length (bytes ++ piece) → skipped ≡ passed) where
  all : length piece ≤ passed → skipped ≡ length piece
  all less = elim kept.settled as (λ _. skipped ≡ length piece) [
    | inl zero ↦ omega (arith, front (omega arith))
    | inr none ↦
        let long : length (bytes ++ piece) ≡ length piece = ap (λ b. length (b ++ piece)) none in
        omega (arith, long, whole (omega (arith, long)))
  ]

  some : passed ≤ length piece → skipped ≡ passed
  some more = front (omega (arith, length-append bytes piece))

  -- they are the piece's, since no byte is unread where some are passed over
  of_piece : drop skipped (bytes ++ piece) ≡ bytes ++ drop skipped piece
  of_piece = elim kept.settled as (λ _. drop skipped (bytes ++ piece) ≡ bytes ++ drop skipped piece) [
    | inl zero ↦
        let first : skipped ≡ 0 = omega (arith, front (omega arith)) in
        rw first refl
    | inr none ↦ rw none refl
  ]

  joined : new ≡ bytes ++ drop skipped piece
  joined = is ∙ of_piece

  pub knew_from : Knew greatest ahead new
  knew_from = subst (Knew greatest ahead) (sym joined) (knew_more greatest ahead bytes (drop skipped piece) kept.knows)

  pub kept_from : (after : Ahead) → Knows greatest after new → IsKept greatest (passed - skipped) cursor after new
  kept_from after knows = record {
    settled = subst (λ b. (passed - skipped ≡ 0) ⊎ (b ≡ [])) (sym joined) (settled_pushed passed skipped bytes piece (drop skipped piece) kept.settled refl all some);
    points = rw joined (cursor_pushed greatest cursor bytes (drop skipped piece) kept.points);
    knows = knows;
  }

  view_from : unread greatest (passed - skipped) new ≡ pushed (unread greatest passed bytes) piece
  view_from = view_pushed passed skipped bytes piece (drop skipped piece) kept.settled refl all some greatest new joined

  takes_this : TakesPiece (unread greatest passed bytes) (unread greatest (passed - skipped) new) piece
  takes_this = (view_from, λ none. view_from ∙ ap (pushed (unread greatest passed bytes)) none ∙ pushed_none (unread greatest passed bytes) kept.settled)

  pub takes_from : (u : Unread) → unread greatest passed bytes ≡ u → TakesPiece u (unread greatest (passed - skipped) new) piece
  takes_from u same = subst (λ (v : Unread). TakesPiece v (unread greatest (passed - skipped) new) piece) same takes_this
