-- What a worker does for room: it ends readers of what has left the store, and judges slow guests that hold much.
use Rattle.std.specs.Prelude.{◌≡◌, ◌⊎◌, ◌<◌, ℕ, length, IsTrue, IsFalse}
use Rattle.mc_guests.specs.Books.{BooksState, SetsTicks, took_ending, took_judging}
use Rattle.mc_guests.specs.Budgets.{is_over, to_end, to_judge}
use Rattle.mc_guests.specs.Judging.{EndsSlowest, JudgesSlowest, NoneIsSought, slowness}
use Rattle.mc_time.specs.Chains.{Repeats}
use Rattle.mc_guests.specs.declared.metered.Verdict.{Verdict}

-- more than the share of what has left the store was read, and its slowest reader was ended; nothing else of the guests
-- changed
pub record EndsOne (old new : BooksState) : Type 0 where
  pub number : ℕ
  pub over : IsTrue (is_over old.budget)
  pub ends : EndsSlowest number old.row new.row old.budget new.budget
  pub same : new ≡ record old { row = new.row; budget = new.budget }

-- `count` readers were ended, each the slowest then
abbrev pub EndsReaders : (count : ℕ) (old new : BooksState) → Type 0
EndsReaders count old new = Repeats EndsOne count old new

-- the slowest readers were ended: `most` of them, or until what they read that has left is within the share
pub record EndsUpTo (most : ℕ) (old new : BooksState) : Type 0 where
  pub count : ℕ
  pub ends : EndsReaders count old new
  pub over : (count ≡ most) ⊎ ((count < most) × IsFalse (is_over new.budget))

-- the slowest guest was judged, and nothing else of the guests changed
pub record JudgesOne (old new : BooksState) : Type 0 where
  pub result : Verdict
  pub judges : JudgesSlowest old.budget.ticks result old.row new.row
  pub same : new ≡ record old { row = new.row }

-- `count` slow guests were judged, each the slowest then
abbrev pub JudgesSlow : (count : ℕ) (old new : BooksState) → Type 0
JudgesSlow count old new = Repeats JudgesOne count old new

-- the slowest guests were judged: `most` of them, or until none was slow
pub record JudgesUpTo (most : ℕ) (old new : BooksState) : Type 0 where
  pub count : ℕ
  pub judges : JudgesSlow count old new
  pub over : (count ≡ most) ⊎ ((count < most) × NoneIsSought (slowness new.budget.ticks) (length new.row.guests) new.row.guests)

-- The time is set, in ticks, and what has left the store and guests read is counted anew. Once a tick its slowest readers
-- are ended, at most 16, until it is within the share; and the slowest guests are judged: as many as wait, at most 16.
pub record MakesRoom (old new : BooksState) : Type 0 where
  pub ticks : ℕ
  pub timed : BooksState
  pub ended : BooksState
  pub sets : SetsTicks ticks old timed
  pub ends : EndsUpTo (to_end timed.budget) (took_ending timed) ended
  pub judges : JudgesUpTo (to_judge ended.budget) (took_judging ended) new
