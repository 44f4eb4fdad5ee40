-- What a worker does for room, one guest after another.
use Rattle.std.proofs.Common.{◌≡◌, ◌<◌, ℕ, ◌+◌, true, false, length, Some, None, inl, inr, sym, ap, ◌∙◌, subst}
use Rattle.mc_guests.specs.Books.{RowState, BooksState, SetsTicks, took_ending, took_judging}
use Rattle.mc_guests.specs.Budgets.{is_over, to_end, to_judge}
use Rattle.mc_guests.specs.Judging.{EndsSlowest, Judges, NoneIsSought, slowness}
use Rattle.mc_time.specs.Chains.{one_more}
use Rattle.mc_guests.specs.declared.metered.Verdict.{Verdict}
use Rattle.mc_guests.proofs.LeavingLemmas.{repeats_leave}
use Rattle.mc_workers.specs.Room.{EndsOne, EndsReaders, EndsUpTo, JudgesOne, JudgesSlow, JudgesUpTo, MakesRoom}

-- one more was judged
pub judged_more : (count : ℕ) (verdict : Verdict) (old mid new : BooksState) → JudgesSlow count old mid → Judges mid.budget.ticks (Some verdict) mid.row new.row
    → new ≡ record mid { row = new.row } → JudgesSlow (count + 1) old new
judged_more count verdict old mid new front judges is = one_more front (record { result = verdict; judges = judges; same = is })

-- none is slow any more
pub judged_none : (most count : ℕ) (old mid new : BooksState) → count < most → JudgesSlow count old mid → Judges mid.budget.ticks None mid.row new.row
    → new ≡ record mid { row = new.row } → JudgesUpTo most old new
judged_none most count old mid new below front judges is =
    let same : new ≡ mid = is ∙ ap (λ (r : RowState). record mid { row = r }) judges.1 in record {
      count = count;
      judges = subst (λ (b : BooksState). JudgesSlow count old b) (sym same) front;
      over = inr (below, subst (λ (b : BooksState). NoneIsSought (slowness b.budget.ticks) (length b.row.guests) b.row.guests) (sym same) judges.0);
    }

-- as many were judged as there were to judge
pub judged_all : (most count : ℕ) (old mid : BooksState) → count ≡ most → JudgesSlow count old mid → JudgesUpTo most old mid
judged_all most count old mid all front = record { count = count; judges = front; over = inl all }

-- one more was ended
pub ended_more : (count number : ℕ) (old mid new : BooksState) → EndsReaders count old mid → true ≡ is_over mid.budget
    → EndsSlowest number mid.row new.row mid.budget new.budget → new ≡ record mid { row = new.row; budget = new.budget } → EndsReaders (count + 1) old new
ended_more count number old mid new front over ends is = one_more front (record { number = number; over = sym over; ends = ends; same = is })

-- what has left is within the share
pub ended_none : (most count : ℕ) (old mid new : BooksState) → count < most → EndsReaders count old mid → false ≡ is_over mid.budget → new ≡ mid → EndsUpTo most old new
ended_none most count old mid new below front over same = record {
  count = count;
  ends = subst (λ (b : BooksState). EndsReaders count old b) (sym same) front;
  over = inr (below, ap (λ (b : BooksState). is_over b.budget) same ∙ sym over);
}

-- as many were ended as there were to end
pub ended_all : (most count : ℕ) (old mid : BooksState) → count ≡ most → EndsReaders count old mid → EndsUpTo most old mid
ended_all most count old mid all front = record { count = count; ends = front; over = inl all }

-- the time was set, then readers were ended, and then slow ones were judged
pub makes_room : (ticks readers most : ℕ) (old timed taken ended noted new : BooksState) → SetsTicks ticks old timed → readers ≡ to_end timed.budget → taken ≡ took_ending timed
    → EndsUpTo readers taken ended → most ≡ to_judge ended.budget → noted ≡ took_judging ended → JudgesUpTo most noted new → MakesRoom old new
makes_room ticks readers most old timed taken ended noted new sets few takes ends counts notes judges = record {
  ticks = ticks;
  timed = timed;
  ended = ended;
  sets = sets;
  ends = subst (λ (n : ℕ). EndsUpTo n (took_ending timed) ended) few (subst (λ (b : BooksState). EndsUpTo readers b ended) takes ends);
  judges = subst (λ (n : ℕ). JudgesUpTo n (took_judging ended) new) counts (subst (λ (b : BooksState). JudgesUpTo most b new) notes judges);
}

-- no link is let go for room: a link that is to end is named, and ends later
pub room_gone : (old new : BooksState) → MakesRoom old new → new.gone ≡ old.gone
room_gone old new room =
    repeats_leave JudgesOne (λ a b one. ap (λ (x : BooksState). x.gone) one.same) room.judges.count (took_judging room.ended) new room.judges.judges
    ∙ repeats_leave EndsOne (λ a b one. ap (λ (x : BooksState). x.gone) one.same) room.ends.count (took_ending room.timed) room.ended room.ends.ends
    ∙ ap (λ (x : BooksState). x.gone) room.sets.rest
