-- A worker's rounds, one after another.
use Rattle.std.specs.Prelude.{nat_lt}
use Rattle.std.proofs.Common.{◌≡◌, ◌<◌, ℕ, ◌+◌, ◌-◌, List, [], Option, Bool, true, false, refl, sym, ap, ◌∙◌, subst, arith, append_assoc}
use Rattle.mc_shelf.specs.Stores.{StoreState}
use Rattle.mc_shared.specs.Shown.{CallerState}
use Rattle.mc_shared.specs.Asking.{AskingState}
use Rattle.mc_guests.specs.Books.{BooksState, no_books, quiet}
use Rattle.mc_guests.specs.Budgets.{unused}
use Rattle.mc_guests.specs.Links.{LinkState}
use Rattle.mc_guests.specs.Admissions.{shut}
use Rattle.mc_guests.specs.Arrivals.{turned_away, came_between, ComeFirst, Brings}
use Rattle.mc_guests.specs.Leaving.{AreLetGo}
use Rattle.mc_guests.proofs.ArrivalLemmas.{OpensAllTo, first_none, first_then, first_still}
use Rattle.mc_guests.proofs.LeavingLemmas.{go_then, go_from}
use Rattle.mc_workers.specs.Gone.{gone_after, gone_further, gone_in_rounds, gone_once, gone_since, all_let_go}
use Rattle.mc_workers.proofs.RoomLemmas.{room_gone}
use Rattle.mc_workers.specs.Room.{MakesRoom}
use Rattle.mc_workers.specs.Tending.{TidiesInTurn, asked_by}
use Rattle.mc_workers.specs.Came.{came_since, all_came}
use Rattle.mc_workers.specs.Moments.{reads_on, ReadsOn}
use Rattle.mc_workers.specs.Rounds.{RoundState, VisitsAndSettles, MakesRounds}
use Rattle.mc_workers.specs.Rounds.{WorkState, WorksOnce, WorksSince, WorksToEnd}
use Rattle.mc_time.specs.Chains.{none_yet, one_more}
use Rattle.mc_guests.specs.declared.admission.Admission.{Admission}
use Rattle.mc_guests.specs.declared.guests.WorkEnd.{WorkEnd}

-- what lets links go
module _ (leaves : LinkState → (before after : ℕ) → Type 0) where
  -- which links are to come is what it was before other calls
  pub opens_from : {door later : Admission} {old new : BooksState} {before after : WorkEnd} {goes_on : Bool} {coming amid left : Option (List LinkState)} → amid ≡ coming
      → OpensAllTo leaves door later old new before after goes_on amid left → OpensAllTo leaves door later old new before after goes_on coming left
  opens_from {goes_on = goes_on} {left = left} same opens =
      (opens.0, subst (λ (o : Option (List LinkState)). Brings (came_between opens.0) goes_on o left) same opens.1, opens.2)

  module _ {K : Type 0} (hash_of : K → List ℕ → ℕ) (now : ℕ) where
    -- a round, and the links that are let go after it
    abbrev pub RoundTo : (old new : RoundState K) → Type 0
    RoundTo old new = (round : VisitsAndSettles hash_of now old new) × AreLetGo leaves (gone_after hash_of round) old.1.gone new.1.gone

    -- the rounds at a moment
    abbrev pub RoundsTo : (old new : RoundState K) → Type 0
    RoundsTo old new = (rounds : MakesRounds hash_of now old new) × AreLetGo leaves (gone_in_rounds hash_of rounds) old.1.gone new.1.gone

    pub one_round : (old new : RoundState K) (left : ℕ) → left ≡ 256 - old.1.awake → RoundTo old new → (rounds : RoundsTo old new) × (rounds.0.left ≡ left)
    one_round old new left is round = (
      (
        record { first = new; round = round.0; count = 0; left = 256 - old.1.awake; further = none_yet },
        go_then leaves (gone_after hash_of round.0) [] old.1.gone new.1.gone new.1.gone round.1 refl,
      ),
      sym is,
    )

    pub further_round : (old mid new : RoundState K) (left less : ℕ) → (rounds : RoundsTo old mid) × (rounds.0.left ≡ left) → 0 < left → quiet mid.1 ≡ false → less ≡ left - mid.1.awake
        → RoundTo mid new → (rounds : RoundsTo old new) × (rounds.0.left ≡ less)
    further_round old mid new left less (front, is) some busy rest round =
        let rounds = front.0 in
        let some_left : 0 < rounds.left = omega (arith, some, is) in (
          (
            record {
              first = rounds.first;
              round = rounds.round;
              count = rounds.count + 1;
              left = rounds.left - mid.1.awake;
              further = one_more rounds.further (record { some = some_left; busy = busy; left = refl; round = round.0 });
            },
            subst (λ (l : List LinkState). AreLetGo leaves l old.1.gone new.1.gone)
                (append_assoc (gone_after hash_of rounds.round) (gone_further hash_of rounds.further) (gone_after hash_of round.0))
                (go_then leaves (gone_in_rounds hash_of rounds) (gone_after hash_of round.0) old.1.gone mid.1.gone new.1.gone front.1 round.1),
          ),
          ap (λ (n : ℕ). n - mid.1.awake) is ∙ sym rest,
        )

  module _ {K : Type 0} (hash_of : K → List ℕ → ℕ) (may_give : ℕ → Type 0) where
    -- what it does from one opening to the next, the links that come, and those that are let go
    abbrev pub WorksOnceTo : (old new : WorkState K) (goes_on : Bool) (coming left : Option (List LinkState)) → Type 0
    WorksOnceTo old new goes_on coming left =
        (once : WorksOnce hash_of may_give old new goes_on) × Brings (came_between once.opens) goes_on coming left
        × AreLetGo leaves (gone_once hash_of may_give once) old.books.gone new.books.gone

    -- since its beginning it worked, read its clock for each series, these links came, and these were let go
    abbrev pub WorksSinceTo : (may_follow : (before now : ℕ) → Type 0) (first share : ℕ) (began : StoreState K) (caller : CallerState) (state : WorkState K)
        (coming left : Option (List LinkState)) → Type 0
    WorksSinceTo may_follow first share began caller state coming left =
        (since : WorksSince hash_of may_give first share began caller state) × reads_on hash_of may_give may_follow since.works
        × ComeFirst coming (came_since hash_of may_give since.works) left
        × AreLetGo leaves (gone_since hash_of may_give since.works) 0 state.books.gone

  module _ {K : Type 0} {hash_of : K → List ℕ → ℕ} {may_give : ℕ → Type 0} where
    pub once_so : {old new : WorkState K} {tidied : AskingState K} {settled roomy : BooksState} {counted : WorkEnd} {opened goes_on : Bool} {coming left : Option (List LinkState)}
        → may_give new.moment → TidiesInTurn hash_of (nat_lt old.moment new.moment) new.moment old.turn new.turn old.asking tidied
        → RoundsTo hash_of new.moment (tidied, old.books, old.end) (new.asking, settled, counted) → MakesRoom settled roomy
        → OpensAllTo leaves old.door new.door roomy new.books counted new.end opened coming left → opened ≡ goes_on
        → WorksOnceTo hash_of may_give old new goes_on coming left
    once_so {old} {new} {tidied} {settled} {roomy} {counted} {coming = coming} {left = left} given tidies rounds judges opens so =
        let said = subst (λ (b : Bool). OpensAllTo leaves old.door new.door roomy new.books counted new.end b coming left) so opens in (
          record { given = given; tidied = tidied; settled = settled; roomy = roomy; counted = counted; tidies = tidies; rounds = rounds.0; judges = judges; opens = said.0 },
          said.1,
          go_then leaves (gone_in_rounds hash_of rounds.0) (turned_away (came_between said.0)) old.books.gone settled.gone new.books.gone rounds.1
              (go_from leaves (turned_away (came_between said.0)) settled.gone roomy.gone new.books.gone (room_gone settled roomy judges) said.2),
        )

  module _ {K : Type 0} {hash_of : K → List ℕ → ℕ} {may_give : ℕ → Type 0} (may_follow : (before now : ℕ) → Type 0) {first share : ℕ} {began : StoreState K} {caller : CallerState} where
    pub works_from : (moment : ℕ) (asking : AskingState K) (books : BooksState) (door : Admission) (coming left : Option (List LinkState)) → may_give moment
        → asking ≡ asked_by began caller → (most : ℕ) → books ≡ no_books (unused share most) → most ≡ began.settings.greatest
        → (greatest : ℕ) → door ≡ shut greatest → greatest ≡ began.settings.greatest → left ≡ coming
        → WorksSinceTo hash_of may_give may_follow first share began caller (record { asking = asking; books = books; door = door; end = record { served = 0; broken = 0; refused = 0 }; turn = first; moment = moment }) coming left
    works_from moment asking books door coming left given asks most none so greatest closed is same =
        subst (λ (s : WorkState K). WorksSinceTo hash_of may_give may_follow first share began caller s coming left) (sym (
        ap (λ (a : AskingState K). record { asking = a; books = books; door = door; end = record { served = 0; broken = 0; refused = 0 }; turn = first; moment = moment }) asks
        ∙ ap (λ (b : BooksState). record { asking = asked_by began caller; books = b; door = door; end = record { served = 0; broken = 0; refused = 0 }; turn = first; moment = moment })
        (none ∙ ap (λ (n : ℕ). no_books (unused share n)) so)
        ∙ ap (λ (d : Admission). record {
          asking = asked_by began caller;
          books = no_books (unused share began.settings.greatest);
          door = d;
          end = record { served = 0; broken = 0; refused = 0 };
          turn = first;
          moment = moment;
        })
        (closed ∙ ap shut is)
        )) (record { moment = moment; given = given; count = 0; works = none_yet }, tt, first_still coming coming left [] same (first_none coming), refl)

    pub works_on : {old new : WorkState K} (coming amid left : Option (List LinkState)) → WorksSinceTo hash_of may_give may_follow first share began caller old coming amid
        → may_follow old.moment new.moment → WorksOnceTo hash_of may_give old new true amid left → WorksSinceTo hash_of may_give may_follow first share began caller new coming left
    works_on {old} {new} coming amid left since follows once = (
      record { moment = since.0.moment; given = since.0.given; count = since.0.count + 1; works = one_more since.0.works once.0 },
      (since.1, follows),
      first_then coming amid left (came_since hash_of may_give since.0.works) (came_between once.0.opens) since.2 once.1.first,
      go_then leaves (gone_since hash_of may_give since.0.works) (gone_once hash_of may_give once.0) 0 old.books.gone new.books.gone since.3 once.2,
    )

    pub works_over : {old new : WorkState K} {back : CallerState} {coming amid left : Option (List LinkState)} → WorksSinceTo hash_of may_give may_follow first share began caller old coming amid
        → may_follow old.moment new.moment → WorksOnceTo hash_of may_give old new false amid left → back.past ≡ new.asking.past
        → (works : WorksToEnd hash_of may_give first share began caller (back, new.end)) × ReadsOn hash_of may_give may_follow works
        × Brings (all_came hash_of may_give works) false coming left
        × AreLetGo leaves (all_let_go hash_of may_give works) 0 works.final.books.gone
    works_over {old} {new} {coming = coming} {amid = amid} {left = left} since follows once past = (
      record { last = old; final = new; since = since.0; ends = once.0; past = past; end = refl },
      (since.1, follows),
      record {
        first = first_then coming amid left (came_since hash_of may_give since.0.works) (came_between once.0.opens) since.2 once.1.first;
        all = once.1.all;
      },
      go_then leaves (gone_since hash_of may_give since.0.works) (gone_once hash_of may_give once.0) 0 old.books.gone new.books.gone since.3 once.2,
    )
