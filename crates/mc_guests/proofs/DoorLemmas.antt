-- What an opening of the door does, call by call.
use Rattle.std.specs.Prelude.{◌&&◌, ◌==◌}
use Rattle.std.proofs.Common.{◌≡◌, ◌↔◌, ◌<◌, ℕ, ◌+◌, Bool, true, false, List, [], ◌∷◌, ◌++◌, length, Option, Some, inl, inr, refl, sym, ap, ◌∙◌, subst, IsTrue, IsFalse}
use Rattle.mc_guests.specs.Links.{LinkState}
use Rattle.mc_guests.specs.Guests.{welcomed}
use Rattle.mc_guests.specs.Books.{BooksState, Wakes, quiet, let_in, one_more as one_more_of}
use Rattle.mc_guests.specs.Admissions.{unasked, came, heard, counted_in, WakesNamed, WakesAllNamed, WakesAfter, LetsIn, ComesNothing, Opens, link, none_now, none_more, over}
use Rattle.mc_guests.specs.Admissions.{as_many, then_none}
use Rattle.mc_guests.specs.Arrivals.{Arrival, turned_away, came_in, all_came_in, ComeFirst, NoneToCome}
use Rattle.mc_guests.specs.Leaving.{refused_of, AreLetGo}
use Rattle.mc_time.specs.Chains.{one_more}
use Rattle.mc_guests.specs.declared.admission.Admission.{Admission}
use Rattle.mc_guests.specs.declared.guests.WorkEnd.{WorkEnd}
use Rattle.mc_guests.specs.declared.link_calls.NextAnswer.{NextAnswer}
use Rattle.mc_guests.specs.declared.link_calls.NextAnswer.TheVariants.{Link, Later, Closed}
use Rattle.mc_guests.specs.declared.link_calls.LinkCalls.{LinkCalls}
use Rattle.mc_guests.proofs.ArrivalLemmas.{OpensTo, CameTo, OpensAllTo, away_both, first_then}
use Rattle.mc_guests.proofs.LeavingLemmas.{go_then, go_to, all_named_gone, nothing_gone}

-- one more was named, and its guest woke
pub named_more : (number counter : ℕ) (talk later last : LinkCalls) (old mid new : BooksState) → last ≡ heard (Some number) later
    → WakesNamed talk old later mid × (later.names ≡ counter) → Wakes number mid new → WakesNamed talk old last new × (last.names ≡ counter + 1)
named_more number counter talk later last old mid new is front wakes = (
  (front.0.0 + 1, one_more front.0.1 (record { number = number; talk = is; wakes = wakes })),
  ap (λ (t : LinkCalls). t.names) is ∙ ap (λ (n : ℕ). n + 1) front.1,
)

-- a link came, and has a guest, or is counted as refused and let go
pub lets_in : (leaves : LinkState → (before after : ℕ) → Type 0) (came : Bool) (greatest number : ℕ) (state : LinkState) (old new : BooksState) (before after : WorkEnd)
    → (IsTrue came → new ≡ let_in (welcomed greatest state) number old) → (IsFalse came → new ≡ record old { gone = new.gone })
    → (IsFalse came → leaves state old.gone new.gone)
    → (IsTrue came → after ≡ before) → (IsFalse came → after ≡ record before { refused = one_more_of before.refused })
    → (lets : LetsIn greatest number old new before after) × (lets.link ≡ state) × AreLetGo leaves (refused_of lets) old.gone new.gone
lets_in leaves true greatest number state old new before after enters stays goes same counts =
    (record { link = state; either = inl (enters refl, same refl) }, refl, ap (λ (b : BooksState). b.gone) (enters refl))
lets_in leaves false greatest number state old new before after enters stays goes same counts =
    (record { link = state; either = inr (stays refl, counts refl) }, refl, (new.gone, goes refl, refl))

-- where a test says whether something holds, it doesn't where the test fails
pub fails : {A : Type 0} (test : Bool) → (IsTrue test ↔ A) → test ≡ false → A → ⊥
fails test says is holds = (let h : test ≡ true = says.1 holds in cc)

module _ (leaves : LinkState → (before after : ℕ) → Type 0) (is_quiet : Bool) (door : Admission) (start asked : LinkCalls) (begins : start ≡ unasked) where
  asked_so : (what : NextAnswer) → asked ≡ came what start → asked ≡ came what unasked
  asked_so what is = is ∙ ap (came what) begins

  pub opens_link : (entered : Admission) (talk : LinkCalls) (old between new : BooksState) (before after : WorkEnd) (coming left : Option (List LinkState)) → asked ≡ came Link start
      → entered ≡ counted_in (record door { talk = asked }) → (lets : LetsIn door.greatest door.opened old between before after) → AreLetGo leaves (refused_of lets) old.gone between.gone
      → WakesAllNamed entered.talk between talk new → ((arrival : Arrival) → arrival.state ≡ lets.link → ComeFirst coming (arrival ∷ []) left)
      → OpensTo leaves is_quiet door (record { greatest = entered.greatest; opened = entered.opened; talk = talk }) old new before after true coming left
  opens_link entered talk old between new before after coming left is counts lets goes wakes first =
      subst (λ (e : Admission). OpensTo leaves is_quiet door (record { greatest = e.greatest; opened = e.opened; talk = talk }) old new before after true coming left) (sym counts) (
        link lets (subst (λ (t : LinkCalls). WakesAllNamed t between talk new) (ap (λ (e : Admission). e.talk) counts ∙ asked_so Link is) wakes),
        record { first = first _ refl; all = λ no. absurd (cc) },
        go_to leaves (refused_of lets) old.gone between.gone new.gone goes (all_named_gone entered.talk between talk new wakes),
      )

  pub opens_now : (talk : LinkCalls) (old new : BooksState) (end : WorkEnd) (coming left : Option (List LinkState)) → asked ≡ came Later start → ComesNothing is_quiet asked old talk new
      → ComeFirst coming [] left → OpensTo leaves is_quiet door (record door { talk = talk }) old new end end true coming left
  opens_now talk old new end coming left is nothing first = (
    none_now (subst (λ (t : LinkCalls). ComesNothing is_quiet t old talk new) (asked_so Later is) nothing),
    record { first = first; all = λ no. absurd (cc) },
    nothing_gone is_quiet asked old talk new nothing,
  )

  pub opens_more : (talk : LinkCalls) (old new : BooksState) (end : WorkEnd) (coming left : Option (List LinkState)) → asked ≡ came Closed start → (length old.row.guests ≡ 0 → ⊥)
      → ComesNothing is_quiet asked old talk new → ComeFirst coming [] left → OpensTo leaves is_quiet door (record door { talk = talk }) old new end end true coming left
  opens_more talk old new end coming left is some nothing first = (
    none_more some (subst (λ (t : LinkCalls). ComesNothing is_quiet t old talk new) (asked_so Closed is) nothing),
    record { first = first; all = λ no. absurd (cc) },
    nothing_gone is_quiet asked old talk new nothing,
  )

  pub opens_over : (books : BooksState) (end : WorkEnd) (coming left : Option (List LinkState)) → asked ≡ came Closed start → length books.row.guests ≡ 0
      → ComeFirst coming [] left × NoneToCome left → OpensTo leaves is_quiet door (record door { talk = asked }) books books end end false coming left
  opens_over books end coming left is nobody first =
      subst (λ (t : LinkCalls). OpensTo leaves is_quiet door (record door { talk = t }) books books end end false coming left) (sym (asked_so Closed is))
      (over nobody, record { first = first.0; all = λ no. first.1 }, refl)

-- more can come where a link came
opens_on : {is_quiet : Bool} {door later : Admission} {old new : BooksState} {before after : WorkEnd} {goes_on : Bool}
    → Opens is_quiet door later old new before after goes_on → later.talk.came ≡ Some Link → goes_on ≡ true
opens_on (link _ _) is = refl
opens_on (none_now _) is = refl
opens_on (none_more _ _) is = refl
opens_on (over _) is = cc

module _ (leaves : LinkState → (before after : ℕ) → Type 0) (count : ℕ) (door last later : Admission) (old between new : BooksState) (before mid after : WorkEnd)
    (is_quiet goes_on gave : Bool) (coming amid left : Option (List LinkState)) where
  -- those that were refused before and then were let go
  go_both : (came more : List Arrival) → AreLetGo leaves (turned_away came) old.gone between.gone → AreLetGo leaves (turned_away more) between.gone new.gone
      → AreLetGo leaves (turned_away (came ++ more)) old.gone new.gone
  go_both came more first last =
      subst (λ (l : List LinkState). AreLetGo leaves l old.gone new.gone) (sym (away_both came more))
      (go_then leaves (turned_away came) (turned_away more) old.gone between.gone new.gone first last)

  pub came_one_more : CameTo leaves count door last old between before mid coming amid → is_quiet ≡ quiet between
      → OpensTo leaves is_quiet last later between new mid after goes_on amid left → (IsTrue gave ↔ (later.talk.came ≡ Some Link)) → gave ≡ true
      → CameTo leaves (count + 1) door later old new before after coming left
  came_one_more front is opens says gives =
      let came = says.0 gives in
      let on = subst (λ (b : Bool). OpensTo leaves is_quiet last later between new mid after b amid left) (opens_on opens.0 came) opens in
      let one = subst (λ (q : Bool). OpensTo leaves q last later between new mid after true amid left) is on in (
        one_more front.0 (record { opens = one.0; came = came }),
        first_then coming amid left (all_came_in front.0) (came_in one.0) front.1 one.1.first,
        go_both (all_came_in front.0) (came_in one.0) front.2 one.2,
      )

  pub came_no_more : count < 32 → CameTo leaves count door last old between before mid coming amid → is_quiet ≡ quiet between
      → OpensTo leaves is_quiet last later between new mid after goes_on amid left → (IsTrue gave ↔ (later.talk.came ≡ Some Link)) → gave ≡ false
      → OpensAllTo leaves door later old new before after goes_on coming left
  came_no_more below front is opens says gives =
      let one = subst (λ (q : Bool). OpensTo leaves q last later between new mid after goes_on amid left) is opens in (
        then_none below front.0 one.0 (fails gave says gives),
        record { first = first_then coming amid left (all_came_in front.0) (came_in one.0) front.1 one.1.first; all = one.1.all },
        go_both (all_came_in front.0) (came_in one.0) front.2 one.2,
      )

-- a link came at each of 32 openings
pub came_all : (leaves : LinkState → (before after : ℕ) → Type 0) (count : ℕ) (door later : Admission) (old new : BooksState) (before after : WorkEnd)
    (coming left : Option (List LinkState)) → count ≡ 32 → CameTo leaves count door later old new before after coming left
    → OpensAllTo leaves door later old new before after true coming left
came_all leaves count door later old new before after coming left all front =
    let many = subst (λ (n : ℕ). CameTo leaves n door later old new before after coming left) all front in
    (as_many many.0, record { first = many.1; all = λ no. absurd (cc) }, many.2)

-- Nothing came: those woke whose links were named, and it rested or not.
module _ (is_quiet rests : Bool) (talk last noted : LinkCalls) (old between : BooksState) (wakes : WakesAllNamed talk old last between) (is : rests ≡ (is_quiet && last.names == 0))
    (notes : noted ≡ record last { has_rested = rests }) where
  noted_so : noted ≡ record last { has_rested = is_quiet && last.names == 0 }
  noted_so = notes ∙ ap (λ (r : Bool). record last { has_rested = r }) is

  pub comes_nothing : rests ≡ false → ComesNothing is_quiet talk old noted between
  comes_nothing stays = record {
    last = last;
    between = between;
    wakes = wakes;
    rests = subst (λ (r : Bool). WakesAfter r (record last { has_rested = is_quiet && last.names == 0 }) between noted between) (sym stays ∙ is) (noted_so, refl);
  }

  pub comes_nothing_then : (later : LinkCalls) (new : BooksState) → rests ≡ true → WakesAllNamed noted between later new → ComesNothing is_quiet talk old later new
  comes_nothing_then later new rested after = record {
    last = last;
    between = between;
    wakes = wakes;
    rests = subst (λ (r : Bool). WakesAfter r (record last { has_rested = is_quiet && last.names == 0 }) between later new) (sym rested ∙ is)
        (subst (λ (t : LinkCalls). WakesAllNamed t between later new) noted_so after);
  }
