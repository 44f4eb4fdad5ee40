-- How callers that were made for threads meet again.
use Rattle.std.proofs.Common.{Ok, Err, Result, arith, ◌≡◌, ◌≤◌, ◌+◌, IfOk, OnOk, ℕ, zero, suc, List, [], ◌∷◌, ◌++◌, refl, sym, ap, subst, ◌∙◌, inl, inr, append_assoc}
use Rattle.mc_time.specs.Chains.{Repeats, none_yet, one_more}
use Rattle.mc_hop.specs.declared.hash.Fnv.{Fnv}
use Rattle.mc_shelf.specs.Stores.{StoreState}
use Rattle.mc_shared.specs.Shown.{CallerState}
use Rattle.mc_shared.specs.History.{Name, start_of}
use Rattle.mc_shared.specs.Past.{Past, spent, start, call, made, both, callers, makes, times, same, name_of}
use Rattle.mc_shared.specs.Steps.{Agrees, next_name}
use Rattle.mc_laws.specs.Laws.{PastIsWithin}
use Rattle.mc_guests.specs.declared.guests.WorkEnd.{WorkEnd}
use Rattle.mc_host.specs.Clocks.{moments}
use Rattle.mc_workers.specs.Tending.{CallsOnce, Further}
use Rattle.mc_workers.specs.Rounds.{WorksToEnd}
use Rattle.mc_run.specs.Runs.{hash_of}
use Rattle.mc_run.specs.Clients.{ClientState, caller_of, maker, newcomer, joined}
use Rattle.mc_run.specs.Meetings.{Each, Meet, HasWorked, IsJoined, AllBut, SameStore, WorkerThread, plans_of, names_of, IsMember, StartsOne, IsCrew, IsOwed, JoinsThese}
use Rattle.mc_run.specs.declared.plan.WorkerPlan.{WorkerPlan}
use Rattle.mc_run.specs.declared.crew.Crew.{Crew}
use Rattle.mc_run.specs.declared.crew.WorkerPromise.{WorkerPromise}

-- a past is within itself
within_itself : (p : Past) → PastIsWithin p p
within_itself spent = refl
within_itself (start c seen) = inl refl
within_itself (call p e) = inl refl
within_itself (made p d) = inl refl
within_itself (both p q) = inl refl

-- further calls hold no other callers, and make none
module _ (may_give : ℕ → Type 0) where
  calls_callers : (count : ℕ) {p q : Past} → Repeats (CallsOnce may_give) count p q → callers q ≡ callers p
  calls_callers count none_yet = refl
  calls_callers count (one_more {count = before} front one) = ap callers one.past ∙ calls_callers before front

  calls_makes : (count : ℕ) {p q : Past} → Repeats (CallsOnce may_give) count p q → makes q ≡ makes p
  calls_makes count none_yet = refl
  calls_makes count (one_more {count = before} front one) = ap makes one.past ∙ calls_makes before front

  further_callers : {p q : Past} → Further may_give p q → callers q ≡ callers p
  further_callers further = calls_callers further.0 further.1

  further_makes : {p q : Past} → Further may_give p q → makes q ≡ makes p
  further_makes further = calls_makes further.0 further.1

-- what an outcome that came tells
pub if_ok : {T E : Type 0} (P : T → Type 0) (r : Result T E) (x : T) → r ≡ Ok x → IfOk r P → P x
if_ok {T} {E} P r x is told = subst (λ (q : Result T E). IfOk q P) is told

-- what holds holds for each outcome
pub on_any : {T E : Type 0} (P : Type 0) (r : Result T E) → P → OnOk r P
on_any P (Ok x) held = held
on_any P (Err e) held = tt

-- a worker worked by its plan
pub has_worked : (may_give : ℕ → Type 0) (plan : WorkerPlan) (was began : StoreState Fnv) (old caller : CallerState) (back : CallerState × WorkEnd) → was ≡ began → old ≡ caller → back.0.table ≡ old.table
    → Further (moments plan.now may_give) old.past back.0.past → WorksToEnd hash_of (moments plan.now may_give) plan.first plan.held was old back → HasWorked may_give plan began caller back
has_worked may_give plan was began old caller back is_began is_caller table further works = subst (λ (b : StoreState Fnv). HasWorked may_give plan b caller back) is_began
    (subst (λ (c : CallerState). HasWorked may_give plan was c back) is_caller (record { table = table; further = further; works = works }))

-- names in two lists
times_both : (d : Name) (ns ms : List Name) → times d (ns ++ ms) ≡ times d ns + times d ms
times_both d [] ms = omega arith
times_both d (n ∷ ns) ms = let rest = times_both d ns ms in omega (arith, rest)

either_sum : (s t c k : ℕ) → 1 ≤ s + t → (1 ≤ t → 1 ≤ c + k) → 1 ≤ c + (k + s)
either_sum s zero c k some then = omega (arith, some)
either_sum s (suc t) c k some then = let h = then (omega arith) in omega (arith, h)

-- one more caller is made, and is still to be joined
made_owed : (front names : List Name) (p : Past) (n : Name) → AllBut (front ++ names) p → AllBut ((front ++ n ∷ []) ++ names) (made p n)
made_owed front names p n owed = record {
  first = owed.first;
  others = λ d some.
      let before = times_both d front names in
      let after = times_both d (front ++ n ∷ []) names in
      let inner = times_both d front (n ∷ []) in
      let sum = either_sum (same d n) (times d (makes p)) (times d (callers p)) (times d (front ++ names)) some (owed.others d) in
      omega (arith, before, after, inner, sum);
}

-- it is joined, after further calls
joined_owed : (may_give : ℕ → Type 0) (names : List Name) (p q : Past) (n : Name) (seen : Past) → AllBut (n ∷ names) p → Further may_give (start n seen) q → AllBut names (both p q)
joined_owed may_give names p q n seen owed further =
    let cs : (d : Name) → times d (callers (both p q)) ≡ times d (callers p) + (same d n + 0) = λ d. times_both d (callers p) (callers q) ∙ ap (λ (l : List Name). times d (callers p) + times d l) (further_callers may_give further) in
    let ms : (d : Name) → times d (makes (both p q)) ≡ times d (makes p) + 0 = λ d. times_both d (makes p) (makes q) ∙ ap (λ (l : List Name). times d (makes p) + times d l) (further_makes may_give further) in record {
      first = let h = owed.first in let c = cs [] in omega (arith, h, c);
      others = λ d some. let m = ms d in let h = owed.others d (omega (arith, some, m)) in let c = cs d in omega (arith, h, c);
    }

-- properties of one more element
each_snoc : {X : Type 0} (P : X → Type 0) (xs : List X) (x : X) → Each P xs → P x → Each P (xs ++ x ∷ [])
each_snoc P [] x each one = (one, tt)
each_snoc P (y ∷ xs) x each one = (each.0, each_snoc P xs x each.1 one)

-- one that was joined stays within a past that another is joined into
module _ (may_give : ℕ → Type 0) (began : StoreState Fnv) (p q : Past) where
  stay : (plans : List WorkerPlan) → Each (IsJoined may_give began p) plans → Each (IsJoined may_give began (both p q)) plans
  stay [] each = tt
  stay (plan ∷ plans) each = let j = each.0 in (record { caller = j.caller; back = j.back; worked = j.worked; within = inr (inl j.within) }, stay plans each.1)

module _ {S : Type 0} where
  plans_snoc : (threads : List (WorkerThread S)) (t : WorkerThread S) → plans_of (threads ++ t ∷ []) ≡ plans_of threads ++ t.promise.plan.value ∷ []
  plans_snoc [] t = refl
  plans_snoc (u ∷ threads) t = ap (λ (l : List WorkerPlan). u.promise.plan.value ∷ l) (plans_snoc threads t)

  names_snoc : (threads : List (WorkerThread S)) (t : WorkerThread S) → names_of (threads ++ t ∷ []) ≡ names_of threads ++ name_of t.promise.caller.value.past ∷ []
  names_snoc [] t = refl
  names_snoc (u ∷ threads) t = ap (λ (l : List Name). name_of u.promise.caller.value.past ∷ l) (names_snoc threads t)

  module _ (system : S) (plans rest : List WorkerPlan) (plan : WorkerPlan) (client : ClientState) (old new : Crew S) (starts : StartsOne system plan old new) where
    -- a thread was started for the next plan
    pub crew_grows : IsCrew system plans (plan ∷ rest) client old → IsCrew system plans rest client new
    crew_grows crew =
        let t = starts.thread in
        let same_began : new.client.began ≡ client.began = ap (λ (c : ClientState). c.began) starts.client ∙ crew.store.began in
        let same_table : new.client.table ≡ client.table = ap (λ (c : ClientState). c.table) starts.client ∙ crew.store.table in
        let member : IsMember system client t = record {
          clock = starts.clock;
          began = starts.began ∙ crew.store.began;
          table = ap (λ (c : CallerState). c.table) starts.caller ∙ crew.store.table;
          name = next_name old.client.past;
          seen = old.client.past;
          past = ap (λ (c : CallerState). c.past) starts.caller;
        } in record {
          store = record { began = same_began; table = same_table };
          agrees = starts.agrees;
          each = subst (λ (l : List (WorkerThread S)). Each (IsMember system client) l) (sym starts.workers) (each_snoc (IsMember system client) old.workers.items t crew.each member);
          plans_are = ap (λ (l : List (WorkerThread S)). plans_of l ++ rest) starts.workers
              ∙ (ap (λ (l : List WorkerPlan). l ++ rest) (plans_snoc old.workers.items t)
              ∙ (append_assoc (plans_of old.workers.items) (t.promise.plan.value ∷ []) rest
              ∙ (ap (λ (p : WorkerPlan). plans_of old.workers.items ++ p ∷ rest) starts.plan_is ∙ crew.plans_are)));
        }

    -- and its caller is still to be joined
    pub owed_grows : IsOwed client old → IsOwed client new
    owed_grows owed names all =
        let t = starts.thread in
        let named : name_of t.promise.caller.value.past ≡ next_name old.client.past = ap (λ (c : CallerState). name_of c.past) starts.caller in
        let is : names_of new.workers.items ++ names ≡ (names_of old.workers.items ++ next_name old.client.past ∷ []) ++ names =
        ap (λ (l : List Name). l ++ names) (ap names_of starts.workers ∙ (names_snoc old.workers.items t ∙ ap (λ (n : Name). names_of old.workers.items ++ n ∷ []) named)) in
        subst (λ (c : ClientState). AllBut (names_of new.workers.items ++ names) c.past) (sym starts.client)
        (subst (λ (l : List Name). AllBut l (made old.client.past (next_name old.client.past))) (sym is) (made_owed (names_of old.workers.items) names old.client.past (next_name old.client.past) (owed names all)))

  -- no thread was joined yet
  pub joins_none : (may_give : ℕ → Type 0) (first : ClientState) → Agrees (start_of hash_of first.began) first.past → JoinsThese {S = S} may_give [] first first
  joins_none may_give first agrees = record { store = record { began = refl; table = refl }; agrees = agrees; each = tt; owed = λ names all. all }

  -- one more was
  pub joins_more : (may_give : ℕ → Type 0) (done : List (WorkerThread S)) (t : WorkerThread S) (first old new : ClientState) (back : CallerState × WorkEnd) (name : Name) (seen : Past)
      → JoinsThese may_give done first old → t.promise.caller.value.past ≡ start name seen → HasWorked may_give t.promise.plan.value first.began t.promise.caller.value back
      → new ≡ joined old back.0 → Agrees (start_of hash_of new.began) new.past → JoinsThese may_give (done ++ t ∷ []) first new
  joins_more may_give done t first old new back name seen joins began worked is agrees =
      let q = back.0.past in
      let caller = t.promise.caller.value in
      let here : IsJoined may_give first.began (both old.past q) t.promise.plan.value = record { caller = caller; back = back; worked = worked; within = inr (inr (within_itself q)) } in
      let gives = moments t.promise.plan.value.now may_give in
      let further : Further gives (start name seen) q = subst (λ (p : Past). Further gives p q) began worked.further in record {
        store = record { began = ap (λ (c : ClientState). c.began) is ∙ joins.store.began; table = ap (λ (c : ClientState). c.table) is ∙ joins.store.table };
        agrees = agrees;
        each = subst (λ (c : ClientState). Each (IsJoined may_give first.began c.past) (plans_of (done ++ t ∷ []))) (sym is)
            (subst (λ (l : List WorkerPlan). Each (IsJoined may_give first.began (both old.past q)) l) (sym (plans_snoc done t))
            (each_snoc (IsJoined may_give first.began (both old.past q)) (plans_of done) t.promise.plan.value (stay may_give first.began old.past q (plans_of done) joins.each) here));
        owed = λ names all.
            let named : name_of caller.past ≡ name = ap name_of began in
            let split : names_of (done ++ t ∷ []) ++ names ≡ names_of done ++ name ∷ names =
            ap (λ (l : List Name). l ++ names) (names_snoc done t) ∙ (append_assoc (names_of done) (name_of caller.past ∷ []) names ∙ ap (λ (n : Name). names_of done ++ n ∷ names) named) in
            let before = joins.owed (name ∷ names) (subst (λ (l : List Name). AllBut l first.past) split all) in
            subst (λ (c : ClientState). AllBut names c.past) (sym is) (joined_owed gives names old.past q name seen before further);
      }

  -- a thread was started for a plan, and is in the crew unless memory was refused
  pub starts_one : {E : Type 0} (r : Result (Unit {0}) E) (system : S) (plan : WorkerPlan) (old new : Crew S) (t : WorkerThread S) (promise : WorkerPromise S) (client : ClientState) (caller : CallerState)
      → client ≡ maker old.client → caller ≡ newcomer old.client → Agrees (start_of hash_of client.began) client.past → new.client ≡ client → OnOk r (new.workers.items ≡ old.workers.items ++ t ∷ [])
      → t.promise ≡ promise → promise.plan.value ≡ plan → promise.shared.value.began ≡ client.began → promise.caller.value ≡ caller → promise.system.value ≡ system → OnOk r (StartsOne system plan old new)
  starts_one (Err e) system plan old new t promise client caller makes is agrees same added kept plan_is began caller_is clock = tt
  starts_one (Ok x) system plan old new t promise client caller makes is agrees same added kept plan_is began caller_is clock = record {
    thread = t;
    client = same ∙ makes;
    agrees = subst (λ (c : ClientState). Agrees (start_of hash_of c.began) c.past) (sym same) agrees;
    workers = added;
    plan_is = ap (λ (p : WorkerPromise S). p.plan.value) kept ∙ plan_is;
    clock = ap (λ (p : WorkerPromise S). p.system.value) kept ∙ clock;
    began = ap (λ (p : WorkerPromise S). p.shared.value.began) kept ∙ (began ∙ ap (λ (c : ClientState). c.began) makes);
    caller = ap (λ (p : WorkerPromise S). p.caller.value) kept ∙ (caller_is ∙ is);
  }

  -- some of a crew's threads were joined, and these are left
  abbrev pub IsJoining : (may_give : ℕ → Type 0) (system : S) (all rest : List (WorkerThread S)) (first now : ClientState) → Type 0
  IsJoining may_give system all rest first now =
      (done : List (WorkerThread S)) × (done ++ rest ≡ all) × JoinsThese may_give done first now
      × ((client : ClientState) × SameStore client first × Each (IsMember system client) rest)

  -- none was yet
  pub joining_begins : (may_give : ℕ → Type 0) (system : S) (plans rest : List WorkerPlan) (client : ClientState) (crew : Crew S) (left : List (WorkerThread S)) → left ≡ crew.workers.items
      → IsCrew system plans rest client crew → IsJoining may_give system crew.workers.items left crew.client crew.client
  joining_begins may_give system plans rest client crew left is stands = (
    [],
    is,
    joins_none may_give crew.client stands.agrees,
    (client, stands.store, subst (λ (l : List (WorkerThread S)). Each (IsMember system client) l) (sym is) stands.each),
  )

  -- the next one ended as it had promised
  module _ (may_give : S → ℕ → Type 0) (system : S) (all left rest : List (WorkerThread S)) (t : WorkerThread S) (first old : ClientState) (back : CallerState × WorkEnd) (next : left ≡ t ∷ rest)
      (joining : IsJoining (may_give system) system all left first old)
      (kept : HasWorked (may_give t.promise.system.value) t.promise.plan.value t.promise.shared.value.began t.promise.caller.value back) where
    members : (client : ClientState) × SameStore client first × Each (IsMember system client) (t ∷ rest)
    members = subst (λ (l : List (WorkerThread S)). (client : ClientState) × SameStore client first × Each (IsMember system client) l) next joining.3

    -- and was joined
    pub joining_goes_on : (new : ClientState) → new ≡ joined old back.0 → Agrees (start_of hash_of new.began) new.past → IsJoining (may_give system) system all rest first new
    joining_goes_on new is agrees =
        let (client, same, each) = members in
        let member = each.0 in
        let done = joining.0 in
        let plan = t.promise.plan.value in
        let caller = t.promise.caller.value in
        let worked : HasWorked (may_give system) plan first.began caller back =
        subst (λ (b : StoreState Fnv). HasWorked (may_give system) plan b caller back) (member.began ∙ sym same.began)
        (subst (λ (s : S). HasWorked (may_give s) plan t.promise.shared.value.began caller back) member.clock kept) in (
          done ++ t ∷ [],
          append_assoc done (t ∷ []) rest ∙ (ap (λ (l : List (WorkerThread S)). done ++ l) (sym next) ∙ joining.1),
          joins_more (may_give system) done t first old new back member.name member.seen joining.2 member.past worked is agrees,
          (client, same, each.1),
        )

  -- What joining the threads of a crew leaves, whose client made two callers before it. They are joined at the end.
  module _ (may_give : ℕ → Type 0) (system : S) (plans rest : List WorkerPlan) (first : ClientState) (crew : Crew S) (left : ClientState)
      (stands : IsCrew system plans rest (maker (maker first)) crew) (joins : JoinsThese may_give crew.workers.items crew.client left) where
    front_joined : Each (IsJoined may_give first.began left.past) (plans_of crew.workers.items)
    front_joined = subst (λ (b : StoreState Fnv). Each (IsJoined may_give b left.past) (plans_of crew.workers.items)) stands.store.began joins.each

    began_stays : left.began ≡ first.began
    began_stays = joins.store.began ∙ stands.store.began

    table_stays : left.table ≡ first.table
    table_stays = joins.store.table ∙ stands.store.table

    pub meet_all : {E : Type 0} → rest ≡ [] → IsOwed (maker (maker first)) crew → (last : ClientState) → last ≡ joined (joined left (newcomer (maker first))) (newcomer first) → Agrees (start_of hash_of last.began) last.past
        → Meet {E = E} may_give plans first.began (caller_of first) (caller_of last, Ok tt)
    meet_all none owed last is agrees =
        let stats = (newcomer first).past in
        let logger = (newcomer (maker first)).past in
        let fronts = plans_of crew.workers.items in
        let each : Each (IsJoined may_give first.began (both (both left.past logger) stats)) fronts =
        stay may_give first.began (both left.past logger) stats fronts (stay may_give first.began left.past logger fronts front_joined) in
        let same : last.began ≡ first.began = ap (λ (c : ClientState). c.began) is ∙ began_stays in record {
          table = ap (λ (c : ClientState). c.table) is ∙ table_stays;
          agrees = subst (λ (b : StoreState Fnv). Agrees (start_of hash_of b) last.past) same agrees;
          front = fronts;
          rest = rest;
          plans_are = stands.plans_are;
          each = subst (λ (c : ClientState). Each (IsJoined may_give first.began c.past) fronts) (sym is) each;
          all = (
            none,
            λ names all.
                let one = made_owed [] names first.past (next_name first.past) all in
                let two = made_owed [] (next_name first.past ∷ names) (maker first).past (next_name (maker first).past) one in
                let had = joins.owed (next_name (maker first).past ∷ next_name first.past ∷ names) (owed (next_name (maker first).past ∷ next_name first.past ∷ names) two) in
                let met = joined_owed may_give (next_name first.past ∷ names) left.past logger (next_name (maker first).past) (maker first).past had (0, none_yet) in
                let both_met = joined_owed may_give names (both left.past logger) stats (next_name first.past) first.past met (0, none_yet) in
                subst (λ (c : ClientState). AllBut names c.past) (sym is) both_met,
          );
        }

  -- The same, if all threads were started, by what tells which callers came back.
  pub all_meet : {L E F : Type 0} (may_give : ℕ → Type 0) (system : S) (plans : List WorkerPlan) (first second left last : ClientState) (crew : Crew S) (started : Result L F) (thread : L) (logger stats out : CallerState)
      → second ≡ maker first → started ≡ Ok thread → OnOk started (IsCrew system plans [] (maker second) crew × IsOwed (maker second) crew) → JoinsThese may_give crew.workers.items crew.client left
      → logger ≡ newcomer second → stats ≡ newcomer first → last ≡ joined (joined left logger) stats → Agrees (start_of hash_of last.began) last.past → out ≡ caller_of last
      → Meet {E = E} may_give plans first.began (caller_of first) (out, Ok tt)
  all_meet {L} {E} may_give system plans first second left last crew started thread logger stats out makes is told joins logger_is stats_is met agrees out_is =
      let Told : ClientState → Type 0 = λ c. IsCrew system plans [] (maker c) crew × IsOwed (maker c) crew in
      let (stands, owed) = subst Told makes (if_ok (λ t. Told second) started thread is told) in
      let same : last ≡ joined (joined left (newcomer (maker first))) (newcomer first) = met
      ∙ (ap (λ (l : CallerState). joined (joined left l) stats) (logger_is ∙ ap newcomer makes) ∙ ap (λ (s : CallerState). joined (joined left (newcomer (maker first))) s) stats_is) in
      subst (λ (o : CallerState). Meet {E = E} may_give plans first.began (caller_of first) (o, Ok tt)) (sym out_is)
      (meet_all may_give system plans [] first crew left stands joins refl owed last same agrees)
