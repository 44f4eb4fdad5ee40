-- What a worker asks of its links between two rounds, and what becomes of its guests.
use Rattle.std.specs.Prelude.{◌≡◌, ◌⊎◌, ◌<◌, ◌+◌, ◌%◌, ◌^◌, ◌&&◌, ◌==◌, ℕ, Bool, true, false, length, Option, Some, None}
use Rattle.mc_guests.specs.Links.{LinkState}
use Rattle.mc_guests.specs.Guests.{welcomed}
use Rattle.mc_guests.specs.Books.{BooksState, Wakes, let_in, one_more, quiet}
use Rattle.mc_time.specs.Chains.{Repeats}
use Rattle.mc_guests.specs.declared.guests.WorkEnd.{WorkEnd}
use Rattle.mc_guests.specs.declared.link_calls.NextAnswer.{NextAnswer}
use Rattle.mc_guests.specs.declared.link_calls.NextAnswer.TheVariants.{Link, Later, Closed}
use Rattle.mc_guests.specs.declared.link_calls.LinkCalls.{LinkCalls}
use Rattle.mc_guests.specs.declared.admission.Admission.{Admission}
use Rattle.mc_links.specs.declared.links.Next.{Next}
use Rattle.mc_links.specs.declared.links.Next.TheVariants as next

-- what came next, without the link
abbrev pub came_of : {L : Type 0} → Next L → NextAnswer
came_of (next.Link link) = Link
came_of next.Later = Later
came_of next.Closed = Closed

-- nothing was asked yet
abbrev pub unasked : LinkCalls
unasked = record { came = None; names = 0; named = None; has_rested = false }

-- it was asked for the next link
abbrev pub came : NextAnswer → LinkCalls → LinkCalls
came what talk = record talk { came = Some what }

-- it was asked for a link that may give or take more: this one was named, or none any more
abbrev pub heard : Option ℕ → LinkCalls → LinkCalls
heard None talk = record talk { named = None }
heard (Some number) talk = record talk { names = talk.names + 1; named = Some number }

-- a link was named, and its guest woke if it slept
pub record WakesOneNamed (old new : LinkCalls × BooksState) : Type 0 where
  pub number : ℕ
  pub talk : new.0 ≡ heard (Some number) old.0
  pub wakes : Wakes number old.1 new.1

-- links were named one after another, and the guest of each woke if it slept
abbrev pub WakesNamed : (talk : LinkCalls) (old : BooksState) (later : LinkCalls) (new : BooksState) → Type 0
WakesNamed talk old later new = (count : ℕ) × Repeats WakesOneNamed count (talk, old) (later, new)

-- the most names between two rounds
abbrev pub most_names : ℕ
most_names = 1024

-- the same, until none was named any more, or as many as there may be were
pub record WakesAllNamed (talk : LinkCalls) (old : BooksState) (later : LinkCalls) (new : BooksState) : Type 0 where
  pub last : LinkCalls
  pub wakes : WakesNamed talk old last new
  pub over : (later ≡ heard None last) ⊎ ((last.names ≡ most_names) × (later ≡ last))

-- a link came: there is a guest more, who is awake, or the link is counted as refused, and let go
pub record LetsIn (greatest number : ℕ) (old new : BooksState) (before after : WorkEnd) : Type 0 where
  pub link : LinkState
  pub either : ((new ≡ let_in (welcomed greatest link) number old) × (after ≡ before))
      ⊎ ((new ≡ record old { gone = new.gone }) × (after ≡ record before { refused = one_more before.refused }))

-- those woke whose links were named after a rest; without a rest nothing changed
abbrev pub WakesAfter : (rests : Bool) (talk : LinkCalls) (old : BooksState) (later : LinkCalls) (new : BooksState) → Type 0
WakesAfter true talk old later new = WakesAllNamed talk old later new
WakesAfter false talk old later new = (later ≡ talk) × (new ≡ old)

-- Nothing came, and those woke whose links were named. It rests if no guest was awake and none was named, and then those
-- woke whose links were named after that.
pub record ComesNothing (is_quiet : Bool) (talk : LinkCalls) (old : BooksState) (later : LinkCalls) (new : BooksState) : Type 0 where
  pub last : LinkCalls
  pub between : BooksState
  pub wakes : WakesAllNamed talk old last between
  pub rests : WakesAfter (is_quiet && last.names == 0) (record last { has_rested = is_quiet && last.names == 0 }) between later new

-- a door at which no link was let in yet, for guests whose storage commands charge so much at most
abbrev pub shut : ℕ → Admission
shut greatest = record { greatest = greatest; opened = 0; talk = unasked }

-- links were asked for the next one: it said so, and nothing else was asked
abbrev pub asks_next : NextAnswer → Admission → Admission
asks_next what door = record door { talk = came what unasked }

-- one link more was handed out; the number behind the last that there is is 0
abbrev pub counted_in : Admission → Admission
counted_in door = record door { opened = (door.opened + 1) % 2 ^ 64 }

-- What an opening of the door does. More can come but where no link comes any more and there is no guest.
pub data Opens (is_quiet : Bool) : (door later : Admission) (old new : BooksState) (before after : WorkEnd) (goes_on : Bool) → Type 0 where
  link : {door : Admission} {talk : LinkCalls} {old between new : BooksState} {before after : WorkEnd}
      → LetsIn door.greatest door.opened old between before after
      → WakesAllNamed (came Link unasked) between talk new
      → Opens is_quiet door (record (counted_in door) { talk = talk }) old new before after true
  none_now : {door : Admission} {talk : LinkCalls} {old new : BooksState} {end : WorkEnd}
      → ComesNothing is_quiet (came Later unasked) old talk new
      → Opens is_quiet door (record door { talk = talk }) old new end end true
  none_more : {door : Admission} {talk : LinkCalls} {old new : BooksState} {end : WorkEnd}
      → (length old.row.guests ≡ 0 → ⊥) → ComesNothing is_quiet (came Closed unasked) old talk new
      → Opens is_quiet door (record door { talk = talk }) old new end end true
  over : {door : Admission} {books : BooksState} {end : WorkEnd} → length books.row.guests ≡ 0
      → Opens is_quiet door (asks_next Closed door) books books end end false

-- The door was opened, and a link came. Whether the guests were quiet was seen before it.
pub record LinkCame (old new : Admission × BooksState × WorkEnd) : Type 0 where
  pub opens : Opens (quiet old.1) old.0 new.0 old.1 new.1 old.2 new.2 true
  pub came : new.0.talk.came ≡ Some Link

-- the door was opened `count` times, and a link came each time
abbrev pub LinksCame : (count : ℕ) (door later : Admission) (old new : BooksState) (before after : WorkEnd) → Type 0
LinksCame count door later old new before after =
    Repeats LinkCame count (door, old, before) (later, new, after)

-- What the openings of the door between two rounds do: a link came at each, until 32 did, or until
-- one more opening at which none came. That one says whether more can come.
pub data OpensForAll : (door later : Admission) (old new : BooksState) (before after : WorkEnd) (goes_on : Bool) → Type 0 where
  as_many : {door later : Admission} {old new : BooksState} {before after : WorkEnd}
      → LinksCame 32 door later old new before after
      → OpensForAll door later old new before after true
  then_none : {count : ℕ} {door last later : Admission} {old between new : BooksState} {before mid after : WorkEnd} {goes_on : Bool}
      → count < 32 → LinksCame count door last old between before mid
      → Opens (quiet between) last later between new mid after goes_on → (later.talk.came ≡ Some Link → ⊥)
      → OpensForAll door later old new before after goes_on
