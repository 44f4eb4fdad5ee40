-- What a screen makes of the reads of the link below.
use Rattle.std.proofs.Common.{◌≡◌, ◌<◌, ◌≤◌, ◌+◌, ◌-◌, ℕ, Bool, true, false, List, [], ◌++◌, length, take, Option, Some, None, Result, Ok, Err, refl, sym, ap, ◌∙◌, subst, arith, append_assoc, append-nil}
use Rattle.std.proofs.lemmas.List.{length-append, length-take-le, take-take}
use Rattle.std.proofs.Math.Seq.{take-append-add}
use Rattle.mc_links.specs.Links.{LinkState, Gives, IsWrite, asked, ended, failed, grown}
use Rattle.mc_links.specs.declared.link.Got.{Got}
use Rattle.mc_links.specs.declared.link.Got.TheVariants.{Bytes}
use Rattle.mc_links.specs.declared.link.LinkFault.{LinkFault}
use Rattle.mc_links.specs.declared.link.Took.{Took}
use Rattle.mc_links.specs.declared.link.Took.TheVariants.{Bytes as TookBytes, Later as TookNone}
use Rattle.mc_sockets.specs.Openings.{Judges, ShowsAt, other_protocol, shown_behind}
use Rattle.mc_sockets.specs.Screens.{EndsAt, HandsOn, IsHanded, IsRecognized, JudgesOn, Stands, StandsFor, handed_on, is_other, screened}
use Rattle.mc_sockets.specs.declared.opening.PieceOpening.{PieceOpening}
use Rattle.mc_sockets.specs.declared.opening.PieceOpening.TheVariants as verdict
use Rattle.mc_sockets.specs.declared.opening.Opening.{Opening}
use Rattle.mc_sockets.specs.declared.opening.Opening.TheVariants as opening
use Rattle.mc_sockets.specs.declared.opening.Part.{Part}
use Rattle.mc_sockets.specs.declared.opening.Protocol.{Protocol}
use Rattle.mc_sockets.specs.declared.opening.Protocol.TheVariants.{Binary, Http}
use Rattle.mc_sockets.specs.declared.screen.Reads.{Reads}

the_sum : (all k n c : ℕ) → all ≡ k + n → c ≤ n → all - (n - c) ≡ k + c
the_sum all k n c long less = omega (arith, long, less)

one_before : (k c : ℕ) → 0 < c → k + c - 1 ≡ k + (c - 1)
one_before k c some = omega (arith, some)

grown_nothing : (known : Option (List ℕ)) → grown known [] ≡ known
grown_nothing None = refl
grown_nothing (Some bytes) = ap (λ (l : List ℕ). Some l) (append-nil bytes)

true_not_false : true ≡ false → ⊥
true_not_false e = cc

-- all but the last that are withheld of what is known and a piece behind it
withheld_front : (known piece : List ℕ) (c n : ℕ) → c ≤ n → n ≤ length piece
    → take (length (known ++ take n piece) - (n - c)) (known ++ take n piece) ≡ known ++ take c piece
withheld_front known piece c n less within =
    let long : length (known ++ take n piece) ≡ length known + n = length-append known (take n piece) ∙ ap (λ k. length known + k) (length-take-le n piece within) in
    ap (λ k. take k (known ++ take n piece)) (the_sum _ (length known) n c long less)
    ∙ take-append-add known (take n piece) c ∙ ap (λ l. known ++ l) (take-take c n piece less)

handed_front : (protocol : Protocol) (given : Option (List ℕ)) (piece : List ℕ) (c n : ℕ) → c ≤ n → n ≤ length piece
    → handed_on (opening.Other protocol) (n - c) (grown given (take n piece)) ≡ grown given (take c piece)
handed_front protocol None piece c n less within = refl
handed_front protocol (Some known) piece c n less within = ap Some (withheld_front known piece c n less within)

-- without another protocol all is handed on
unhanded : (known : Opening) (withheld : ℕ) (given : Option (List ℕ)) → is_other known ≡ false → handed_on known withheld given ≡ given
unhanded (opening.Open part) withheld given none = refl
unhanded opening.Settled withheld given none = refl
unhanded (opening.Other protocol) withheld given none = cc

shown_within : (before : Opening) (bytes : List ℕ) (protocol : Protocol) (count : ℕ) → JudgesOn before bytes (verdict.Other protocol count) → count ≤ length bytes
shown_within (opening.Open part) bytes protocol count judges = judges.within
shown_within opening.Settled bytes protocol count judges = cc
shown_within (opening.Other known) bytes protocol count judges = absurd judges

-- a link that gave, took or failed so, as it is behind its screen
module _ (before : Opening) (old : Reads) (link mid : LinkState) (piece : List ℕ) (requested : ℕ) where
  abbrev read : Reads
  read = record old { was_read = true; requested = requested }

  pub reads_none : mid ≡ asked true mid.requested link → screened before read mid ≡ asked true requested (screened before old link)
  reads_none below = ap (screened before read) below

  pub reads_end : mid ≡ ended (asked true mid.requested link) → screened before (record read { is_ended = true }) mid ≡ ended (asked true requested (screened before old link))
  reads_end below = ap (screened before (record read { is_ended = true })) below

  pub reads_fault : mid ≡ failed (asked true mid.requested link) → screened before read mid ≡ failed (asked true requested (screened before old link))
  reads_fault below = ap (screened before read) below

  pub writes : (result : Result Took LinkFault) (bytes : List ℕ) → IsWrite link bytes result mid
      → IsWrite (screened before old link) bytes result (screened before (record old { was_read = false; requested = requested }) mid)
  writes (Ok (TookBytes n)) bytes below = (below.0, ap (screened before (record old { was_read = false; requested = requested })) below.1)
  writes (Ok TookNone) bytes below = ap (screened before (record old { was_read = false; requested = requested })) below
  writes (Err fault) bytes below = ap (screened before (record old { was_read = false; requested = requested })) below

-- a piece is handed on
module _ (before after : Opening) (old read new : Reads) (link mid : LinkState) (piece : List ℕ) (count : ℕ) (got : Got)
    (none : is_other before ≡ false) (ended_before : read.is_ended ≡ old.is_ended) (was_read : read.was_read ≡ true)
    (below : Gives link piece (Ok (Bytes count)) mid) where
  abbrev shape : Option (List ℕ) → Bool → Bool → LinkState
  shape given is_ended reads = record link { given = given; is_ended = is_ended; was_read = reads; requested = new.requested }

  shaped : (given : Option (List ℕ)) (is_ended : Bool) → handed_on after new.withheld (grown link.given (take count piece)) ≡ given → new.is_ended ≡ is_ended
      → new.was_read ≡ true → screened after new mid ≡ shape given is_ended true
  shaped given is_ended gives ends reads =
      ap (screened after new) below.1 ∙ ap (λ g. shape g new.is_ended new.was_read) gives ∙ ap (λ e. shape given e new.was_read) ends ∙ ap (shape given is_ended) reads

  front : (c : ℕ) → grown link.given (take c piece) ≡ grown (handed_on before old.withheld link.given) (take c piece)
  front c = ap (λ g. grown g (take c piece)) (sym (unhanded before old.withheld link.given none))

  fits : (protocol : Protocol) (c : ℕ) → JudgesOn before (take count piece) (verdict.Other protocol c) → c ≤ count
  fits protocol c judges = subst (λ k. c ≤ k) (length-take-le count piece below.0) (shown_within before (take count piece) protocol c judges)

  shorter : (c : ℕ) → c ≤ count → c ≤ length piece
  shorter c less = omega (arith, less, below.0)

  whole : count - 0 ≡ count
  whole = omega arith

  all_on : (known : Opening) → is_other known ≡ false → (got ≡ Bytes count) × (after ≡ known) × (new ≡ read)
      → Gives (screened before old link) piece (Ok got) (screened after new mid)
  all_on known none_now handed = subst (λ g. Gives (screened before old link) piece (Ok g) (screened after new mid)) (sym handed.0) (
    below.0,
    shaped _ old.is_ended (ap (λ k. handed_on k new.withheld (grown link.given (take count piece))) handed.1 ∙ unhanded known new.withheld (grown link.given (take count piece)) none_now ∙ front count)
        (ap (λ (r : Reads). r.is_ended) handed.2 ∙ ended_before) (ap (λ (r : Reads). r.was_read) handed.2 ∙ was_read),
  )

  by_judged : (judged : PieceOpening) → JudgesOn before (take count piece) judged → IsHanded judged count got after read new
      → Gives (screened before old link) piece (Ok got) (screened after new mid)
  by_judged (verdict.Open part) judges handed = all_on (opening.Open part) refl handed
  by_judged verdict.Settled judges handed = all_on opening.Settled refl handed
  by_judged (verdict.Other Http c) judges handed =
      let less = fits Http c judges in
      subst (λ g. Gives (screened before old link) piece (Ok g) (screened after new mid)) (sym handed.0) (
        shorter c less,
        shaped _ old.is_ended (ap (λ k. handed_on k new.withheld (grown link.given (take count piece))) handed.1
            ∙ ap (λ (r : Reads). handed_on (opening.Other Http) r.withheld (grown link.given (take count piece))) handed.2
            ∙ handed_front Http link.given piece c count less below.0 ∙ front c)
            (ap (λ (r : Reads). r.is_ended) handed.2 ∙ ended_before) (ap (λ (r : Reads). r.was_read) handed.2 ∙ was_read),
      )
  by_judged (verdict.Other Binary c) judges handed =
      subst (λ g. Gives (screened before old link) piece (Ok g) (screened after new mid)) (sym handed.0)
      (shaped _ true (ap (λ k. handed_on k new.withheld (grown link.given (take count piece))) handed.1
      ∙ ap (λ (r : Reads). handed_on (opening.Other Binary) r.withheld (grown link.given (take count piece))) handed.2
      ∙ ap (λ w. handed_on (opening.Other Binary) w (grown link.given (take count piece))) (sym whole)
      ∙ handed_front Binary link.given piece 0 count (omega arith) below.0 ∙ grown_nothing link.given ∙ sym (unhanded before old.withheld link.given none))
      (ap (λ (r : Reads). r.is_ended) handed.2) (ap (λ (r : Reads). r.was_read) handed.2 ∙ was_read))

  pub hands_gives : HandsOn (take count piece) count got before after read new → Gives (screened before old link) piece (Ok got) (screened after new mid)
  hands_gives hands = by_judged hands.judged hands.judges hands.handed

  -- what is judged to be of no other protocol is what the link below gave
  same_by : (judged : PieceOpening) → IsHanded judged count got after read new → is_other after ≡ false → Gives link piece (Ok got) mid
  same_by (verdict.Open part) handed none_now = subst (λ g. Gives link piece (Ok g) mid) (sym handed.0) below
  same_by verdict.Settled handed none_now = subst (λ g. Gives link piece (Ok g) mid) (sym handed.0) below
  same_by (verdict.Other Http c) handed none_now = absurd (true_not_false (ap is_other (sym handed.1) ∙ none_now))
  same_by (verdict.Other Binary c) handed none_now = absurd (true_not_false (ap is_other (sym handed.1) ∙ none_now))

  pub hands_same : HandsOn (take count piece) count got before after read new → is_other after ≡ false → Gives link piece (Ok got) mid
  hands_same hands = same_by hands.judged hands.handed

-- what is known behind a piece stands for all bytes
module _ (after : Opening) (read new : Reads) (withheld : ℕ) (known piece : List ℕ) (count : ℕ) (got : Got) (within : count ≤ length piece) where
  abbrev all : List ℕ
  all = known ++ take count piece

  open_on : (part : Part) → ((text : List ℕ) → other_protocol (known ++ text) ≡ shown_behind part text)
      → (text : List ℕ) → other_protocol (all ++ text) ≡ shown_behind part (take count piece ++ text)
  open_on part stands text = ap other_protocol (append_assoc known (take count piece) text) ∙ stands (take count piece ++ text)

  length_all : length all ≡ length known + count
  length_all = length-append known (take count piece) ∙ ap (λ k. length known + k) (length-take-le count piece within)

  module _ (part : Part) (stands : (text : List ℕ) → other_protocol (known ++ text) ≡ shown_behind part text) (protocol : Protocol) (c : ℕ)
      (shows : ShowsAt part (take count piece) protocol c) where
    less : c ≤ count
    less = subst (λ k. c ≤ k) (length-take-le count piece within) shows.within

    fewer : (k : ℕ) → other_protocol (take (length known + k) all) ≡ shown_behind part (take k (take count piece))
    fewer k = ap other_protocol (take-append-add known (take count piece) k) ∙ stands (take k (take count piece))

    recognized : (held : ℕ) → EndsAt protocol (length known + c) (length all - held) → IsRecognized protocol held all
    recognized held ends = record {
      count = length known + c;
      within = omega (arith, length_all, less);
      shows = fewer c ∙ shows.shows;
      before = ap (λ k. other_protocol (take k all)) (one_before (length known) c shows.some) ∙ fewer (c - 1) ∙ shows.before;
      ends = ends;
    }

  by_part : (part : Part) → ((text : List ℕ) → other_protocol (known ++ text) ≡ shown_behind part text) → (judged : PieceOpening) → Judges part (take count piece) judged
      → IsHanded judged count got after read new → StandsFor after new.withheld all
  by_part part stands (verdict.Open mid) judges handed = subst (λ k. StandsFor k new.withheld all) (sym handed.1) (λ text. open_on part stands text ∙ judges text)
  by_part part stands verdict.Settled judges handed = subst (λ k. StandsFor k new.withheld all) (sym handed.1) (λ text. open_on part stands text ∙ judges text)
  by_part part stands (verdict.Other Http c) judges handed =
      subst (λ k. StandsFor k new.withheld all) (sym handed.1) (subst (λ (r : Reads). IsRecognized Http r.withheld all) (sym handed.2)
      (recognized part stands Http c judges (count - c) (the_sum _ (length known) count c length_all (less part stands Http c judges))))
  by_part part stands (verdict.Other Binary c) judges handed =
      subst (λ k. StandsFor k new.withheld all) (sym handed.1) (subst (λ (r : Reads). IsRecognized Binary r.withheld all) (sym handed.2)
      (recognized part stands Binary c judges count (omega (arith, length_all, judges.some))))

  by_before : (before : Opening) (judged : PieceOpening) → StandsFor before withheld known → JudgesOn before (take count piece) judged → IsHanded judged count got after read new
      → StandsFor after new.withheld all
  by_before (opening.Open part) judged stands judges handed = by_part part stands judged judges handed
  by_before opening.Settled verdict.Settled stands judges handed =
      subst (λ k. StandsFor k new.withheld all) (sym handed.1) (λ text. ap other_protocol (append_assoc known (take count piece) text) ∙ stands (take count piece ++ text))
  by_before opening.Settled (verdict.Open part) stands judges handed = cc
  by_before opening.Settled (verdict.Other protocol c) stands judges handed = cc
  by_before (opening.Other protocol) judged stands judges handed = absurd judges

stands_behind : (before after : Opening) (old read new : Reads) (given : Option (List ℕ)) (piece : List ℕ) (count : ℕ) (got : Got) → count ≤ length piece
    → HandsOn (take count piece) count got before after read new → Stands before old given → Stands after new (grown given (take count piece))
stands_behind before after old read new None piece count got within hands stands = tt
stands_behind before after old read new (Some known) piece count got within hands stands =
    by_before after read new old.withheld known piece count got within before hands.judged stands hands.judges hands.handed

pub hands_stands : (before after : Opening) (old read new : Reads) (link mid : LinkState) (piece : List ℕ) (count : ℕ) (got : Got)
    → Gives link piece (Ok (Bytes count)) mid → HandsOn (take count piece) count got before after read new → Stands before old link.given → Stands after new mid.given
hands_stands before after old read new link mid piece count got below hands stands =
    subst (λ g. Stands after new g) (sym (ap (λ (l : LinkState). l.given) below.1)) (stands_behind before after old read new link.given piece count got below.0 hands stands)
