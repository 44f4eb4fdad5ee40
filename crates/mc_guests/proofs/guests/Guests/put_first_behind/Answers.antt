use Rattle.std.proofs.Common.{◌≡◌, ◌∷◌, ◌++◌, [], ℕ, List, drop, sym, ap, ◌∙◌, subst, arith}
use Rattle.std.specs.Prelude.{slice_get, Some, if◌then◌else◌}
use Rattle.std.proofs.lemmas.Option.{slice_get_within}
use Rattle.mc_guests.specs.Books.{BooksState}
use Rattle.mc_guests.specs.Retries.{first_behind}
use Rattle.mc_guests.proofs.RetryLemmas.{room_behind}
use Rattle.mc_guests.proofs.guests.Guests.put_first_behind.Goals as goal

pub returns : goal.returns
returns g c =
    let queue = c.self.inside.queue in
    let first : slice_get queue.items 0 ≡ Some c.args.number = subst (λ (b : BooksState). slice_get b.queue 0 ≡ Some c.args.number) (sym c.self.view_is) c.requires in
    let within = slice_get_within queue.items 0 c.args.number first in
    let long = queue.ok.0 in
    let small = queue.small.1 in
    let kept = c.pop_front.ensures.capacity in
    let room = room_behind c.pop_front.result queue.len c.pop_front.new.self.len queue.cap c.pop_front.ensures.cases (omega (arith, within, long)) small in
    let done = c.push_back.ensures.succeeds (omega (arith, room, kept)) in
    let items : c.push_back.new.self.items ≡ drop 1 queue.items ++ c.args.number ∷ [] =
    c.push_back.ensures.items ∙ ap (λ b. if b then c.pop_front.new.self.items ++ c.args.number ∷ [] else c.pop_front.new.self.items) done
    ∙ ap (λ (l : List ℕ). l ++ c.args.number ∷ []) c.pop_front.ensures.rest in
    ap (λ (l : List ℕ). record {
      row = c.self.inside.row;
      awake = c.self.inside.awake;
      budget = c.self.inside.budget;
      queue = l;
      is_last = c.self.inside.is_last;
      has_strays = c.self.inside.has_strays;
      gone = c.self.inside.gone;
    }) items ∙ ap (first_behind c.args.number) c.self.view_is
