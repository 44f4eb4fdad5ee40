use Rattle.mc_shelf.proofs.Common.{◌∙◌, ◌≡◌, Action, ap, arith, block_beside, block_need, block_of, Body, charge, ChunksState, counts, Entry, EntryState, get, Given, GoesOver, hashes_of}
use Rattle.mc_shelf.proofs.Common.{IndexState, insert, is_some, IsHash, IsPut, item_of, ItemIsChanged, Items, items_of, key_of, KeyStep, length, List, need_for, None, none-some, Option}
use Rattle.mc_shelf.proofs.Common.{ShelfContent, ShelfState, Some, subst, sym, true, true≢false, with_item, written_next, ℕ}
use Rattle.mc_hop.proofs.ContentLemmas.{insert_again}
use Rattle.mc_shelf.specs.Plans.{CanWriteNext, IsGiven, waiting}
use Rattle.mc_shelf.proofs.ShelfLemmas.{changed_put, content_of, moved_is}
use Rattle.mc_shelf.proofs.shelf.Shelf.begin_block.Goals as goal

-- a block that is given stands beside no other
own_block : {body : Body} (step : KeyStep) (shelf : ShelfContent) → body ≡ Given → block_of step ≡ block_beside shelf step body
own_block step shelf given = ap (λ (b : Body). block_beside shelf step b) (sym given)

-- an item that was put over one that came into chunks that waited
put_again : (old mid : ShelfContent) (key : List ℕ) (own : ℕ) (chunks : Option ChunksState) (first item : Entry) → is_some chunks ≡ true
    → ((some : ChunksState) → mid ≡ with_item (Some some) key own first old) → with_item None key own item mid ≡ with_item chunks key own item old
put_again old mid key own None first item waits is = absurd (true≢false (sym waits))
put_again old mid key own (Some some) first item waits is =
    ap (with_item None key own item) (is some)
    ∙ ap (λ (m : Items). record { greatest = old.greatest; items = m; hashes = insert old.hashes key own; cut = old.cut }) (insert_again old.items key first item)

-- the item whose block is still to be written was put
first_put : (greatest : ℕ) (cut : Option ℕ) (old : ShelfContent) (was new : IndexState EntryState) → content_of greatest cut was ≡ old → {key : List ℕ} {own : ℕ} (entry : EntryState)
    → entry.key ≡ key → IsHash old key own → ItemIsChanged was new entry.key entry.item → IsPut key own old (content_of greatest cut new) entry.item
first_put greatest cut old was new is {key} {own} entry same hash changed =
    changed_put greatest cut old was is key own new entry.item hash (subst (λ (k : List ℕ). ItemIsChanged was new k entry.item) same changed)

pub returns-clause-content : goal.returns-clause-content
returns-clause-content c =
    let inside = c.self.inside in
    let plan = c.args.plan.now in
    let left = c.in-Left in
    let step = c.args.step.now in
    let old = c.args.self.now.content in
    let key = key_of step in
    let mid = content_of inside.greatest inside.cut c.replace-old.new.self in
    let here = c.in-Some.ensures in
    let can = subst (λ (n : Action). CanWriteNext plan n step c.args.self.now) left.is c.requires.can in
    let given : left.body ≡ Given = subst IsGiven left.is c.requires.own in
    let first = c.begin-entry.result in
    let named : first.key ≡ key = ap (λ (e : EntryState). e.key) c.begin-entry.ensures.value ∙ c.bare_parts-parts.ensures.key ∙ c.key-key.ensures in
    let stood : get old.hashes key ≡ Some here.entry.hash =
    sym (ap (λ (s : ShelfState). get s.content.hashes key) c.self.view_is) ∙ ap (λ (k : List ℕ). get (hashes_of inside.index) k) (sym c.key-key.ensures) ∙ here.hash in
    put_again old mid key plan.hash left.chunks first.item (item_of left.flags left.expiry (block_beside mid step left.body) left.unique plan.moment)
    (subst (λ (n : Action). is_some (waiting n) ≡ true) left.is c.requires.waits)
    (λ some. moved_is inside.greatest inside.cut old inside.index (ap (λ (s : ShelfState). s.content) c.self.view_is) key plan.hash c.replace-old.new.self some first.item
    (stood ∙ ap Some (can.can.sought.hash here.entry.hash stood)) (subst (λ (k : List ℕ). ItemIsChanged inside.index c.replace-old.new.self k first.item) named c.replace-old.ensures.changed))
    ∙ ap (λ (l : List ℕ). with_item left.chunks key plan.hash (item_of left.flags left.expiry l left.unique plan.moment) old) (sym (own_block step mid given) ∙ own_block step old given)
    ∙ ap (λ (n : Action). written_next plan n step old) (sym left.is)

pub returns-clause-left : goal.returns-clause-left
returns-clause-left c =
    let inside = c.self.inside in
    let step = c.args.step.now in
    let key = key_of step in
    let can = subst (λ (n : Action). CanWriteNext c.args.plan.now n step c.args.self.now) c.in-Left.is c.requires.can in
    let given : c.in-Left.body ≡ Given = subst IsGiven c.in-Left.is c.requires.own in
    let item = c.begin-entry.result.item in
    let put = first_put inside.greatest inside.cut c.args.self.now.content inside.index c.replace-old.new.self (ap (λ (s : ShelfState). s.content) c.self.view_is) c.begin-entry.result
    (ap (λ (e : EntryState). e.key) c.begin-entry.ensures.value ∙ c.bare_parts-parts.ensures.key ∙ c.key-key.ensures) can.can.sought.hash c.replace-old.ensures.changed in
    let block : length item.block ≡ length (block_of step) = c.begin-entry.ensures.length ∙ ap (length {A = ℕ}) (c.as_slice.ensures ∙ c.block_bytes-block.ensures) in
    let same : charge key item.block ≡ charge key (block_of step) = omega arith in
    let stood : get c.args.self.now.content.items key ≡ Some c.in-Some.ensures.entry.item =
    sym (ap (λ (s : ShelfState). get s.content.items key) c.self.view_is) ∙ ap (λ (k : List ℕ). get (items_of inside.index) k) (sym c.key-key.ensures) ∙ c.in-Some.ensures.item in
    record {
      can = record {
        short = can.can.short;
        sought = record { hash = put.hash; none = λ none. absurd (none-some _ (sym (can.can.sought.none none) ∙ stood)) };
        ready = (
          subst GoesOver (sym given) tt,
          record {
            item = item;
            there = put.item;
            need = ap need_for same ∙ ap (block_need key) (own_block step (content_of inside.greatest inside.cut c.replace-old.new.self) given);
          },
        );
      };
      own = λ _. ap counts given;
    }
