use Rattle.mc_grow.proofs.Words.{apart_parts, beside, cells_of}
use Rattle.mc_grow.proofs.CellLemmas.{filled-taken}
use Rattle.mc_grow.proofs.MoveLemmas.{moved, new_to_each, out_first, out_of_table}
use Rattle.mc_grow.proofs.moving.move_one.Goals as goal

pub place-requires : goal.place-requires
place-requires g c =
    let hash_of = g.T.Keyed.hash_of in
    let key_of = g.T.Keyed.key_of in
    let side = cells_of (beside c.args.table.now c.args.strays.now.items) in
    let out = out_of_table hash_of key_of c.args.draining.now c.remove-entry.new.self side c.args.at _ c.requires.apart c.remove-entry.ensures.here c.remove-entry.ensures.removed in
    record {
      apart = (apart_parts hash_of key_of c.args.draining.now.items side c.requires.apart).1;
      new = (new_to_each hash_of key_of c.remove-entry.new.self.items side _ (out_first hash_of key_of c.args.draining.now.items side _ c.remove-entry.result c.requires.apart out).gone).1;
      room = c.requires.room;
    }

pub returns-clause-taken : goal.returns-clause-taken
returns-clause-taken g c = record { entry = c.remove-entry.result; taken = c.remove-entry.ensures.back; added = c.place.ensures.added }

pub returns-clause-left : goal.returns-clause-left
returns-clause-left g c = rw c.remove-entry.ensures.removed (filled-taken c.args.draining.now.items c.args.at c.remove-entry.result c.remove-entry.ensures.here)

pub returns-clause-content : goal.returns-clause-content
returns-clause-content g c =
    let side = cells_of (beside c.args.table.now c.args.strays.now.items) in
    moved g.T.Keyed.hash_of g.T.Keyed.key_of c.args.draining.now.items side _ (cells_of (beside c.place.new.table c.place.new.strays.items)) c.remove-entry.result c.requires.apart
    (out_of_table g.T.Keyed.hash_of g.T.Keyed.key_of c.args.draining.now c.remove-entry.new.self side c.args.at _ c.requires.apart c.remove-entry.ensures.here c.remove-entry.ensures.removed)
    c.place.ensures.content
