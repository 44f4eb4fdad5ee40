use Rattle.mc_workers.proofs.RoomLemmas.{makes_room}
use Rattle.mc_workers.proofs.worker.make_room.Goals as goal

pub returns-clause-room : goal.returns-clause-room
returns-clause-room g c =
    makes_room c.ticks.result c.takes_turn_to_end-readers.result c.takes_turn_to_judge-most.result c.args.guests.now c.tick.new.self c.takes_turn_to_end-readers.new.self
    c.end_readers.new.guests c.takes_turn_to_judge-most.new.self c.judge_slow.new.guests c.tick.ensures c.takes_turn_to_end-readers.ensures.ends c.takes_turn_to_end-readers.ensures.notes
    c.end_readers.ensures.ends c.takes_turn_to_judge-most.ensures.judges c.takes_turn_to_judge-most.ensures.notes c.judge_slow.ensures.judges
