use Rattle.mc_slab.proofs.RoomLemmas.{ready_room, ready_no_pages, ready_not_full, ready_no_memory}
use Rattle.mc_slab.proofs.laws.ready_is_enough.Goals as goal

pub returns-clause-room : goal.returns-clause-room
returns-clause-room c = λ slab need back is_slab is out. ready_room slab need back is_slab is out

pub returns-clause-no_pages : goal.returns-clause-no_pages
returns-clause-no_pages c = λ slab need back is_slab is out. ready_no_pages slab need back is_slab is out

pub returns-clause-not_full : goal.returns-clause-not_full
returns-clause-not_full c = λ slab need back is_slab is least class pages out full. ready_not_full slab need back is_slab is least class pages out full

pub returns-clause-no_memory : goal.returns-clause-no_memory
returns-clause-no_memory c = λ slab need back is_slab is out wants. ready_no_memory slab need back is_slab is out wants
