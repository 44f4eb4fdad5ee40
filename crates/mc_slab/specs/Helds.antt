-- Where chunks lie: one of a class below 27 in memory that was cut, one of a class from 27 to 39 in a block of its own beside its head, and
-- those of the last class on sheets.
use Rattle.std.specs.Prelude.{ℕ}
use Rattle.mc_slab.specs.Chunks.{ChunksState, one_chunk}
use Rattle.mc_slab.specs.declared.held.Held.{Held}
use Rattle.mc_slab.specs.declared.held.Held.TheVariants.{C1, C2, C3, C4, C5, C6, C7, C8, C9, C10, C11, C12, C13, C14, C15, C16, C17, C18, C19, C20, C21, C22, C23, C24, C25, C26, C27, C28, C29, C30, C31, C32, C33, C34, C35, C36, C37, C38, C39, Sheets}

-- the chunks that it holds
abbrev pub chunks_in : Held → ChunksState
chunks_in (C1 bytes) = one_chunk 1 bytes.now bytes.now
chunks_in (C2 bytes) = one_chunk 2 bytes.now bytes.now
chunks_in (C3 bytes) = one_chunk 3 bytes.now bytes.now
chunks_in (C4 bytes) = one_chunk 4 bytes.now bytes.now
chunks_in (C5 bytes) = one_chunk 5 bytes.now bytes.now
chunks_in (C6 bytes) = one_chunk 6 bytes.now bytes.now
chunks_in (C7 bytes) = one_chunk 7 bytes.now bytes.now
chunks_in (C8 bytes) = one_chunk 8 bytes.now bytes.now
chunks_in (C9 bytes) = one_chunk 9 bytes.now bytes.now
chunks_in (C10 bytes) = one_chunk 10 bytes.now bytes.now
chunks_in (C11 bytes) = one_chunk 11 bytes.now bytes.now
chunks_in (C12 bytes) = one_chunk 12 bytes.now bytes.now
chunks_in (C13 bytes) = one_chunk 13 bytes.now bytes.now
chunks_in (C14 bytes) = one_chunk 14 bytes.now bytes.now
chunks_in (C15 bytes) = one_chunk 15 bytes.now bytes.now
chunks_in (C16 bytes) = one_chunk 16 bytes.now bytes.now
chunks_in (C17 bytes) = one_chunk 17 bytes.now bytes.now
chunks_in (C18 bytes) = one_chunk 18 bytes.now bytes.now
chunks_in (C19 bytes) = one_chunk 19 bytes.now bytes.now
chunks_in (C20 bytes) = one_chunk 20 bytes.now bytes.now
chunks_in (C21 bytes) = one_chunk 21 bytes.now bytes.now
chunks_in (C22 bytes) = one_chunk 22 bytes.now bytes.now
chunks_in (C23 bytes) = one_chunk 23 bytes.now bytes.now
chunks_in (C24 bytes) = one_chunk 24 bytes.now bytes.now
chunks_in (C25 bytes) = one_chunk 25 bytes.now bytes.now
chunks_in (C26 bytes) = one_chunk 26 bytes.now bytes.now
chunks_in (C27 lone) = one_chunk 27 lone.value.bytes lone.value.head
chunks_in (C28 lone) = one_chunk 28 lone.value.bytes lone.value.head
chunks_in (C29 lone) = one_chunk 29 lone.value.bytes lone.value.head
chunks_in (C30 lone) = one_chunk 30 lone.value.bytes lone.value.head
chunks_in (C31 lone) = one_chunk 31 lone.value.bytes lone.value.head
chunks_in (C32 lone) = one_chunk 32 lone.value.bytes lone.value.head
chunks_in (C33 lone) = one_chunk 33 lone.value.bytes lone.value.head
chunks_in (C34 lone) = one_chunk 34 lone.value.bytes lone.value.head
chunks_in (C35 lone) = one_chunk 35 lone.value.bytes lone.value.head
chunks_in (C36 lone) = one_chunk 36 lone.value.bytes lone.value.head
chunks_in (C37 lone) = one_chunk 37 lone.value.bytes lone.value.head
chunks_in (C38 lone) = one_chunk 38 lone.value.bytes lone.value.head
chunks_in (C39 lone) = one_chunk 39 lone.value.bytes lone.value.head
chunks_in (Sheets sheet) =
    record { class = 40; count = sheet.value.0; bytes = sheet.value.1.0; head = sheet.value.1.1 }
