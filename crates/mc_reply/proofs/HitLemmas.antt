-- The texts around the block of a hit.
use Rattle.std.proofs.Common.{◌≡◌, ◌<◌, ℕ, List, [], ◌∷◌, ◌++◌, length, codes, append_assoc, arith}
use Rattle.mc_protocol.specs.Commands.{Command, Shape, Single, Retrieval, Alone, shape, steps, steps_by}
use Rattle.mc_protocol.specs.declared.reply.Reply.TheVariants.{Hit}
use Rattle.mc_reply.specs.Texts.{reply_text, reply_text_by, IsRetrieval, IsRetrievalBy, front_text, front_by, back_text, back_by, hit_line, end_text}

-- the text of a hit is what is in front of its block, the block, and what is behind it
around_by : (its : Shape) (flags unique : ℕ) (block : List ℕ) → IsRetrievalBy its → 0 < length (steps_by its)
    → reply_text_by its 0 (Hit flags unique block) ≡ front_by its flags unique (length block) ++ block ++ back_by its
around_by (Single step has_block quiet) flags unique block is some = absurd is
around_by (Retrieval exptime [] with_unique) flags unique block is some = absurd (omega (arith, some))
around_by (Retrieval exptime (key ∷ keys) with_unique) flags unique block is some =
    append_assoc (hit_line key with_unique flags unique (length block) ++ block) (codes "\r\n") (end_text (length (key ∷ keys)) 0)
around_by (Alone lone) flags unique block is some = absurd is

pub hit_around : (command : Command) (flags unique : ℕ) (block : List ℕ) → IsRetrieval command → 0 < length (steps command)
    → reply_text command 0 (Hit flags unique block) ≡ front_text command flags unique (length block) ++ block ++ back_text command
hit_around command flags unique block is some = around_by (shape command) flags unique block is some
