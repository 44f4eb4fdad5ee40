-- The texts of replies.
use Rattle.std.specs.Prelude.{ℕ, ◌+◌, ◌<◌, ◌==◌, Bool, true, false, List, [], ◌++◌, length, min, vec_capacity, codes, decimal, if◌then◌else◌, Option, Some, None, slice_get}
use Rattle.std.specs.List.{concat}
use Rattle.std.specs.declared.vec.Vec.{Vec}
use Rattle.std.specs.declared.alloc.Global.{Global}
use Rattle.mc_protocol.specs.Commands.{Shape, Single, Retrieval, Alone, shape, steps, is_quiet}
use Rattle.mc_protocol.specs.Commands.{Command}
use Rattle.mc_protocol.specs.declared.lone.Lone.{Lone}
use Rattle.mc_protocol.specs.declared.lone.Lone.TheVariants.{Version, Quit}
use Rattle.mc_protocol.specs.declared.reply.Reply.{Reply}
use Rattle.mc_protocol.specs.declared.reply.Reply.TheVariants.{Stored, NotStored, Exists, NotFound, Miss, Hit, Touched, Deleted, Number, NotNumeric, TooLarge, NoChunk, Flushed}
use Rattle.mc_protocol.specs.declared.fault.LineFault.{LineFault}
use Rattle.mc_protocol.specs.declared.fault.LineFault.TheVariants.{Unknown, BadFormat, BadDelta, TooLarge as TooLargeLine, BadChunk}
use Rattle.mc_reply.specs.declared.retrieval.HitFields.{HitFields}
use Rattle.mc_reply.specs.declared.text.Text.{Text}
use Rattle.mc_reply.specs.declared.text.Text.TheVariants.{First, Hit as FirstHit, Spent, Plain, Flaw, TooLong}

-- a vector has no room for these bytes behind its own
abbrev pub HasNoRoom : Vec ℕ Global → List ℕ → Type 0
HasNoRoom vector bytes = vec_capacity vector < length vector.items + length bytes

-- the number of bytes of parts, as far as 64 bits count them
abbrev pub counted : (parts : List (List ℕ)) → ℕ
counted parts = min (length (concat parts)) 18446744073709551615

-- the text of a reply that isn't a retrieval's
abbrev pub said : Reply → List ℕ
said Stored = codes "STORED\r\n"
said NotStored = codes "NOT_STORED\r\n"
said Exists = codes "EXISTS\r\n"
said NotFound = codes "NOT_FOUND\r\n"
said Miss = []
said (Hit flags unique block) = []
said Touched = codes "TOUCHED\r\n"
said Deleted = codes "DELETED\r\n"
said (Number number) = decimal number ++ codes "\r\n"
said NotNumeric = codes "CLIENT_ERROR cannot increment or decrement non-numeric value\r\n"
said TooLarge = codes "SERVER_ERROR object too large for cache\r\n"
said NoChunk = codes "SERVER_ERROR out of memory storing object\r\n"
said Flushed = codes "OK\r\n"

-- a space and the unique number, for gets and gats
abbrev pub unique_text : Bool → ℕ → List ℕ
unique_text true unique = codes " " ++ decimal unique
unique_text false unique = []

-- <flags> <bytes> [<cas unique>], each behind a space, and the end of the line
abbrev pub numbers_text : Bool → (flags unique len : ℕ) → List ℕ
numbers_text with_unique flags unique len =
    codes " " ++ decimal flags ++ codes " " ++ decimal len ++ unique_text with_unique unique
    ++ codes "\r\n"

-- VALUE <key> <flags> <bytes> [<cas unique>]
abbrev pub hit_line : List ℕ → Bool → (flags unique len : ℕ) → List ℕ
hit_line key with_unique flags unique len =
    codes "VALUE " ++ key ++ numbers_text with_unique flags unique len

-- that line, and the block
abbrev pub hit_text : List ℕ → Bool → (flags unique : ℕ) → List ℕ → List ℕ
hit_text key with_unique flags unique block =
    hit_line key with_unique flags unique (length block) ++ block ++ codes "\r\n"

-- the parts of a hit: its key, the end of its first line, its block, and what comes behind it
abbrev pub hit_parts : (key numbers block rest : List ℕ) → List ℕ
hit_parts key numbers block rest =
    codes "VALUE " ++ key ++ numbers ++ block ++ codes "\r\n" ++ rest

-- the reply with the fields of a hit
abbrev pub hit_reply : HitFields → Reply
hit_reply hit = Hit hit.flags hit.unique (concat hit.parts.now)

-- a retrieval's text for a key; a miss has none
abbrev pub key_text : List ℕ → Bool → Reply → List ℕ
key_text key with_unique (Hit flags unique block) = hit_text key with_unique flags unique block
key_text key with_unique Stored = []
key_text key with_unique NotStored = []
key_text key with_unique Exists = []
key_text key with_unique NotFound = []
key_text key with_unique Miss = []
key_text key with_unique Touched = []
key_text key with_unique Deleted = []
key_text key with_unique (Number number) = []
key_text key with_unique NotNumeric = []
key_text key with_unique TooLarge = []
key_text key with_unique NoChunk = []
key_text key with_unique Flushed = []

-- the same for the key at a place, if there is one
abbrev pub asked_text : Option (List ℕ) → Bool → Reply → List ℕ
asked_text None with_unique reply = []
asked_text (Some key) with_unique reply = key_text key with_unique reply

-- END after the last key
abbrev pub end_text : (count at : ℕ) → List ℕ
end_text count at = if at + 1 == count then codes "END\r\n" else []

-- the text of the reply to step `at` of a retrieval of these keys
abbrev pub retrieval_text : List (List ℕ) → Bool → ℕ → Reply → List ℕ
retrieval_text keys with_unique at reply = asked_text (slice_get keys at) with_unique reply
    ++ end_text (length keys) at

-- a quiet command has no text
abbrev pub unless_quiet : Bool → List ℕ → List ℕ
unless_quiet true text = []
unless_quiet false text = text

-- the text of the reply to step `at` of a command of a shape
abbrev pub reply_text_by : Shape → ℕ → Reply → List ℕ
reply_text_by (Single step has_block quiet) at reply = unless_quiet quiet (said reply)
reply_text_by (Retrieval exptime keys with_unique) at reply =
    retrieval_text keys with_unique at reply
reply_text_by (Alone lone) at reply = []

-- the text of the reply to step `at` of a command
abbrev pub reply_text : Command → ℕ → Reply → List ℕ
reply_text command at reply = reply_text_by (shape command) at reply

-- a command of a shape is a retrieval
abbrev pub IsRetrievalBy : Shape → Type 0
IsRetrievalBy (Single step has_block quiet) = ⊥
IsRetrievalBy (Retrieval exptime keys with_unique) = Unit {0}
IsRetrievalBy (Alone lone) = ⊥

-- a command is a retrieval
abbrev pub IsRetrieval : Command → Type 0
IsRetrieval command = IsRetrievalBy (shape command)

-- it is one that takes a step
abbrev pub AsksFirst : Command → Type 0
AsksFirst command = IsRetrieval command × (0 < length (steps command))

-- the first line of a hit of the key at a place, if there is one
abbrev pub asked_line : Option (List ℕ) → Bool → (flags unique len : ℕ) → List ℕ
asked_line None with_unique flags unique len = []
asked_line (Some key) with_unique flags unique len = hit_line key with_unique flags unique len

-- what is in front of the block of a hit, the reply to the first step of a command of a shape
abbrev pub front_by : Shape → (flags unique len : ℕ) → List ℕ
front_by (Single step has_block quiet) flags unique len = []
front_by (Retrieval exptime keys with_unique) flags unique len =
    asked_line (slice_get keys 0) with_unique flags unique len
front_by (Alone lone) flags unique len = []

-- what is in front of the block of a hit, the reply to the first step of a command
abbrev pub front_text : Command → (flags unique len : ℕ) → List ℕ
front_text command flags unique len = front_by (shape command) flags unique len

-- what is behind that block
abbrev pub back_by : Shape → List ℕ
back_by (Single step has_block quiet) = []
back_by (Retrieval exptime keys with_unique) = codes "\r\n" ++ end_text (length keys) 0
back_by (Alone lone) = []

-- what is behind that block, for a command
abbrev pub back_text : Command → List ℕ
back_text command = back_by (shape command)

-- the text of a command that is only a name
abbrev pub lone_text : Lone → List ℕ
lone_text Version = codes "VERSION 1.6.0\r\n"
lone_text Quit = []

-- the text of a command of a shape that takes no step
abbrev pub plain_text_by : Shape → List ℕ
plain_text_by (Single step has_block quiet) = []
plain_text_by (Retrieval exptime keys with_unique) = []
plain_text_by (Alone lone) = lone_text lone

-- the text of a command that takes no step
abbrev pub plain_text : Command → List ℕ
plain_text command = plain_text_by (shape command)

-- the text of a line's fault, which a noreply doesn't silence
abbrev pub fault_text : LineFault → List ℕ
fault_text Unknown = codes "ERROR\r\n"
fault_text BadFormat = codes "CLIENT_ERROR bad command line format\r\n"
fault_text BadDelta = codes "CLIENT_ERROR invalid numeric delta argument\r\n"
fault_text (TooLargeLine passed) = codes "SERVER_ERROR object too large for cache\r\n"
fault_text BadChunk = codes "CLIENT_ERROR bad data chunk\r\n"

-- the text of a line that is too long
abbrev pub long_text : List ℕ
long_text = codes "CLIENT_ERROR line too long\r\n"

-- the text of a step whose unique numbers are used up
abbrev pub spent_text : Command → List ℕ
spent_text command = unless_quiet (is_quiet command)
    (codes "SERVER_ERROR out of unique numbers\r\n")

-- the bytes of a text
abbrev pub bytes_of : Text → List ℕ
bytes_of (First command reply) = reply_text command.now 0 reply.now
bytes_of (FirstHit command flags unique parts) =
    reply_text command.now 0 (Hit flags unique (concat parts.now))
bytes_of (Spent command) = spent_text command.now
bytes_of (Plain command) = plain_text command.now
bytes_of (Flaw fault) = fault_text fault
bytes_of TooLong = long_text

-- the command of a reply takes a step
abbrev pub IsText : Text → Type 0
IsText (First command reply) = 0 < length (steps command.now)
IsText (FirstHit command flags unique parts) = 0 < length (steps command.now)
IsText (Spent command) = Unit {0}
IsText (Plain command) = Unit {0}
IsText (Flaw fault) = Unit {0}
IsText TooLong = Unit {0}
