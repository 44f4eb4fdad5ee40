-- The first bytes of a connection, and the protocols other than this one that they show.
use Rattle.std.specs.Prelude.{◌≡◌, ◌<◌, ◌≤◌, ◌+◌, ◌*◌, ◌-◌, ◌^◌, ◌==◌, ◌&&◌, ℕ, Bool, true, false, not, nat_le, if◌then◌else◌, List, [], ◌∷◌, ◌++◌, length, take, drop, slice_index, codes, Option, Some, None, IfSome, option_map}
use Rattle.std.specs.Str.{byte}
use Rattle.mc_sockets.specs.declared.header.HeaderPart.{HeaderPart}
use Rattle.mc_sockets.specs.Headers.{is_binary_header}
use Rattle.mc_sockets.specs.declared.opening.PieceOpening.{PieceOpening}
use Rattle.mc_sockets.specs.declared.opening.PieceOpening.TheVariants as verdict
use Rattle.mc_sockets.specs.declared.opening.Opening.{Opening}
use Rattle.mc_sockets.specs.declared.opening.Opening.TheVariants as opening
use Rattle.mc_sockets.specs.declared.opening.Part.{Part}
use Rattle.mc_sockets.specs.declared.opening.Part.TheVariants as part
use Rattle.mc_sockets.specs.declared.opening.Protocol.{Protocol}
use Rattle.mc_sockets.specs.declared.opening.Protocol.TheVariants.{Binary, Http}

-- a byte of a word of a line
abbrev pub is_of_word : ℕ → Bool
is_of_word b = not (b == byte " ") && not (b == byte "\n")

-- the rest of a word, a space, and then a text of which that holds
abbrev pub word_then : (List ℕ → Bool) → List ℕ → Bool
word_then holds [] = false
word_then holds (b ∷ text) = if b == byte " " then holds text else not (b == byte "\n") && word_then holds text

-- a word of at least one byte, a space, and then a text of which that holds
abbrev pub whole_word_then : (List ℕ → Bool) → List ℕ → Bool
whole_word_then holds [] = false
whole_word_then holds (b ∷ text) = is_of_word b && word_then holds text

-- these bytes, and then a text of which that holds
abbrev pub begins_then : (word : List ℕ) → (List ℕ → Bool) → List ℕ → Bool
begins_then [] holds text = holds text
begins_then (a ∷ word) holds [] = false
begins_then (a ∷ word) holds (b ∷ text) = b == a && begins_then word holds text

-- the rest of a line's last word, and the line feed
abbrev pub last_word : List ℕ → Bool
last_word [] = false
last_word (b ∷ text) = if b == byte "\n" then true else not (b == byte " ") && last_word text

-- the third word of a request line: it begins with HTTP/1.
abbrev pub is_version : List ℕ → Bool
is_version text = begins_then (codes "HTTP/1.") last_word text

-- the second and the third word of a request line
abbrev pub is_target : List ℕ → Bool
is_target text = whole_word_then is_version text

-- Whether a text behind its first byte begins with the rest of a request line of HTTP/1: three words with single
-- spaces between them, of which the third begins with HTTP/1.
abbrev pub is_request_line : List ℕ → Bool
is_request_line text = word_then is_target text

-- a capital letter, which no command of this protocol begins with
abbrev pub is_capital : ℕ → Bool
is_capital b = nat_le (byte "A") b && nat_le b (byte "Z")

abbrev pub shows : Protocol → Bool → Option Protocol
shows protocol true = Some protocol
shows protocol false = None

-- The other protocol that a connection's text is of, if its first bytes show one: its first 24 bytes are a binary
-- header, or its first line is a request line of HTTP/1 and begins with a capital letter.
abbrev pub other_protocol : List ℕ → Option Protocol
other_protocol [] = None
other_protocol (first ∷ text) =
    if first == 128 then shows Binary (is_binary_header (take 24 (first ∷ text)))
    else shows Http (is_capital first && is_request_line text)

-- the bytes of a header that came
abbrev pub came : HeaderPart → List ℕ
came header = take header.count header.bytes

-- the other protocol that a text shows which has such a beginning and then these bytes
abbrev pub shown_behind : Part → List ℕ → Option Protocol
shown_behind part.Nothing text = other_protocol text
shown_behind (part.Header header) text = shows Binary (is_binary_header (take 24 (came header ++ text)))
shown_behind part.Method text = shows Http (word_then is_target text)
shown_behind part.Space text = shows Http (is_target text)
shown_behind part.Target text = shows Http (word_then is_version text)
shown_behind (part.Version count) text = shows Http (begins_then (drop count (codes "HTTP/1.")) last_word text)

-- the same of what is known of the beginning: it is open, or decided
abbrev pub shown_by : Opening → List ℕ → Option Protocol
shown_by (opening.Open part) text = shown_behind part text
shown_by opening.Settled text = None
shown_by (opening.Other protocol) text = Some protocol

-- so many bytes of a piece, and no fewer, show another protocol
pub record ShowsAt (part : Part) (bytes : List ℕ) (protocol : Protocol) (count : ℕ) : Type 0 where
  pub some : 0 < count
  pub within : count ≤ length bytes
  pub shows : shown_behind part (take count bytes) ≡ Some protocol
  pub before : shown_behind part (take (count - 1) bytes) ≡ None

-- a piece behind a beginning is judged by what both show
abbrev pub Judges : Part → (bytes : List ℕ) → PieceOpening → Type 0
Judges part bytes (verdict.Open mid) = (text : List ℕ) → shown_behind part (bytes ++ text) ≡ shown_behind mid text
Judges part bytes verdict.Settled = (text : List ℕ) → shown_behind part (bytes ++ text) ≡ None
Judges part bytes (verdict.Other protocol count) = ShowsAt part bytes protocol count
