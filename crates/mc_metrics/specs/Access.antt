-- Who may end the server, by a request for the path /quit.
use Rattle.std.specs.Prelude.{ℕ, ◌/◌, ◌==◌, Bool, true, not, ◌&&◌, ◌||◌, List, [], ◌∷◌, take, drop, slice_index, codes}
use Rattle.std.specs.List.{list_all, list_any, prefix_len}
use Rattle.std.specs.Char.{is_ascii_digit}
use Rattle.std.specs.Str.{bytes_eq, str_eq_ignore_ascii_case, byte}
use Rattle.std.specs.Net.Addr.{ipv4_octets, ipv6_segments}
use Rattle.std.specs.declared.net.ip_addr.IpAddr.{IpAddr}
use Rattle.std.specs.declared.net.ip_addr.IpAddr.TheVariants.{V4, V6}

-- the text up to the first of these bytes, or all of it
abbrev pub up_to : (end : ℕ) → (text : List ℕ) → List ℕ
up_to end text = take (prefix_len (λ b. not (b == end)) text) text

-- the text from the first of these bytes on, or nothing
abbrev pub from : (start : ℕ) → (text : List ℕ) → List ℕ
from start text = drop (prefix_len (λ b. not (b == start)) text) text

-- whether the segments are ::1
abbrev pub is_one : (segments : List ℕ) → Bool
is_one segments = bytes_eq segments (0 ∷ 0 ∷ 0 ∷ 0 ∷ 0 ∷ 0 ∷ 0 ∷ 1 ∷ [])

-- whether the segments are ::ffff:127.0.0.0 to ::ffff:127.255.255.255
abbrev pub is_mapped_loopback : (segments : List ℕ) → Bool
is_mapped_loopback segments =
    bytes_eq (take 6 segments) (0 ∷ 0 ∷ 0 ∷ 0 ∷ 0 ∷ 65535 ∷ []) && (slice_index segments 6 / 256 == 127)

-- whether an address is the loopback's: 127.0.0.0/8, the same as an address of version 6, or ::1
abbrev pub is_loopback : IpAddr → Bool
is_loopback (V4 address) = slice_index (ipv4_octets address) 0 == 127
is_loopback (V6 address) = is_one (ipv6_segments address) || is_mapped_loopback (ipv6_segments address)

-- whether a byte is one of an address in digits
abbrev pub is_address_byte : ℕ → Bool
is_address_byte b = is_ascii_digit b || (b == byte ".")

-- whether a host is an address that begins with 127: no domain is digits and dots alone
abbrev pub is_loopback_address : (host : List ℕ) → Bool
is_loopback_address host = bytes_eq (take 4 host) (codes "127.") && list_all is_address_byte host

-- whether a host without its port is the loopback's, by name or by address
abbrev pub is_loopback_name : (host : List ℕ) → Bool
is_loopback_name host = str_eq_ignore_ascii_case host (codes "localhost") || is_loopback_address host

-- whether what stands behind a host is nothing, or a colon and digits
abbrev pub is_port : (text : List ℕ) → Bool
is_port [] = true
is_port (first ∷ digits) = (first == byte ":") && list_all is_ascii_digit digits

-- whether the value of a Host field is ::1 in brackets, with or without a port
abbrev pub is_loopback_literal : (value : List ℕ) → Bool
is_loopback_literal value = bytes_eq (take 5 value) (codes "[::1]") && is_port (drop 5 value)

-- whether the value of a Host field names the loopback, with or without a port
abbrev pub is_loopback_host : (value : List ℕ) → Bool
is_loopback_host value =
    is_loopback_literal value
    || (is_loopback_name (up_to (byte ":") value) && is_port (from (byte ":") value))

-- whether a field shows that a page of another site may have made the request: it has an Origin, or names
-- another host
abbrev pub is_foreign : (field : List ℕ × List ℕ) → Bool
is_foreign field =
    str_eq_ignore_ascii_case field.0 (codes "origin")
    || (str_eq_ignore_ascii_case field.0 (codes "host") && not (is_loopback_host field.1))

-- whether a peer with this address, whose request has these names and values, may end the server
abbrev pub is_trusted : (peer : IpAddr) → (fields : List (List ℕ × List ℕ)) → Bool
is_trusted peer fields = is_loopback peer && not (list_any is_foreign fields)
