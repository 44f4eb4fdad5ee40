-- Which listener accepts the connections of which endpoints.
use Rattle.std.specs.Prelude.{◌≡◌, ℕ, ◌+◌, length, ◌==◌, ◌&&◌, Bool, false, not, List, [], ◌∷◌}
use Rattle.std.specs.List.{filter, list_any}
use Rattle.std.specs.Str.{bytes_eq}
use Rattle.std.specs.Net.Addr.{ipv4_octets, ipv6_segments}
use Rattle.std.specs.declared.net.ip_addr.IpAddr.{IpAddr}
use Rattle.std.specs.declared.net.ip_addr.IpAddr.TheVariants.{V4, V6}
use Rattle.mc_options.specs.declared.endpoints.ListenAddress.{ListenAddress}
use Rattle.mc_options.specs.declared.endpoints.Endpoints.{Endpoints}
use Rattle.mc_host.specs.declared.binding.Listeners.{Listeners}

-- whether an address is 0.0.0.0: all of version 4
abbrev pub is_all_of_version_4 : IpAddr → Bool
is_all_of_version_4 (V4 address) = bytes_eq (ipv4_octets address) (0 ∷ 0 ∷ 0 ∷ 0 ∷ [])
is_all_of_version_4 (V6 address) = false

-- whether an address is ::, all of version 6
abbrev pub is_all_of_version_6 : IpAddr → Bool
is_all_of_version_6 (V4 address) = false
is_all_of_version_6 (V6 address) = bytes_eq (ipv6_segments address) (0 ∷ 0 ∷ 0 ∷ 0 ∷ 0 ∷ 0 ∷ 0 ∷ 0 ∷ [])

-- all endpoints, in their order
abbrev pub all_of : Endpoints → List ListenAddress
all_of endpoints = endpoints.first ∷ endpoints.others.items

-- whether an endpoint is :: at this port
abbrev pub is_wide_at : (port : ℕ) → ListenAddress → Bool
is_wide_at port one = is_all_of_version_6 one.address && (one.port == port)

-- whether another of these accepts an endpoint's connections, where :: accepts those of version 4, too: it is 0.0.0.0, and
-- :: at the same port is one of them
abbrev pub is_covered : List ListenAddress → ListenAddress → Bool
is_covered all one = is_all_of_version_4 one.address && list_any (is_wide_at one.port) all

-- those of some endpoints that need a listener of their own, by whether :: accepts connections of version 4, too
abbrev pub bound_among : (is_dual : Bool) → (all some : List ListenAddress) → List ListenAddress
bound_among is_dual all some = filter (λ one. not (is_dual && is_covered all one)) some

-- the endpoints that need a listener of their own
abbrev pub bound_of : (is_dual : Bool) → List ListenAddress → List ListenAddress
bound_of is_dual all = bound_among is_dual all all

-- there are as many listeners as endpoints need, if :: accepts connections of version 4, too, or if it doesn't
abbrev pub HasListeners : Endpoints → Listeners → Type 0
HasListeners endpoints listeners =
    (is_dual : Bool) × (length listeners.others.items + 1 ≡ length (bound_of is_dual (all_of endpoints)))
