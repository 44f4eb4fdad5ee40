-- What is taken of the numbers that the command line asks for.
use Rattle.std.specs.Prelude.{◌≡◌, ◌≤◌, ℕ, max, List, [], ◌∷◌, map, Option, Some, None}
use Rattle.std.specs.Net.Addr.{ipv4_octets, IsV4And}
use Rattle.std.specs.declared.net.ip_addr.IpAddr.{IpAddr}
use Rattle.mc_sizes.specs.Ranges.{IsGreatestCharge, IsShelfCount}
use Rattle.mc_options.specs.declared.options.AskedPlace.{AskedPlace}
use Rattle.mc_options.specs.declared.endpoints.AskedAddress.{AskedAddress}
use Rattle.mc_options.specs.declared.endpoints.ListenAddress.{ListenAddress}
use Rattle.mc_options.specs.declared.endpoints.Endpoints.{Endpoints}

-- from 1 up to the most
abbrev pub IsUpTo : (most taken : ℕ) → Type 0
IsUpTo most taken = 1 ≤ taken × taken ≤ most

-- the number that is asked for, if it is in range; another number in range if it isn't, and
-- if nothing is asked for the usual one
pub record IsAskedFor (asked : Option ℕ) (usual most taken : ℕ) : Type 0 where
  pub unasked : asked ≡ None → taken ≡ usual
  pub asked_for : (n : ℕ) → asked ≡ Some n → 1 ≤ n → n ≤ most → taken ≡ n
  pub range : IsUpTo most taken

-- the number that is asked for, if it is at most the most; another such number if it isn't, and 0
-- if nothing is asked for
pub record IsTimeoutFor (asked : Option ℕ) (most taken : ℕ) : Type 0 where
  pub unasked : asked ≡ None → taken ≡ 0
  pub asked_for : (n : ℕ) → asked ≡ Some n → n ≤ most → taken ≡ n
  pub range : taken ≤ most

-- the greatest charge of an item if none is asked for: that of a page
abbrev pub usual_greatest : ℕ
usual_greatest = 1048576

-- the greatest charge of an item that is asked for, if it is that of 1 to 8 pages; another such if
-- it isn't, and the usual one if nothing is asked for
pub record IsGreatestFor (asked : Option ℕ) (taken : ℕ) : Type 0 where
  pub unasked : asked ≡ None → taken ≡ usual_greatest
  pub asked_for : (n : ℕ) → asked ≡ Some n → IsGreatestCharge n → taken ≡ n
  pub range : IsGreatestCharge taken

-- a number of shelves is asked for that a store can't have
abbrev pub AsksNoShelfCount : (asked : Option ℕ) → Type 0
AsksNoShelfCount asked = (n : ℕ) × (asked ≡ Some n) × ¬ IsShelfCount n

-- the address that is asked for, and 127.0.0.1 if none is
pub record IsAddressFor (asked : Option IpAddr) (taken : IpAddr) : Type 0 where
  pub unasked : asked ≡ None → IsV4And taken (λ ip. ipv4_octets ip ≡ 127 ∷ 0 ∷ 0 ∷ 1 ∷ [])
  pub asked_for : (address : IpAddr) → asked ≡ Some address → taken ≡ address

-- the port behind an address, else the one that is asked for beside, else 11211; for 0, which is no port, 1
abbrev pub port_for : (behind asked : Option ℕ) → ℕ
port_for (Some port) asked = max 1 port
port_for None (Some port) = max 1 port
port_for None None = 11211

-- the address that is asked for, at its port
abbrev pub endpoint_for : (port : Option ℕ) → AskedAddress → ListenAddress
endpoint_for port asked = record { address = asked.address; port = port_for asked.port port }

-- the addresses that are asked for, each at its port, in their order; this machine's own if none is
abbrev pub IsEndpointsFor : (port : Option ℕ) → List AskedAddress → Endpoints → Type 0
IsEndpointsFor port [] taken =
    IsAddressFor None taken.first.address × (taken.first.port ≡ port_for None port) × (taken.others.items ≡ [])
IsEndpointsFor port (asked ∷ more) taken =
    (taken.first ≡ endpoint_for port asked) × (taken.others.items ≡ map (endpoint_for port) more)

-- the place that is asked for, if its port is in range, and else the first port; without an address
-- it is this machine's own
pub record IsPlaceFor (asked : AskedPlace) (taken : ListenAddress) : Type 0 where
  pub address : IsAddressFor asked.address taken.address
  pub port : 1 ≤ asked.port → taken.port ≡ asked.port
  pub range : 1 ≤ taken.port

-- the place that is asked for, and none if none is
abbrev pub IsScrapePlaceFor : (asked : Option AskedPlace) → (taken : Option ListenAddress) → Type 0
IsScrapePlaceFor None None = Unit {0}
IsScrapePlaceFor (Some asked) (Some taken) = IsPlaceFor asked taken
IsScrapePlaceFor _ _ = ⊥
