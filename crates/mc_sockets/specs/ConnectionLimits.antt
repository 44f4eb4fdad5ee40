-- The connections of a server.
use Rattle.std.specs.Prelude.{ℕ, ◌+◌, ◌-◌, ◌/◌, min, max, Option, Some, None}
use Rattle.mc_sockets.specs.declared.connection.ConnectionLimit.{ConnectionLimit}

-- how many connections may be open at once, without those that linger
abbrev pub most_of : ConnectionLimit → ℕ
most_of crowd = crowd.most

-- how many may linger beside them
abbrev pub most_lingering_of : ConnectionLimit → ℕ
most_lingering_of crowd = crowd.most_lingering

-- As many connections may linger as may be open, if there are descriptors for them behind 64 for others, and
-- a quarter of that at least.
abbrev pub most_lingering : (most : ℕ) → (descriptors : Option ℕ) → ℕ
most_lingering most None = most
most_lingering most (Some descriptors) = max (min (descriptors - (most + 64)) most) (most / 4)

-- a worker's share of that, and at least 16
abbrev pub share : (most workers : ℕ) → ℕ
share most workers = max (most / max workers 1) 16
