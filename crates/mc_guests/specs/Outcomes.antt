-- How a guest is told that an object is too large.
use Rattle.std.specs.Prelude.{ℕ, List, codes}

-- the answer to a request whose object is too large
abbrev pub too_large : List ℕ
too_large = codes "SERVER_ERROR object too large for cache\r\n"
