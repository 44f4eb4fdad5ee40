-- Which requests over HTTP end the server.
use Rattle.std.specs.Prelude.{◌≡◌, ℕ, Bool, List, length, take, min, ⊤}
use Rattle.std.specs.declared.net.ip_addr.IpAddr.{IpAddr}
use Rattle.mc_metrics.specs.Scrapes.{IsAskedToEnd}
use Rattle.mc_metrics.specs.declared.answer.HttpAnswer.TheVariants.{Stopping}
use Rattle.mc_telemetry.specs.declared.scrape_connection.Due.{Due}
use Rattle.mc_telemetry.specs.declared.scrape_connection.Due.TheVariants.{Answer}

-- the bytes of a request that came, in the room for one
abbrev pub come : (came : ℕ) → (room : List ℕ) → List ℕ
come came room = take (min came (length room)) room

-- what is due ends the server only if these bytes begin with a request that ends it, of this peer
abbrev pub EndsRightly : (may_quit : Bool) → (peer : IpAddr) → (came : List ℕ) → Due → Type 0
EndsRightly may_quit peer came (Answer reply) =
    reply.answer ≡ Stopping → IsAskedToEnd may_quit peer came
EndsRightly may_quit peer came due = ⊤

-- what is due doesn't end the server
abbrev pub EndsNothing : Due → Type 0
EndsNothing (Answer reply) = ¬ (reply.answer ≡ Stopping)
EndsNothing due = ⊤
