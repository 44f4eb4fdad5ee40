-- What is asked of a server that is to end, and what its answers mean.
use Rattle.std.specs.Prelude.{◌≡◌, ◌≢◌, ℕ, List, Result, Ok, Err, codes}
use Rattle.mc_options.specs.declared.endpoints.ListenAddress.{ListenAddress}
use Rattle.mc_host.specs.declared.end.QuitFaultKind.{QuitFaultKind}
use Rattle.mc_host.specs.declared.end.QuitFaultKind.TheVariants as denied
use Rattle.mc_host.specs.declared.end.End.{End}
use Rattle.mc_host.specs.declared.end.End.TheVariants as end

-- the request by which a server ends
abbrev pub quit_request : List ℕ
quit_request =
    codes "POST /quit HTTP/1.1\r\nHost: localhost\r\nConnection: close\r\nContent-Length: 0\r\n\r\n"

-- the first line of the answer of a server that ends
abbrev pub accepting_line : List ℕ
accepting_line = codes "HTTP/1.1 200 OK\r\n"

-- A refusal of the server is another first line that it answered; without an answer it didn't refuse.
abbrev pub RefusesBy : (answered : List ℕ → Type 0) → QuitFaultKind → Type 0
RefusesBy answered denied.Unreached = Unit {0}
RefusesBy answered denied.Silent = Unit {0}
RefusesBy answered _ = (line : List ℕ) × answered line × (line ≢ accepting_line)

-- how a program ends that asked the server at an endpoint to end, by the answer
abbrev pub end_of_asking : ListenAddress → Result (Unit {0}) QuitFaultKind → End
end_of_asking endpoint (Ok _) = end.Accepted
end_of_asking endpoint (Err why) = end.Denied (record { endpoint = endpoint; why = why })

-- the ends of a program that asked the server at an endpoint to end: it accepted, or it didn't
abbrev pub EndsAsking : ListenAddress → End → Type 0
EndsAsking endpoint end.Accepted = Unit {0}
EndsAsking endpoint (end.Denied it) = it.endpoint ≡ endpoint
EndsAsking endpoint _ = ⊥
