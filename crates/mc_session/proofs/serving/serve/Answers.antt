use Rattle.std.proofs.Common.{refl}
use Rattle.mc_session.proofs.ExchangeLemmas.{then_wrote}
use Rattle.mc_session.specs.Serving.{no_buffer}
use Rattle.mc_session.proofs.ServeLemmas.{serves, serves_all, serves_until, on_ok}
use Rattle.mc_session.proofs.serving.serve.Goals as goal

pub returns-in-Err-clause-memory : goal.returns-in-Err-clause-memory
returns-in-Err-clause-memory g c = λ _. no_buffer refl refl refl

pub returns-in-Ok-serve_endpoint-clause-ok : goal.returns-in-Ok-serve_endpoint-clause-ok
returns-in-Ok-serve_endpoint-clause-ok g c =
    on_ok c.write_out.result
    (λ written. serves_all c.new-session.ensures (c.in-Ok-serve_endpoint.ensures.goes (λ is. cc)) c.in-Ok-serve_endpoint.ensures.ended c.write_out.ensures.wrote written) c.write_out.ensures.ok

pub returns-in-Ok-serve_endpoint-clause-write : goal.returns-in-Ok-serve_endpoint-clause-write
returns-in-Ok-serve_endpoint-clause-write g c = λ _. serves c.new-session.ensures (then_wrote c.write_out.ensures.wrote (c.in-Ok-serve_endpoint.ensures.goes (λ is. cc)))

pub returns-clause-read : goal.returns-clause-read
returns-clause-read g c = λ is. serves c.new-session.ensures (c.in-Err-serve_endpoint.ensures.goes (λ other. cc))

pub returns-clause-write : goal.returns-clause-write
returns-clause-write g c = λ is. serves c.new-session.ensures (c.in-Err-serve_endpoint.ensures.goes (λ other. cc))

pub returns-clause-memory : goal.returns-clause-memory
returns-clause-memory g c = λ is. serves_until c.new-session.ensures (c.in-Err-serve_endpoint.ensures.memory (cc))
