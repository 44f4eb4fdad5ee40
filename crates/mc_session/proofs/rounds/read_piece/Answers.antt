use Rattle.std.proofs.Common.{◌≡◌, ◌≤◌, length, subst, take, arith, Ok, Err, true}
use Rattle.mc_protocol.specs.declared.serving.ServeFault.TheVariants.{Read}
use Rattle.std.specs.Io.KnownBytes.{Consumes}
use Rattle.mc_session.specs.Exchanges.{longest_piece}
use Rattle.mc_session.specs.Rounds.{read_piece, read_nothing}
use Rattle.mc_session.proofs.ExchangeLemmas.{Consumes-kept}
use Rattle.mc_session.proofs.rounds.read_piece.Goals as goal

pub returns-in-Ok-eq0-clause-reads : goal.returns-in-Ok-eq0-clause-reads
returns-in-Ok-eq0-clause-reads g c = λ _.
    let none : c.in-Ok-eq0.field-0 ≡ 0 = omega arith in
    read_nothing (subst (λ n. Consumes (g.R.Read.remaining c.args.reader.now) (g.R.Read.remaining c.read.new.self) (take n c.read.new.buf)) none c.in-Ok-eq0.ensures.bytes.0)

pub returns-in-Ok-bring-clause-reads : goal.returns-in-Ok-bring-clause-reads
returns-in-Ok-bring-clause-reads g c = λ _.
    let short : length c.split_at.result.0.now ≤ longest_piece =
    omega (arith, c.split_at.ensures.front_len, c.in-Ok.ensures.bound, c.read.auto.buf, c.split_at_mut-room.ensures.front_len, c.min.ensures) in
    read_piece c.split_at.result.0.now short (rw c.split_at.ensures.front c.in-Ok.ensures.bytes.0) c.in-Ok-bring.ensures.ok

pub returns-then-eq-clause-reads : goal.returns-then-eq-clause-reads
returns-then-eq-clause-reads g c = λ _. read_nothing (Consumes-kept (g.R.Read.remaining c.args.reader.now) (g.R.Read.remaining c.read.new.self) c.in-Err.ensures.bytes)

pub returns-else-eq-clause-reads : goal.returns-else-eq-clause-reads
returns-else-eq-clause-reads g c = λ _. read_nothing (Consumes-kept (g.R.Read.remaining c.args.reader.now) (g.R.Read.remaining c.read.new.self) c.in-Err.ensures.bytes)

pub returns-else-eq-clause-end : goal.returns-else-eq-clause-end
returns-else-eq-clause-end g c = λ ended. let no : Err Read ≡ Ok true = ended in cc
