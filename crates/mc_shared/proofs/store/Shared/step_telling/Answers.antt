use Rattle.mc_shared.proofs.Words.{◌≡◌, ◌∙◌, refl, subst, start_of, Past, Miss, CameOfRead}
use Rattle.mc_shared.specs.declared.telling.Sought.{Sought}
use Rattle.mc_shared.specs.declared.telling.Sought.TheVariants.{Told, Nothing, Deferred}
use Rattle.mc_shared.proofs.TellingLemmas.{answered_from, called_answered, fails_from, hit_refused, hit_told, taken_told}
use Rattle.mc_shared.proofs.store.Shared.step_telling.Goals as goal
use Rattle.mc_shared.proofs.store.Shared.step_telling.Goals.{After-read_telling}

pub returns-then-not-is_read : goal.returns-then-not-is_read
returns-then-not-is_read g c = taken_told refl c.answer.ensures c.tell.ensures

pub returns-then-is_told_absent : goal.returns-then-is_told_absent
returns-then-is_told_absent g c =
    let told = c.is_told_absent.ensures in
    taken_told refl (called_answered (start_of g.K.KeyHash.hash_of c.args.self.now.began) c.args.caller.now c.is_told_absent.new.caller c.args.ask.now.step.now c.args.ask.now.moment Miss
    told.same (told.miss c.if-is_told_absent.true)) c.tell-then-is_told_absent.ensures

-- what came of the read for the caller's past, which the key's number left
came : (g : _) → (c : After-read_telling g) → (sought so : Sought) → sought ≡ so
    → CameOfRead g.A.Answer.told (start_of g.K.KeyHash.hash_of c.args.self.now.began) c.is_told_absent.new.caller.past c.args.ask.now.step.now c.args.ask.now.moment c.args.answer.now sought
    c.read_telling.new.caller.past c.read_telling.new.answer
    → CameOfRead g.A.Answer.told (start_of g.K.KeyHash.hash_of c.args.self.now.began) c.args.caller.now.past c.args.ask.now.step.now c.args.ask.now.moment c.args.answer.now so
    c.read_telling.new.caller.past c.read_telling.new.answer
came g c sought so same = subst
    (λ (t : Past × Sought). CameOfRead g.A.Answer.told (start_of g.K.KeyHash.hash_of c.args.self.now.began) t.0 c.args.ask.now.step.now c.args.ask.now.moment c.args.answer.now t.1
    c.read_telling.new.caller.past c.read_telling.new.answer) (λ i. (c.is_told_absent.ensures.stays c.if-is_told_absent.false i, same i))

pub returns-in-Ok-Told : goal.returns-in-Ok-Told
returns-in-Ok-Told g c =
    let read = c.in-Ok-Told.ensures in
    hit_told (start_of g.K.KeyHash.hash_of c.args.self.now.began) c.args.caller.now c.read_telling.new.caller c.args.ask.now.step.now c.args.ask.now.moment g.A.Answer.told c.args.answer.now
    c.read_telling.new.answer tt (read.same.0 ∙ c.is_told_absent.ensures.same, read.same.1)
    (came g (goal.at.returns-in-Ok-Told g c).After-read_telling c.in-Ok-Told.field-0 (Told c.in-Ok-Told.field-0-0) c.in-Ok-Told.field-0-is read.came)

pub returns-in-Ok-Nothing : goal.returns-in-Ok-Nothing
returns-in-Ok-Nothing g c =
    let read = c.in-Ok-Nothing.ensures in
    let then = came g (goal.at.returns-in-Ok-Nothing g c).After-read_telling c.in-Ok-Nothing.field-0 Nothing c.in-Ok-Nothing.field-0-is read.came in
    taken_told then.1 (called_answered (start_of g.K.KeyHash.hash_of c.args.self.now.began) c.args.caller.now c.read_telling.new.caller c.args.ask.now.step.now c.args.ask.now.moment Miss
    (read.same.0 ∙ c.is_told_absent.ensures.same) then.0) c.tell-in-Ok-Nothing.ensures

pub returns-in-Ok-Deferred : goal.returns-in-Ok-Deferred
returns-in-Ok-Deferred g c =
    let read = c.in-Ok-Deferred.ensures in
    let then = came g (goal.at.returns-in-Ok-Deferred g c).After-read_telling c.in-Ok-Deferred.field-0 Deferred c.in-Ok-Deferred.field-0-is read.came in
    taken_told then.1 (answered_from (start_of g.K.KeyHash.hash_of c.args.self.now.began) c.args.caller.now c.answer-in-Ok-Deferred.new.caller c.args.ask.now.step.now c.args.ask.now.moment
    c.read_telling.new.caller c.answer-in-Ok-Deferred.result (read.same.0 ∙ c.is_told_absent.ensures.same) then.0 c.answer-in-Ok-Deferred.ensures) c.tell-in-Ok-Deferred.ensures

pub returns-in-Err : goal.returns-in-Err
returns-in-Err g c =
    let start = start_of g.K.KeyHash.hash_of c.args.self.now.began in
    let old = c.args.caller.now in
    let ask = c.args.ask.now in
    let read = c.in-Err.ensures in
    let stays = c.is_told_absent.ensures.stays c.if-is_told_absent.false in
    hit_refused start old c.read_telling.new.caller ask.step.now ask.moment g.A.Answer.told c.args.answer.now c.read_telling.new.answer
    (read.same.0 ∙ c.is_told_absent.ensures.same, read.same.1)
    (fails_from start old c.read_telling.new.caller ask.step.now ask.moment c.is_told_absent.new.caller stays read.refused) (read.err.0 ∙ stays, read.err.1)
