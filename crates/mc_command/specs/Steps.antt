-- How the plain store takes a step, part by part.
use Rattle.std.specs.Prelude.{◌≡◌, ◌≢◌, ℕ, ◌+◌, ◌-◌, ◌^◌, ◌++◌, Bool, false, List, [], Option, Some, None, Result, Err, IfOk, OnErr, IsTrue, slice_set}
use Rattle.mc_time.specs.declared.expiry.Expiry.{Expiry}
use Rattle.mc_sizes.specs.Needs.{NeedState, IsNeed, same_need}
use Rattle.mc_protocol.specs.Commands.{key_of}
use Rattle.mc_protocol.specs.declared.step.KeyStep.{KeyStep}
use Rattle.mc_protocol.specs.declared.step.StepFault.{StepFault}
use Rattle.mc_protocol.specs.declared.step.StepFault.TheVariants.{NoMemory, NumbersSpent}
use Rattle.mc_protocol.specs.declared.reply.Reply.{Reply}
use Rattle.mc_protocol.specs.declared.row.Row.{Row}
use Rattle.mc_protocol.specs.declared.row.Row.TheVariants.{Writes}
use Rattle.mc_protocol.specs.declared.row.Body.{Body}
use Rattle.mc_protocol.specs.declared.row.Body.TheVariants.{Given, Appended, Prepended, Counted}
use Rattle.mc_command.specs.declared.plain.item.Written.{Written}
use Rattle.mc_command.specs.declared.plain.write.CheckedWrite.{CheckedWrite}
use Rattle.mc_command.specs.declared.plain.write.CheckedWrite.TheVariants.{Answer, Rewrite, Place}
use Rattle.mc_protocol.specs.Plain.{Plain, Entry, Outcome, Answered, Spent, MayFail, CopiesBlock, block_need, item_need, has_room, pages_of, with_chunk, standing, without_dead, written, wrote, changed, hit_of, perhaps_expiring}

-- a step ends as the plain machine says, and if it isn't taken nothing changes
pub record Ends (outcome : Outcome) (result : Result Reply StepFault) (old new : Plain)
    : Type 0 where
  pub took : IfOk result (λ reply. outcome ≡ Answered reply new)
  pub spent : result ≡ Err NumbersSpent → outcome ≡ Spent
  pub refused : result ≡ Err NoMemory → MayFail outcome
  pub err : OnErr result (new ≡ old)

-- the state after a key's dead item is dropped
abbrev pub found : List ℕ → Plain → ℕ → Plain
found key old now = without_dead (standing old key now) key old

-- a write at a key, whose dead item is dropped first
abbrev pub writing : (stays : Bool) → Reply → Written → List ℕ → Plain → ℕ → Outcome
writing stays reply w key old now =
    wrote stays reply key w.flags w.expiry w.block (found key old now) now

-- a class with this number of pages more
abbrev pub paged : ℕ → Plain → (class : ℕ) → Plain
paged more old class =
    record old { pages = slice_set old.pages (class - 1) (pages_of old class + more) }

-- what a write leaves that stays in the old item's chunks
abbrev pub rewritten : Written → List ℕ → Plain → ℕ → Plain
rewritten w key old now = written old key w.flags w.expiry w.block now

-- what a write leaves that takes chunks
abbrev pub placed : Written → List ℕ → Plain → ℕ → Plain
placed w key old now =
    rewritten w key (with_chunk (found key old now) (block_need key w.block)) now

-- an item needs this, if there is one
abbrev pub needs_this : List ℕ → Option Entry → NeedState → Bool
needs_this key None need = false
needs_this key (Some item) need = same_need (item_need key item) need

-- two needs are there, and ask for the same
abbrev pub same_needs : Option NeedState → Option NeedState → Bool
same_needs None other = false
same_needs (Some one) None = false
same_needs (Some one) (Some other) = same_need one other

-- the item that stands under the key needs what the write does, so that its chunks hold it
abbrev pub StaysIn : Plain → (key : List ℕ) → Written → ℕ → Type 0
StaysIn old key w now = IsTrue (needs_this key (standing old key now) (block_need key w.block))

-- the number that a body counts to, and 0 if it counts none
abbrev pub number_in : Body → ℕ
number_in Given = 0
number_in Appended = 0
number_in Prepended = 0
number_in (Counted number) = number

-- the block of an item, and no bytes if there is none
abbrev pub block_in : Option Entry → List ℕ
block_in None = []
block_in (Some item) = item.block

-- the block that a body makes of a step's, of an old one and of a number's digits
abbrev pub made_block : Body → (block old digits : List ℕ) → List ℕ
made_block Given block old digits = block
made_block Appended block old digits = old ++ block
made_block Prepended block old digits = block ++ old
made_block (Counted number) block old digits = digits

-- a row that writes an item
abbrev pub WritesItem : Row → Type 0
WritesItem (Writes flags expiry body) = Unit {0}
WritesItem row = ⊥

-- what a row does at a step's key
abbrev pub applied : Row → KeyStep → Plain → ℕ → Outcome
applied row step old now =
    changed row step (standing old (key_of step) now) (found (key_of step) old now) now

-- what a retrieval does at a key
abbrev pub reading : Option Expiry → List ℕ → Plain → ℕ → Outcome
reading expiry key old now =
    let item = standing old key now in
    Answered (hit_of item) (perhaps_expiring item key expiry (found key old now))

-- what comes of a write that is done
abbrev pub done : CheckedWrite → List ℕ → Plain → ℕ → Outcome
done (Answer reply) key old now = Answered reply (found key old now)
done (Rewrite reply w) key old now = Answered reply (rewritten w key old now)
done (Place reply need w) key old now = Answered reply (placed w key old now)

-- an item that is written in the chunks of one that needs the same
pub record CanRewrite (reply : Reply) (w : Written) (key : List ℕ) (old : Plain) (now : ℕ)
    : Type 0 where
  pub copies : CopiesBlock reply
  pub stays : StaysIn old key w now
  pub number : old.next_unique ≢ 2 ^ 64 - 1

-- an item is written in other chunks: the ones that it needs
pub record CanPlace (reply : Reply) (need : NeedState) (w : Written) (key : List ℕ) (old : Plain)
    (now : ℕ) : Type 0 where
  pub copies : CopiesBlock reply
  pub need_is : need ≡ block_need key w.block
  pub is_need : IsNeed need
  pub room : IsTrue (has_room (found key old now) need)
  pub number : old.next_unique ≢ 2 ^ 64 - 1

-- a write that can be done
abbrev pub IsReady : CheckedWrite → List ℕ → Plain → ℕ → Type 0
IsReady (Answer reply) key old now = Unit {0}
IsReady (Rewrite reply w) key old now = CanRewrite reply w key old now
IsReady (Place reply need w) key old now = CanPlace reply need w key old now

-- a write that is made ready for what the plain machine says, or is refused
pub record Prepares (outcome : Outcome) (result : Result CheckedWrite StepFault) (key : List ℕ)
    (old : Plain) (now : ℕ) : Type 0 where
  pub ready : IfOk result (λ next. IsReady next key old now)
  pub same : IfOk result (λ next. done next key old now ≡ outcome)
  pub spent : result ≡ Err NumbersSpent → outcome ≡ Spent
  pub refused : result ≡ Err NoMemory → MayFail outcome
