-- What a seat knows: a past, the bays that it holds, each with its content, and the presence words
-- that count too many keys, each as often as it does.
use Rattle.std.specs.Prelude.{◌≡◌, ℕ, List, [], refl}
use mathlib.Core.Logic.{inl, inr, ◌⊎◌}
use Rattle.std.specs.Coded.{Coded, code_by, coded×, coded⊎, coded_ℕ, coded_list}
use Rattle.std.proofs.Common.{ap}
use mir.Syntax.{static}
use base.Stored.{Gv, gnil, gnum, gcons}
use Rattle.mc_protocol.specs.declared.step.KeyStep.{KeyStep}
use Rattle.mc_protocol.specs.declared.reply.Reply.{Reply}
use Rattle.mc_protocol.specs.contracts.step.KeyStep.{the_row as step_row}
use Rattle.mc_protocol.specs.contracts.reply.Reply.{the_row as reply_row}
use Rattle.mc_shared.specs.History.{Name, HistoryEntry, Operation, Stepped, Purged}
use Rattle.mc_shared.specs.Past.{Past, spent, start, call, made, both}
use Rattle.mc_shared.specs.Bays.{Content, content_code}

abbrev operation_parts : Operation → (KeyStep × (ℕ × Reply)) ⊎ (ℕ × ℕ)
operation_parts (Stepped step now reply) = inl (step, (now, reply))
operation_parts (Purged shelf now) = inr (shelf, now)

abbrev operation_made : (KeyStep × (ℕ × Reply)) ⊎ (ℕ × ℕ) → Operation
operation_made (inl p) = Stepped p.0 p.1.0 p.1.1
operation_made (inr p) = Purged p.0 p.1

pub operation_same : (x : Operation) → operation_made (operation_parts x) ≡ x
operation_same (Stepped step now reply) = refl
operation_same (Purged shelf now) = refl

abbrev pub operation_code : Coded Operation
operation_code = code_by _ (coded⊎ (coded× (step_row record { mir = static; lft = [] }).coded
    (coded× coded_ℕ reply_row.coded)) (coded× coded_ℕ coded_ℕ)) operation_parts operation_made operation_same

abbrev pub entry_code : Coded HistoryEntry
entry_code = code_by _ (coded× (coded_list coded_ℕ) (coded× coded_ℕ operation_code))
    (λ e. (e.by, (e.number, e.what))) (λ p. record { by = p.0; number = p.1.0; what = p.1.1 })
    (λ _. refl)

abbrev name_code : Coded Name
name_code = coded_list coded_ℕ

abbrev past_gv : Past → Gv
past_gv spent = gnil
past_gv (start c p) = gcons (gnum 0) (gcons (name_code.code c) (past_gv p))
past_gv (call p e) = gcons (gnum 1) (gcons (entry_code.code e) (past_gv p))
past_gv (made p d) = gcons (gnum 2) (gcons (name_code.code d) (past_gv p))
past_gv (both p q) = gcons (gnum 3) (gcons (past_gv p) (past_gv q))

abbrev g_head : Gv → Gv
g_head (gcons a b) = a
g_head _ = gnil

abbrev g_tail : Gv → Gv
g_tail (gcons a b) = b
g_tail _ = gnil

pub past_inj : (x y : Past) → past_gv x ≡ past_gv y → x ≡ y
past_inj spent spent e = refl
past_inj (start c p) (start d q) e = λ i. start (name_code.inj c d (ap (λ g. g_head (g_tail g)) e)
    i) (past_inj p q (ap (λ g. g_tail (g_tail g)) e) i)
past_inj (call p c) (call q d) e = λ i. call (past_inj p q (ap (λ g. g_tail (g_tail g)) e) i)
    (entry_code.inj c d (ap (λ g. g_head (g_tail g)) e) i)
past_inj (made p c) (made q d) e = λ i. made (past_inj p q (ap (λ g. g_tail (g_tail g)) e) i)
    (name_code.inj c d (ap (λ g. g_head (g_tail g)) e) i)
past_inj (both p c) (both q d) e = λ i. both (past_inj p q (ap (λ g. g_head (g_tail g)) e) i)
    (past_inj c d (ap (λ g. g_tail (g_tail g)) e) i)
past_inj x y e = absurd (cc e)

abbrev pub past_code : Coded Past
past_code = record { code = past_gv; inj = past_inj }

pub record SeatView : Type 0 where
  pub past : Past
  pub bays : List (ℕ × Content)
  pub surplus : List ℕ

abbrev pub view_code : Coded SeatView
view_code = code_by _
    (coded× past_code (coded× (coded_list (coded× coded_ℕ content_code)) (coded_list coded_ℕ)))
    (λ k. (k.past, (k.bays, k.surplus)))
    (λ p. record { past = p.0; bays = p.1.0; surplus = p.1.1 }) (λ _. refl)

abbrev pub starting : SeatView
starting = record { past = start [] spent; bays = []; surplus = [] }
