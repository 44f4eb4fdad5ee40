-- What contracts see of an item that is lent where it lies.
use Rattle.std.specs.Prelude.{ℕ, List, refl}
use Rattle.std.specs.Coded.{Coded, code_by, coded×, coded_ℕ, coded_list}
use Rattle.mc_protocol.specs.Plain.{Entry, coded_entry}

-- its key, and the item
pub record HitState : Type 0 where
  pub key : List ℕ
  pub item : Entry

abbrev pub coded_hit : Coded HitState
coded_hit =
    code_by (List ℕ × Entry) (coded× (coded_list coded_ℕ) coded_entry) (λ h. (h.key, h.item))
    (λ p. record { key = p.0; item = p.1 })
    (λ _. refl)
