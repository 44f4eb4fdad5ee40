-- What a charge needs: a number of chunks of a class.
use Rattle.std.specs.Prelude.{◌≡◌, ◌⊎◌, ℕ, ◌+◌, ◌-◌, ◌*◌, ◌/◌, ◌<◌, ◌≤◌, ◌==◌, ◌&&◌, Bool, Option, Some, None, nat_le, refl, if◌then◌else◌}
use Rattle.std.specs.Coded.{Coded, code_by, coded×, coded_ℕ}
use Rattle.mc_sizes.specs.Classes.{IsClass, page_size, size_of, class_holding}
use Rattle.mc_sizes.specs.declared.need.TheConstants.{LARGEST_CHARGE}

-- a number of chunks of a class
pub record NeedState : Type 0 where
  pub class : ℕ
  pub count : ℕ

-- how a proof stores it
abbrev pub coded_need : Coded NeedState
coded_need =
    code_by (ℕ × ℕ) (coded× coded_ℕ coded_ℕ) (λ n. (n.class, n.count))
    (λ p. record { class = p.0; count = p.1 })
    (λ _. refl)

-- how many bytes the largest charge has that chunks can hold: those of eight pages
abbrev pub largest_charge : ℕ
largest_charge = LARGEST_CHARGE

-- what a charge needs: one chunk of the smallest class that holds it, and above a page as many whole pages as hold it
abbrev pub need_for : ℕ → NeedState
need_for charge =
    if nat_le charge page_size then record { class = class_holding charge; count = 1 }
    else record { class = 40; count = (charge + (page_size - 1)) / page_size }

-- the same if it is at most eight pages
abbrev pub need_of : ℕ → Option NeedState
need_of charge = if nat_le charge largest_charge then Some (need_for charge) else None

-- What is true of every need: it asks for one chunk of a class, or for two to eight whole pages.
pub record IsNeed (need : NeedState) : Type 0 where
  pub is_class : IsClass need.class
  pub some : 1 ≤ need.count
  pub most : need.count ≤ 8
  pub pages : (need.count ≡ 1) ⊎ (need.class ≡ 40)

-- how many bytes its chunks have together
abbrev pub size_in : NeedState → ℕ
size_in need = need.count * size_of need.class

-- two needs ask for the same
abbrev pub same_need : NeedState → NeedState → Bool
same_need a b = (a.class == b.class) && (a.count == b.count)

-- a need asks for less than another: for a smaller class, or for fewer chunks of the same
abbrev pub IsSmaller : NeedState → NeedState → Type 0
IsSmaller a b = (a.class < b.class) ⊎ ((a.class ≡ b.class) × (a.count < b.count))
