-- What a charge needs.
use Rattle.std.proofs.Common.{◌≡◌, ℕ, ◌+◌, ◌*◌, ◌/◌, ◌<◌, ◌≤◌, inl, inr, ap, ◌∙◌, arith}
use Rattle.mc_sizes.specs.Classes.{size_of}
use Rattle.mc_sizes.specs.Needs.{NeedState, IsNeed, IsSmaller, size_in}
use Rattle.mc_sizes.proofs.ClassLemmas.{size_of-last, size_of-most}

-- so many pages hold the charge
pub pages_hold : (charge count : ℕ) → count ≡ (charge + 1048575) / 1048576 → charge ≤ count * size_of 40
pages_hold charge count is = rw size_of-last (omega arith)

-- and what is smaller doesn't
pub pages_least : (charge count : ℕ) (smaller : NeedState) → 1048576 < charge → count ≡ (charge + 1048575) / 1048576 → IsNeed smaller
    → IsSmaller smaller (record { class = 40; count = count }) → size_in smaller < charge
pages_least charge count smaller above is need less =
    elim less [
      | inl below ↦
          elim need.pages [
            | inl one ↦
                let most : size_of smaller.class ≤ 1048576 = size_of-most smaller.class need.is_class in
                rw one (omega arith)
            | inr last ↦ absurd (omega arith)
          ]
      | inr fewer ↦
          let size : size_of smaller.class ≡ 1048576 = ap (λ (k : ℕ). size_of k) fewer.0 ∙ size_of-last in
          rw size (omega arith)
    ]
