use Rattle.std.proofs.Common.{◌≡◌, ℕ, ◌%◌, zero, suc, replicate, get_or, refl}
use Rattle.mc_shelf_tests.proofs.seen.count_keys.Goals as goal

no_count : (n at : ℕ) → ◌≡◌ {A = ℕ} (get_or (replicate n 0) at 0) 0
no_count zero at = refl
no_count (suc n) zero = refl
no_count (suc n) (suc at) = no_count n at

pub count_numbers-requires : goal.count_numbers-requires
count_numbers-requires c = record { many = refl; zero = λ key item hash there has. no_count 4096 (hash % 4096) }
