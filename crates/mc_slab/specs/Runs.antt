-- The uncut memory of a class. It lies in runs.
use Rattle.std.specs.Prelude.{◌≡◌, ℕ, ◌*◌, ◌/◌, ◌<◌, ◌≤◌, List, max, refl, vec_capacity}
use Rattle.std.specs.Coded.{Coded, code_by, coded×, coded_ℕ}
use Rattle.std.specs.List.{All, sum_by}
use Rattle.mc_slab.specs.Classes.{size_of}
use Rattle.mc_slab.specs.Chunks.{AreChunksOf}
use Rattle.mc_slab.specs.declared.run.Memory.{Memory}
use Rattle.mc_slab.specs.declared.run.Memory.TheVariants.{Bytes, Chunk}

-- what contracts see of a run, and of all runs of a class: the class, and how many chunks are to be cut
pub record UncutState : Type 0 where
  pub class : ℕ
  pub count : ℕ

-- how a proof stores it
abbrev pub coded_uncut : Coded UncutState
coded_uncut =
    code_by (ℕ × ℕ) (coded× coded_ℕ coded_ℕ) (λ u. (u.class, u.count))
    (λ p. record { class = p.0; count = p.1 })
    (λ _. refl)

-- what contracts see of pages that a class is to get: the class, and how many they are
pub record PagesState : Type 0 where
  pub class : ℕ
  pub count : ℕ

-- how a proof stores it
abbrev pub coded_pages : Coded PagesState
coded_pages =
    code_by (ℕ × ℕ) (coded× coded_ℕ coded_ℕ) (λ p. (p.class, p.count))
    (λ p. record { class = p.0; count = p.1 })
    (λ _. refl)

-- how many chunks of the class a run has: as many as fit in 32768 bytes, and one if none does
abbrev pub chunks_a_run : ℕ → ℕ
chunks_a_run class = max (32768 / size_of class) 1

-- the memory gives `count` chunks of the class
abbrev pub IsMemoryOf : (class count : ℕ) → Memory → Type 0
IsMemoryOf class count (Bytes bytes) = (class < 27) × (count * size_of class ≤ vec_capacity bytes)
IsMemoryOf class count (Chunk chunk) =
    (27 ≤ class) × (count ≡ 1) × AreChunksOf (record { class = class; count = 1 }) chunk

-- how many chunks are to be cut of runs
abbrev pub uncut : List UncutState → ℕ
uncut runs = sum_by (λ run. run.count) runs

-- a run of the class, which gives a chunk
pub record IsRunOf (class : ℕ) (run : UncutState) : Type 0 where
  pub same_class : run.class ≡ class
  pub some : 1 ≤ run.count

-- runs of the class; each gives a chunk
abbrev pub AreRunsOf : ℕ → List UncutState → Type 0
AreRunsOf class runs = All (IsRunOf class) runs
