-- The names of a directory that is read piece by piece.
use Rattle.std.proofs.Common.{◌≡◌, refl, sym, ap, ◌∙◌, ℕ, ◌+◌, ◌-◌, ◌^◌, ◌==◌, min, cond, List, [], ◌∷◌, ◌++◌, Option, Some, None, arith}
use Rattle.std.specs.List.{count_by}
use Rattle.std.specs.Prelude.{IfSome}
use Rattle.std.specs.Io.KnownBytes.{Consumes, IsAtEnd}
use Rattle.std.proofs.lemmas.List.Sums.{sum_by-append}
use Rattle.mc_telemetry.specs.Processes.{names_in}

append-assoc : (a b c : List ℕ) → (a ++ b) ++ c ≡ a ++ (b ++ c)
append-assoc [] b c = refl
append-assoc (x ∷ a) b c = ap (λ rest. x ∷ rest) (append-assoc a b c)

append-none : (a : List ℕ) → a ++ [] ≡ a
append-none [] = refl
append-none (x ∷ a) = ap (λ rest. x ∷ rest) (append-none a)

-- a piece more is read
pub consumes-more : (all before after : Option (List ℕ)) (more piece : List ℕ) → Consumes all before more
    → Consumes before after piece → Consumes all after (more ++ piece)
consumes-more None before after more piece was is = tt
consumes-more (Some xs) None after more piece was is = absurd was
consumes-more (Some xs) (Some ys) None more piece was is = absurd is
consumes-more (Some xs) (Some ys) (Some zs) more piece was is =
    was ∙ ap (λ rest. more ++ rest) is ∙ sym (append-assoc more piece zs)

-- nothing was read yet
pub consumes-none : (all : Option (List ℕ)) → Consumes all all []
consumes-none None = tt
consumes-none (Some xs) = refl

pub names-more : (more piece : List ℕ)
    → min (names_in more + count_by (λ b. b == 0) piece) (2 ^ 64 - 1) ≡ names_in (more ++ piece)
names-more more piece = omega (arith, sum_by-append (λ b. cond (b == 0) 1 0) more piece)

-- all was read
pub counted-all : (all last : Option (List ℕ)) (more : List ℕ) (count : ℕ) → Consumes all last more → IsAtEnd last
    → count ≡ names_in more → IfSome all (λ listing. count ≡ names_in listing)
counted-all None last more count was over is = tt
counted-all (Some xs) None more count was over is = absurd was
counted-all (Some xs) (Some ys) more count was over is =
    is ∙ ap names_in (sym (was ∙ ap (λ rest. more ++ rest) over ∙ append-none more))
