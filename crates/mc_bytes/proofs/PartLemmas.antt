-- Parts of memory, one behind another.
use Rattle.std.proofs.Common.{◌≡◌, List, ℕ, [], ◌∷◌, ◌++◌, sym, ap, ◌∙◌}
use Rattle.std.specs.List.{concat}
use Rattle.std.proofs.lemmas.List.{append_assoc, append-nil}
use Rattle.std.proofs.lemmas.List.Folds.{concat-append}

-- a part behind all others has its bytes behind theirs
pub added_behind : (first part : List ℕ) (rest : List (List ℕ)) → first ++ concat (rest ++ part ∷ []) ≡ first ++ concat rest ++ part
added_behind first part rest =
    ap (λ l. first ++ l) (concat-append rest (part ∷ []) ∙ ap (λ l. concat rest ++ l) (append-nil part)) ∙ sym (append_assoc first (concat rest) part)
