-- What holds of each connection holds of those that stay.
use Rattle.std.proofs.Common.{ℕ, suc, List, ◌++◌, take, drop}
use Rattle.std.specs.List.{All, remove}
use Rattle.std.proofs.lemmas.List.Elements.{All-append, All-drop, All-take}

pub all_stay : {X : Type 0} (P : X → Type 0) (xs : List X) (at : ℕ) → All P xs → All P (remove xs at)
all_stay P xs at all = All-append P (take at xs) (drop (suc at) xs) (All-take P at xs all) (All-drop P (suc at) xs all)
