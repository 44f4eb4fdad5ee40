-- What a number's word tells of a key.
use Rattle.mc_shared.proofs.Words.{◌≡◌, ◌==◌, ℕ, eqb, List, [], eq-eqb, number_of, Beginning, after, SeatView, Shows, IsShown}
use Rattle.mc_shared.proofs.NumberLemmas.{count_none, none_counted}
use Rattle.mc_shared.proofs.NumberSteps.{eqb_true}

pub shown : (start : Beginning) (v : SeatView) (key : List ℕ) (word : ℕ) → Shows start v (number_of start.hash_of key) word → v.bays ≡ [] → IsShown start v.past key (eqb word 0)
shown start v key word shows bare =
    let n : ℕ = number_of start.hash_of key in record {
      log = shows.log;
      legal = shows.legal;
      keeps = shows.keeps;
      gone = λ e other same. none_counted (λ k. number_of start.hash_of k == n) (after start start.plain shows.log).items (shows.gone (eqb_true word 0 e)) other
          (eq-eqb (number_of start.hash_of other) n same);
      zero = λ whole none. eq-eqb word 0
          (shows.zero whole bare (count_none (λ k. number_of start.hash_of k == n) (after start start.plain shows.log).items (λ k passes. none k (eqb_true (number_of start.hash_of k) n passes))));
    }
