-- What is counted of what a seat holds.
use Rattle.mc_shared.proofs.Words.{ℕ, List, refl, ap, subst, Mine, AllFit, after, start_of, SharedState, Sitter, HoldsShelf, HoldsBoth, ShelfState, ShelfContent, DeskState, counts_of}
use Rattle.mc_shared.proofs.Words.{AreCountsAfter, ◌-◌, slice_index, IsClass, pages_of, out_of, IsDeskOf, IsAccountAfter}

-- a shelf that is held has its part of the state that its seat's past may have
pub counts_after : {K : Type 0} (hash_of : K → List ℕ → ℕ) (shared : SharedState K) (seat : Sitter) (at : ℕ) (shelf : ShelfState) → HoldsShelf hash_of shared seat at shelf.content
    → AreCountsAfter (start_of hash_of shared.began) seat.me.0.past at (counts_of shelf)
counts_after hash_of shared seat at shelf holds =
    let began = start_of hash_of shared.began in
    let fits = holds.fits in record {
      log = fits.log;
      legal = fits.legal;
      keeps = fits.keeps;
      shelf = shelf;
      part = (subst (AllFit began (after began began.plain fits.log)) (ap (λ (m : Mine). m.0.bays) holds.held) fits.fits).0.1;
      counted = refl;
    }

-- and the account of a class is that of such a state
pub account_after : {K : Type 0} (hash_of : K → List ℕ → ℕ) (shared : SharedState K) (seat : Sitter) (at : ℕ) (f : ShelfContent) (d : DeskState) → HoldsBoth hash_of shared seat at f d
    → (class : ℕ) → IsClass class → IsAccountAfter (start_of hash_of shared.began) seat.me.0.past class (record { pages = pages_of d.slab class; out = out_of d.slab class })
account_after hash_of shared seat at f d holds class is =
    let began = start_of hash_of shared.began in
    let fits = holds.fits in
    let desk : IsDeskOf (after began began.plain fits.log) d =
    (subst (AllFit began (after began began.plain fits.log)) (ap (λ (m : Mine). m.0.bays) holds.held) fits.fits).0.1 in record {
      log = fits.log;
      legal = fits.legal;
      keeps = fits.keeps;
      pages = ap (λ (pages : List ℕ). slice_index pages (class - 1)) desk.pages;
      out = desk.out class is;
    }
