use Rattle.std.proofs.Common.{◌≡◌, ℕ, ◌+◌, List, ◌++◌, length, ap, subst, ◌∙◌}
use Rattle.mc_slab.specs.Chunks.{ChunksState, AreChunks}
use Rattle.mc_slab.proofs.ChunkLemmas.{in_front_are, single_is}
use Rattle.mc_slab.proofs.chunks.Chunks.in_front.Goals as goal

pub in_front-requires : goal.in_front-requires
in_front-requires c =
    let single = single_is c.args.one c.requires.one in
    record {
      one = (
        c.into_sheet-one.ensures.0 ∙ ap (λ (s : ChunksState). s.count) c.one.view_is ∙ single.0,
        ap length (c.into_sheet-one.ensures.1 ∙ ap (λ (s : ChunksState). s.bytes) c.one.view_is) ∙ single.1,
      );
    }

pub of_sheets-requires : goal.of_sheets-requires
of_sheets-requires c =
    let first : c.into_sheet-one.result.value.1.0 ≡ c.args.one.bytes = c.into_sheet-one.ensures.1 ∙ ap (λ (s : ChunksState). s.bytes) c.one.view_is in
    let top : c.into_sheet-one.result.value.1.1 ≡ c.args.one.head = c.into_sheet-one.ensures.2 ∙ ap (λ (s : ChunksState). s.head) c.one.view_is in
    let others : c.into_sheet-behind.result.value.0 ≡ c.args.behind.count = c.into_sheet-behind.ensures.0 ∙ ap (λ (s : ChunksState). s.count) c.behind.view_is in
    let rest : c.into_sheet-behind.result.value.1.0 ≡ c.args.behind.bytes = c.into_sheet-behind.ensures.1 ∙ ap (λ (s : ChunksState). s.bytes) c.behind.view_is in
    let count : c.in_front.result.value.0 ≡ 1 + c.args.behind.count = ap (λ (p : ℕ × (List ℕ × List ℕ)). p.0) c.in_front.ensures ∙ ap (λ (n : ℕ). 1 + n) others in
    let bytes : c.in_front.result.value.1.0 ≡ c.args.one.bytes ++ c.args.behind.bytes = ap (λ (p : ℕ × (List ℕ × List ℕ)). p.1.0) c.in_front.ensures
    ∙ ap (λ (l : List ℕ). l ++ c.into_sheet-behind.result.value.1.0) first
    ∙ ap (λ (l : List ℕ). c.args.one.bytes ++ l) rest in
    let head : c.in_front.result.value.1.1 ≡ c.args.one.head = ap (λ (p : ℕ × (List ℕ × List ℕ)). p.1.1) c.in_front.ensures ∙ top in
    rw (count, bytes, head) (in_front_are c.args.one c.args.behind c.requires.one (subst AreChunks c.behind.view_is c.behind.invariant) c.requires.behind.0 c.requires.behind.1)
