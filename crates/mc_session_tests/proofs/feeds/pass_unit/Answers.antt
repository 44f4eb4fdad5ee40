use Rattle.std.proofs.Common.{◌≡◌, ℕ, List, Option, Some, None, IfSome, sym, ◌∙◌, subst}
use Rattle.std.specs.Option.{option_map}
use Rattle.mc_parse.specs.Units.{ProtocolUnit}
use Rattle.mc_parse.specs.Peeks.{IsSpelled, unit_of}
use Rattle.mc_session_tests.proofs.feeds.pass_unit.Goals as goal

-- so many bytes spell what was found
found_len : (greatest passed : ℕ) (bytes : List ℕ) (len : ℕ) (found : Option (ProtocolUnit × ℕ)) → IfSome found (λ p. (passed ≡ 0) × IsSpelled greatest p bytes)
    → Some len ≡ option_map (λ p. p.1) found → (unit : ProtocolUnit) × IsSpelled greatest (unit, len) bytes × (passed ≡ 0)
found_len greatest passed bytes len None h e = absurd (cc)
found_len greatest passed bytes len (Some (unit, n)) h e =
    let same : n ≡ len = cc in
    (unit, subst (λ k. IsSpelled greatest (unit, k) bytes) same h.1, h.0)

pub done-requires : goal.done-requires
done-requires c = found_len c.args.feed.now.greatest c.args.feed.now.passed c.args.feed.now.bytes _ (unit_of c.peek.result) c.peek.ensures.found (sym c.in_ok-len.was ∙ c.len_of.ensures)
