use Rattle.std.proofs.Common.{IsSome, None, true≢false, sym, subst}
use Rattle.mc_sizes.specs.declared.settings.Settings.{Settings}
use Rattle.mc_options.proofs.AskedLemmas.{no_shelf_count}
use Rattle.mc_options.proofs.options.RawOptions.settings.Goals as goal

pub returns-clause-none : goal.returns-clause-none
returns-clause-none c = λ none.
    no_shelf_count c.args.self.shelves c.asked_or_usual-shelves.result c.asked_or_usual-shelves.ensures (λ fits.
    let some : IsSome {T = Settings} None =
    subst (IsSome {T = Settings}) none (c.new.ensures.exactly.1 (c.asked_or_usual-pages.ensures.range, c.greatest_of.ensures.range, fits)) in
    true≢false (sym some))
