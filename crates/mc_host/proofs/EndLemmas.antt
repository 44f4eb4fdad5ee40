-- How a program ends that can't listen at one of its endpoints.
use Rattle.std.proofs.Common.{◌≡◌, sym, subst, ℕ, ◌<◌, length, List, slice_index_or, slice_get, Some, inr}
use Rattle.std.proofs.lemmas.Option.{slice_get-get_or}
use Rattle.mc_options.specs.declared.endpoints.ListenAddress.{ListenAddress}
use Rattle.mc_options.specs.declared.endpoints.Endpoints.{Endpoints}
use Rattle.mc_host.specs.declared.end.End.{End}
use Rattle.mc_host.specs.declared.end.End.TheVariants as end
use Rattle.mc_host.specs.Ends.{IsOneOf, EndsUnboundAt, EndsUnbound}

-- at one of the endpoints
unbound_at : (all : Endpoints) (one : ListenAddress) (e : End) → IsOneOf all one → EndsUnboundAt one e → EndsUnbound all e
unbound_at all one (end.CannotListen it) is names = subst (IsOneOf all) (sym names) is
unbound_at all one end.NoMemory is names = tt
unbound_at all one _ is other = absurd other

pub unbound_at_another : (all : Endpoints) (items : List ListenAddress) (i : ℕ) (d : ListenAddress) (e : End)
    → items ≡ all.others.items → i < length items → EndsUnboundAt (slice_index_or items i d) e → EndsUnbound all e
unbound_at_another all items i d e same within =
    unbound_at all (slice_index_or items i d) e
    (inr (i, subst (λ xs. slice_get xs i ≡ Some (slice_index_or items i d)) same (slice_get-get_or items i d within)))
