-- How a proof stores an expiry.
use Rattle.std.specs.Prelude.{◌≡◌, ℕ, Option, Some, None, refl}
use Rattle.std.specs.Coded.{Coded, code_by, coded_ℕ, coded_option}
use Rattle.mc_time.specs.declared.expiry.Expiry.{Expiry}
use Rattle.mc_time.specs.declared.expiry.Expiry.TheVariants.{Never, At}

abbrev pub expiry_moment : Expiry → Option ℕ
expiry_moment Never = None
expiry_moment (At moment) = Some moment

abbrev pub moment_expiry : Option ℕ → Expiry
moment_expiry None = Never
moment_expiry (Some moment) = At moment

pub moment_expiry-expiry_moment : (expiry : Expiry) → moment_expiry (expiry_moment expiry) ≡ expiry
moment_expiry-expiry_moment Never = refl
moment_expiry-expiry_moment (At moment) = refl

abbrev pub coded_expiry : Coded Expiry
coded_expiry =
    code_by (Option ℕ) (coded_option coded_ℕ) expiry_moment moment_expiry
    moment_expiry-expiry_moment
