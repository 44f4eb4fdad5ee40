-- What of the flags of the command line.
use Rattle.std.specs.Prelude.{◌≡◌, ℕ, Bool, true, false, List, Some, None, codes}
use Rattle.clap.specs.Words.{found_of, one_text}
use Rattle.clap.specs.declared.parser.matches.ArgMatches.{ArgMatches}

-- a flag of this name is set if clap found it on the command line, and not if it didn't
pub record IsFlagOf (matches : ArgMatches) (name : List ℕ) (taken : Bool) : Type 0 where
  pub set : one_text (found_of matches) name ≡ Some (codes "true") → taken ≡ true
  pub unset : one_text (found_of matches) name ≡ Some (codes "false") → taken ≡ false
  pub unknown : one_text (found_of matches) name ≡ None → taken ≡ false
