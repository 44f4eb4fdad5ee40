-- What is done about errors of accept.
use Rattle.std.specs.Prelude.{ℕ, ◌==◌, ◌||◌, if◌then◌else◌}
use Rattle.mc_sockets.specs.declared.remedy.Remedy.{Remedy}
use Rattle.mc_sockets.specs.declared.remedy.Remedy.TheVariants as remedy

-- the remedy for an error of accept(2), by Linux's number: EBADF, EINVAL and ENOTSOCK are the listener's own; ENFILE and EMFILE
-- say that there is no descriptor, ENOMEM and ENOBUFS that there is no memory; all others, EOPNOTSUPP and the network's among
-- them, are tried again
abbrev pub remedy_of : ℕ → Remedy
remedy_of number =
    if (number == 9) || ((number == 22) || (number == 88)) then remedy.End
    else if (number == 23) || (number == 24) then remedy.FreeSpare
    else if (number == 12) || (number == 105) then remedy.AwaitMemory
    else remedy.Retry
