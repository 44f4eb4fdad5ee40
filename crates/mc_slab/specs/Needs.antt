-- What a charge needs, as `mc_sizes` has it.
pub use Rattle.mc_sizes.specs.Needs.{NeedState, coded_need, largest_charge, need_for, need_of, IsNeed, size_in, same_need, IsSmaller}
