use Rattle.mc_shared.proofs.Words.{arith, ◌%◌}
use Rattle.mc_shared.proofs.count.count_shelf.Goals as goal

pub count_numbers-requires : goal.count_numbers-requires
count_numbers-requires c = record {
  many = c.no_counts-counts.ensures.many;
  zero = λ key item hash stands stored. c.no_counts-counts.ensures.none (hash % 4096);
}

pub returns : goal.returns
returns c = record {
  many = c.count_numbers.ensures.many;
  counted = λ hash_of are number low.
      let was = c.no_counts-counts.ensures.none number in
      let more = c.count_numbers.ensures.counted hash_of are number low in
      omega (arith, was, more);
}
