use Rattle.std.proofs.Common.{◌≡◌, take, arith}
use Rattle.mc_item.specs.Layout.{Header}
use Rattle.mc_item.proofs.LayoutLemmas.{header_bytes, Reads-taken, header_in-reads}
use Rattle.mc_item.proofs.header.header_bytes.Goals as goal

pub returns-clause-value : goal.returns-clause-value
returns-clause-value c =
    let taken : take 48 c.put_u32-4.new.bytes ≡ header_bytes c.args.hash c.args.flags c.numbers_of-expires.result.0 c.numbers_of-expires.result.1
    c.args.unique c.seconds.result c.args.lengths.0 c.args.lengths.1 = cc in
    let header : Header = record {
      hash = c.args.hash;
      flags = c.args.flags;
      expiry = c.args.expiry;
      unique = c.args.unique;
      updated = c.args.updated;
      key_length = c.args.lengths.0;
      block_length = c.args.lengths.1;
    } in
    header_in-reads header c.numbers_of-expires.result.0 c.numbers_of-expires.result.1 c.seconds.result _ c.numbers_of-expires.ensures.expires
    c.numbers_of-expires.ensures.moment c.seconds.ensures.value
    (Reads-taken _ _ _ _ _ _ _ _ _ taken (omega arith) (omega arith) (omega arith) (omega arith) (omega arith) (omega arith) (omega arith) (omega arith))
