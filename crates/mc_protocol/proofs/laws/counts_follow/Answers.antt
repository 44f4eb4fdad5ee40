use Rattle.mc_protocol.proofs.CountLemmas.{count-empty, count-insert, count-remove, count-retain, count-parted}
use Rattle.mc_protocol.proofs.laws.counts_follow.Goals as goal

pub returns : goal.returns
returns c = record {
  empty = count-empty;
  insert = λ items key item class. count-insert class items key item;
  remove = λ items key class. count-remove class items key;
  retain = λ items keep class. count-retain class items keep;
  parted = λ items meant class. count-parted class items meant;
}
