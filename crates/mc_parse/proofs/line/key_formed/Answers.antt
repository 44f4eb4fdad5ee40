use Rattle.std.proofs.Common.{◌∙◌, ap, sym, length, ◌-◌, ◌+◌, take, drop, Ok, Err, if◌then◌else◌}
use Rattle.mc_protocol.specs.declared.fault.LineFault.TheVariants.{BadFormat}
use Rattle.mc_parse.proofs.NoteLemmas.{word_in}
use Rattle.mc_parse.proofs.line.key_formed.Goals as goal

pub returns : goal.returns
returns c =
    let text = c.args.text.now in
    let key = c.args.key.now in (
      ap (λ b. if b then Ok key else Err BadFormat) (sym c.if-not-is_key.ensures),
      ap (λ n. take n (drop c.new.result.from text)) c.new.ensures.len
          ∙ ap (λ n. take (length key) (drop n text)) c.new.ensures.from
          ∙ word_in text c.args.args.now key c.spaces_len.result c.requires.tail (c.spaces_len.ensures.first key c.requires.first.0 c.requires.first.1),
    )
