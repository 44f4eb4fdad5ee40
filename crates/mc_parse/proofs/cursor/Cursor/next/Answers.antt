use Rattle.std.proofs.Common.{◌∙◌, ap, drop, rules}
use Rattle.mc_parse.proofs.CursorLemmas.{within_next, points_next}
use Rattle.mc_parse.proofs.cursor.Cursor.next.Goals as goal

pub returns-clause-within : goal.returns-clause-within
returns-clause-within c =
    within_next c.args.self.now c.args.unread.now _ c.first_word_len.result c.saturating_sub.result
    (c.split_at-2.ensures.back ∙ ap (drop c.args.self.now.from) c.split_at.ensures.front) c.first_word_len.ensures.within c.first_word_len.ensures.rest (search rules) c.requires.within

pub returns-clause-points : goal.returns-clause-points
returns-clause-points c =
    points_next c.args.self.now c.args.unread.now _ c.first_word_len.result c.saturating_sub.result
    (c.split_at-2.ensures.back ∙ ap (drop c.args.self.now.from) c.split_at.ensures.front) c.first_word_len.ensures.within c.first_word_len.ensures.rest (search rules)
