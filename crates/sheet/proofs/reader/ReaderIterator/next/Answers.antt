use Rattle.std.proofs.Common.{◌∙◌, refl, rules, tests}
use Rattle.std.proofs.lemmas.List.{take_rest}
use Rattle.sheet.proofs.Cutting.{next_line, piece_at}
use Rattle.sheet.proofs.reader.ReaderIterator.next.Goals as goal

pub returns-clause-steps : goal.returns-clause-steps
returns-clause-steps c =
    let s = c.args.self.now in
    let p = next_line _ (λ x b q k. search (rules, tests)) c.split_inclusive.result c.next.new.self c.in_ok-text.text c.in_ok-text.ensures.steps in
    record { piece = piece_at s.sheet.now s.place _ c.in_ok-text.text.now _ (c.split_inclusive.ensures.rest ∙ take_rest s.sheet.now s.place) p; number = refl; counted = refl; sheet = refl }
