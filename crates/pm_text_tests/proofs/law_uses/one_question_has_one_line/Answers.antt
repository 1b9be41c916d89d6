use Rattle.pm_text_tests.proofs.law_uses.one_question_has_one_line.Goals as goal

pub returns : goal.returns
returns c asked first second one two format = c.number_has_one_text.ensures asked format first second one two
