use Rattle.std.proofs.Common.{Some, None}
use Rattle.std.proofs.lemmas.Bool.Decides.{Decides-eqb}
use Rattle.std.proofs.lemmas.Slice.Eq.{strip_prefix_is}
use Rattle.pm_lines.proofs.LinesAndWords.{word-behind, word-is_other}
use Rattle.pm_lines.proofs.words.behind_word.Goals as goal

pub returns-in-Some : goal.returns-in-Some
returns-in-Some c =
    word-behind c.args.text.now c.args.word.now c.behind_space.result c.requires.word c.in-Some.rest.now
    (strip_prefix_is Decides-eqb c.args.text.now c.args.word.now (Some c.in-Some.rest) c.in-Some.ensures.cases) c.behind_space.ensures

pub returns-in-None : goal.returns-in-None
returns-in-None c =
    word-is_other c.args.word.now c.args.text.now c.requires.text
    (strip_prefix_is Decides-eqb c.args.text.now c.args.word.now None c.in-None.ensures.cases)
