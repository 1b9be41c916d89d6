use Rattle.std.proofs.lemmas.Str.{IsUtf8-from_ascii}
use Rattle.pm_trace.proofs.ValueLemmas.{letters_are_ascii}
use Rattle.pm_trace.proofs.content.text_of.Goals as goal

pub unreachable-requires : goal.unreachable-requires
unreachable-requires c =
    c.in-Err.ensures.cases.0 (IsUtf8-from_ascii c.args.letters.now (letters_are_ascii c.args.letters.now c.requires))
