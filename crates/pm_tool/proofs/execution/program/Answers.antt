use Rattle.std.proofs.Common.{◌∙◌, Ok, map, refl, string_bytes}
use Rattle.std.specs.Vec.Iter.{into_iter_items}
use Rattle.pm_tool.specs.Arguments.{arguments_of}
use Rattle.pm_tool.specs.Execution.{wants_memory}
use Rattle.pm_tool.proofs.Texts.{memory_ends, at_most_2, kept}
use Rattle.pm_tool.proofs.execution.program.Goals as goal

pub returns-in_default-clause-ends : goal.returns-in_default-clause-ends
returns-in_default-clause-ends g c =
    let e = c.refuse_memory.ensures in
    let words = map string_bytes (into_iter_items c.in-Ok.given) in
    rw (c.in-Ok.is, c.from-in_default.ensures) (
      wants_memory,
      memory_ends g.R.Read.remaining c.args.input.now words,
      record { status_is = e.status; printed = refl; said = e.said },
    )

pub returns-in_default-words_of-clause-ends : goal.returns-in_default-words_of-clause-ends
returns-in_default-words_of-clause-ends g c =
    let e = c.refuse_memory-in_default-words_of.ensures in
    let words = map string_bytes (into_iter_items c.in-Ok.given) in
    rw (c.in-Ok.is, c.from-in_default-words_of.ensures) (
      wants_memory,
      memory_ends g.R.Read.remaining c.args.input.now words,
      record { status_is = e.status; printed = refl; said = e.said },
    )

pub returns-clause-status : goal.returns-clause-status
returns-clause-status g c =
    let (end, runs, is) = c.run-2.ensures in
    kept _ _ (c.from-2.ensures ∙ is.status_is) (at_most_2 g.R.Read.remaining c.args.input.now c.run-2.new.input (arguments_of (Ok c.as_slice.result)) end runs)
