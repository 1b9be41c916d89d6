-- The format is written at the place of its output, and seen through what its numbers mean.
use Rattle.std.proofs.Common.{ap, ◌∙◌, map, set}
use Rattle.std.proofs.lemmas.List.{map-set}
use Rattle.pm_host.specs.Image.{format_held, formats_held}
use Rattle.pm_host.specs.Memory.{format_image, AreFormatImages}
use Rattle.pm_host.proofs.Memory.{set-written}
use Rattle.pm_host.proofs.state.turns.put_format.Goals as goal

pub returns-clause-held : goal.returns-clause-held
unfolding formats_held
returns-clause-held c =
    map-set format_held c.args.formats.now c.from.result c.args.format
    ∙ ap (λ at. set (map format_held c.args.formats.now) at (format_held c.args.format)) c.from.ensures

pub returns-clause-written : goal.returns-clause-written
unfolding AreFormatImages formats_held
returns-clause-written c = λ format are.
    set-written format_held format_image c.args.formats.now c.from.result c.args.format are format
