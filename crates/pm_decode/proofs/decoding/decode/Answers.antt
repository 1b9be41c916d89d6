use Rattle.std.proofs.Common.{Ok, Err, false, ap, subst}
use Rattle.pm_lines.specs.Engine.{EngineEnds, over}
use Rattle.pm_decode.specs.Options.{no_formats_given, unnamed}
use Rattle.pm_decode.specs.Outcome.{telling_engine}
use Rattle.pm_decode.specs.declared.options.TellOptions.{TellOptions}
use Rattle.pm_decode.proofs.Shown.{plain_ends}
use Rattle.pm_decode.proofs.decoding.decode.Goals as goal

pub returns-in-Ok-clause-ends : goal.returns-in-Ok-clause-ends
returns-in-Ok-clause-ends g c =
    let run = over g.R.Read.remaining c.args.reader.now c.tell.new.reader g.W.Write.contents c.args.writer.now c.tell.new.writer in
    let P : TellOptions → Type 0 = λ options. EngineEnds (telling_engine options) run (Ok c.in-Ok.told) in
    plain_ends no_formats_given false 0 unnamed unnamed run (Ok c.in-Ok.told)
    (subst P c.none.ensures (c.in-Ok.ensures.short (ap (λ options. options.long) c.none.ensures)))

pub returns-in-Err-clause-ends : goal.returns-in-Err-clause-ends
returns-in-Err-clause-ends g c =
    let run = over g.R.Read.remaining c.args.reader.now c.tell.new.reader g.W.Write.contents c.args.writer.now c.tell.new.writer in
    let P : TellOptions → Type 0 = λ options. EngineEnds (telling_engine options) run (Err c.in-Err.fault) in
    plain_ends no_formats_given false 0 unnamed unnamed run (Err c.in-Err.fault)
    (subst P c.none.ensures (c.in-Err.ensures.short (ap (λ options. options.long) c.none.ensures)))
