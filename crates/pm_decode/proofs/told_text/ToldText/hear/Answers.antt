use Rattle.std.proofs.Common.{rules}
use Rattle.pm_decode.proofs.Shown.{gathered_as, usual_told_in}
use Rattle.pm_decode.proofs.told_text.ToldText.hear.Goals as goal

pub returns-clause-told : goal.returns-clause-told
returns-clause-told c = gathered_as c.hear_usual.result c.hear_usual.new.self c.args.self.now _ _
    (usual_told_in c.args.options.now c.args.heard.now.known c.args.number c.in-Some.usual c.args.line.now c.in-Ok.packet
    (search rules) (search rules) c.in-Ok.is c.in-Some.ensures) c.hear_usual.ensures.told
