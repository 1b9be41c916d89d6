use Rattle.std.proofs.Common.{◌<◌, sym, subst}
use Rattle.pm_num.specs.Ratio.{Ratio, AtMost}
use Rattle.pm_host.proofs.Memory.{outside_fault-some}
use Rattle.pm_host.proofs.state.microvolts.word_in.Goals as goal

pub returns-in-Ok-clause-found : goal.returns-in-Ok-clause-found
returns-in-Ok-clause-found g c = c.nearest_words_hold.ensures.found c.args.x c.in-Ok.word c.in-Ok.ensures.word

pub returns-in-Err-clause-fault : goal.returns-in-Err-clause-fault
returns-in-Err-clause-fault g c =
    let f = c.args.format.now in
    let met = g.met.F.NumFormat.greatest_met f in
    let within = g.met.F.NumFormat.within f met.0 met.1 in
    let den = g.met.F.NumFormat.has_den f met.0 met.1 in
    sym (outside_fault-some (g.F.NumFormat.lowest f) (g.F.NumFormat.highest f) c.args.x c.in-Err.fault
    (subst (λ (v : Ratio). 0 < v.den) met.2 den)
    (subst (λ (v : Ratio). AtMost (g.F.NumFormat.lowest f) v) met.2 within.from_least)
    c.in-Err.ensures.refused)
