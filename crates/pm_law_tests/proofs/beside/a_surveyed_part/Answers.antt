use Rattle.std.proofs.Common.{◌∙◌, List, sym, ap, subst}
use Rattle.pm_host.specs.Summary.{Summary}
use Rattle.pm_limits.specs.Band.{band_at}
use Rattle.pm_limits.specs.Part.{all_registers}
use Rattle.pm_rail.specs.Registers.{wants_of}
use Rattle.pm_rail.specs.Survey.{is_surveyed, wanted_in}
use Rattle.pm_part_laws.specs.Happenings.{Happening, IsLifeBeside, beside}
use Rattle.pm_part_laws.specs.Surveys.{AreKnownSinceBeside}
use Rattle.pm_law_tests.proofs.Uses.{lacks-none}
use Rattle.pm_law_tests.proofs.beside.a_surveyed_part.Goals as goal

pub returns : goal.returns
returns g c v later before band at here are steady surveyed gives =
    let held = g.life.held in
    let passes = g.life.passes in
    let law = c.surveys_beside.ensures in
    let lived = c.requires.lived in
    let known = law.known held passes all_registers v later before (subst (λ (l : List Happening). IsLifeBeside held passes l) at lived) here
    (λ register lacks. absurd (lacks-none c.whole_parts_miss_nothing.ensures register lacks)) are steady
    (ap (λ (l : List Happening). is_surveyed all_registers v (beside held passes l).host) (sym at)
    ∙ (ap (λ (s : Summary). is_surveyed all_registers v s) (sym c.requires.host_is) ∙ surveyed)) in
    law.one held passes all_registers v.output (wants_of (wanted_in v.plan)) band g.life.happened lived here
    (c.plans_hold_in_lives.ensures.whole held.config (beside held passes g.life.happened).device.words v.output)
    (subst (λ (l : List Happening). AreKnownSinceBeside held passes all_registers v.output (wants_of (wanted_in v.plan)) l) (sym at) known)
    (ap (λ (s : Summary). band_at all_registers s v.output) (sym c.requires.host_is) ∙ gives)
