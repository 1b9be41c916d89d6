use Rattle.std.specs.Prelude.{◌≡◌, false, [], ◌∷◌, None, Ok, take}
use Rattle.std.proofs.Common.{◌∙◌, subst, sym}
use Rattle.pm_host.specs.Refusals.{is_busy}
use Rattle.pm_driver.specs.Acts.{IsNoWrite, Looked}
use Rattle.pm_driver.specs.Driven.{Driving, driven}
use Rattle.pm_driver.specs.Looks.{Looks}
use Rattle.pm_driver.proofs.Lives.{leads-lived}
use Rattle.pm_driver.proofs.Jobs.{IsLooked, looked-leads, looks-so}
use Rattle.pm_driver.proofs.driver.Driver.read.Goals as goal

pub invariant_of-self : goal.invariant_of-self
invariant_of-self g c =
    let old : Driving g.row.B.Denot = record { guard = c.self.inside.guard; bus = c.self.inside.bus } in
    let is : IsLooked g.B.Bus.gives g.B.Bus.held g.B.Bus.restarts c.args.request.now c.args.answer.now c.read.new.answer c.read.result old
    c.read.new.self = record {
      idle = subst (λ d. is_busy d.guard.host ≡ false) (sym c.self.view_is) (sym c.is_busy.ensures ∙ c.if-is_busy.false);
      plain = subst (λ d. IsNoWrite d.guard.host.setup.addr c.args.request.now) (sym c.self.view_is) c.requires.reads;
      fits = c.read.ensures.fits;
      asked = c.read.ensures.asked;
      once = c.read.ensures.gives;
      has = c.self.invariant;
    } in
    leads-lived g.B.Bus.gives g.B.Bus.held g.B.Bus.restarts
    (Looked c.args.request.now c.args.answer.now (take c.read.result c.read.new.answer) ∷ []) None (driven old)
    (record { host = old.guard.host; bus = c.read.new.self }) c.self.invariant
    (looked-leads g.B.Bus.gives g.B.Bus.held g.B.Bus.restarts c.looks_lead.ensures is)

pub returns : goal.returns
returns g c =
    let old : Driving g.row.B.Denot = record { guard = c.self.inside.guard; bus = c.self.inside.bus } in
    let new : Driving g.row.B.Denot = record { guard = old.guard; bus = c.read.new.self } in
    let is : IsLooked g.B.Bus.gives g.B.Bus.held g.B.Bus.restarts c.args.request.now c.args.answer.now c.read.new.answer c.read.result old
    c.read.new.self = record {
      idle = subst (λ d. is_busy d.guard.host ≡ false) (sym c.self.view_is) (sym c.is_busy.ensures ∙ c.if-is_busy.false);
      plain = subst (λ d. IsNoWrite d.guard.host.setup.addr c.args.request.now) (sym c.self.view_is) c.requires.reads;
      fits = c.read.ensures.fits;
      asked = c.read.ensures.asked;
      once = c.read.ensures.gives;
      has = c.self.invariant;
    } in
    subst (λ d. Looks g.B.Bus.gives g.B.Bus.held g.B.Bus.restarts c.args.request.now c.args.answer.now d (Ok c.read.result)
    c.read.new.answer new) c.self.view_is
    (looks-so c.laws_of_lives.ensures g.B.Bus.gives g.B.Bus.held g.B.Bus.restarts c.looks_lead.ensures is)
