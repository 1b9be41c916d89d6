use Rattle.std.proofs.Common.{[], length, replicate, take, inl, inr, refl, sym, ◌∙◌, subst}
use Rattle.pm_driver.specs.declared.adapter.ReadEnd.TheVariants as read
use Rattle.pm_driver.specs.Adapter.{Asks}
use Rattle.pm_driver.specs.Bus.{IsAsked}
use Rattle.pm_driver.specs.Patience.{asks_patiently}
use Rattle.pm_driver.proofs.SimulatedBuses.{room-so, waits-last, waits-more, waits-none, waits-over}
use Rattle.pm_driver.proofs.buses.patient.PatientBus.read.Goals as goal

pub reads-init : goal.reads-init
reads-init g c = record {
  tries = refl;
  long = refl;
  waits = λ came new. waits-none g.A.Adapter.held g.A.Adapter.restarts
      (λ left now. asks_patiently g.A.Adapter.gives left c.args.request.now (replicate (length c.args.answer.now) 0) now
      came new) c.args.self.now.tries c.args.self.now.adapter;
}

pub returns-in-Failed-clause-asked : goal.returns-in-Failed-clause-asked
returns-in-Failed-clause-asked g c =
    c.parts_compose.ensures.before_read c.args.request.now (length c.args.answer.now) [] (g.A.Adapter.held c.args.self.now.adapter)
    (g.A.Adapter.restarts c.args.self.now.adapter) (g.A.Adapter.held c.reads.self.adapter) (g.A.Adapter.restarts c.reads.self.adapter)
    (g.A.Adapter.held c.ask.new.self) (g.A.Adapter.restarts c.ask.new.self)
    (c.reads.invariant.waits [] c.ask.new.self).unheard
    (subst (λ n. IsAsked c.args.request.now n (g.A.Adapter.held c.reads.self.adapter) (g.A.Adapter.restarts c.reads.self.adapter)
    [] (g.A.Adapter.held c.ask.new.self) (g.A.Adapter.restarts c.ask.new.self))
    (c.fill.ensures.len ∙ c.reads.invariant.long) c.in-Failed.ensures.asked)

pub returns-in-Failed-clause-gives : goal.returns-in-Failed-clause-gives
returns-in-Failed-clause-gives g c =
    let room = room-so c.fill.new.self c.reads.answer c.args.answer.now (c.fill.ensures.after (λ y is. is)) c.reads.invariant.long in
    let gave = subst (λ r. g.A.Adapter.gives c.reads.self.adapter (Asks c.args.request.now r read.Failed []) c.ask.new.self) room
    c.in-Failed.ensures.gives in (
      sym c.reads.invariant.tries,
      waits-last g.A.Adapter.held g.A.Adapter.restarts (λ left now. asks_patiently g.A.Adapter.gives left c.args.request.now
          (replicate (length c.args.answer.now) 0) now
          [] c.ask.new.self)
          c.args.self.now.tries c.args.self.now.adapter c.reads.tried c.reads.self.adapter
          (c.reads.invariant.waits [] c.ask.new.self) c.reads-test.true (λ fewer. inr (inl (gave, refl))),
    )

pub returns-in-Came-clause-asked : goal.returns-in-Came-clause-asked
returns-in-Came-clause-asked g c =
    c.parts_compose.ensures.before_read c.args.request.now (length c.args.answer.now) (take c.in-Came.count c.ask.new.answer)
    (g.A.Adapter.held c.args.self.now.adapter)
    (g.A.Adapter.restarts c.args.self.now.adapter) (g.A.Adapter.held c.reads.self.adapter) (g.A.Adapter.restarts c.reads.self.adapter)
    (g.A.Adapter.held c.ask.new.self) (g.A.Adapter.restarts c.ask.new.self)
    (c.reads.invariant.waits (take c.in-Came.count c.ask.new.answer) c.ask.new.self).unheard
    (subst (λ n. IsAsked c.args.request.now n (g.A.Adapter.held c.reads.self.adapter) (g.A.Adapter.restarts c.reads.self.adapter)
    (take c.in-Came.count c.ask.new.answer) (g.A.Adapter.held c.ask.new.self) (g.A.Adapter.restarts c.ask.new.self))
    (c.fill.ensures.len ∙ c.reads.invariant.long) c.in-Came.ensures.asked)

pub returns-in-Came-clause-gives : goal.returns-in-Came-clause-gives
returns-in-Came-clause-gives g c =
    let room = room-so c.fill.new.self c.reads.answer c.args.answer.now (c.fill.ensures.after (λ y is. is)) c.reads.invariant.long in
    let gave = subst (λ r. g.A.Adapter.gives c.reads.self.adapter
    (Asks c.args.request.now r (read.Came c.in-Came.count) (take c.in-Came.count c.ask.new.answer)) c.ask.new.self) room
    c.in-Came.ensures.gives in (
      sym c.reads.invariant.tries,
      waits-last g.A.Adapter.held g.A.Adapter.restarts (λ left now. asks_patiently g.A.Adapter.gives left c.args.request.now
          (replicate (length c.args.answer.now) 0) now
          (take c.in-Came.count c.ask.new.answer) c.ask.new.self)
          c.args.self.now.tries c.args.self.now.adapter c.reads.tried c.reads.self.adapter
          (c.reads.invariant.waits (take c.in-Came.count c.ask.new.answer) c.ask.new.self) c.reads-test.true
          (λ fewer. inr (inr (c.in-Came.count, gave))),
    )

pub reads-preserved : goal.reads-preserved
reads-preserved g c =
    let room = room-so c.fill.new.self c.reads.answer c.args.answer.now (c.fill.ensures.after (λ y is. is)) c.reads.invariant.long in
    let gave = subst (λ r. g.A.Adapter.gives c.reads.self.adapter (Asks c.args.request.now r read.Unheard []) c.ask.new.self) room
    c.in-Unheard.ensures.gives in
    record {
      tries = c.reads.invariant.tries;
      long = c.ask.auto.answer ∙ (c.fill.ensures.len ∙ c.reads.invariant.long);
      waits = λ came new. waits-more c.parts_compose.ensures g.A.Adapter.held g.A.Adapter.restarts
          (λ left now. asks_patiently g.A.Adapter.gives left c.args.request.now (replicate (length c.args.answer.now) 0) now
          came new) c.args.self.now.tries c.args.self.now.adapter
          c.reads.tried c.reads.self.adapter c.ask.new.self (c.reads.invariant.waits came new) c.reads-test.true
          c.in-Unheard.ensures.asked (λ fewer rest. inl (c.ask.new.self, gave, rest));
    }

pub returns-clause-asked : goal.returns-clause-asked
returns-clause-asked g c =
    c.parts_compose.ensures.lost_read c.args.request.now (length c.args.answer.now) (g.A.Adapter.held c.args.self.now.adapter)
    (g.A.Adapter.restarts c.args.self.now.adapter) (g.A.Adapter.held c.reads.self.adapter)
    (g.A.Adapter.restarts c.reads.self.adapter) c.requires
    (c.reads.invariant.waits [] c.reads.self.adapter).unheard

pub returns-clause-gives : goal.returns-clause-gives
returns-clause-gives g c = (
  sym c.reads.invariant.tries,
  waits-over g.A.Adapter.held g.A.Adapter.restarts (λ left now. asks_patiently g.A.Adapter.gives left c.args.request.now
      (replicate (length c.args.answer.now) 0) now
      [] c.reads.self.adapter)
      c.args.self.now.tries c.args.self.now.adapter c.reads.tried c.reads.self.adapter
      (c.reads.invariant.waits [] c.reads.self.adapter) c.reads-test.false (refl, refl),
)
