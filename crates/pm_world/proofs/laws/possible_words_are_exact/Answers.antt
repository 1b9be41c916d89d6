use Rattle.std.proofs.Common.{arith, ◌<◌, ◌^◌, sym, subst}
use Rattle.pm_host.specs.Marks.{marks}
use Rattle.pm_world.specs.Life.{life}
use Rattle.pm_world.specs.Setup.{setup_of}
use Rattle.pm_world.specs.Uncertainty.{due_before, since_restart}
use Rattle.pm_world.proofs.Retold.{witness-leaves}
use Rattle.pm_world.proofs.Standings.{first-small}
use Rattle.pm_world.proofs.HeldWords.{left-possible, legal-taken}
use Rattle.pm_world.proofs.Events.{are-legal}
use Rattle.pm_world.proofs.Formats.{witness-word}
use Rattle.pm_world.proofs.laws.possible_words_are_exact.Goals as goal

pub returns : goal.returns
returns c = record {
  witness = λ config passes events chosen lived fresh open' possible.
      witness-leaves c.lower_laws.ensures chosen lived fresh open' possible;
  only = λ config passes events retold chosen other lived leaves. left-possible c.lower_laws.ensures lived leaves;
  words = λ config passes events chosen sound bytes words output register below.
      let entries = since_restart (life config passes events).entries in
      subst (λ n. n < 2 ^ 16)
      (sym (witness-word config (due_before chosen (marks (setup_of config passes) entries)) output register
      (let few = sound.few in omega arith)))
      (first-small config (setup_of config passes) entries chosen bytes words output register below);
  legal = λ config passes events sound made room. (legal-taken config passes events room, are-legal config passes events);
}
