use Rattle.std.proofs.Common.{◌≡◌, ◌≢◌, codes, refl, subst, sym}
use Rattle.std.specs.declared.io.ErrorKind.{ErrorKind}
use Rattle.std.specs.declared.io.ErrorKind.TheVariants.{OutOfMemory}
use Rattle.pm_tool.specs.Refusals.{Says, bad_arguments_words, no_words_status, program_line}
use Rattle.pm_tool.proofs.refusals.refuse_arguments.Goals as goal

-- the arguments are bad if the words can't be had, other than for want of memory
other_words : (kind : ErrorKind) → kind ≢ OutOfMemory → (no_words_status kind ≡ 2) × (bad_arguments_words kind ≡ codes "bad arguments")
other_words OutOfMemory other = absurd (other refl)
other_words _ other = (refl, refl)

pub returns-in_default : goal.returns-in_default
returns-in_default g c =
    let same = other_words c.args.kind c.in_default.not-OutOfMemory in
    record {
      status = sym same.0;
      said = subst (λ words. Says g.E.Write.contents c.args.errors.now c.say.new.errors (program_line c.args.program.now words))
          (sym same.1) c.say.ensures;
    }
