use Rattle.pm_decode.proofs.known.Known.hint_fault.Goals as goal

pub still_lacking-self-inside-requires : goal.still_lacking-self-inside-requires
still_lacking-self-inside-requires c = λ plain. rw plain at c.requires.shown
