-- Spares the search: it finds these too, in 6 seconds.
use Rattle.pm_num.proofs.any_format.AnyFormatNumFormat.nearest.Goals as goal

pub returns-in-Linear11-clause-word : goal.returns-in-Linear11-clause-word
returns-in-Linear11-clause-word c = rw c.in-Linear11.is c.nearest.ensures.word

pub returns-in-Linear11-clause-inside : goal.returns-in-Linear11-clause-inside
returns-in-Linear11-clause-inside c = rw c.in-Linear11.is c.nearest.ensures.inside

pub returns-in-Linear11-clause-refused : goal.returns-in-Linear11-clause-refused
returns-in-Linear11-clause-refused c = rw c.in-Linear11.is c.nearest.ensures.refused

pub returns-in-Ulinear16-clause-word : goal.returns-in-Ulinear16-clause-word
returns-in-Ulinear16-clause-word c = rw c.in-Ulinear16.is c.nearest-in-Ulinear16.ensures.word

pub returns-in-Ulinear16-clause-inside : goal.returns-in-Ulinear16-clause-inside
returns-in-Ulinear16-clause-inside c = rw c.in-Ulinear16.is c.nearest-in-Ulinear16.ensures.inside

pub returns-in-Ulinear16-clause-refused : goal.returns-in-Ulinear16-clause-refused
returns-in-Ulinear16-clause-refused c = rw c.in-Ulinear16.is c.nearest-in-Ulinear16.ensures.refused

pub returns-in-Direct-clause-word : goal.returns-in-Direct-clause-word
returns-in-Direct-clause-word c = rw c.in-Direct.is c.nearest-in-Direct.ensures.word

pub returns-in-Direct-clause-inside : goal.returns-in-Direct-clause-inside
returns-in-Direct-clause-inside c = rw c.in-Direct.is c.nearest-in-Direct.ensures.inside

pub returns-in-Direct-clause-refused : goal.returns-in-Direct-clause-refused
returns-in-Direct-clause-refused c = rw c.in-Direct.is c.nearest-in-Direct.ensures.refused
