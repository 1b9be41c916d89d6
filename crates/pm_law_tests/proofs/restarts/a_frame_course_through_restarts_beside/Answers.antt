use Rattle.std.proofs.Common.{List, subst}
use Rattle.pm_device.specs.Held.{Held}
use Rattle.pm_host.specs.Summary.{Summary}
use Rattle.pm_part_laws.specs.Happenings.{Happening, IsLifeBeside}
use Rattle.pm_course_laws.specs.Between.{FrameCoursesKeepBetween}
use Rattle.pm_law_tests.specs.Beside.{LedTo, PartLife}
use Rattle.pm_law_tests.specs.Restarts.{LiesBetweenBeside, WritesWishesBeside}
use Rattle.pm_law_tests.proofs.restarts.a_frame_course_through_restarts_beside.Goals as goal

lies : FrameCoursesKeepBetween → (life : PartLife) (host : Summary) (device : Held) → LedTo life host device → LiesBetweenBeside life
unfolding LiesBetweenBeside
lies law life host device led part output words wanted voltages tries c own rest later before at here idle means frames unstored =
    law.between life.held life.passes part output wanted rest later before (record {
      words = words;
      voltages = voltages;
      tries = tries;
      course = c;
      own = own;
      life = subst (λ (l : List Happening). IsLifeBeside life.held life.passes l) at led.lived;
      here = here;
      idle = idle;
      means = means;
      is_course = frames;
      unstored = unstored;
    })

writes : FrameCoursesKeepBetween → (life : PartLife) (host : Summary) (device : Held) → LedTo life host device → WritesWishesBeside life
unfolding WritesWishesBeside
writes law life host device led part output words wanted voltages tries c own later before at here idle means frames unstored =
    law.writes life.held life.passes part output wanted later before (record {
      words = words;
      voltages = voltages;
      tries = tries;
      course = c;
      own = own;
      life = subst (λ (l : List Happening). IsLifeBeside life.held life.passes l) at led.lived;
      here = here;
      idle = idle;
      means = means;
      is_course = frames;
      unstored = unstored;
    })

pub returns-clause-writes : goal.returns-clause-writes
returns-clause-writes g c = writes c.frame_courses_keep_between_beside.ensures g.life _ _ c.requires

pub returns-clause-between : goal.returns-clause-between
returns-clause-between g c = lies c.frame_courses_keep_between_beside.ensures g.life _ _ c.requires
