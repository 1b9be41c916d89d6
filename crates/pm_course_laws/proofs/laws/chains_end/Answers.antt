use Rattle.pm_course_laws.proofs.ChainedCourses.{chains-end}
use Rattle.pm_course_laws.proofs.ChainedSurveys.{LawsOfSurveys}
use Rattle.pm_course_laws.proofs.laws.chains_end.Goals as goal

pub returns : goal.returns
returns c =
    let laws : LawsOfSurveys = record {
      apart = c.cells_are_told_apart.ensures;
      places = c.cells_have_places.ensures;
      origin = c.words_have_an_origin.ensures;
      lives = record { formats = c.learned_formats_are_true.ensures };
    } in
    chains-end laws c.surveys_end_known.ensures c.courses_end.ensures
