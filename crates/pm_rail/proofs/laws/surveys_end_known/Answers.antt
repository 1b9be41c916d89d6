use Rattle.pm_rail.specs.Lemmas.Surveyed.{asking_takes_a_try, format, known, protection, unread, whole_part_lacks_none}
use Rattle.pm_rail.proofs.SurveyBand.{band}
use Rattle.pm_rail.proofs.laws.surveys_end_known.Goals as goal

pub returns : goal.returns
returns c = record {
  format = format;
  known = known;
  protection = protection;
  asks = asking_takes_a_try;
  whole = whole_part_lacks_none;
  unread = unread;
  band = band;
}
