-- The laws of the crates below that those of this crate rest on.
use Rattle.pm_table.specs.Laws.{CellsAreToldApart, CellsHavePlaces, RegistersAreInTheTable}
use Rattle.pm_frame.specs.Laws.{AnswersAreExact, BetrayalIsRefused, BurstsAreBetrayed, DamageIsBetrayed, DamageIsRefused, RequestsAreExact}
use Rattle.pm_frame.specs.Laws.{WritesAreExact}
use Rattle.pm_model.specs.Laws.{OrdersStayInTheirCells, SettingsAreAMap}
use Rattle.pm_device.specs.Laws.{PastsAreFollowed, ReadsAreAnswered, SoundConfigurationsHaveNoFault, WordsHaveAnOrigin, WritesReachOneCell}
use Rattle.pm_host.specs.Laws.{EndsAreTold, FramesAreNamed, JobsAreBounded, OpenRestoresAreUncertain, PossibleWordsAreFollowed}
use Rattle.pm_host.specs.Laws.{TranscriptsAreFollowed}

pub record Below : Type 0 where
  -- laws of cells and registers
  pub cells_are_told_apart : CellsAreToldApart
  pub cells_have_places : CellsHavePlaces
  pub registers_are_in_the_table : RegistersAreInTheTable
  -- laws of frames
  pub writes_are_exact : WritesAreExact
  pub requests_are_exact : RequestsAreExact
  pub answers_are_exact : AnswersAreExact
  pub damage_is_refused : DamageIsRefused
  pub betrayal_is_refused : BetrayalIsRefused
  pub damage_is_betrayed : DamageIsBetrayed
  pub bursts_are_betrayed : BurstsAreBetrayed
  -- laws of the map of cells, and of the order machine
  pub settings_are_a_map : SettingsAreAMap
  pub orders_stay_in_their_cells : OrdersStayInTheirCells
  -- laws of the converter
  pub pasts_are_followed : PastsAreFollowed
  pub words_have_an_origin : WordsHaveAnOrigin
  pub writes_reach_one_cell : WritesReachOneCell
  pub reads_are_answered : ReadsAreAnswered
  pub sound_configurations_have_no_fault : SoundConfigurationsHaveNoFault
  -- laws of the host
  pub transcripts_are_followed : TranscriptsAreFollowed
  pub ends_are_told : EndsAreTold
  pub jobs_are_bounded : JobsAreBounded
  pub frames_are_named : FramesAreNamed
  pub open_restores_are_uncertain : OpenRestoresAreUncertain
  pub possible_words_are_followed : PossibleWordsAreFollowed
