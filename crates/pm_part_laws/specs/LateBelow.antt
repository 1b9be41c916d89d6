-- The laws of the crates below that the proofs rest on.
use Rattle.pm_table.specs.Laws.{CellsAreToldApart}
use Rattle.pm_model.specs.Laws.{SettingsAreAMap}
use Rattle.pm_host.specs.Laws.{OpenOrdersAreUncertain, OpenRestoresAreUncertain, PossibleWordsAreFollowed, TranscriptsAreFollowed}

pub record Below : Type 0 where
  pub apart : CellsAreToldApart
  pub map : SettingsAreAMap
  pub orders : OpenOrdersAreUncertain
  pub restores : OpenRestoresAreUncertain
  pub marks : PossibleWordsAreFollowed
  pub told : TranscriptsAreFollowed
