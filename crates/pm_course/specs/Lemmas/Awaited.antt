-- What became of a frame may come just if it is of the kind of the frame that is being sent.
use Rattle.std.proofs.Common.{◌≡◌, not, false, Option, Some, ap}
use Rattle.std.specs.Prelude.{option_map}
use Rattle.std.specs.Option.{option_map_or}
use Rattle.pm_frame.specs.Layout.{is_read_message}
use Rattle.pm_host.specs.declared.host.Told.{Told}
use Rattle.pm_host.specs.declared.host.Told.TheVariants.{Finished, Got}
use Rattle.pm_host.specs.declared.stage.Stage.{Stage}
use Rattle.pm_host.specs.Refusals.{may_come}
use Rattle.pm_host.specs.Summary.{Summary, stage_message}
use Rattle.pm_host.specs.Told.{entry_told, is_awaited}

pub comes-awaited : (s : Summary) (stage : Stage) (told : Told) → s.stage ≡ Some stage → may_come s (entry_told told) ≡ is_awaited stage told
comes-awaited s stage (Finished acked) is =
    ap (λ (opened : Option Stage). option_map_or (λ message. not (is_read_message message)) (option_map stage_message opened) false) is
comes-awaited s stage (Got bytes) is = ap (λ (opened : Option Stage). option_map_or is_read_message (option_map stage_message opened) false) is
