use Rattle.pm_device.proofs.Start.{faultless, sound}
use Rattle.pm_device.proofs.laws.sound_configurations_have_no_fault.Goals as goal

pub returns : goal.returns
returns c = λ config. (faultless config, sound config)
