-- Each fault is found by its number.
use Rattle.std.proofs.Common.{◌≡◌, Some, refl}
use Rattle.pm_num.specs.declared.fault.NumFault.TheVariants.{ZeroSlope, ExponentRange, BelowLeast, AboveGreatest, TooLarge}
use Rattle.pm_frame.specs.declared.fault.FrameFault.{FrameFault}
use Rattle.pm_frame.specs.declared.fault.FrameFault.TheVariants.{NotOurs, Short, Long, WrongCount, WrongPec, UnknownCode, WrongDirection}
use Rattle.pm_frame.specs.declared.fault.FrameFault.TheVariants.{Nested}
use Rattle.pm_frame.specs.FaultWords.{frame_fault_number, frame_fault_words}
use Rattle.pm_host.specs.declared.fault.HostFault.TheVariants.{OutputCount, Passes, Busy, UnknownOutput, BadWord, TooUncertain, Num}
use Rattle.pm_host.specs.declared.fault.HostFault.TheVariants as host
use Rattle.pm_host.specs.declared.job.JobEnd.TheVariants.{Done, Differs, Unknown, Learned}
use Rattle.pm_host.specs.declared.host.Step.{Step}
use Rattle.pm_host.specs.declared.host.Step.TheVariants.{Next, Ended}
use Rattle.pm_device.specs.declared.fault.DeviceFault.{DeviceFault}
use Rattle.pm_device.specs.declared.fault.DeviceFault.TheVariants as device
use Rattle.pm_device.specs.declared.config_fault.ConfigFault.{ConfigFault}
use Rattle.pm_device.specs.declared.config_fault.ConfigFault.TheVariants as setup
use Rattle.pm_device.specs.FaultWords.{config_fault_number, config_fault_words, device_fault_number, device_fault_words}
use Rattle.pm_limits.specs.declared.fault.LimitFault.{LimitFault}
use Rattle.pm_limits.specs.declared.fault.LimitFault.TheVariants.{LimitsInverted, BelowLimit, AboveLimit, NotKnownWithin, LimitsWidened}
use Rattle.pm_limits.specs.declared.fault.LimitFault.TheVariants.{MissingRegister, NoLimits}
use Rattle.pm_limits.specs.declared.fault.LimitFault.TheVariants.{Host}
use Rattle.pm_limits.specs.declared.fault.LimitFault.TheVariants as limits
use Rattle.pm_limits.specs.FaultWords.{limit_fault_number, limit_fault_words}
use Rattle.pm_course.specs.declared.accept_fault.AcceptFault.{AcceptFault}
use Rattle.pm_course.specs.declared.accept_fault.AcceptFault.TheVariants.{NotNear}
use Rattle.pm_course.specs.AcceptFault.{accept_fault_number, accept_fault_words}
use Rattle.pm_delivery.specs.declared.fault.DeliveryFault.{DeliveryFault}
use Rattle.pm_delivery.specs.declared.fault.DeliveryFault.TheVariants.{BeyondFaultLimit}
use Rattle.pm_delivery.specs.FaultWords.{delivery_fault_number, delivery_fault_words}
use Rattle.pm_rail.specs.declared.fault.PlanFault.{PlanFault}
use Rattle.pm_rail.specs.declared.fault.PlanFault.TheVariants as plan
use Rattle.pm_rail.specs.FaultWords.{plan_fault_number, plan_fault_words}
use Rattle.pm_memory.specs.Host.{step_kind}
use Rattle.pm_memory.specs.Names.{end_words, refusal_words, step_words}

-- under its number each fault of limits, those of their host included, has its own words
pub limit : (fault : LimitFault) → refusal_words (limit_fault_number fault) ≡ Some (limit_fault_words fault)
limit (Host OutputCount) = refl
limit (Host Passes) = refl
limit (Host Busy) = refl
limit (Host UnknownOutput) = refl
limit (Host BadWord) = refl
limit (Host TooUncertain) = refl
limit (Host host.FormatUnknown) = refl
limit (Host (Num ZeroSlope)) = refl
limit (Host (Num ExponentRange)) = refl
limit (Host (Num BelowLeast)) = refl
limit (Host (Num AboveGreatest)) = refl
limit (Host (Num TooLarge)) = refl
limit LimitsInverted = refl
limit limits.FormatUnknown = refl
limit BelowLimit = refl
limit AboveLimit = refl
limit NotKnownWithin = refl
limit LimitsWidened = refl
limit MissingRegister = refl
limit NoLimits = refl

-- under its number each fault of a frame, at whatever place, has its own words
pub frame : (fault : FrameFault) → refusal_words (frame_fault_number fault) ≡ Some (frame_fault_words fault)
frame NotOurs = refl
frame (Short place) = refl
frame (Long place) = refl
frame (WrongCount place) = refl
frame (WrongPec place) = refl
frame (UnknownCode place) = refl
frame (WrongDirection place) = refl
frame (Nested place) = refl

-- under its number each refusal of a converter has its own words
pub converter : (fault : DeviceFault) → refusal_words (device_fault_number fault) ≡ Some (device_fault_words fault)
converter (device.Frame fault) = refl
converter device.UnsupportedCode = refl
converter device.UnsupportedData = refl
converter device.BadPage = refl
converter device.Protected = refl
converter device.Nested = refl
converter device.ReadOnly = refl

-- under its number each refusal of a delivery, for whatever limit, has its own words
pub delivery : (fault : DeliveryFault) → refusal_words (delivery_fault_number fault) ≡ Some (delivery_fault_words fault)
delivery (BeyondFaultLimit register word) = refl

-- under its number the refusal of a held word has its own words
pub accept : (fault : AcceptFault) → refusal_words (accept_fault_number fault) ≡ Some (accept_fault_words fault)
accept NotNear = refl

-- under its number each fault of a configuration has its own words
pub config : (fault : ConfigFault) → refusal_words (config_fault_number fault) ≡ Some (config_fault_words fault)
config setup.OutputCount = refl
config (setup.BadStart cell) = refl
config setup.Address = refl
config (setup.BadMode output fault) = refl
config (setup.BadCoefficients fault) = refl

-- under its number each refusal of a plan, about whatever cell, has its own words
pub planned : (fault : PlanFault) → refusal_words (plan_fault_number fault) ≡ Some (plan_fault_words fault)
planned plan.Busy = refl
planned (plan.MissingRegister register) = refl
planned plan.FormatUnknown = refl
planned (plan.NoLimits register) = refl
planned (plan.BelowLimit register) = refl
planned (plan.AboveLimit register) = refl
planned (plan.NotKnown cell) = refl
planned (plan.BelowMin register) = refl
planned (plan.AboveMax register) = refl
planned (plan.Protected register) = refl

-- under its number each answer of how a job stands has its own words
pub step : (s : Step) → end_words (step_kind s) ≡ Some (step_words s)
step Next = refl
step (Ended Done) = refl
step (Ended (Differs word)) = refl
step (Ended Unknown) = refl
step (Ended Learned) = refl
