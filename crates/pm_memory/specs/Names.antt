-- The names of the numbers that calls answer: of each fault its own words, found by its number. This project's own
-- choice.
use Rattle.std.specs.Prelude.{◌≡◌, ℕ, List, [], ◌∷◌, ◌==◌, ◌/◌, if◌then◌else◌, find, length, take, drop, replicate, codes, Option, Some}
use Rattle.std.specs.Prelude.{None, option_map, is_none}
use Rattle.std.specs.Option.{option_or}
use Rattle.pm_num.specs.declared.fault.NumFault.TheVariants.{ZeroSlope, ExponentRange, BelowLeast, AboveGreatest, TooLarge}
use Rattle.pm_frame.specs.declared.fault.FrameFault.{FrameFault}
use Rattle.pm_frame.specs.declared.fault.FrameFault.TheVariants.{NotOurs, Short, Long, WrongCount, WrongPec, UnknownCode, WrongDirection}
use Rattle.pm_frame.specs.declared.fault.FrameFault.TheVariants.{Nested}
use Rattle.pm_frame.specs.FaultWords.{frame_fault_number, frame_fault_words}
use Rattle.pm_host.specs.declared.fault.HostFault.TheVariants.{OutputCount, Passes, Busy, UnknownOutput, BadWord, TooUncertain, Num}
use Rattle.pm_host.specs.declared.fault.HostFault.TheVariants as host
use Rattle.pm_host.specs.declared.job.JobEnd.TheVariants.{Done, Differs, Unknown, Learned}
use Rattle.pm_host.specs.declared.host.Step.{Step}
use Rattle.pm_host.specs.declared.host.Step.TheVariants.{Next, Ended}
use Rattle.pm_device.specs.declared.fault.DeviceFault.{DeviceFault}
use Rattle.pm_device.specs.declared.fault.DeviceFault.TheVariants as device
use Rattle.pm_device.specs.declared.config_fault.ConfigFault.{ConfigFault}
use Rattle.pm_device.specs.declared.config_fault.ConfigFault.TheVariants as config
use Rattle.pm_table.specs.declared.fault.TableFault.TheVariants.{VidMode}
use Rattle.pm_table.specs.declared.cell.Cell.TheVariants.{Protect}
use Rattle.pm_table.specs.declared.reg.Reg.TheVariants.{VoutCommand}
use Rattle.pm_rail.specs.declared.fault.PlanFault.{PlanFault}
use Rattle.pm_rail.specs.declared.fault.PlanFault.TheVariants as plan
use Rattle.pm_rail.specs.FaultWords.{plan_fault_number, plan_fault_words}
use Rattle.pm_device.specs.FaultWords.{config_fault_number, config_fault_words, device_fault_number, device_fault_words}
use Rattle.pm_course.specs.declared.accept_fault.AcceptFault.{AcceptFault}
use Rattle.pm_course.specs.declared.accept_fault.AcceptFault.TheVariants.{NotNear}
use Rattle.pm_course.specs.AcceptFault.{accept_fault_number, accept_fault_words}
use Rattle.pm_delivery.specs.declared.fault.DeliveryFault.{DeliveryFault}
use Rattle.pm_delivery.specs.declared.fault.DeliveryFault.TheVariants.{BeyondFaultLimit}
use Rattle.pm_delivery.specs.declared.question.Question.TheVariants.{OvFaultLimit}
use Rattle.pm_delivery.specs.FaultWords.{delivery_fault_number, delivery_fault_words}
use Rattle.pm_limits.specs.declared.fault.LimitFault.{LimitFault}
use Rattle.pm_limits.specs.declared.fault.LimitFault.TheVariants.{LimitsInverted, BelowLimit, AboveLimit, NotKnownWithin, LimitsWidened}
use Rattle.pm_limits.specs.declared.fault.LimitFault.TheVariants.{MissingRegister, NoLimits, Host}
use Rattle.pm_limits.specs.declared.fault.LimitFault.TheVariants as limits
use Rattle.pm_limits.specs.FaultWords.{limit_fault_number, limit_fault_words}
use Rattle.pm_memory.specs.declared.names.NameImage.{NameImage}
use Rattle.pm_memory.specs.Host.{step_kind}
use Rattle.pm_memory.specs.Numbers.{accepted, no_name}

-- every fault of limits, of their host and of a number
abbrev pub limit_faults : List LimitFault
limit_faults =
    Host OutputCount ∷ Host Passes ∷ Host Busy ∷ Host UnknownOutput ∷ Host BadWord ∷ Host TooUncertain
    ∷ Host host.FormatUnknown ∷ Host (Num ZeroSlope) ∷ Host (Num ExponentRange) ∷ Host (Num BelowLeast)
    ∷ Host (Num AboveGreatest) ∷ Host (Num TooLarge) ∷ LimitsInverted ∷ limits.FormatUnknown ∷ BelowLimit
    ∷ AboveLimit ∷ NotKnownWithin ∷ LimitsWidened ∷ MissingRegister ∷ NoLimits ∷ []

-- every fault of a frame, at some place
abbrev pub frame_faults : List FrameFault
frame_faults =
    NotOurs ∷ Short 0 ∷ Long 0 ∷ WrongCount 0 ∷ WrongPec 0 ∷ UnknownCode 0 ∷ WrongDirection 0 ∷ Nested 0 ∷ []

-- every refusal of a converter, K1 for some fault of the frame
abbrev pub device_faults : List DeviceFault
device_faults =
    device.Frame NotOurs ∷ device.UnsupportedCode ∷ device.UnsupportedData ∷ device.BadPage ∷ device.Protected
    ∷ device.Nested ∷ device.ReadOnly ∷ []

-- every fault of a configuration, V2, V4 and V5 for some cell, output and fault
abbrev pub config_faults : List ConfigFault
config_faults =
    config.OutputCount ∷ config.BadStart Protect ∷ config.Address ∷ config.BadMode 0 VidMode
    ∷ config.BadCoefficients ZeroSlope ∷ []

-- every refusal of a plan of its own, P4 to P7 for some cell; H3 is the host's, L3, L4, L7 and L8 the limits'
abbrev pub plan_faults : List PlanFault
plan_faults =
    plan.FormatUnknown ∷ plan.NotKnown Protect ∷ plan.BelowMin VoutCommand ∷ plan.AboveMax VoutCommand ∷ plan.Protected VoutCommand ∷ []

-- every refusal of a delivery, for some limit
abbrev pub delivery_faults : List DeliveryFault
delivery_faults = BeyondFaultLimit OvFaultLimit 0 ∷ []

-- every refusal of a held word of its own
abbrev pub accept_faults : List AcceptFault
accept_faults = NotNear ∷ []

-- the words of the fault that has a number
abbrev pub limit_words : ℕ → Option (List ℕ)
limit_words n = option_map limit_fault_words (find (λ fault. limit_fault_number fault == n) limit_faults)

abbrev pub frame_words : ℕ → Option (List ℕ)
frame_words n = option_map frame_fault_words (find (λ fault. frame_fault_number fault == n) frame_faults)

abbrev pub device_words : ℕ → Option (List ℕ)
device_words n = option_map device_fault_words (find (λ fault. device_fault_number fault == n) device_faults)

abbrev pub config_words : ℕ → Option (List ℕ)
config_words n = option_map config_fault_words (find (λ fault. config_fault_number fault == n) config_faults)

abbrev pub plan_words : ℕ → Option (List ℕ)
plan_words n = option_map plan_fault_words (find (λ fault. plan_fault_number fault == n) plan_faults)

abbrev pub accept_words : ℕ → Option (List ℕ)
accept_words n = option_map accept_fault_words (find (λ fault. accept_fault_number fault == n) accept_faults)

abbrev pub delivery_words : ℕ → Option (List ℕ)
delivery_words n = option_map delivery_fault_words (find (λ fault. delivery_fault_number fault == n) delivery_faults)

-- what only a caller in C can ask wrongly, of a host, a course, a sequence or a part
abbrev pub own_words : ℕ → Option (List ℕ)
own_words n =
    if n == 0xE0 then Some (codes "NoHost")
    else (if n == 0xE1 then Some (codes "NoCell")
    else (if n == 0xE2 then Some (codes "OtherFrame")
    else (if n == 0xE3 then Some (codes "NoAddress")
    else (if n == 0xE4 then Some (codes "NoPacket")
    else (if n == 0xE5 then Some (codes "NoPart")
    else (if n == 0xE6 then Some (codes "NoLimits")
    else (if n == 0xE7 then Some (codes "NoName")
    else (if n == 0xE8 then Some (codes "NoReading")
    else (if n == 0xE9 then Some (codes "NoCourse")
    else (if n == 0xEA then Some (codes "NoRoom")
    else (if n == 0xEB then Some (codes "NoBand")
    else (if n == 0xEC then Some (codes "NoDelivery")
    else (if n == 0xED then Some (codes "NoGoal")
    else (if n == 0xEF then Some (codes "NoStep")
    else (if n == 0xF0 then Some (codes "NoSequence") else None)))))))))))))))

-- the words of a refusal, of which each kind has numbers that begin with a digit of its own
abbrev pub refusal_words : ℕ → Option (List ℕ)
refusal_words n =
    if n / 16 == 0 then limit_words n
    else (if n / 16 == 1 then limit_words n
    else (if n / 16 == 2 then limit_words n
    else (if n / 16 == 3 then frame_words n
    else (if n / 16 == 4 then device_words n
    else (if n / 16 == 5 then config_words n
    else (if n / 16 == 6 then option_or (option_or (plan_words n) (delivery_words n)) (accept_words n)
    else own_words n))))))

-- how a job stands, in the words of its lines
abbrev pub step_words : Step → List ℕ
step_words Next = codes "next"
step_words (Ended Done) = codes "done"
step_words (Ended (Differs word)) = codes "differs"
step_words (Ended Unknown) = codes "unknown"
step_words (Ended Learned) = codes "learned"

abbrev pub steps : List Step
steps = Next ∷ Ended Done ∷ Ended (Differs 0) ∷ Ended Unknown ∷ Ended Learned ∷ []

abbrev pub end_words : ℕ → Option (List ℕ)
end_words kind = option_map step_words (find (λ step. step_kind step == kind) steps)

-- a name is asked: E7h where there is none
abbrev pub named_number : Option (List ℕ) → ℕ
named_number words = if is_none words then no_name else accepted

-- a text of C: the characters, and zeros behind them
pub record HasText (words : List ℕ) (name : NameImage) : Type 0 where
  pub spelled : take (length words) name.text ≡ words
  pub zeros : drop (length words) name.text ≡ drop (length words) (replicate 32 0)

-- No fault is without its name: each type's own words stand under its number.
pub record RefusalsAreNamed : Type 0 where
  pub limit : (fault : LimitFault) → refusal_words (limit_fault_number fault) ≡ Some (limit_fault_words fault)
  pub frame : (fault : FrameFault) → refusal_words (frame_fault_number fault) ≡ Some (frame_fault_words fault)
  pub device : (fault : DeviceFault) → refusal_words (device_fault_number fault) ≡ Some (device_fault_words fault)
  pub config : (fault : ConfigFault) → refusal_words (config_fault_number fault) ≡ Some (config_fault_words fault)
  pub plan : (fault : PlanFault) → refusal_words (plan_fault_number fault) ≡ Some (plan_fault_words fault)
  pub delivery : (fault : DeliveryFault) → refusal_words (delivery_fault_number fault) ≡ Some (delivery_fault_words fault)
  pub accept : (fault : AcceptFault) → refusal_words (accept_fault_number fault) ≡ Some (accept_fault_words fault)
  pub step : (step : Step) → end_words (step_kind step) ≡ Some (step_words step)
