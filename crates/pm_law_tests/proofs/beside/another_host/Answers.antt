use Rattle.std.proofs.Common.{◌≡◌, ℕ, [], refl, sym, ◌∙◌, ap, ap₂, subst}
use Rattle.std.specs.Prelude.{IfOk, Result, Ok, Err}
use Rattle.pm_table.specs.Address.{IsAddress}
use Rattle.pm_device.specs.declared.config.Config.{Config}
use Rattle.pm_device.specs.Held.{Held}
use Rattle.pm_host.specs.declared.fault.HostFault.{HostFault}
use Rattle.pm_host.specs.Refusals.{IsSetup}
use Rattle.pm_host.specs.Summary.{Summary, start}
use Rattle.pm_host.specs.Transcript.{Setup}
use Rattle.pm_world.specs.Setup.{setup_of}
use Rattle.pm_part_laws.specs.Happenings.{IsLifeBeside, beside}
use Rattle.pm_part_laws.specs.Parts.{PartsStayParts}
use Rattle.pm_law_tests.specs.Beside.{LedTo, PartLife}
use Rattle.pm_law_tests.proofs.beside.another_host.Goals as goal

-- the host that begins is one beside the part that the first one leaves
new-led : (life : PartLife) (host : Summary) (device : Held) (address outputs passes : ℕ) (other : Summary) → PartsStayParts → LedTo life host device →
    address ≡ life.held.config.addr → outputs ≡ life.held.config.count →
    other ≡ start (record { addr = address; outputs = outputs; passes = passes }) → IsSetup other.setup →
    LedTo (record { held = device; passes = passes; happened = [] }) other device
unfolding beside
new-led life host device address outputs passes other law led addr count is sound =
    let setup : record { addr = address; outputs = outputs; passes = passes } ≡ setup_of life.held.config passes =
    ap₂ (λ (a n : ℕ). record { addr = a; outputs = n; passes = passes }) addr count in
    let here : setup_of life.held.config passes ≡ setup_of device.config passes = ap (λ (c : Config). setup_of c passes) (sym led.config) in
    record {
      lived = subst (λ (d : Held). IsLifeBeside d passes []) (sym led.device_is)
          (law life.held life.passes passes life.happened led.lived
          (subst (λ (s : Setup). IsSetup s) (ap (λ (h : Summary). h.setup) is ∙ setup) sound));
      host_is = is ∙ ap start (setup ∙ here);
      device_is = refl;
      outputs = ap (λ (h : Summary). h.setup.outputs) is ∙ (count ∙ ap (λ (c : Config). c.count) (sym led.config));
      config = refl;
    }

pub new-requires : goal.new-requires
new-requires g c = subst (λ (a : ℕ). IsAddress a) (sym c.requires.1.0) c.requires.0.lived.part.made.address

pub returns : goal.returns
returns g c = go c.new.result c.new.ensures.made c.new.ensures.setup where
  go : (result : Result Summary HostFault) →
      IfOk result (λ host. host ≡ start (record { addr = c.args.address; outputs = c.args.outputs; passes = c.args.passes })) →
      IfOk result (λ host. IsSetup host.setup) →
      IfOk result (λ other. LedTo (record { held = c.args.device.now; passes = c.args.passes; happened = [] }) other c.args.device.now)
  go (Ok other) is sound = new-led g.life c.args.host.now c.args.device.now c.args.address c.args.outputs c.args.passes other
      c.parts_stay_parts.ensures c.requires.0 c.requires.1.0 c.requires.1.1 is sound
  go (Err fault) is sound = tt
