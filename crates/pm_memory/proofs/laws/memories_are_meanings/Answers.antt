-- Memory holds a host, its part's registers and its limits, and each is written as it means.
use Rattle.std.proofs.Common.{◌≡◌, Option, Some, None, option_map, refl, sym, ap, ap₂, ◌∙◌, rules}
use Rattle.std.specs.Prelude.{replicate}
use Rattle.pm_limits.specs.Guard.{Guarded}
use Rattle.pm_host.specs.Image.{host_of}
use Rattle.pm_host.specs.Memory.{ImagesAreMeanings}
use Rattle.pm_host.specs.Summary.{Summary}
use Rattle.pm_memory.specs.declared.guard_image.GuardImage.{GuardImage}
use Rattle.pm_memory.specs.Guard.{guard_of, limits_kept, registers_held}
use Rattle.pm_memory.specs.Memory.{memory_of, registers_image, IsMemory}
use Rattle.pm_memory.proofs.laws.memories_are_meanings.Goals as goal

-- its host is that of its image, and its limits are those that are kept
meant : ImagesAreMeanings → (image : GuardImage) (g : Guarded) → IsMemory image → guard_of image ≡ Some g → image ≡ memory_of g
unfolding limits_kept
meant images image g is = by (host_of image.host) refl
  where
    by : (host : Option Summary) → host_of image.host ≡ host
        → option_map (λ (s : Summary). record { host = s; limits = limits_kept image; registers = registers_held image.registers }) host
        ≡ Some g → image ≡ memory_of g
    by None held same = cc
    by (Some s) held same =
        let holds : record { host = s; limits = limits_kept image; registers = registers_held image.registers } ≡ g = search rules in
        ap₂ (λ r n. record image { registers = r; unused = n }) is.registers is.unused
        ∙ ap₂ (λ host limits. record {
          host = host;
          registers = registers_image (registers_held image.registers);
          unused = replicate 3 0;
          limits = limits;
        }) (images image.host s is.host held) is.limits
        ∙ ap memory_of holds

pub returns : goal.returns
returns c = record {
  meant = meant c.images_are_meanings.ensures;
  equal = λ a b g a_is b_is a_means b_means.
      meant c.images_are_meanings.ensures a g a_is a_means ∙ sym (meant c.images_are_meanings.ensures b g b_is b_means);
}
