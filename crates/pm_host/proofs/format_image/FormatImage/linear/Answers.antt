-- The byte is kept.
use Rattle.std.proofs.Common.{◌≡◌, Some, replicate, sym, ap, ◌∙◌, rules}
use Rattle.pm_num.specs.AnyFormat.{InUlinear16}
use Rattle.pm_table.specs.VoutMode.{exponent_of}
use Rattle.pm_host.specs.Image.{format_held}
use Rattle.pm_host.specs.Memory.{format_image}
use Rattle.pm_host.proofs.Memory.{mode-again}
use Rattle.pm_host.proofs.format_image.FormatImage.linear.Goals as goal

pub returns-clause-written : goal.returns-clause-written
returns-clause-written c = λ some.
    let held : format_held (record { mode = c.args.mode; coefficients = replicate 5 0xFF })
    ≡ Some (InUlinear16 (exponent_of c.args.mode)) = search rules in
    ap (λ mode. record { mode = mode; coefficients = replicate 5 0xFF }) (sym (mode-again c.args.mode c.requires))
    ∙ ap format_image (sym held)
