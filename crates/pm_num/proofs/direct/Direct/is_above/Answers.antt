use Rattle.std.proofs.Common.{◌≡◌, ◌∙◌, ap₂, int_lt, of_z, rules, to_z, w16}
use Rattle.pm_num.specs.Value.{signed}
use Rattle.pm_num.specs.Lemmas.Slope.{direct-above_falling, direct-above_rising}
use Rattle.pm_num.proofs.direct.Direct.is_above.Goals as goal

pub returns-then-self-lt0 : goal.returns-then-self-lt0
returns-then-self-lt0 c =
    let f = c.args.self.now in
    let y : to_z w16 (of_z w16 c.cast_signed-y.result) ≡ signed 16 c.args.word = search rules in
    let z : to_z w16 (of_z w16 c.cast_signed-z.result) ≡ signed 16 c.args.other = search rules in
    ap₂ int_lt y z ∙ direct-above_falling f.m f.b f.r c.args.word c.args.other (search rules) (search rules) c.ranges.word.fits
    c.ranges.other.fits

pub returns-else-self-lt0 : goal.returns-else-self-lt0
returns-else-self-lt0 c =
    let f = c.args.self.now in
    let y : to_z w16 (of_z w16 c.cast_signed-y.result) ≡ signed 16 c.args.word = search rules in
    let z : to_z w16 (of_z w16 c.cast_signed-z.result) ≡ signed 16 c.args.other = search rules in
    ap₂ int_lt z y ∙ direct-above_rising f.m f.b f.r c.args.word c.args.other (search rules) (search rules) c.ranges.word.fits
    c.ranges.other.fits
