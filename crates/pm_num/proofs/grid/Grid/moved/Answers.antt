-- Spares the search: it finds these too, in 12 seconds.
use Rattle.std.proofs.Common.{pos, arith, rules}
use mir.Syntax.{w64}
use mir.Val.{SFits}
use Rattle.std.proofs.lemmas.Int.{ints}
use Rattle.pm_num.proofs.Nearest.{same_product}
use Rattle.pm_num.proofs.grid.Grid.moved.Goals as goal

pub returns-clause-value : goal.returns-clause-value
returns-clause-value c =
    let g = c.args.self.now in
    let x = c.args.x.now in
    let fits_num : SFits w64 c.short_num.result = search rules in
    let fits_den : SFits w64 c.den.result = search rules in
    let fits_offset : SFits w64 c.offset.result = search rules in
    let fits_other : SFits w64 c.short_den.result = search rules in
    let e = same_product x.num (pos g.den) fits_num fits_den c.product.ensures.value c.short_num.ensures.value c.den.ensures.value in
    let f = same_product g.offset (pos x.den) fits_offset fits_other c.product-2.ensures.value c.offset.ensures.value c.short_den.ensures.value
    in
    omega (arith, ints)

pub product-requires-clause-left : goal.product-requires-clause-left
product-requires-clause-left c = let h = c.short_num.ensures.bounds in omega (arith, ints)

pub product-requires-clause-right : goal.product-requires-clause-right
product-requires-clause-right c = let h = c.den.ensures.sizes in omega (arith, ints)

pub product-requires-2-clause-left : goal.product-requires-2-clause-left
product-requires-2-clause-left c = let h = c.offset.ensures.sizes in omega (arith, ints)

pub product-requires-2-clause-right : goal.product-requires-2-clause-right
product-requires-2-clause-right c = let h = c.short_den.ensures.bounds in omega (arith, ints)

pub overflow_add-result : goal.overflow_add-result
overflow_add-result c = omega (arith, ints)

pub returns-clause-sizes : goal.returns-clause-sizes
returns-clause-sizes c = c.den.ensures.sizes

pub returns-clause-small : goal.returns-clause-small
returns-clause-small c = omega (arith, ints)
