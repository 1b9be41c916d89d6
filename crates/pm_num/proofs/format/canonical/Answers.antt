-- Spares the search: it finds these too, in 9 seconds.
use Rattle.std.proofs.Common.{subst, sym, arith}
use Rattle.pm_num.specs.Ratio.{Ratio, IsBetween}
use Rattle.pm_num.specs.Nearest.{IsNearest}
use Rattle.pm_num.proofs.format.canonical.Given
use Rattle.pm_num.proofs.format.canonical.Goals as goal

-- The word that was found is the nearest to the word's value.
found : (g : Given.Over) (c : goal.In-Ok g)
    → IsNearest (g.F.NumFormat.value c.args.format.now) (g.F.NumFormat.rank c.args.format.now)
    (g.F.NumFormat.value c.args.format.now c.args.word) c.in-Ok.canonical
found g c =
    let f = c.args.format.now in
    subst (λ (x : Ratio). IsNearest (g.F.NumFormat.value f) (g.F.NumFormat.rank f) x c.in-Ok.canonical) c.value_of.ensures
    c.in-Ok.ensures.word

pub unreachable-requires : goal.unreachable-requires
unreachable-requires g c =
    let f = c.args.format.now in
    let between = g.met.F.NumFormat.within f c.args.word (omega arith) in
    let found = subst (λ (x : Ratio). IsBetween (g.F.NumFormat.lowest f) (g.F.NumFormat.highest f) x) (sym c.value_of.ensures) between in
    let e = c.in-Err.ensures.inside.1 found in
    cc

pub returns-clause-nearest : goal.returns-clause-nearest
returns-clause-nearest g c = found g c

pub returns-clause-same : goal.returns-clause-same
returns-clause-same g c = c.nearest_words_hold.ensures.same c.args.word c.in-Ok.canonical (omega arith) (found g c)

pub returns-clause-only : goal.returns-clause-only
returns-clause-only g c = λ w h.
    let f = c.args.format.now in
    g.met.F.NumFormat.one f (g.F.NumFormat.value f c.args.word) w c.in-Ok.canonical h (found g c)
