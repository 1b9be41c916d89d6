use Rattle.std.proofs.Common.{◌≡◌, ℕ, ◌+◌, ◌*◌, ◌^◌, ◌<◌, ◌≤◌, ap, ⊎_elim, arith, below_more}
use Rattle.std.proofs.lemmas.Nat.{pow-add}
use Rattle.std.proofs.lemmas.Bool.{cases_lt}
use Rattle.pm_num.proofs.linear11.least_place.Goals as goal

-- Below the last place, since the limit there is not below the size.
next_bounded : (size unit place limit : ℕ) → size ≤ unit * 2 ^ 31 → limit ≡ unit * 2 ^ place → place ≤ 31 → limit < size → place + 1 ≤ 31
next_bounded size unit place limit reachable is bounded less =
    ⊎_elim
    (λ (below : place < 31). omega arith)
    (λ (last : 31 ≤ place).
    let at_last : place ≡ 31 = omega arith in
    let e = ap (λ (k : ℕ). unit * 2 ^ k) at_last in
    absurd (omega arith))
    (cases_lt place 31)

pub loop-limit-preserved : goal.loop-limit-preserved
loop-limit-preserved c =
    let e = ap (λ (k : ℕ). c.args.unit * k) (pow-add 2 c.loop-limit.place 1) in (
      omega arith,
      below_more _ _ c.loop-limit.invariant.1 (omega arith),
      next_bounded c.args.size c.args.unit c.loop-limit.place
          c.loop-limit.limit c.requires.reachable c.loop-limit.invariant.0 c.loop-limit.invariant.2 c.loop-limit-test.true,
    )
