use Rattle.std.proofs.Common.{◌≡◌, ◌∙◌, ◌≤◌, ◌-◌, ◌++◌, ◌∷◌, [], drop, length, refl, rules, sym, take}
use Rattle.pm_text.proofs.Scenarios.{pair_more, too_many}
use Rattle.pm_text.proofs.scenario.frames.frame_of.Goals as goal

pub returns-then-is_err : goal.returns-then-is_err
returns-then-is_err c =
    let full : 16 ≤ length c.pairs.frame.items = search rules in
    too_many c.args.word.now c.pairs.digits.now c.pairs.frame.items c.pairs.invariant.all c.in-len2-up.len_at_least full

pub pairs-preserved : goal.pairs-preserved
pairs-preserved c =
    let digits = c.pairs.digits.now in
    let pushed : c.try_push.new.self.items ≡ c.pairs.frame.items ++ c.in-Some.byte ∷ [] = search rules in
    let left = take (length digits - 2) (drop 2 digits) in
    let room : length c.try_push.new.self.items ≤ 16 = search rules in
    record {
      all =
          pair_more c.args.word.now digits c.pairs.frame.items c.pairs.invariant.all left _ c.in-Some.byte
          c.in-len2-up.len_at_least refl (sym c.pair_of.ensures ∙ c.in-Some.is) pushed;
      room = room;
    }
