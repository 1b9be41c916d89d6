-- The lists are written at the place of the cell, and seen through what their numbers mean.
use Rattle.std.proofs.Common.{rules, ap, sym, ◌∙◌, map, set, get_or}
use Rattle.std.proofs.lemmas.List.{map-set}
use Rattle.pm_host.specs.declared.knowledge.Possible.TheVariants.{Any}
use Rattle.pm_host.specs.declared.knowledge.Standing.TheVariants.{Unknown}
use Rattle.pm_host.specs.Image.{known_held, standing_held, words_held}
use Rattle.pm_host.proofs.Memory.{set-known, written-there}
use Rattle.pm_host.proofs.knowledge.Knowledge.set.Goals as goal

pub returns-clause-possible : goal.returns-clause-possible
unfolding known_held
returns-clause-possible c =
    let before = c.args.self.now.possible in
    map-set words_held before c.place-place.result c.args.words
    ∙ ap (λ at. set (map words_held before) at (words_held c.args.words)) c.place-place.ensures.place

pub returns-clause-standing : goal.returns-clause-standing
unfolding known_held
returns-clause-standing c =
    let before = c.args.self.now.standing in
    map-set standing_held before c.place-place.result c.args.said
    ∙ ap (λ at. set (map standing_held before) at (standing_held c.args.said)) c.place-place.ensures.place

pub returns-clause-words : goal.returns-clause-words
unfolding known_held
returns-clause-words c =
    let before = c.args.self.now.possible in
    let at = c.place-place.result in
    ap (λ place. get_or (map words_held (set before at c.args.words)) place Any) (sym c.place-place.ensures.place)
    ∙ written-there words_held before at c.args.words Any (search rules)

pub returns-clause-said : goal.returns-clause-said
unfolding known_held
returns-clause-said c =
    let before = c.args.self.now.standing in
    let at = c.place-place.result in
    ap (λ place. get_or (map standing_held (set before at c.args.said)) place Unknown) (sym c.place-place.ensures.place)
    ∙ written-there standing_held before at c.args.said Unknown (search rules)

pub returns-clause-written : goal.returns-clause-written
returns-clause-written c = set-known c.args.self.now c.place-place.result c.args.words c.args.said
