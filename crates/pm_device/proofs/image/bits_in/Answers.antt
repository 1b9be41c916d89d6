use Rattle.std.proofs.Common.{◌≡◌, ◌<◌, get_or, length, sym, ◌∙◌, rules}
use Rattle.std.proofs.lemmas.List.{same_lists, length-map, get_or-map}
use Rattle.pm_device.specs.Image.{is_set}
use Rattle.pm_device.proofs.image.bits_in.Goals as goal

pub returns : goal.returns
returns c =
    let items = c.map.ensures.items in
    let flags = c.args.flags.now in
    let eight : length flags ≡ 8 = search rules in
    same_lists _ _ (items.long ∙ sym (length-map flags is_set ∙ eight)) (λ k d h.
    let small : k < 8 = let l = items.long in search rules in
    let there : k < length flags = search rules in
    let each = items.at k 0 d small in
    let here : get_or c.map.result k d ≡ is_set (get_or flags k 0) = search rules in
    here ∙ sym (get_or-map is_set flags k 0 d there))
