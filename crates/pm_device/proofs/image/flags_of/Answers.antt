use Rattle.std.proofs.Common.{◌≡◌, ◌<◌, false, get_or, length, sym, ◌∙◌, rules}
use Rattle.std.proofs.lemmas.List.{same_lists, length-map, get_or-map}
use Rattle.pm_device.specs.Image.{is_set}
use Rattle.pm_device.specs.Memory.{flag_image}
use Rattle.pm_device.proofs.image.flags_of.Goals as goal

pub returns-clause-set : goal.returns-clause-set
returns-clause-set c =
    let items = c.map.ensures.items in
    let bits = c.args.bits.now in
    let eight : length bits ≡ 8 = search rules in
    let as_many : length c.map.result ≡ 8 = items.long in
    same_lists _ _ (length-map c.map.result is_set ∙ (as_many ∙ sym eight)) (λ k d h.
    let small : k < 8 = let l = length-map c.map.result is_set in search rules in
    let there : k < length c.map.result = search rules in
    let each = items.at k d 0 small in
    let here : is_set (get_or c.map.result k 0) ≡ get_or bits k d = search rules in
    get_or-map is_set c.map.result k 0 d there ∙ here)

pub returns-clause-written : goal.returns-clause-written
returns-clause-written c =
    let items = c.map.ensures.items in
    let bits = c.args.bits.now in
    let eight : length bits ≡ 8 = search rules in
    same_lists _ _ (items.long ∙ sym (length-map bits flag_image ∙ eight)) (λ k d h.
    let small : k < 8 = let l = items.long in search rules in
    let there : k < length bits = search rules in
    let each = items.at k false d small in
    let here : get_or c.map.result k d ≡ flag_image (get_or bits k false) = search rules in
    here ∙ sym (get_or-map flag_image bits k false d there))
