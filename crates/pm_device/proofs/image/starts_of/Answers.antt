use Rattle.std.proofs.Common.{◌≡◌, ◌<◌, [], get_or, length, sym, ◌∙◌, rules}
use Rattle.std.proofs.lemmas.List.{same_lists, length-map, get_or-map}
use Rattle.pm_device.specs.declared.image.OutputImage.{OutputImage}
use Rattle.pm_device.specs.Image.{start_held}
use Rattle.pm_device.proofs.image.starts_of.Goals as goal

-- what stands past the last output
no_output : OutputImage
no_output = record { mode = 0; unused = 0; words = [] }

pub returns : goal.returns
returns c =
    let items = c.map.ensures.items in
    let outputs = c.args.outputs.now in
    let eight : length outputs ≡ 8 = search rules in
    same_lists _ _ (items.long ∙ sym (length-map outputs start_held ∙ eight)) (λ k d h.
    let small : k < 8 = let l = items.long in search rules in
    let there : k < length outputs = search rules in
    let each = items.at k no_output d small in
    let here : get_or c.map.result k d ≡ start_held (get_or outputs k no_output) = search rules in
    here ∙ sym (get_or-map start_held outputs k no_output d there))
