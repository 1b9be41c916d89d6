use Rattle.std.proofs.Common.{◌≡◌, ◌<◌, [], get_or, length, sym, ◌∙◌, rules}
use Rattle.std.proofs.lemmas.List.{same_lists, length-map, get_or-map}
use Rattle.pm_device.specs.declared.image.OutputImage.{OutputImage}
use Rattle.pm_device.specs.Image.{start_held}
use Rattle.pm_device.specs.Memory.{start_image}
use Rattle.pm_device.specs.declared.output_start.OutputStart.{OutputStart}
use Rattle.pm_device.proofs.image.images_of.Goals as goal

-- what stands past the last output
no_output : OutputImage
no_output = record { mode = 0; unused = 0; words = [] }

pub returns-clause-held : goal.returns-clause-held
returns-clause-held c =
    let items = c.map.ensures.items in
    let starts = c.args.starts.now in
    let eight : length starts ≡ 8 = search rules in
    let as_many : length c.map.result ≡ 8 = items.long in
    same_lists _ _ (length-map c.map.result start_held ∙ (as_many ∙ sym eight)) (λ k d h.
    let small : k < 8 = let l = length-map c.map.result start_held in search rules in
    let there : k < length c.map.result = search rules in
    let each = items.at k d no_output small in
    let here : start_held (get_or c.map.result k no_output) ≡ get_or starts k d = search rules in
    get_or-map start_held c.map.result k no_output d there ∙ here)

-- what stands past the last start
no_start : OutputStart
no_start = record { mode = 0; operation = 0; command = 0; max = 0; high = 0; low = 0; min = 0 }

pub returns-clause-written : goal.returns-clause-written
returns-clause-written c =
    let items = c.map.ensures.items in
    let starts = c.args.starts.now in
    let eight : length starts ≡ 8 = search rules in
    same_lists _ _ (items.long ∙ sym (length-map starts start_image ∙ eight)) (λ k d h.
    let small : k < 8 = let l = items.long in search rules in
    let there : k < length starts = search rules in
    let each = items.at k no_start d small in
    let here : get_or c.map.result k d ≡ start_image (get_or starts k no_start) = search rules in
    here ∙ sym (get_or-map start_image starts k no_start d there))
