-- Memory that is of a host holds the mark and the version, and each of its parts is written as it means.
use Rattle.std.proofs.Common.{◌≡◌, Bool, true, false, cond, Option, Some, None, option_and_then, refl, ap, ap₂, ◌∙◌, rules}
use Rattle.pm_host.specs.declared.image.HostImage.{HostImage}
use Rattle.pm_host.specs.declared.stage.Stage.{Stage}
use Rattle.pm_host.specs.declared.state.State.{State}
use Rattle.pm_host.specs.Image.{held, host_of, image_mark, image_version, is_current, is_sound, sound_in, stage_held}
use Rattle.pm_host.specs.Memory.{image_of, stage_image, state_image, AreFormatImages, IsImage, IsKnown, IsState}
use Rattle.pm_host.specs.Summary.{Summary}
use Rattle.pm_host.proofs.laws.images_are_meanings.Goals as goal

-- what it holds beside its open job
state-meant : (state : State) (stage : Option Stage) → IsState state → state ≡ state_image (held stage state)
unfolding AreFormatImages IsKnown
state-meant state stage is =
    ap (λ n. record state { unused = n }) is.unused
    ∙ ap₂ (λ f k. record state { unused = 0; formats = f; known = k }) is.formats is.known

-- with where its job stands
image-meant : (image : HostImage) (stage : Option Stage) → is_current image ≡ true
    → stage_held image.stage ≡ Some stage → IsImage image → image ≡ image_of (held stage image.state)
image-meant image stage current at is =
    let mark : image.mark ≡ image_mark = search rules in
    let version : image.version ≡ image_version = search rules in
    let written : image.stage ≡ stage_image stage = let e = is.stage in search rules in
    ap₂ (λ m v. record image { mark = m; version = v }) mark version
    ∙ ap₂ (λ at state. record { mark = image_mark; version = image_version; stage = at; state = state }) written
    (state-meant image.state stage is.state)

meant : (image : HostImage) (s : Summary) → IsImage image → host_of image ≡ Some s → image ≡ image_of s
unfolding host_of
meant image s is = by (is_current image) refl
  where
    sound : (stage : Option Stage) → is_current image ≡ true → stage_held image.stage ≡ Some stage → (b : Bool)
        → cond b (Some (held stage image.state)) None ≡ Some s → image ≡ image_of s
    sound stage current at true same =
        let holds : held stage image.state ≡ s = search rules in
        image-meant image stage current at is ∙ ap image_of holds
    sound stage current at false same = cc

    stands : is_current image ≡ true → (h : Option (Option Stage)) → stage_held image.stage ≡ h
        → option_and_then (sound_in image.state) h ≡ Some s → image ≡ image_of s
    stands current None at same = cc
    stands current (Some stage) at same = sound stage current at (is_sound (held stage image.state)) same

    by : (b : Bool) → is_current image ≡ b
        → cond b (option_and_then (sound_in image.state) (stage_held image.stage)) None ≡ Some s → image ≡ image_of s
    by true current same = stands current (stage_held image.stage) refl same
    by false current same = cc

pub returns : goal.returns
returns c = meant
