-- The bytes in front of the others are the request, which has five.
use Rattle.std.proofs.Common.{◌≡◌, ◌++◌, ◌∙◌, ap, subst, length}
use Rattle.std.proofs.Math.Seq.{take-append_seam}
use Rattle.std.proofs.Common.{take, List, ℕ}
use Rattle.pm_memory.proofs.sending_image.copy_request.Goals as goal

-- the front of a list that begins with another one of so many elements
front : (n : ℕ) (xs ys rest : List ℕ) → xs ≡ ys → length ys ≡ n → take n (xs ++ rest) ≡ ys
front n xs ys rest same count =
    subst (λ m. take m (xs ++ rest) ≡ ys) (ap length same ∙ count) (take-append_seam xs rest ∙ same)

pub returns : goal.returns
returns c = front 5 c.copy_from_slice.new.self c.args.request.now _ c.copy_from_slice.ensures.after c.told-request
