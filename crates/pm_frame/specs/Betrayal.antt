-- Whether the PEC betrays that bytes were damaged on the bus: this project's own choice of word.
use Rattle.std.specs.Prelude.{ℕ, Bool, false, not, ◌==◌, List, [], ◌∷◌, ◌++◌, length, take, slice_index}
use Rattle.pm_frame.specs.Pec.{pec_of}

-- the last of these bytes isn't the PEC of what came before on the bus and of the bytes before it
unfoldable pub is_betrayed : List ℕ → List ℕ → Bool
is_betrayed before [] = false
is_betrayed before (byte ∷ bytes) =
    let front = take (length bytes) (byte ∷ bytes) in
    not (slice_index (byte ∷ bytes) (length bytes) == pec_of (before ++ front))
