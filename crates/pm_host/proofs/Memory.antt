-- A host in memory: what is written there, read back and tested, and the frames that it can send.
use Rattle.std.specs.{Ordering.int_eq, Result.result_ok}
use Rattle.std.specs.Int.{w8, w16}
use Rattle.std.specs.Prelude.{pos, ◌-ℤ◌}
use Rattle.std.proofs.lemmas.Bool.{lt-ltb}
use Rattle.std.proofs.Common.{◌≡◌, ℕ, ◌+◌, ◌*◌, ◌/◌, ◌%◌, ◌<◌, Bool, true, false, cond, nat_lt, List, [], ◌∷◌, is_some, Ok, Err, refl, sym}
use Rattle.std.proofs.Common.{ap, ◌∙◌, arith, ◌≢◌, rules, suc, ◌-◌, ◌++◌, length, take, replicate, map, set, get_or, ap₂, subst, ◌*ℤ◌, Some}
use Rattle.std.proofs.Common.{Option, None}
use Rattle.std.proofs.Math.Seq.{set-append_seam, take-append_seam}
use Rattle.std.proofs.lemmas.Int.{of_z-to_z, ints}
use Rattle.std.proofs.lemmas.List.{append_assoc, get_or-map, length-append, length-map, map-set, get_or-set_same}
use Rattle.pm_num.specs.{AnyFormat.InDirect, Nearest.IsOutside, NearestWord.is_at_most, declared.fault.NumFault.NumFault}
use Rattle.pm_num.specs.Lemmas.Integers.{le_from_times, le-times, lt-times, times-swap}
use Rattle.pm_num.specs.Ratio.{Ratio, AtMost, LessThan}
use Rattle.pm_num.specs.declared.fault.NumFault.TheVariants.{ZeroSlope, ExponentRange, BelowLeast, AboveGreatest, TooLarge}
use Rattle.pm_table.specs.{Cell.register_code, Commands.line_of, Format.is_decimal, VoutMode.exponent_of}
use Rattle.pm_table.specs.{declared.coefficients.Coefficients.Coefficients, declared.reg.Reg.Reg}
use Rattle.pm_table.specs.Codes as command
use Rattle.pm_table.specs.Coefficients.{coefficient_bytes, coefficients_of, high_byte, low_byte, signed_word}
use Rattle.pm_frame.specs.{Layout.fits_layout, View.message_code, declared.message.Message.Message}
use Rattle.pm_frame.specs.declared.message.Message.TheVariants.{PagePlusWrite, PagePlusRead}
use Rattle.pm_host.specs.{Summary.Summary, Transcript.Setup, declared.command.Command.Command, declared.knowledge.Knowledge.Knowledge}
use Rattle.pm_host.specs.{declared.knowledge.Possible.TheVariants.Any, declared.stage.Stage.Stage}
use Rattle.pm_host.specs.{declared.standing_image.StandingImage.StandingImage, declared.words_image.WordsImage.WordsImage}
use Rattle.pm_host.specs.Frames.{CanSend, writes_output, writes_protect, reads_output, reads_protect, reads_mode, reads_coefficients}
use Rattle.pm_host.specs.Frames.{sends_command}
use Rattle.pm_host.specs.Image.{known_held, listing, standing_held, words_held, is_setup, is_stage, is_sound}
use Rattle.pm_host.specs.Memory.{format_image, mode_byte, IsFormatImage, standing_image, words_image, IsWordsImage, IsKnown}
use Rattle.pm_host.specs.Memory.{IsStandingImage}
use Rattle.pm_host.specs.Messages.{register_payload, mode_read, command_message}
use Rattle.pm_host.specs.Refusals.{is_within, outside_format_fault, IsSetup}
use Rattle.pm_host.specs.Sound.{IsStage, IsSound}
use Rattle.pm_host.specs.declared.stage.Stage.TheVariants.{Writes, Reads, Asks, Sends}

-- The bytes of a format that was learned are those that the format is written by.

-- the byte of VOUT_MODE of ULINEAR16 is written again from its exponent
pub mode-again : (byte : ℕ) → byte < 32 → mode_byte (exponent_of byte) ≡ byte
mode-again byte below =
    let small : byte % 32 ≡ byte = omega arith in
    rw small (by (nat_lt byte 16))
  where
    by : (b : Bool) → mode_byte (cond b (pos byte) (pos byte -ℤ pos 32)) ≡ byte
    by true = refl
    by false = rw (lt-ltb byte 32 below) (omega (arith, below))

-- two bytes of a signed word
low-again : (low high : ℕ) → low < 256 → high < 256 → low_byte (signed_word low high) ≡ low
low-again low high l h =
    let back = of_z-to_z w16 (low + 256 * high) (omega arith) in
    ap (λ n. n % 256) back ∙ omega arith

high-again : (low high : ℕ) → low < 256 → high < 256 → high_byte (signed_word low high) ≡ high
high-again low high l h =
    let back = of_z-to_z w16 (low + 256 * high) (omega arith) in
    ap (λ n. n / 256) back ∙ omega arith

-- the five bytes of COEFFICIENTS are written again from the coefficients
bytes-again : (a b c d e : ℕ) → a < 256 → b < 256 → c < 256 → d < 256 → e < 256
    → coefficient_bytes (coefficients_of (a ∷ b ∷ c ∷ d ∷ e ∷ [])) ≡ a ∷ b ∷ c ∷ d ∷ e ∷ []
bytes-again a b c d e la lb lc ld le =
    rw (low-again a b la lb, high-again a b la lb, low-again c d lc ld, high-again c d lc ld, of_z-to_z w8 e le) refl

-- what means DIRECT is written by its coefficients
direct-again : (c : Coefficients) (bytes : List ℕ) → coefficient_bytes c ≡ bytes → (zero decimal : Bool)
    → let shape = result_ok (cond zero (Err ZeroSlope) (cond decimal (Ok (InDirect c.m c.b c.r)) (Err ExponentRange))) in
    is_some shape ≡ true → record { mode = 0x40; coefficients = bytes } ≡ format_image shape
direct-again c bytes same true decimal some = cc
direct-again c bytes same false true some = ap (λ bs. record { mode = 0x40; coefficients = bs }) (sym same)
direct-again c bytes same false false some = cc

pub direct-written : (a b c d e : ℕ) → a < 256 → b < 256 → c < 256 → d < 256 → e < 256
    → IsFormatImage (record { mode = 0x40; coefficients = a ∷ b ∷ c ∷ d ∷ e ∷ [] })
direct-written a b c d e la lb lc ld le =
    let bytes = a ∷ b ∷ c ∷ d ∷ e ∷ [] in
    let coefficients = coefficients_of bytes in
    direct-again coefficients bytes (bytes-again a b c d e la lb lc ld le) (int_eq coefficients.m (pos 0)) (is_decimal coefficients)

-- The frames that a host can send fit their layouts.

-- each register is written and read by PAGE_PLUS, whichever it is
write_output-fits : (output : ℕ) (register : Reg) (word : ℕ)
    → fits_layout (PagePlusWrite output (register_code register) (register_payload register word)) ≡ true
unfolding line_of
write_output-fits = search rules

-- likewise its read
read_output-fits : (output : ℕ) (register : Reg) → fits_layout (PagePlusRead output (register_code register)) ≡ true
unfolding line_of
read_output-fits = search rules

-- the read of VOUT_MODE fits
pub mode_read-fits : (output : ℕ) → fits_layout (mode_read output) ≡ true
unfolding line_of
mode_read-fits = search rules

-- what a command sends is a write that fits
pub command_message-fits : (command : Command) → fits_layout (command_message command) ≡ true
unfolding line_of
command_message-fits = search rules

-- each message that a host can send fits
pub CanSend-fits : (setup : Setup) (message : Message) → CanSend setup message → fits_layout message ≡ true
unfolding line_of
CanSend-fits setup _ (writes_output output r word there accepted) = write_output-fits output r word
CanSend-fits setup _ (writes_protect word accepted) = refl
CanSend-fits setup _ (reads_output output r there) = read_output-fits output r
CanSend-fits setup _ reads_protect = refl
CanSend-fits setup _ (reads_mode output there) = mode_read-fits output
CanSend-fits setup _ reads_coefficients = refl
CanSend-fits setup _ (sends_command sent there) = command_message-fits sent

-- none of them means PAGE
pub CanSend-page : (setup : Setup) (message : Message) → CanSend setup message → message_code message ≢ command.page
CanSend-page = search rules

-- What is written to a host's memory is a function of what it means.

-- a list stays written so where one place of it is
pub set-written : {X Y : Type 0} (f : X → Y) (g : Y → X) → (xs : List X) (i : ℕ) (x : X) → xs ≡ map g (map f xs)
    → x ≡ g (f x) → set xs i x ≡ map g (map f (set xs i x))
set-written f g xs i x all one =
    ap (λ ys. set ys i x) all ∙ ap (set (map g (map f xs)) i) one ∙ sym (map-set g (map f xs) i (f x))
    ∙ ap (map g) (sym (map-set f xs i x))

-- each place of a list that is written so is
pub place-written : {X Y : Type 0} (f : X → Y) (g : Y → X) → (xs : List X) (i : ℕ) (d : X) → xs ≡ map g (map f xs)
    → i < length xs → get_or xs i d ≡ g (f (get_or xs i d))
place-written f g xs i d all below =
    let there : i < length (map f xs) = rw length-map below in
    ap (λ ys. get_or ys i d) all ∙ get_or-map g (map f xs) i (f d) d there ∙ ap g (get_or-map f xs i d (f d) below)

-- words with zeros behind them are written so
listed-written : (words : List ℕ) → is_within 1 16 (length words) ≡ true
    → IsWordsImage (record { count = length words; words = words ++ replicate (16 - length words) 0 })
listed-written words within =
    let zeros = replicate (16 - length words) 0 in
    let held : words_held (record { count = length words; words = words ++ zeros }) ≡ listing words =
    rw (within, take-append_seam words zeros) refl in
    sym (ap words_image held)

-- words that are written so are a list and the zeros behind it
pub record Listed (image : WordsImage) : Type 0 where
  pub list : List ℕ
  pub count : image.count ≡ length list
  pub words : image.words ≡ list ++ replicate (16 - length list) 0

listed : (words : WordsImage) → is_within 1 16 words.count ≡ true → IsWordsImage words → Listed words
listed words within are =
    let held : words_held words ≡ listing (take words.count words.words) = rw within refl in
    let same : words ≡ words_image (listing (take words.count words.words)) = are ∙ ap words_image held in
    record {
      list = take words.count words.words;
      count = ap (λ image. image.count) same;
      words = ap (λ image. image.words) same;
    }

-- another word joins them
pub joined-written : (words : WordsImage) (word : ℕ) → is_within 1 16 words.count ≡ true → words.count < 16
    → IsWordsImage words → IsWordsImage (record { count = words.count + 1; words = set words.words words.count word })
joined-written words word within room are =
    let l = listed words within are in
    let few : length l.list < 16 = subst (λ n. n < 16) l.count room in
    let left : 16 - length l.list ≡ suc (15 - length l.list) = grind (arith, few) in
    let longer : length (l.list ++ word ∷ []) ≡ length l.list + 1 = length-append l.list (word ∷ []) in
    let behind : 16 - length (l.list ++ word ∷ []) ≡ 15 - length l.list = grind (arith, few, longer) in
    let zeros : l.list ++ replicate (16 - length l.list) 0 ≡ l.list ++ 0 ∷ replicate (15 - length l.list) 0 =
    ap (λ n. l.list ++ replicate n 0) left in
    let written : set words.words words.count word ≡ (l.list ++ word ∷ []) ++ replicate (16 - length (l.list ++ word ∷ [])) 0 =
    ap (λ ws. set ws words.count word) (l.words ∙ zeros)
    ∙ ap (λ n. set (l.list ++ 0 ∷ replicate (15 - length l.list) 0) n word) l.count
    ∙ set-append_seam l.list 0 (replicate (15 - length l.list) 0) word
    ∙ sym (append_assoc l.list (word ∷ []) (replicate (15 - length l.list) 0))
    ∙ ap (λ n. (l.list ++ word ∷ []) ++ replicate n 0) (sym behind) in
    let count : words.count + 1 ≡ length (l.list ++ word ∷ []) = ap (λ n. n + 1) l.count ∙ sym longer in
    let within_now : is_within 1 16 (length (l.list ++ word ∷ [])) ≡ true = search rules in
    subst IsWordsImage (sym (ap₂ (λ n ws. record { count = n; words = ws }) count written))
    (listed-written (l.list ++ word ∷ []) within_now)

-- what is known stays written so where that of one cell is
pub set-known : (known : Knowledge) (i : ℕ) (words : WordsImage) (said : StandingImage) → IsKnown known → IsWordsImage words
    → IsStandingImage said
    → IsKnown (record { possible = set known.possible i words; standing = set known.standing i said; seen = known.seen })
unfolding IsKnown known_held
set-known known i words said is are told =
    let possible = set-written words_held words_image known.possible i words (ap (λ k. k.possible) is) are in
    let standing = set-written standing_held standing_image known.standing i said (ap (λ k. k.standing) is) told in
    ap₂ (λ p t. record { possible = p; standing = t; seen = known.seen }) possible standing
    ∙ ap (λ n. record {
      possible = map words_image (map words_held (set known.possible i words));
      standing = map standing_image (map standing_held (set known.standing i said));
      seen = n;
    }) (ap (λ k. k.seen) is)

-- that a restart was seen is written so apart from the cells
pub seen-known : (known other : Knowledge) → IsKnown known → IsKnown other
    → IsKnown (record { possible = known.possible; standing = known.standing; seen = other.seen })
unfolding IsKnown known_held
seen-known known other is other_is =
    ap₂ (λ p t. record { possible = p; standing = t; seen = other.seen }) (ap (λ k. k.possible) is) (ap (λ k. k.standing) is)
    ∙ ap (λ n. record {
      possible = map words_image (map words_held known.possible);
      standing = map standing_image (map standing_held known.standing);
      seen = n;
    }) (ap (λ k. k.seen) other_is)

-- what is known is written as it is meant once a restart is seen, when any word is possible
pub surprised-known : (known : Knowledge) → IsKnown known
    → IsKnown (record { possible = replicate 49 (words_image Any); standing = known.standing; seen = 1 })
unfolding IsKnown known_held
surprised-known known is =
    ap (λ t. record { possible = replicate 49 (words_image Any); standing = t; seen = 1 }) (ap (λ k. k.standing) is)

-- Whether a number lies in a format's range, as a test and as a fact.

-- what lies above the greatest isn't below the least
pub AtMost-above : (l h x : Ratio) → 0 < h.den → AtMost l h → LessThan h x → AtMost l x
AtMost-above l h x den le less =
    let a = le-times (l.num *ℤ pos h.den) (h.num *ℤ pos l.den) x.den le in
    let b = lt-times (h.num *ℤ pos x.den) (x.num *ℤ pos h.den) l.den less in
    let c = times-swap l.num h.den x.den in
    let d = times-swap h.num l.den x.den in
    let e = times-swap x.num h.den l.den in
    le_from_times (l.num *ℤ pos x.den) (x.num *ℤ pos l.den) h.den den (omega (arith, ints))

-- the test says what the relation does
pub is_at_most-true : (p q : Ratio) → AtMost p q → is_at_most p q ≡ true
is_at_most-true = search rules

-- the test is false of a number that is above the other
pub is_at_most-false : (p q : Ratio) → LessThan q p → is_at_most p q ≡ false
is_at_most-false = search rules

-- the refusal of a number outside a format: N3 below the least value, N4 above the greatest
pub outside_fault-some : (l h x : Ratio) (fault : NumFault) → 0 < h.den → AtMost l h → IsOutside l h x fault
    → outside_format_fault l h x ≡ Some fault
outside_fault-some l h x BelowLeast den le less = rw (is_at_most-false l x less) refl
outside_fault-some l h x AboveGreatest den le less =
    rw (is_at_most-true l x (AtMost-above l h x den le less), is_at_most-false x h less) refl
outside_fault-some l h x ZeroSlope den le less = absurd less
outside_fault-some l h x ExponentRange den le less = absurd less
outside_fault-some l h x TooLarge den le less = absurd less

-- What holds of each host passes the test of an image.

-- what a host was made with passes its test
setup-tested : (setup : Setup) → IsSetup setup → is_setup setup ≡ true
setup-tested = search rules

-- the stage of a job passes its test
stage-tested : (s : Summary) (stage : Option Stage) → IsStage s stage → is_stage s stage ≡ true
stage-tested s None is = refl
stage-tested s (Some (Writes cell word pass)) is = search rules
stage-tested s (Some (Reads cell word pass)) is = search rules
stage-tested s (Some (Asks question tries)) is = search rules
stage-tested s (Some (Sends command tries)) is = search rules

-- a sound host passes the test of both
pub sound-tested : (s : Summary) → IsSound s → is_sound s ≡ true
unfolding is_sound
sound-tested s is = rw (setup-tested s.setup is.setup, stage-tested s s.stage is.stage) refl

-- One place of a list is written, and the list is seen through a function.

-- what is seen at that place is what was written
pub written-there : {X Y : Type 0} (f : X → Y) → (xs : List X) (i : ℕ) (x : X) (d : Y) → i < length xs
    → get_or (map f (set xs i x)) i d ≡ f x
written-there f xs i x d h =
    ap (λ ys. get_or ys i d) (map-set f xs i x) ∙ get_or-set_same (map f xs) i (f x) d (rw length-map h)
