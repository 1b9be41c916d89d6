-- Sound configurations, their start words, and the image of a converter.
use Rattle.std.specs.List.{list_any}
use Rattle.std.specs.Option.{option_map, option_or, option_and_then}
use Rattle.std.specs.Result.{result_err, result_ok}
use Rattle.std.proofs.{Math.ListN.get_or-map, lemmas.Bool.Decides.nat_tests, lemmas.List.get_or-take}
use Rattle.std.proofs.Common.{◌≡◌, ℕ, ◌<◌, Bool, true, false, cond, ◌&&◌, ◌==◌, nat_lt, is_none, is_some, List, map, Option, Some, None}
use Rattle.std.proofs.Common.{refl, sym, ap, ap₂, subst, ◌∙◌, arith, zero, suc, ◌+◌, ◌≤◌, eqb, ltb, not, ◌||◌, unwrap_or, Result, Ok, Err}
use Rattle.std.proofs.Common.{[], ◌∷◌, get_or, take, length}
use Rattle.std.proofs.lemmas.Bool.{and_from, eq-eqb, lt-ltb}
use Rattle.pm_num.specs.declared.fault.NumFault.{NumFault}
use Rattle.pm_num.specs.AnyFormat.{Shape, InLinear11}
use Rattle.pm_table.specs.{Address.IsAddress, Format.shape_in, VoutMode.mode_of, declared.cell.Cell.Cell}
use Rattle.pm_table.specs.{declared.coefficients.Coefficients.Coefficients, declared.fault.TableFault.TableFault, declared.reg.Reg.Reg}
use Rattle.pm_table.specs.{declared.reg.Reg.TheVariants.Operation, declared.vout_mode.VoutMode.VoutMode}
use Rattle.pm_table.specs.Cell.{is_operation, register_accepts, register_number, cell_accepts, IsCell}
use Rattle.pm_table.specs.RuleLemmas.{map-none, or-none, rule-none}
use Rattle.pm_table.specs.declared.cell.Cell.TheVariants.{Protect, Out}
use Rattle.pm_table.specs.declared.vout_mode.VoutMode.TheVariants.{Linear, Direct}
use Rattle.pm_model.specs.Settings.{Settings, settings_in, word_at, Words, words_given_by}
use Rattle.pm_device.specs.{declared.config.Config.Config, declared.config_fault.ConfigFault.ConfigFault}
use Rattle.pm_device.specs.{declared.image.PartImage.PartImage, declared.output_start.OutputStart.OutputStart}
use Rattle.pm_device.specs.Held.{CmlFaults, Held, Measured, mode_for, shape_made, shape_for}
use Rattle.pm_device.specs.Image.{config_held, device_of, held_in_image, is_current_part_image, is_set, latches_held, converter_may_hold}
use Rattle.pm_device.specs.Image.{readings_held}
use Rattle.pm_device.specs.Start.{config_fault, register_start, start_row, start_word, start_words, no_start, outputs, is_direct}
use Rattle.pm_device.specs.Start.{has_direct, bad_register, bad_registers, bad_start, bad_mode, bad_coefficients, IsSound}
use Rattle.pm_device.specs.declared.config_fault.ConfigFault.TheVariants.{OutputCount, BadStart, Address, BadMode, BadCoefficients}

-- What an image is of: no converter where a test fails, otherwise the one that its numbers mean.

-- the whole of two halves fails if the first half does
left-fails : (a b : Bool) → a ≡ false → (a && b) ≡ false
left-fails a b e = ap (λ (x : Bool). x && b) e

-- the whole of two halves fails if the second half does, whatever the first says
right-fails : (a b : Bool) → b ≡ false → (a && b) ≡ false
right-fails false b e = refl
right-fails true b e = e

-- a failed test is of no converter
failed : (image : PartImage) → (is_current_part_image image && converter_may_hold (held_in_image image)) ≡ false → device_of image ≡ None
unfolding device_of
failed image e = ap (λ (b : Bool). cond b (Some (held_in_image image)) None) e

-- another layout
pub none-current : (image : PartImage) → is_current_part_image image ≡ false → device_of image ≡ None
none-current image e = failed image (left-fails (is_current_part_image image) (converter_may_hold (held_in_image image)) e)

-- something that no converter may hold
not-held : (image : PartImage) → converter_may_hold (held_in_image image) ≡ false → device_of image ≡ None
not-held image e = failed image (right-fails (is_current_part_image image) (converter_may_hold (held_in_image image)) e)

-- a configuration that is refused
pub none-config : (image : PartImage) → is_none (config_fault (config_held image.config)) ≡ false →
    device_of image ≡ None
none-config image e = not-held image (left-fails _ _ e)

-- words that are no settings
pub none-settings : (image : PartImage) → settings_in image.config.outputs image.words ≡ None → device_of image ≡ None
none-settings image e = not-held image (right-fails (is_none (config_fault (config_held image.config))) _
    (left-fails _ _ (left-fails _ _ (ap (λ (s : Option Settings). is_some s) e))))

-- an image whose words of the store are no settings is of no converter
pub none-store : (image : PartImage) → settings_in image.config.outputs image.store ≡ None → device_of image ≡ None
none-store image e = not-held image (right-fails (is_none (config_fault (config_held image.config))) _
    (left-fails _ _ (right-fails _ _ (ap (λ (s : Option Settings). is_some s) e))))

-- another WRITE_PROTECT in the store than its start word
pub none-protect : (image : PartImage) → (word_at image.store Protect == image.config.protect) ≡ false →
    device_of image ≡ None
none-protect image e = not-held image (right-fails (is_none (config_fault (config_held image.config))) _
    (right-fails _ _ (left-fails _ _ e)))

-- a PAGE with no output
pub none-page : (image : PartImage) → nat_lt image.page image.config.outputs ≡ false → device_of image ≡ None
none-page image e = not-held image (right-fails (is_none (config_fault (config_held image.config))) _
    (right-fails _ _ (right-fails _ _ e)))

-- what passes all of them
pub record MayHold (h : Held) : Type 0 where
  pub config : config_fault h.config ≡ None
  pub words : (s : Settings) × (settings_in h.config.count h.words ≡ Some s)
  pub store : (s : Settings) × (settings_in h.config.count h.store ≡ Some s)
  pub protect : word_at h.store Protect ≡ h.config.protect
  pub page : h.page < h.config.count

-- what a converter may hold, by a fact of each of its parts, passes the test of that
may-hold : (h : Held) → MayHold h → converter_may_hold h ≡ true
may-hold h may = and_from _ _ (ap (λ (f : Option ConfigFault). is_none f) may.config)
    (and_from _ _ (and_from _ _ (ap (λ (s : Option Settings). is_some s) may.words.1)
    (ap (λ (s : Option Settings). is_some s) may.store.1))
    (and_from _ _ (eq-eqb _ _ may.protect) (lt-ltb h.page h.config.count may.page)))

-- an image of this layout is that of the converter
pub some-held : (image : PartImage) → is_current_part_image image ≡ true → MayHold (held_in_image image) →
    device_of image ≡ Some (held_in_image image)
unfolding device_of
some-held image current may =
    ap (λ (b : Bool). cond b (Some (held_in_image image)) None) (and_from _ _ current (may-hold (held_in_image image) may))

-- an image of these numbers is that of a converter that may hold them
pub read-back : (image : PartImage) (h : Held) → is_current_part_image image ≡ true → held_in_image image ≡ h → MayHold h →
    device_of image ≡ Some h
read-back image h current same may =
    some-held image current (subst (λ (x : Held). MayHold x) (sym same) may) ∙ ap (λ (x : Held). Some x) same

-- what an image holds is this where each part is
pub same-held : (image : PartImage) (h : Held) → config_held image.config ≡ h.config → image.words ≡ h.words →
    image.store ≡ h.store → image.page ≡ h.page → readings_held image.readings ≡ h.readings →
    map is_set image.cut ≡ h.cut → latches_held image.latches ≡ h.faults → held_in_image image ≡ h
same-held image h config words store page readings cut faults =
    ap (λ (x : Config). record (held_in_image image) { config = x }) config
    ∙ (ap₂ (λ (x y : List ℕ). record h {
      words = x;
      store = y;
      page = image.page;
      readings = readings_held image.readings;
      cut = map is_set image.cut;
      faults =
          latches_held image.latches;
    }) words store
    ∙ (ap (λ (x : ℕ). record h
    { page = x; readings = readings_held image.readings; cut = map is_set image.cut; faults = latches_held image.latches }) page
    ∙ (ap (λ (x : Measured). record h { readings = x; cut = map is_set image.cut; faults = latches_held image.latches }) readings
    ∙ (ap (λ (x : List Bool). record h { cut = x; faults = latches_held image.latches }) cut
    ∙ ap (λ (x : CmlFaults). record h { faults = x }) faults))))

-- The start words of the cells, and what a configuration without a fault has.

-- a register's start word stands at its place in the row
row-at : (start : OutputStart) (register : Reg) →
    get_or (start_row start) (register_number register) 0 ≡ register_start register start
row-at start Operation = refl
row-at start _ = refl

-- a start word of an output, also where there is no start
pub word-of_start : (starts : List OutputStart) (output : ℕ) (register : Reg) →
    get_or (map (register_start register) starts) output 0 ≡ register_start register (get_or starts output no_start)
word-of_start starts output Operation = get_or-map (register_start Operation) starts output no_start
word-of_start starts output register = get_or-map (register_start register) starts output no_start

-- a word of the rows is the cell's start word
pub row-start : (config : Config) (row : List ℕ) (output : ℕ) (register : Reg) →
    row ≡ start_row (get_or config.starts output no_start) →
    get_or row (register_number register) 0 ≡ start_word config (Out output register)
row-start config row output register is =
    ap (λ r. get_or r (register_number register) 0) is
    ∙ (row-at (get_or config.starts output no_start) register ∙ sym (word-of_start config.starts output register))

-- words that have each cell's start word are the start words
pub all-start : (config : Config) (words : Words)
    → ((word : Cell → ℕ) → ((cell : Cell) → IsCell 8 cell → word_at words cell ≡ word cell) → words ≡ words_given_by word)
    → ((output : ℕ) (register : Reg) → output < 8 → word_at words (Out output register) ≡ start_word config (Out output register))
    → word_at words Protect ≡ config.protect
    → words ≡ start_words config
unfolding start_words
all-start config words one registers protect = one (start_word config) each where
  each : (cell : Cell) → IsCell 8 cell → word_at words cell ≡ start_word config cell
  each (Out output register) here = registers output register here
  each Protect here = protect

-- a test that names no fault passes
unless-none : {X : Type 0} (b : Bool) (x : X) → cond b None (Some x) ≡ None → b ≡ true
unless-none true x e = refl
unless-none false x e = cc

-- an output without a bad register
accepted-register : (output : ℕ) (start : OutputStart) (register : Reg) → bad_register output start ≡ None →
    register_accepts register (register_start register start) ≡ true
accepted-register output start Operation e = go (is_operation start.operation) refl e where
  go : (b : Bool) → is_operation start.operation ≡ b →
      option_map (λ (register : Reg). Out output register) (cond (not b) (Some Operation) None) ≡ None →
      is_operation start.operation ≡ true
  go true is none = is
  go false is none = cc
accepted-register output start _ e = refl

-- what stands for an output that isn't there is accepted
accepted-nothing : (register : Reg) → register_accepts register (register_start register no_start) ≡ true
accepted-nothing Operation = refl
accepted-nothing _ = refl

-- each start word of outputs without a bad register is accepted
accepted-registers : (from : ℕ) (starts : List OutputStart) (output : ℕ) (register : Reg) → bad_registers from starts ≡ None
    → register_accepts register (register_start register (get_or starts output no_start)) ≡ true
accepted-registers from [] output register e = accepted-nothing register
accepted-registers from (start ∷ starts) zero register e =
    accepted-register from start register ((or-none (bad_register from start) (bad_registers (from + 1) starts) e).0)
accepted-registers from (start ∷ starts) (suc output) register e =
    accepted-registers (from + 1) starts output register ((or-none (bad_register from start) (bad_registers (from + 1) starts) e).1)

-- a mode that is read
IsRead : ℕ → Type 0
IsRead byte = result_err (mode_of byte) ≡ None

-- each output's mode is read
read-mode : (from : ℕ) (starts : List OutputStart) (output : ℕ) → bad_mode from starts ≡ None → IsRead (get_or starts output no_start).mode
unfolding IsRead
read-mode from [] output e = refl
read-mode from (start ∷ starts) zero e =
    map-none (λ fault. BadMode from fault) (result_err (mode_of start.mode))
    ((or-none (option_map (λ fault. BadMode from fault) (result_err (mode_of start.mode))) (bad_mode (from + 1) starts) e).0)
read-mode from (start ∷ starts) (suc output) e =
    read-mode (from + 1) starts output
    ((or-none (option_map (λ fault. BadMode from fault) (result_err (mode_of start.mode))) (bad_mode (from + 1) starts) e).1)

-- an element that passes a test
any-at : (test : OutputStart → Bool) (starts : List OutputStart) (output : ℕ) → test no_start ≡ false
    → test (get_or starts output no_start) ≡ true → list_any test starts ≡ true
any-at test [] output fails holds = absurd (true≢false holds fails) where
  true≢false : test no_start ≡ true → test no_start ≡ false → ⊥
  true≢false a b = let e : true ≡ false = sym a ∙ b in cc
any-at test (start ∷ starts) zero fails holds = ap (λ b. b || list_any test starts) holds
any-at test (start ∷ starts) (suc output) fails holds = go (test start) (any-at test starts output fails holds) where
  go : (b : Bool) → list_any test starts ≡ true → (b || list_any test starts) ≡ true
  go true h = refl
  go false h = h

-- the format of a mode that is read, where the coefficients are one for DIRECT
made-shape : (read : Result VoutMode TableFault) (c : Coefficients) → result_err read ≡ None
    → (is_direct read ≡ true → result_err (shape_in Direct c) ≡ None) → (shape : Shape)
    × (option_and_then (λ mode. result_ok (shape_in mode c)) (result_ok read) ≡ Some shape)
made-shape (Err fault) c e direct = cc
made-shape (Ok (Linear n)) c e direct = (_, refl)
made-shape (Ok Direct) c e direct = go (shape_in Direct c) (direct refl) where
  go : (made : Result Shape NumFault) → result_err made ≡ None → (shape : Shape) × (result_ok made ≡ Some shape)
  go (Ok shape) h = (shape, refl)
  go (Err fault) h = cc

-- a value that exists is the one that is taken
unwrapped : {X : Type 0} (made : Option X) (x d : X) → made ≡ Some x → made ≡ Some (unwrap_or made d)
unwrapped None x d e = cc
unwrapped (Some s) x d e = refl

-- the mode of an output is that of its start
pub mode-of_start : (config : Config) (output : ℕ) → mode_for config output ≡ (get_or config.starts output no_start).mode
mode-of_start config output = get_or-map (λ (start : OutputStart). start.mode) config.starts output no_start

-- the count, the address
counted : (count : ℕ) → (eqb count 0 || ltb 8 count) ≡ false → (1 ≤ count) × (count ≤ 8)
counted count e = (grind (arith, nat_tests, e), grind (arith, nat_tests, e))

-- the address is one that a device may have
addressed : (addr : ℕ) → (ltb addr 0x08 || ltb 0x77 addr) ≡ false → IsAddress addr
addressed addr e = (grind (arith, nat_tests, e), grind (arith, nat_tests, e))

-- the start of an output that there is, among those that there are
pub start-there : (config : Config) (output : ℕ) → output < config.count
    → get_or (outputs config) output no_start ≡ get_or config.starts output no_start
start-there config output here = get_or-take config.count config.starts output no_start here

-- each of an output's start words is accepted
starts-accepted : (config : Config) (cell : Cell) → bad_start config ≡ None → IsCell config.count cell
    → cell_accepts cell (start_word config cell) ≡ true
starts-accepted config (Out output register) e here =
    let none = (or-none (bad_registers 0 (outputs config)) (cond (cell_accepts Protect config.protect) None (Some Protect)) e).0 in
    let accepted = accepted-registers 0 (outputs config) output register none in
    subst (λ w. register_accepts register w ≡ true)
    (ap (λ s. register_start register s) (start-there config output here) ∙ sym (word-of_start config.starts output register)) accepted
starts-accepted config Protect e here =
    unless-none (cell_accepts Protect config.protect) Protect
    ((or-none (bad_registers 0 (outputs config)) (cond (cell_accepts Protect config.protect) None (Some Protect)) e).1)

-- each output has a format
format-made : (config : Config) (output : ℕ) → bad_mode 0 (outputs config) ≡ None → bad_coefficients config ≡ None → output < config.count
    → shape_made config output ≡ Some (shape_for config output)
unfolding shape_for
format-made config output modes coefficients here =
    unwrapped (shape_made config output) (shape.0) InLinear11 shape.1
  where
    byte : (get_or (outputs config) output no_start).mode ≡ mode_for config output
    byte = ap (λ (s : OutputStart). s.mode) (start-there config output here) ∙ sym (mode-of_start config output)

    read : result_err (mode_of (mode_for config output)) ≡ None
    read = subst (λ b. result_err (mode_of b) ≡ None) byte (unfold IsRead in read-mode 0 (outputs config) output modes)

    some : is_direct (mode_of (mode_for config output)) ≡ true → has_direct config ≡ true
    some holds = any-at (λ start. is_direct (mode_of start.mode)) (outputs config) output refl
        (subst (λ b. is_direct (mode_of b) ≡ true) (sym byte) holds)

    good : (b : Bool) → has_direct config ≡ b → cond b (result_err (shape_in Direct config.coefficients)) None ≡ None
        → is_direct (mode_of (mode_for config output)) ≡ true → result_err (shape_in Direct config.coefficients) ≡ None
    good true is none holds = none
    good false is none holds = let e : true ≡ false = sym (some holds) ∙ is in cc

    shape : (shape : Shape) × (shape_made config output ≡ Some shape)
    shape = made-shape (mode_of (mode_for config output)) config.coefficients read (good (has_direct config) refl coefficients)

-- a configuration without a fault is sound
pub sound : (config : Config) → config_fault config ≡ None → IsSound config
unfolding config_fault
sound config e = record {
  some = (counted config.count count).0;
  few = (counted config.count count).1;
  address = addressed config.addr address;
  starts = λ cell here. starts-accepted config cell starts here;
  formats = λ output here. format-made config output modes coefficients here;
} where
  modes_and : Option ConfigFault
  modes_and = option_or (bad_mode 0 (outputs config)) (option_map (λ fault. BadCoefficients fault) (bad_coefficients config))

  address_and : Option ConfigFault
  address_and = option_or (cond (ltb config.addr 0x08 || ltb 0x77 config.addr) (Some Address) None) modes_and

  starts_and : Option ConfigFault
  starts_and = option_or (option_map (λ cell. BadStart cell) (bad_start config)) address_and

  first : (cond (eqb config.count 0 || ltb 8 config.count) (Some OutputCount) None ≡ None) × (starts_and ≡ None)
  first = or-none (cond (eqb config.count 0 || ltb 8 config.count) (Some OutputCount) None) starts_and e

  second : (option_map (λ cell. BadStart cell) (bad_start config) ≡ None) × (address_and ≡ None)
  second = or-none (option_map (λ cell. BadStart cell) (bad_start config)) address_and first.1

  third : (cond (ltb config.addr 0x08 || ltb 0x77 config.addr) (Some Address) None ≡ None) × (modes_and ≡ None)
  third = or-none (cond (ltb config.addr 0x08 || ltb 0x77 config.addr) (Some Address) None) modes_and second.1

  fourth : (bad_mode 0 (outputs config) ≡ None) × (option_map (λ fault. BadCoefficients fault) (bad_coefficients config) ≡ None)
  fourth = or-none (bad_mode 0 (outputs config)) (option_map (λ fault. BadCoefficients fault) (bad_coefficients config)) third.1

  count : (eqb config.count 0 || ltb 8 config.count) ≡ false
  count = rule-none (eqb config.count 0 || ltb 8 config.count) OutputCount first.0

  starts : bad_start config ≡ None
  starts = map-none (λ cell. BadStart cell) (bad_start config) second.0

  address : (ltb config.addr 0x08 || ltb 0x77 config.addr) ≡ false
  address = rule-none (ltb config.addr 0x08 || ltb 0x77 config.addr) Address third.0

  modes : bad_mode 0 (outputs config) ≡ None
  modes = fourth.0

  coefficients : bad_coefficients config ≡ None
  coefficients = map-none (λ fault. BadCoefficients fault) (bad_coefficients config) fourth.1

-- A sound configuration has no fault: none of its rules applies.

-- each start word of these outputs is accepted
AreAccepted : List OutputStart → Type 0
AreAccepted starts = (output : ℕ) (register : Reg) → output < length starts →
    register_accepts register (register_start register (get_or starts output no_start)) ≡ true

-- no register is bad where each start word is accepted
no-bad_register : (output : ℕ) (start : OutputStart) → register_accepts Operation (register_start Operation start) ≡ true →
    bad_register output start ≡ None
no-bad_register output start e = go (is_operation start.operation) e where
  go : (b : Bool) → b ≡ true → option_map (λ (register : Reg). Out output register) (cond (not b) (Some Operation) None) ≡ None
  go true h = refl
  go false h = cc

-- no output has a bad register where each start word of the outputs is accepted
no-bad_registers : (from : ℕ) (starts : List OutputStart) → AreAccepted starts → bad_registers from starts ≡ None
unfolding AreAccepted
no-bad_registers from [] all = refl
no-bad_registers from (start ∷ starts) all =
    subst (λ x. option_or x (bad_registers (from + 1) starts) ≡ None)
    (sym (no-bad_register from start (all 0 Operation (omega arith))))
    (no-bad_registers (from + 1) starts (λ output register here. all (suc output) register (omega (arith, here))))

-- no mode is bad where each is read
no-bad_mode : (from : ℕ) (starts : List OutputStart) →
    ((output : ℕ) → output < length starts → result_err (mode_of (get_or starts output no_start).mode) ≡ None) →
    bad_mode from starts ≡ None
no-bad_mode from [] all = refl
no-bad_mode from (start ∷ starts) all =
    subst (λ x. option_or (option_map (λ fault. BadMode from fault) x) (bad_mode (from + 1) starts) ≡ None)
    (sym (all 0 (omega arith)))
    (no-bad_mode (from + 1) starts (λ output here. all (suc output) (omega (arith, here))))

-- what follows from each element that passes a test follows where one passes
any-gives : (Q : Type 0) (test : OutputStart → Bool) (starts : List OutputStart) → list_any test starts ≡ true →
    ((output : ℕ) → output < length starts → test (get_or starts output no_start) ≡ true → Q) → Q
any-gives Q test [] e each = cc
any-gives Q test (start ∷ starts) e each =
    go (test start) refl e (λ rest. any-gives Q test starts rest (λ output here. each (suc output) (omega (arith, here))))
  where
    go : (b : Bool) → test start ≡ b → (b || list_any test starts) ≡ true → (list_any test starts ≡ true → Q) → Q
    go true is h later = each 0 (omega arith) is
    go false is h later = later h

-- a mode that makes a format was read, and if it is DIRECT its coefficients make a format
made-read : (read : Result VoutMode TableFault) (c : Coefficients) (shape : Shape) →
    option_and_then (λ mode. result_ok (shape_in mode c)) (result_ok read) ≡ Some shape →
    (result_err read ≡ None) × (is_direct read ≡ true → result_err (shape_in Direct c) ≡ None)
made-read (Err fault) c shape e = cc
made-read (Ok (Linear n)) c shape e = (refl, λ h. cc)
made-read (Ok Direct) c shape e = (refl, λ h. go (shape_in Direct c) e) where
  go : (made : Result Shape NumFault) → result_ok made ≡ Some shape → result_err made ≡ None
  go (Ok found) h = refl
  go (Err fault) h = cc

-- an output among those that there are
there : (count : ℕ) (starts : List OutputStart) (output : ℕ) → output < length (take count starts) → output < count
there zero starts output here = here
there (suc count) [] output here = let none : output < 0 = here in omega (arith, none)
there (suc count) (start ∷ starts) zero here = omega arith
there (suc count) (start ∷ starts) (suc output) here =
    let below = there count starts output (omega (arith, here)) in omega (arith, below)

module _ (config : Config) (sound : IsSound config) where
  -- an output's mode is read, and so are the coefficients where it is DIRECT
  read-at : (output : ℕ) → output < length (outputs config) →
      (result_err (mode_of (get_or (outputs config) output no_start).mode) ≡ None)
      × (is_direct (mode_of (get_or (outputs config) output no_start).mode) ≡ true →
      result_err (shape_in Direct config.coefficients) ≡ None)
  read-at output here =
      let below = there config.count config.starts output here in
      let same : mode_for config output ≡ (get_or (outputs config) output no_start).mode =
      mode-of_start config output ∙ sym (ap (λ (s : OutputStart). s.mode) (start-there config output below)) in
      subst (λ byte. (result_err (mode_of byte) ≡ None)
      × (is_direct (mode_of byte) ≡ true → result_err (shape_in Direct config.coefficients) ≡ None)) same
      (made-read (mode_of (mode_for config output)) config.coefficients _ (sound.formats output below))

  accepted : AreAccepted (outputs config)
  unfolding AreAccepted
  accepted output register here =
      let below = there config.count config.starts output here in
      subst (λ w. register_accepts register w ≡ true)
      (word-of_start config.starts output register ∙ sym (ap (λ s. register_start register s) (start-there config output below)))
      (sound.starts (Out output register) below)

  no-bad_coefficients : bad_coefficients config ≡ None
  no-bad_coefficients = go (has_direct config) refl where
    go : (b : Bool) → has_direct config ≡ b → cond b (result_err (shape_in Direct config.coefficients)) None ≡ None
    go true is =
        any-gives (result_err (shape_in Direct config.coefficients) ≡ None) (λ start. is_direct (mode_of start.mode))
        (outputs config) is (λ output here. (read-at output here).1)
    go false is = refl

  no-bad_start : bad_start config ≡ None
  no-bad_start =
      subst (λ x. option_or x (cond (cell_accepts Protect config.protect) None (Some Protect)) ≡ None)
      (sym (no-bad_registers 0 (outputs config) accepted))
      (subst (λ b. cond b None (Some Protect) ≡ None) (sym (sound.starts Protect tt)) refl)

  -- no rule applies
  pub faultless : config_fault config ≡ None
  unfolding config_fault
  faultless =
      let count : (eqb config.count 0 || ltb 8 config.count) ≡ false = grind (arith, nat_tests, sound.some, sound.few) in
      let address : (ltb config.addr 0x08 || ltb 0x77 config.addr) ≡ false =
      grind (arith, nat_tests, sound.address.0, sound.address.1) in
      go (eqb config.count 0 || ltb 8 config.count) (bad_start config) (ltb config.addr 0x08 || ltb 0x77 config.addr)
      (bad_mode 0 (outputs config)) (bad_coefficients config) (count, no-bad_start, address)
      (no-bad_mode 0 (outputs config) (λ output here. (read-at output here).0), no-bad_coefficients)
    where
      go : (many : Bool) (start : Option Cell) (addr : Bool) (mode : Option ConfigFault) (coefficients : Option NumFault) →
          (many ≡ false) × (start ≡ None) × (addr ≡ false) → (mode ≡ None) × (coefficients ≡ None) →
          option_or (cond many (Some OutputCount) None)
          (option_or (option_map (λ cell. BadStart cell) start)
          (option_or (cond addr (Some Address) None)
          (option_or mode (option_map (λ fault. BadCoefficients fault) coefficients)))) ≡ None
      go false None false None None first second = refl
      go many start addr mode coefficients first second = cc
