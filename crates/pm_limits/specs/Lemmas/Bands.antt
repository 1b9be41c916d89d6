-- The ends of a band.
use Rattle.std.specs.Prelude.{◌≡◌, ℕ, ◌^◌, ◌<◌, ◌==◌, pos, negsuc, Bool, true, false, cond, ◌||◌, List, [], ◌∷◌, refl}
use Rattle.std.specs.List.{list_any}
use Rattle.std.proofs.Common.{◌∙◌, ap, arith, subst}
use Rattle.std.proofs.lemmas.Bool.Decides.{nat_tests}
use Rattle.pm_num.specs.AnyFormat.{Shape, InLinear11, InUlinear16, InDirect, shape_value}
use Rattle.pm_num.specs.Ratio.{Ratio, IsBetween, is_above}
use Rattle.pm_num.specs.Lemmas.Spelling.{linear11-within}
use Rattle.pm_num.specs.Lemmas.Slope.{direct-within}
use Rattle.pm_num.specs.Lemmas.Unsigned.{ulinear16-within}
use Rattle.pm_table.specs.declared.reg.Reg.{Reg}
use Rattle.pm_table.specs.declared.reg.Reg.TheVariants.{Operation, VoutMax, VoutMin}
use Rattle.pm_table.specs.declared.cell.Cell.TheVariants.{Out}
use Rattle.pm_table.specs.Cell.{same_register}
use Rattle.pm_model.specs.Commanded.{commanded, limited, selected, selected_register}
use Rattle.pm_model.specs.Settings.{Words, word_at}
use Rattle.pm_host.specs.declared.knowledge.Possible.{Possible}
use Rattle.pm_host.specs.declared.knowledge.Possible.TheVariants.{Any, Words as Listed}
use Rattle.pm_host.specs.Possible.{is_listed, is_possible}
use Rattle.pm_limits.specs.declared.ends.Side.{Side}
use Rattle.pm_limits.specs.declared.ends.Side.TheVariants.{Lowest, Highest}
use Rattle.pm_limits.specs.Band.{HasDens, Known, decides, each_selection, end_choice, end_with, is_selected, is_untaken, operation_end}
use Rattle.pm_limits.specs.Band.{operations, reach, word_end}
use Rattle.pm_limits.specs.Ends.{Reaches, farthest_word, farthest_of, format_end, shape_ends}
use Rattle.pm_limits.specs.Lemmas.Cuts.{reaches-cut}
use Rattle.pm_limits.specs.Lemmas.Farthest.{HaveDens, farthest_of-listed, reaches-through}
use Rattle.pm_num.specs.Lemmas.Order.{not-above}
use Rattle.pm_limits.specs.Lemmas.Selected.{each-selected}

-- the value of each listed word has a positive denominator if the value of every word has
pub all-dens : (value : ℕ → Ratio) → ((word : ℕ) → 0 < (value word).den) → (words : List ℕ) → HaveDens value words
all-dens value dens [] = tt
all-dens value dens (word ∷ words) = (dens word, all-dens value dens words)

-- what lies between two listed values lies no farther out than the farthest
between : (side : Side) (value : ℕ → Ratio) (words : List ℕ) (low high : ℕ) (x : Ratio) → ((word : ℕ) → 0 < (value word).den) →
    is_listed low words ≡ true → is_listed high words ≡ true → IsBetween (value low) (value high) x →
    Reaches side (value (farthest_of side value words)) x
between Lowest value words low high x dens l h is =
    reaches-through Lowest (value (farthest_of Lowest value words)) (value low) x (dens low)
    (farthest_of-listed Lowest value words low (all-dens value dens words) l) is.from_least
between Highest value words low high x dens l h is =
    reaches-through Highest (value (farthest_of Highest value words)) (value high) x (dens high)
    (farthest_of-listed Highest value words high (all-dens value dens words) h) is.to_greatest

-- no word lies farther out than the ends of its format
shape-held : (side : Side) (shape : Shape) (word : ℕ) → HasDens shape → word < 2 ^ 16 →
    Reaches side (shape_value shape (farthest_of side (shape_value shape) (shape_ends shape))) (shape_value shape word)
shape-held side InLinear11 word dens short =
    between side (shape_value InLinear11) (shape_ends InLinear11) 0x7C00 0x7BFF (shape_value InLinear11 word) dens refl refl
    (linear11-within word short)
shape-held side (InUlinear16 n) word dens short =
    between side (shape_value (InUlinear16 n)) (shape_ends (InUlinear16 n)) 0 0xFFFF (shape_value (InUlinear16 n) word) dens refl refl
    (ulinear16-within n word short)
shape-held side (InDirect (pos n) b r) word dens short =
    between side (shape_value (InDirect (pos n) b r)) (shape_ends (InDirect (pos n) b r)) 0x8000 0x7FFF
    (shape_value (InDirect (pos n) b r) word) dens refl refl (direct-within (pos n) b r word short)
shape-held side (InDirect (negsuc n) b r) word dens short =
    between side (shape_value (InDirect (negsuc n) b r)) (shape_ends (InDirect (negsuc n) b r)) 0x7FFF 0x8000
    (shape_value (InDirect (negsuc n) b r) word) dens refl refl (direct-within (negsuc n) b r word short)

-- The least end of its format, which stands for a missing VOUT_MIN, is above no word.
pub least-cuts-nothing : (shape : Shape) (word : ℕ) → HasDens shape → word < 2 ^ 16 →
    is_above (shape_value shape (format_end Lowest shape)) (shape_value shape word) ≡ false
least-cuts-nothing shape word dens short = not-above (shape_value shape (format_end Lowest shape)) (shape_value shape word)
    (shape-held Lowest shape word dens short)

-- The greatest end of its format, which stands for a missing VOUT_MAX, is below no word.
pub greatest-cuts-nothing : (shape : Shape) (word : ℕ) → HasDens shape → word < 2 ^ 16 →
    is_above (shape_value shape word) (shape_value shape (format_end Highest shape)) ≡ false
greatest-cuts-nothing shape word dens short = not-above (shape_value shape word) (shape_value shape (format_end Highest shape))
    (shape-held Highest shape word dens short)

-- No word that a register may hold lies farther out than the end of what it may hold.
end-held : (side : Side) (shape : Shape) (possible : Possible) (word : ℕ) → HasDens shape → word < 2 ^ 16 →
    is_possible word possible ≡ true →
    Reaches side (shape_value shape (farthest_word side shape (shape_value shape) possible)) (shape_value shape word)
end-held side shape Any word dens short is = shape-held side shape word dens short
end-held side shape (Listed words) word dens short is =
    farthest_of-listed side (shape_value shape) words.items word (all-dens (shape_value shape) dens words.items) is

-- A register is the same as itself.
same-itself : (register : Reg) → same_register register register ≡ true
same-itself register = grind (arith, nat_tests)

-- the register that a listed byte selects is among those that the list's bytes select
listed-selected : (bytes : List ℕ) (byte : ℕ) → is_listed byte bytes ≡ true → is_selected bytes (selected_register byte) ≡ true
listed-selected [] byte is = is
listed-selected (other ∷ bytes) byte is =
    go (listed-selected bytes byte) (other == byte) (same_register (selected_register other) (selected_register byte)) refl refl is
  where
    go : (is_listed byte bytes ≡ true → is_selected bytes (selected_register byte) ≡ true) → (b s : Bool) → (other == byte) ≡ b
        → same_register (selected_register other) (selected_register byte) ≡ s →
        (b || is_listed byte bytes) ≡ true → (s || is_selected bytes (selected_register byte)) ≡ true
    go later b true e f is' = refl
    go later true false e f is' =
        let it : other ≡ byte = grind (arith, nat_tests) in
        let yes = same-itself (selected_register byte) in
        let no = subst (λ k. same_register (selected_register k) (selected_register byte) ≡ false) it f in cc
    go later false false e f is' = later is'

-- a selected register decides
selected-decides : (known : Known) (register : Reg) → is_selected (operations (known Operation)) register ≡ true →
    decides known register ≡ true
selected-decides known register h = go (list_any (same_register register) (Operation ∷ VoutMax ∷ VoutMin ∷ []))
    (is_selected (operations (known Operation)) register) h
  where
    go : (p q : Bool) → q ≡ true → (p || q) ≡ true
    go true q e = refl
    go false q e = e

-- the register that a possible byte of OPERATION selects is among those that OPERATION may select
byte-selects : (possible : Possible) (byte : ℕ) → is_possible byte possible ≡ true →
    is_selected (operations possible) (selected_register byte) ≡ true
byte-selects Any byte is =
    each-selected (λ r. is_selected (operations Any) r ≡ true) refl refl refl byte
byte-selects (Listed words) byte is = go (list_any is_untaken words.items) where
  go : (untaken : Bool) → is_selected (cond untaken each_selection words.items) (selected_register byte) ≡ true
  go true = each-selected (λ r. is_selected each_selection r ≡ true) refl refl refl byte
  go false = listed-selected words.items byte is

-- any byte reaches no farther than the farthest of those that stand for all
any-held : (side : Side) (shape : Shape) (known : Known) (byte : ℕ) → HasDens shape →
    Reaches side (reach side shape known (operation_end side shape known each_selection)) (reach side shape known byte)
any-held side shape known byte dens =
    let far = reach side shape known (operation_end side shape known each_selection) in
    let all = all-dens (reach side shape known) (λ b. dens (word_end side shape known (selected_register b))) each_selection in
    each-selected (λ r. Reaches side far (shape_value shape (word_end side shape known r)))
    (farthest_of-listed side (reach side shape known) each_selection 0x80 all refl)
    (farthest_of-listed side (reach side shape known) each_selection 0xA8 all refl)
    (farthest_of-listed side (reach side shape known) each_selection 0x94 all refl) byte

-- a byte that OPERATION may be reaches no farther than the farthest
byte-held : (side : Side) (shape : Shape) (known : Known) (possible : Possible) (byte : ℕ) → HasDens shape →
    is_possible byte possible ≡ true →
    Reaches side (reach side shape known (operation_end side shape known (operations possible))) (reach side shape known byte)
byte-held side shape known Any byte dens is = any-held side shape known byte dens
byte-held side shape known (Listed words) byte dens is = go (list_any is_untaken words.items) where
  go : (untaken : Bool) →
      Reaches side (reach side shape known (operation_end side shape known (cond untaken each_selection words.items)))
      (reach side shape known byte)
  go true = any-held side shape known byte dens
  go false = farthest_of-listed side (reach side shape known) words.items byte
      (all-dens (reach side shape known) (λ b. dens (word_end side shape known (selected_register b))) words.items) is

-- No value that the output commands lies beyond an end of its band.
pub band-held : (side : Side) (shape : Shape) (known : Known) (words : Words) (output : ℕ) → HasDens shape →
    ((register : Reg) → decides known register ≡ true → is_possible (word_at words (Out output register)) (known register) ≡ true) →
    ((register : Reg) → word_at words (Out output register) < 2 ^ 16) →
    Reaches side (end_with side shape known (operations (known Operation))) (commanded (shape_value shape) words output)
unfolding end_with commanded selected
band-held side shape known words output dens possible short =
    let value = shape_value shape in
    let byte = word_at words (Out output Operation) in
    let register = selected_register byte in
    let far = operation_end side shape known (operations (known Operation)) in
    let is = possible Operation refl in
    let sure = possible register (selected-decides known register (byte-selects (known Operation) byte is)) in
    reaches-cut side
    (record {
      selected = reach side shape known far;
      least = value (word_end side shape known VoutMin);
      greatest = value (word_end side shape known VoutMax);
      selected_den = dens (word_end side shape known (selected_register far));
      least_den = dens (word_end side shape known VoutMin);
      greatest_den = dens (word_end side shape known VoutMax);
    })
    (record {
      selected = value (word_at words (Out output register));
      least = value (word_at words (Out output VoutMin));
      greatest = value (word_at words (Out output VoutMax));
      selected_den = dens (word_at words (Out output register));
      least_den = dens (word_at words (Out output VoutMin));
      greatest_den = dens (word_at words (Out output VoutMax));
    })
    (reaches-through side (reach side shape known far) (reach side shape known byte) (value (word_at words (Out output register)))
    (dens (word_end side shape known register)) (byte-held side shape known (known Operation) byte dens is)
    (end-held side shape (known register) (word_at words (Out output register)) dens (short register) sure))
    (end-held side shape (known VoutMin) (word_at words (Out output VoutMin)) dens (short VoutMin) (possible VoutMin refl))
    (end-held side shape (known VoutMax) (word_at words (Out output VoutMax)) dens (short VoutMax) (possible VoutMax refl))

-- With the words of an end the output commands that end.
pub band-reached : (side : Side) (shape : Shape) (known : Known) (words : Words) (output : ℕ) →
    ((register : Reg) → word_at words (Out output register) ≡ end_choice side shape known register) →
    commanded (shape_value shape) words output ≡ end_with side shape known (operations (known Operation))
unfolding end_with commanded selected
band-reached side shape known words output are =
    let value = shape_value shape in
    let byte = word_at words (Out output Operation) in
    let far = operation_end side shape known (operations (known Operation)) in
    let chosen = are (selected_register byte)
    ∙ each-selected (λ r. end_choice side shape known r ≡ word_end side shape known r) refl refl refl byte
    ∙ ap (λ (b : ℕ). word_end side shape known (selected_register b)) (are Operation) in
    ap (λ (w : ℕ). limited (value w) (value (word_at words (Out output VoutMin))) (value (word_at words (Out output VoutMax)))) chosen
    ∙ ap (λ (w : ℕ). limited (reach side shape known far) (value w) (value (word_at words (Out output VoutMax)))) (are VoutMin)
    ∙ ap (λ (w : ℕ). limited (reach side shape known far) (value (word_end side shape known VoutMin)) (value w)) (are VoutMax)
