-- What a decoder makes of bytes that come in pieces: runs, lines, pairs of digits.
use Rattle.std.specs.List.{fold, list_any, concat, count_by}
use Rattle.std.specs.Prelude.{is_some, flat_map}
use Rattle.std.proofs.{Math.Bool.or-false, Math.Seq.take-append_seam, lemmas.Bool.Decides.nat_tests, lemmas.Bool.and_parts}
use Rattle.std.proofs.{lemmas.List.Folds.list_any-append}
use Rattle.std.proofs.Common.{◌≡◌, ℕ, ◌+◌, Bool, true, false, eqb, List, [], ◌∷◌, ◌++◌, length, refl, sym, ap, ◌∙◌, arith, append_assoc}
use Rattle.std.proofs.Common.{append-nil, inl, inr, cond, subst, length-append, Option, Some, None, not, ◌-◌, ◌≤◌, ◌&&◌, ◌||◌, take, drop}
use Rattle.std.proofs.Common.{get_or, ne_eqb, ◌<◌, ltb, take-append-drop}
use Rattle.std.proofs.Math.ListN.{set, length-set}
use Rattle.std.proofs.lemmas.List.{take_all, length-take, take_more_set}
use Rattle.std.proofs.lemmas.List.Sums.{fold-append, sum_by-cons}
use Rattle.hex.specs.Hex.{is_hex_digit}
use Rattle.pm_lines.specs.Streams.{max_text}
use Rattle.pm_lines.specs.Lines.{is_line_feed, is_space}
use Rattle.pm_lines.specs.Pairs.{byte_of, paired_bytes, behind_pairs}
use Rattle.pm_trace.specs.{declared.decoder.Decoder.TheInside.Inside, declared.decoder.intake.Intake.TheVariants.Open}
use Rattle.pm_trace.specs.{declared.decoder.line_kind.LineKind.LineKind, declared.decoder.open_line.OpenLine.OpenLine}
use Rattle.pm_trace.specs.{declared.decoder.slashes.Slashes.Slashes, declared.fed.Fed.Fed}
use Rattle.pm_trace.specs.Counts.{Counts, IsNewCode, counts_of, counts_with, lines_in, is_line_accepted, is_faulty, is_bad}
use Rattle.pm_trace.specs.Decoding.{Kept, kept_takes, kept_with_bytes, told, some_told, line_ended, line_told, Holding, Feeds, first_line}
use Rattle.pm_trace.specs.Decoding.{taken_from_piece}
use Rattle.pm_trace.specs.Decoding.{CarriesNew, IsFresh, Finishes, kept_of_bytes, said, told_at_end, kept_at_end, taken_by_intake}
use Rattle.pm_trace.specs.Decoding.{told_by_intake, kept_by_intake}
use Rattle.pm_trace.specs.Holdings.{Takes as HoldingsTakes, holding_in, shown_in}
use Rattle.pm_trace.specs.Lemmas.Runs.{taken-unmarked, told-append, told-unmarked}
use Rattle.pm_trace.specs.Lemmas.Said.{now-append, said-append, trace_of-end, counts-at_end}
use Rattle.pm_trace.specs.OpenLines.{line_takes, Passes, IsAtLineFeed, open_judged, plain_takes, kind_takes, has_slash, begins_with_pair}
use Rattle.pm_trace.specs.OpenLines.{takes_pairs, is_begun}
use Rattle.pm_trace.specs.Parts.{Collected, part_takes}
use Rattle.pm_trace.specs.Pieces.{Call, Calls, Decodes, TakesWhole, taken_in, Stops, TakesFront}
use Rattle.pm_trace.specs.Trace.{ToldLine, max_part, Accepted, Faulty, BadSyntax, BadHex, trace_of}
use Rattle.pm_trace.specs.declared.decoder.line_kind.LineKind.TheVariants.{Empty, Blank, Comment, Packet}
use Rattle.pm_trace.specs.declared.decoder.slashes.Slashes.TheVariants as slash

-- How bytes without a line feed run, and one after them.

-- what is kept where bytes without a line feed come
abbrev pub kept_with : Kept → List ℕ → Kept
kept_with kept bytes = record kept {
  taken = kept.taken + length bytes;
  line = fold line_takes kept.line bytes;
}

-- at this many bytes taken
kept_at : Kept → ℕ → OpenLine → Kept
kept_at kept taken line = record kept { taken = taken; line = line }

-- bytes without a line feed go to the line
pub next_plain : (kept : Kept) (bytes : List ℕ) → list_any is_line_feed bytes ≡ false → kept_with_bytes kept bytes ≡ kept_with kept bytes
unfolding kept_takes kept_at
next_plain = taken-unmarked is_line_feed kept_takes kept_with none more
  where
    none : (kept : Kept) → kept ≡ kept_with kept []
    none kept = let same : kept.taken ≡ kept.taken + 0 = omega arith in ap (λ t. kept_at kept t kept.line) same

    more : (kept : Kept) (x : ℕ) (xs : List ℕ) → is_line_feed x ≡ false → kept_with (kept_takes kept x) xs ≡ kept_with kept (x ∷ xs)
    more kept x xs is =
        let takes : kept_takes kept x ≡ kept_at kept (kept.taken + 1) (line_takes kept.line x) = rw is refl in
        let many : kept.taken + 1 + length xs ≡ kept.taken + length (x ∷ xs) = omega arith in
        ap (λ k. kept_with k xs) takes ∙ ap (λ t. kept_at kept t (fold line_takes (line_takes kept.line x) xs)) many

-- bytes without a line feed say nothing
pub told_plain : (kept : Kept) (bytes : List ℕ) → list_any is_line_feed bytes ≡ false → told kept bytes ≡ []
told_plain = told-unmarked is_line_feed kept_takes (λ kept. some_told (line_told kept))

-- a line feed after bytes without one
pub next_ended : (kept : Kept) (front : List ℕ) → list_any is_line_feed front ≡ false
    → kept_with_bytes kept (front ++ 10 ∷ []) ≡ record (line_ended (kept_with kept front)) { taken = kept.taken + length front + 1 }
unfolding kept_takes
next_ended kept front plain =
    fold-append kept_takes kept front (10 ∷ []) ∙ ap (λ k. kept_takes k 10) (next_plain kept front plain)

-- a line feed after bytes without one tells their line
pub told_ended : (kept : Kept) (front : List ℕ) → list_any is_line_feed front ≡ false
    → told kept (front ++ 10 ∷ []) ≡ some_told (line_told (kept_with kept front))
told_ended kept front plain =
    told-append is_line_feed kept_takes (λ kept. some_told (line_told kept)) kept front (10 ∷ [])
    ∙ rw (told_plain kept front plain, next_plain kept front plain)
    (append-nil (some_told (line_told (kept_with kept front))))

-- What a call that takes bytes leaves, by the first line of these bytes.

-- a call shows no line from here on, and looks at these bytes of its piece
pub record Begins (start : Holding) (piece : List ℕ) (begun : Holding) (bytes : List ℕ) : Type 0 where
  pub begun_is : begun ≡ record start { shown = None }
  pub taken : taken_from_piece start piece ≡ first_line bytes

-- the bytes of a call, of which a line feed may be the last
module _ (start : Holding) {begun mid : Holding} {piece bytes : List ℕ} {fed : Fed} (begins : Begins start piece begun bytes)
    (takes : HoldingsTakes begun bytes fed mid) where
  kept_mid : mid.kept ≡ record (kept_with start.kept takes.front) { taken = start.kept.taken + fed.taken }
  kept_mid =
      ap (λ h. h.kept) takes.holding
      ∙ ap (λ h. record (kept_with h.kept takes.front) { taken = h.kept.taken + fed.taken }) begins.begun_is

  intake_mid : mid.intake ≡ start.intake
  intake_mid = ap (λ h. h.intake) takes.holding ∙ ap (λ h. h.intake) begins.begun_is

  -- nothing is shown while a line goes on
  pub shown_mid : mid.shown ≡ None
  shown_mid = ap (λ h. h.shown) takes.holding ∙ ap (λ h. h.shown) begins.begun_is

  -- what is taken of the piece
  line_is : (ended : Bool) → fed.ended ≡ ended → taken_from_piece start piece ≡ takes.front ++ cond ended (10 ∷ []) []
  line_is ended is = begins.taken ∙ takes.line ∙ ap (λ e. takes.front ++ cond e (10 ∷ []) []) is

  taken_is : fed.taken ≡ length (taken_from_piece start piece)
  taken_is = takes.taken ∙ sym (ap length begins.taken)

  -- no line ends, and none is told
  pub opens_told : fed.ended ≡ false → told start.kept (taken_from_piece start piece) ≡ []
  opens_told is =
      ap (told start.kept) (line_is false is ∙ append-nil takes.front) ∙ told_plain start.kept takes.front takes.plain

  -- the bytes end no line
  pub feeds_open : fed.ended ≡ false → Feeds start piece fed mid
  feeds_open is =
      let line : taken_from_piece start piece ≡ takes.front = line_is false is ∙ append-nil takes.front in
      let count : fed.taken ≡ length takes.front = taken_is ∙ ap length line in
      record {
        taken = taken_is;
        ended = is ∙ sym (ap (list_any is_line_feed) line ∙ takes.plain);
        kept =
            kept_mid ∙ ap (λ n. record (kept_with start.kept takes.front) { taken = start.kept.taken + n }) count
            ∙ sym (ap (kept_with_bytes start.kept) line ∙ next_plain start.kept takes.front takes.plain);
        shown = ap some_told shown_mid ∙ sym (opens_told is);
        intake = intake_mid;
      }

  -- what the line says that ends
  pub ends_told : fed.ended ≡ true → told start.kept (taken_from_piece start piece) ≡ some_told (line_told mid.kept)
  ends_told is =
      ap (told start.kept) (line_is true is) ∙ told_ended start.kept takes.front takes.plain
      ∙ ap (λ k. some_told (line_told k)) (sym kept_mid)

  -- the last byte ends a line
  pub feeds_ended : fed.ended ≡ true → (new : Holding) → new ≡ record mid { kept = line_ended mid.kept; shown = line_told mid.kept }
      → Feeds start piece fed new
  feeds_ended is new ended =
      let line = line_is true is in
      let count : start.kept.taken + fed.taken ≡ start.kept.taken + length takes.front + 1 =
      omega (arith, taken_is, ap length line, length-append takes.front (10 ∷ [])) in
      record {
        taken = taken_is;
        ended = is ∙ sym (ap (list_any is_line_feed) line ∙ list_any-append is_line_feed takes.front (10 ∷ []) ∙ rw takes.plain refl);
        kept =
            ap (λ h. h.kept) ended ∙ ap line_ended kept_mid
            ∙ ap (λ n. record (line_ended (kept_with start.kept takes.front)) { taken = n }) count
            ∙ sym (ap (kept_with_bytes start.kept) line ∙ next_ended start.kept takes.front takes.plain);
        shown = ap (λ h. some_told h.shown) ended ∙ sym (ends_told is);
        intake = ap (λ h. h.intake) ended ∙ intake_mid;
      }

  -- a refusal at the line's end stands for the bytes as a whole
  pub ends_new : fed.ended ≡ true → CarriesNew mid.kept.counts (some_told (line_told mid.kept))
      → CarriesNew start.kept.counts (told start.kept (taken_from_piece start piece))
  ends_new is new =
      let counts : mid.kept.counts ≡ start.kept.counts = ap (λ k. k.counts) kept_mid in
      let P : Counts → Type 0 = λ counts. IsNewCode counts new.line.1 in
      record { line = new.line; one = ends_told is ∙ new.one; is_new = subst P counts new.is_new }

-- a holding with more bytes taken
abbrev pub taken_more : Holding → ℕ → OpenLine → Holding
taken_more old more line = record old { kept = record old.kept { taken = old.kept.taken + more; line = line } }

-- the first line of bytes without a line feed, and with one after them
first_open : (front : List ℕ) → list_any is_line_feed front ≡ false → first_line front ≡ front
first_open [] plain = refl
first_open (x ∷ xs) plain = by (is_line_feed x) refl (first_open xs)
  where
    by : (b : Bool) → is_line_feed x ≡ b → (list_any is_line_feed xs ≡ false → first_line xs ≡ xs)
        → first_line (x ∷ xs) ≡ x ∷ xs
    by true is rest = let marked = rw is at plain in absurd (cc)
    by false is rest = rw is (ap (λ l. x ∷ l) (rest (rw is at plain)))

-- a line feed ends the first line
first_ended : (front more : List ℕ) → list_any is_line_feed front ≡ false → first_line (front ++ 10 ∷ more) ≡ front ++ 10 ∷ []
first_ended [] more plain = refl
first_ended (x ∷ xs) more plain = by (is_line_feed x) refl (first_ended xs more)
  where
    by : (b : Bool) → is_line_feed x ≡ b → (list_any is_line_feed xs ≡ false → first_line (xs ++ 10 ∷ more) ≡ xs ++ 10 ∷ [])
        → first_line ((x ∷ xs) ++ 10 ∷ more) ≡ (x ∷ xs) ++ 10 ∷ []
    by true is rest = let marked = rw is at plain in absurd (cc)
    by false is rest = rw is (ap (λ l. x ∷ l) (rest (rw is at plain)))

-- what the line took of the bytes is what is taken of them, with a line feed that is left
takes_bytes : {bytes rest : List ℕ} {line : OpenLine} → (old : Holding) (ended : Bool) (one : ℕ) → Passes old.kept.line bytes rest line
    → IsAtLineFeed rest → ended ≡ not (eqb (length rest) 0) → (ended ≡ true → one ≡ 1) → (ended ≡ false → one ≡ 0)
    → HoldingsTakes old bytes (record { taken = length bytes - length rest + one; ended = ended })
    (taken_more old (length bytes - length rest + one) line)
takes_bytes {bytes = bytes} {rest = []} {line = line} old ended one passes at is yes' no' =
    let all : bytes ≡ passes.front = passes.split ∙ append-nil passes.front in
    let whole : first_line bytes ≡ passes.front = ap first_line all ∙ first_open passes.front passes.plain in
    record {
      front = passes.front;
      plain = passes.plain;
      line = whole ∙ sym (append-nil passes.front) ∙ ap (λ e. passes.front ++ cond e (10 ∷ []) []) (sym is);
      taken = omega (arith, no' is, ap length all, ap length whole);
      within = omega (arith, no' is);
      holding = λ i. taken_more old (length bytes - 0 + one) (passes.line i);
    }
takes_bytes {bytes = bytes} {rest = x ∷ xs} {line = line} old ended one passes at is yes' no' =
    let some : eqb (length (x ∷ xs)) 0 ≡ false = grind (arith, nat_tests) in
    let here : ended ≡ true = is ∙ ap not some in
    let all : bytes ≡ passes.front ++ 10 ∷ xs = passes.split ∙ ap (λ y. passes.front ++ y ∷ xs) at in
    let whole : first_line bytes ≡ passes.front ++ 10 ∷ [] = ap first_line all ∙ first_ended passes.front xs passes.plain in
    let count : length bytes ≡ length passes.front + 1 + length xs = omega (arith, ap length all, length-append passes.front (10 ∷ xs)) in
    record {
      front = passes.front;
      plain = passes.plain;
      line = whole ∙ ap (λ e. passes.front ++ cond e (10 ∷ []) []) (sym here);
      taken = omega (arith, yes' here, count, ap length whole, length-append passes.front (10 ∷ []));
      within = omega (arith, yes' here, count);
      holding = λ i. taken_more old (length bytes - length (x ∷ xs) + one) (passes.line i);
    }

-- a decoder that shows no line has one that goes on
unshown : (d : Inside) → shown_in d ≡ None → d.is_shown ≡ false
unshown d none = by d.is_shown none
  where
    by : (b : Bool) → cond {A = Option ToldLine} b (Some (d.ended, open_judged d.line)) None ≡ None → b ≡ false
    by true some = absurd (cc)
    by false some = refl

-- its line took bytes
pub takes_inside : {old : Holding} {bytes rest : List ℕ} {line : OpenLine} (d : Inside) (ended : Bool) (one : ℕ) → holding_in d ≡ old
    → old.shown ≡ None → Passes d.line bytes rest line → IsAtLineFeed rest → ended ≡ not (eqb (length rest) 0)
    → (ended ≡ true → one ≡ 1) → (ended ≡ false → one ≡ 0)
    → HoldingsTakes old bytes (record { taken = length bytes - length rest + one; ended = ended })
    (holding_in (record d { taken = d.taken + (length bytes - length rest + one); line = line }))
takes_inside {old = old} {bytes = bytes} {rest = rest} {line = line} d ended one view shown passes at is yes' no' =
    let none : shown_in d ≡ None = ap (λ h. h.shown) view ∙ shown in
    let hidden : d.is_shown ≡ false = unshown d none in
    let more = length bytes - length rest + one in
    let before : d.line ≡ (holding_in d).kept.line = rw hidden refl in
    let after : taken_more (holding_in d) more line ≡ holding_in (record d { taken = d.taken + more; line = line }) = rw hidden refl in
    let P : OpenLine → Type 0 = λ l. Passes l bytes rest line in
    let Q : Holding → Type 0 = λ h. HoldingsTakes (holding_in d) bytes (record { taken = more; ended = ended }) h in
    let R : Holding → Type 0 = λ h. HoldingsTakes h bytes (record { taken = more; ended = ended })
    (holding_in (record d { taken = d.taken + more; line = line })) in
    subst R view (subst Q after (takes_bytes (holding_in d) ended one (subst P before passes) at is yes' no'))

-- What is kept of a line where pairs of digits come, with spaces between them.

-- the bytes of the pairs of digits that stand first, with the spaces between them
abbrev pairs_front : List ℕ → List ℕ
pairs_front [] = []
pairs_front (x ∷ []) = cond (is_space x) (x ∷ []) []
pairs_front (x ∷ y ∷ rest) =
    cond (is_space x) (x ∷ pairs_front (y ∷ rest)) (cond (is_hex_digit x && is_hex_digit y) (x ∷ y ∷ pairs_front rest) [])

-- a packet's line where nothing is held back
abbrev between : Collected → Collected → Slashes → Bool → OpenLine
between write read slashes bad = record {
  kind = Packet;
  write = write;
  read = read;
  digit = None;
  slashes = slashes;
  is_bad = bad;
  is_returned = false;
}

-- a space changes nothing
space_takes : (write read : Collected) (slashes : Slashes) (bad : Bool)
    → line_takes (between write read slashes bad) 32 ≡ between write read slashes bad
unfolding line_takes plain_takes
space_takes write read slashes bad = ap (between write read slashes) (or-false bad)

-- a space is its byte
space_is : (x : ℕ) → is_space x ≡ true → x ≡ 32
space_is x is = grind (arith, nat_tests)

-- a digit is no space, no slash and no carriage return
other_than : (x k : ℕ) → is_hex_digit x ≡ true → is_hex_digit k ≡ false → eqb x k ≡ false
other_than x k is other = by (eqb x k) refl
  where
    by : (b : Bool) → eqb x k ≡ b → b ≡ false
    by true same =
        let at : x ≡ k = grind (arith, nat_tests) in
        let wrong : true ≡ false = sym is ∙ ap is_hex_digit at ∙ other in absurd (cc)
    by false same = refl

-- a line that takes two digits is what it is with the byte that they write
pair_takes : (write read : Collected) (slashes : Slashes) (bad : Bool) (x y : ℕ) → is_hex_digit x ≡ true → is_hex_digit y ≡ true
    → line_takes (line_takes (between write read slashes bad) x) y
    ≡ between (cond (has_slash slashes) write (part_takes write (byte_of x y))) (cond (has_slash slashes) (part_takes read
    (byte_of x y)) read) slashes bad
unfolding line_takes plain_takes
pair_takes write read slashes bad x y first second =
    let a = other_than x 13 first refl in
    let b = other_than x 32 first refl in
    let c = other_than x 47 first refl in
    let d = other_than y 13 second refl in
    let e = other_than y 32 second refl in
    let f = other_than y 47 second refl in
    rw (a, b, c, first, d, e, f, second) (ap (between (cond (has_slash slashes) write (part_takes write (byte_of x y)))
    (cond (has_slash slashes) (part_takes read (byte_of x y)) read) slashes) (or-false (bad || false) ∙ or-false bad))

-- pairs of digits and spaces change the part that the line is made of, and nothing else
taken : (make : Collected → OpenLine) → ((part : Collected) → line_takes (make part) 32 ≡ make part)
    → ((part : Collected) (x y : ℕ) → is_hex_digit x ≡ true → is_hex_digit y ≡ true
    → line_takes (line_takes (make part) x) y ≡ make (part_takes part (byte_of x y)))
    → (part : Collected) (bytes : List ℕ)
    → fold line_takes (make part) (pairs_front bytes) ≡ make (fold part_takes part (paired_bytes bytes))
taken make space pair part [] = refl
taken make space pair part (x ∷ []) = by (is_space x) refl
  where
    by : (b : Bool) → is_space x ≡ b → fold line_takes (make part) (cond b (x ∷ []) []) ≡ make part
    by true is = ap (line_takes (make part)) (space_is x is) ∙ space part
    by false is = refl
taken make space pair part (x ∷ y ∷ rest) =
    by (is_space x) (is_hex_digit x && is_hex_digit y) refl refl (taken make space pair part (y ∷ rest))
    (taken make space pair (part_takes part (byte_of x y)) rest)
  where
    by : (b d : Bool) → is_space x ≡ b → (is_hex_digit x && is_hex_digit y) ≡ d
        → fold line_takes (make part) (pairs_front (y ∷ rest)) ≡ make (fold part_takes part (paired_bytes (y ∷ rest)))
        → fold line_takes (make (part_takes part (byte_of x y))) (pairs_front rest)
        ≡ make (fold part_takes (part_takes part (byte_of x y)) (paired_bytes rest))
        → fold line_takes (make part) (cond b (x ∷ pairs_front (y ∷ rest)) (cond d (x ∷ y ∷ pairs_front rest) []))
        ≡ make (fold part_takes part (cond b (paired_bytes (y ∷ rest)) (cond d (byte_of x y ∷ paired_bytes rest) [])))
    by true d is hex one two =
        ap (λ l. fold line_takes l (pairs_front (y ∷ rest))) (ap (line_takes (make part)) (space_is x is) ∙ space part) ∙ one
    by false true is hex one two =
        let (first, second) = and_parts _ _ hex in
        ap (λ l. fold line_takes l (pairs_front rest)) (pair part x y first second) ∙ two
    by false false is hex one two = refl

-- the part that goes on is the one that changes
wrote : (write read : Collected) (bad : Bool) (bytes : List ℕ)
    → fold line_takes (between write read slash.None bad) (pairs_front bytes)
    ≡ between (fold part_takes write (paired_bytes bytes)) read slash.None bad
wrote write read bad bytes =
    taken (λ part. between part read slash.None bad) (λ part. space_takes part read slash.None bad)
    (λ part x y. pair_takes part read slash.None bad x y) write bytes

-- the pairs of the read part
was_read : (write read : Collected) (slashes : Slashes) (bad : Bool) → has_slash slashes ≡ true → (bytes : List ℕ)
    → fold line_takes (between write read slashes bad) (pairs_front bytes)
    ≡ between write (fold part_takes read (paired_bytes bytes)) slashes bad
was_read write read slashes bad some bytes =
    taken (λ part. between write part slashes bad) (λ part. space_takes write part slashes bad)
    (λ part x y first second. pair_takes write part slashes bad x y first second ∙ rw some refl) read bytes

-- ---- the bytes of the pairs

-- what stands first and what is left are the whole
front_split : (bytes : List ℕ) → bytes ≡ pairs_front bytes ++ behind_pairs bytes
front_split [] = refl
front_split (x ∷ []) = by (is_space x)
  where
    by : (b : Bool) → x ∷ [] ≡ cond b (x ∷ []) [] ++ cond b [] (x ∷ [])
    by true = refl
    by false = refl
front_split (x ∷ y ∷ rest) = by (is_space x) (is_hex_digit x && is_hex_digit y) (front_split (y ∷ rest)) (front_split rest)
  where
    by : (b d : Bool) → y ∷ rest ≡ pairs_front (y ∷ rest) ++ behind_pairs (y ∷ rest) → rest ≡ pairs_front rest ++ behind_pairs rest
        → x ∷ y ∷ rest ≡ cond b (x ∷ pairs_front (y ∷ rest)) (cond d (x ∷ y ∷ pairs_front rest) [])
        ++ cond b (behind_pairs (y ∷ rest)) (cond d (behind_pairs rest) (x ∷ y ∷ rest))
    by true d one two = ap (λ l. x ∷ l) one
    by false true one two = ap (λ l. x ∷ y ∷ l) two
    by false false one two = refl

-- no line feed stands among the pairs
front_plain : (bytes : List ℕ) → list_any is_line_feed (pairs_front bytes) ≡ false
front_plain [] = refl
front_plain (x ∷ []) = by (is_space x) refl
  where
    by : (b : Bool) → is_space x ≡ b → list_any is_line_feed (cond b (x ∷ []) []) ≡ false
    by true is = ap (λ n. eqb n 10 || false) (space_is x is)
    by false is = refl
front_plain (x ∷ y ∷ rest) =
    by (is_space x) (is_hex_digit x && is_hex_digit y) refl refl (front_plain (y ∷ rest)) (front_plain rest)
  where
    by : (b d : Bool) → is_space x ≡ b → (is_hex_digit x && is_hex_digit y) ≡ d
        → list_any is_line_feed (pairs_front (y ∷ rest)) ≡ false → list_any is_line_feed (pairs_front rest) ≡ false
        → list_any is_line_feed (cond b (x ∷ pairs_front (y ∷ rest)) (cond d (x ∷ y ∷ pairs_front rest) [])) ≡ false
    by true d is hex one two = ap (λ n. eqb n 10 || list_any is_line_feed (pairs_front (y ∷ rest))) (space_is x is) ∙ one
    by false true is hex one two =
        let (first, second) = and_parts _ _ hex in
        rw (other_than x 10 first refl, other_than y 10 second refl) two
    by false false is hex one two = refl

-- ---- a line that takes pairs

-- as the first byte of a line a digit makes a packet of it
packet_first : (line : OpenLine) (x : ℕ) → line.is_returned ≡ false → kind_takes line.kind x ≡ Packet → is_hex_digit x ≡ true
    → line_takes line x ≡ line_takes (record line { kind = Packet }) x
unfolding line_takes plain_takes
packet_first line x open' is first =
    let a = other_than x 13 first refl in
    let b = other_than x 32 first refl in
    let c = other_than x 47 first refl in
    rw (open', a, b, c, is) refl

-- a pair that comes first makes a packet of the line
packet_pair : (line : OpenLine) (bytes : List ℕ) → line.is_returned ≡ false
    → ((x : ℕ) → is_hex_digit x ≡ true → kind_takes line.kind x ≡ Packet) → begins_with_pair bytes ≡ true
    → fold line_takes line (pairs_front bytes) ≡ fold line_takes (record line { kind = Packet }) (pairs_front bytes)
packet_pair line [] open' kind pair = absurd (cc)
packet_pair line (x ∷ []) open' kind pair = absurd (cc)
packet_pair line (x ∷ y ∷ rest) open' kind pair =
    let both : (is_hex_digit x && is_hex_digit y) ≡ true = pair in
    let (first, second) = and_parts _ _ both in
    let front : pairs_front (x ∷ y ∷ rest) ≡ x ∷ y ∷ pairs_front rest = rw (other_than x 32 first refl, both) refl in
    ap (fold line_takes line) front
    ∙ ap (λ l. fold line_takes l (y ∷ pairs_front rest)) (packet_first line x open' (kind x first) first)
    ∙ ap (fold line_takes (record line { kind = Packet })) (sym front)

-- a line that takes pairs is from then on as if it had been a packet's all along
as_packet : (line : OpenLine) (bytes : List ℕ) → line.is_returned ≡ false → takes_pairs line.kind bytes ≡ true
    → fold line_takes line (pairs_front bytes) ≡ fold line_takes (record line { kind = Packet }) (pairs_front bytes)
as_packet line bytes open' takes = by line.kind refl
  where
    by : (kind : LineKind) → line.kind ≡ kind
        → fold line_takes line (pairs_front bytes) ≡ fold line_takes (record line { kind = Packet }) (pairs_front bytes)
    by Empty is =
        packet_pair line bytes open' (λ x first. ap (λ k. kind_takes k x) is
        ∙ rw (other_than x 35 first refl, other_than x 32 first refl) refl)
        (sym (ap (λ k. takes_pairs k bytes) is) ∙ takes)
    by Blank is =
        packet_pair line bytes open' (λ x first. ap (λ k. kind_takes k x) is ∙ rw (other_than x 32 first refl) refl)
        (sym (ap (λ k. takes_pairs k bytes) is) ∙ takes)
    by Comment is = let wrong : false ≡ true = sym (ap (λ k. takes_pairs k bytes) is) ∙ takes in absurd (cc)
    by Packet is = ap (λ k. fold line_takes (record line { kind = k }) (pairs_front bytes)) is

-- no digit waits
digit_is : (digit : Option ℕ) → is_some digit ≡ false → digit ≡ None
digit_is None is = refl
digit_is (Some digit) is = absurd (cc)

-- a line where nothing is held back, and no digit waits
pub record IsBetween (line : OpenLine) (bytes : List ℕ) : Type 0 where
  pub unreturned : line.is_returned ≡ false
  pub undigited : is_some line.digit ≡ false
  pub takes : takes_pairs line.kind bytes ≡ true

-- such a line in the form that the pairs are taken in
between_is : (line : OpenLine) (bytes : List ℕ) → IsBetween line bytes
    → record line { kind = Packet } ≡ between line.write line.read line.slashes line.is_bad
between_is line bytes is = λ i. record {
  kind = Packet;
  write = line.write;
  read = line.read;
  digit = digit_is line.digit is.undigited i;
  slashes = line.slashes;
  is_bad = line.is_bad;
  is_returned = is.unreturned i;
}

-- the write part took the pairs
pub passed_written : (old : OpenLine) (bytes rest : List ℕ) (new : OpenLine) → IsBetween old bytes → old.slashes ≡ slash.None
    → new ≡ record old { kind = Packet; write = fold part_takes old.write (paired_bytes bytes) } → rest ≡ behind_pairs bytes
    → Passes old bytes rest new
passed_written old bytes rest new is none takes left = record {
  front = pairs_front bytes;
  split = front_split bytes ∙ ap (λ l. pairs_front bytes ++ l) (sym left);
  plain = front_plain bytes;
  line =
      takes
      ∙ sym (as_packet old bytes is.unreturned is.takes ∙ ap (λ l. fold line_takes l (pairs_front bytes)) (between_is old bytes is)
      ∙ ap (λ s. fold line_takes (between old.write old.read s old.is_bad) (pairs_front bytes)) none
      ∙ wrote old.write old.read old.is_bad bytes
      ∙ ap (λ s. between (fold part_takes old.write (paired_bytes bytes)) old.read s old.is_bad) (sym none)
      ∙ (λ i. record {
        kind = Packet;
        write = fold part_takes old.write (paired_bytes bytes);
        read = old.read;
        digit = sym (digit_is old.digit is.undigited) i;
        slashes = old.slashes;
        is_bad = old.is_bad;
        is_returned = sym is.unreturned i;
      }));
}

-- the read part took the pairs
pub passed_read : (old : OpenLine) (bytes rest : List ℕ) (new : OpenLine) → IsBetween old bytes → has_slash old.slashes ≡ true
    → new ≡ record old { kind = Packet; read = fold part_takes old.read (paired_bytes bytes) } → rest ≡ behind_pairs bytes
    → Passes old bytes rest new
passed_read old bytes rest new is some takes left = record {
  front = pairs_front bytes;
  split = front_split bytes ∙ ap (λ l. pairs_front bytes ++ l) (sym left);
  plain = front_plain bytes;
  line =
      takes
      ∙ sym (as_packet old bytes is.unreturned is.takes ∙ ap (λ l. fold line_takes l (pairs_front bytes)) (between_is old bytes is)
      ∙ was_read old.write old.read old.slashes old.is_bad some bytes
      ∙ (λ i. record {
        kind = Packet;
        write = old.write;
        read = fold part_takes old.read (paired_bytes bytes);
        digit = sym (digit_is old.digit is.undigited) i;
        slashes = old.slashes;
        is_bad = old.is_bad;
        is_returned = sym is.unreturned i;
      }));
}

-- ---- bytes one after another

-- no byte
pub passes_none : (line : OpenLine) (bytes : List ℕ) → Passes line bytes bytes line
passes_none line bytes = record { front = []; split = refl; plain = refl; line = refl }

-- one more, which is no line feed
pub passes_one : {old mid : OpenLine} {bytes : List ℕ} → (rest : List ℕ) (new : OpenLine) → Passes old bytes rest mid → 1 ≤ length rest
    → (get_or rest 0 0 ≡ 10 → ⊥) → new ≡ line_takes mid (get_or rest 0 0) → Passes old bytes (take (length rest - 1) (drop 1 rest)) new
passes_one {old = old} {mid = mid} {bytes = bytes} [] new passes some other is = absurd (omega arith)
passes_one {old = old} {mid = mid} {bytes = bytes} (x ∷ xs) new passes some other is =
    let one_less : length (x ∷ xs) - 1 ≡ length xs = omega arith in
    let left : take (length (x ∷ xs) - 1) xs ≡ xs = ap (λ n. take n xs) one_less ∙ take_all (length xs) xs (omega arith) in
    record {
      front = passes.front ++ x ∷ [];
      split = passes.split ∙ sym (append_assoc passes.front (x ∷ []) xs) ∙ ap (λ l. (passes.front ++ x ∷ []) ++ l) (sym left);
      plain = list_any-append is_line_feed passes.front (x ∷ []) ∙ rw (passes.plain, ne_eqb x 10 other) refl;
      line = is ∙ ap (λ l. line_takes l x) passes.line ∙ sym (fold-append line_takes old passes.front (x ∷ []));
    }

-- more at once
pub passes_more : (old : OpenLine) (bytes mid_rest rest : List ℕ) (mid new : OpenLine) → Passes old bytes mid_rest mid
    → Passes mid mid_rest rest new → Passes old bytes rest new
passes_more old bytes mid_rest rest mid new one two = record {
  front = one.front ++ two.front;
  split = one.split ∙ ap (λ l. one.front ++ l) two.split ∙ sym (append_assoc one.front two.front rest);
  plain = list_any-append is_line_feed one.front two.front ∙ rw (one.plain, two.plain) refl;
  line = two.line ∙ ap (λ l. fold line_takes l two.front) one.line ∙ sym (fold-append line_takes old one.front two.front);
}

-- Four bytes more of a part.

-- the first of the bytes that there is room for
abbrev first_bytes : Bool → ℕ → List ℕ → Collected
first_bytes is_long n xs = record { bytes = take n xs; is_long = is_long }

-- one byte more, where there is room
one_taken : (is_long : Bool) (xs : List ℕ) (n m byte : ℕ) → m ≡ n + 1 → n < length xs → length xs ≡ max_part
    → part_takes (first_bytes is_long n xs) byte ≡ first_bytes is_long m (set xs n byte)
unfolding part_takes
one_taken is_long xs n m byte next room full =
    let short : length (take n xs) ≡ n = omega (arith, length-take n xs) in
    let within : ltb (length (take n xs)) max_part ≡ true = grind (arith, nat_tests) in
    rw within (λ i. record { bytes = (sym (ap (λ k. take k (set xs n byte)) next ∙ take_more_set xs n byte room)) i; is_long = is_long })

-- four bytes more, where there is room
pub four_taken : (is_long : Bool) (xs : List ℕ) (n m a b c d : ℕ) → m ≡ n + 4 → m ≤ length xs → length xs ≡ max_part
    → part_takes (part_takes (part_takes (part_takes (first_bytes is_long n xs) a) b) c) d
    ≡ first_bytes is_long m (set (set (set (set xs n a) (n + 1) b) (n + 2) c) (n + 3) d)
four_taken is_long xs n m a b c d all room full =
    let one = set xs n a in
    let two = set one (n + 1) b in
    let three = set two (n + 2) c in
    let i : length one ≡ length xs = length-set xs n a in
    let j : length two ≡ length xs = length-set one (n + 1) b ∙ i in
    let k : length three ≡ length xs = length-set two (n + 2) c ∙ j in
    ap (λ p. part_takes (part_takes (part_takes p b) c) d) (one_taken is_long xs n (n + 1) a refl (omega arith) full)
    ∙ ap (λ p. part_takes (part_takes p c) d) (one_taken is_long one (n + 1) (n + 2) b (omega arith) (omega arith) (i ∙ full))
    ∙ ap (λ p. part_takes p d) (one_taken is_long two (n + 2) (n + 3) c (omega arith) (omega arith) (j ∙ full))
    ∙ one_taken is_long three (n + 3) m d (omega arith) (omega arith) (k ∙ full)

-- A decoder that is called again and again.

-- the first line is a prefix
first_front : (bytes : List ℕ) → (rest : List ℕ) × (bytes ≡ first_line bytes ++ rest)
first_front [] = ([], refl)
first_front (x ∷ xs) = by (is_line_feed x) (first_front xs)
  where
    by : (c : Bool) → (rest : List ℕ) × (xs ≡ first_line xs ++ rest)
        → (rest : List ℕ) × (x ∷ xs ≡ cond c (x ∷ []) (x ∷ first_line xs) ++ rest)
    by true tail = (xs, refl)
    by false tail = (tail.0, ap (λ l. x ∷ l) tail.1)

-- what a call takes is a prefix of its piece
pub taken_front : (old : Holding) (piece : List ℕ) → old.intake ≡ Open → (rest : List ℕ) × (piece ≡ taken_from_piece old piece ++ rest)
taken_front old piece open' =
    let room = take (max_text - old.kept.taken) piece in
    let left = drop (max_text - old.kept.taken) piece in
    let front = first_front room in
    let taken : taken_from_piece old piece ≡ first_line room = ap (λ s. taken_by_intake s old.kept piece) open' in (
      front.0 ++ left,
      sym (take-append-drop (max_text - old.kept.taken) piece) ∙ ap (λ l. l ++ left) front.1
          ∙ append_assoc (first_line room) front.0 left ∙ ap (λ l. l ++ (front.0 ++ left)) (sym taken),
    )

-- a prefix is what stands before its length
pub front_taken : (front all rest : List ℕ) (n : ℕ) → all ≡ front ++ rest → n ≡ length front → take n all ≡ front
front_taken front all rest n whole count = ap (λ k. take k all) count ∙ ap (take (length front)) whole ∙ take-append_seam front rest

-- what a decoder holds that took these bytes and takes more
pub record Took (bytes : List ℕ) (holding : Holding) : Type 0 where
  pub kept : holding.kept ≡ kept_of_bytes bytes
  pub intake : holding.intake ≡ Open

-- one call
pub record Takes (bytes : List ℕ) (call : Call) (new : Holding) : Type 0 where
  pub took : Took (bytes ++ taken_in call) new
  pub lines : said (bytes ++ taken_in call) ≡ said bytes ++ some_told new.shown

-- what one call leaves
takes : (bytes : List ℕ) (old new : Holding) (call : Call) → Took bytes old → Feeds old call.piece call.fed new → Takes bytes call new
takes bytes old new call took feeds =
    let (rest, whole) = taken_front old call.piece took.intake in
    let same : taken_in call ≡ taken_from_piece old call.piece = front_taken
    (taken_from_piece old call.piece) call.piece rest call.fed.taken whole feeds.taken in
    record {
      took = record {
        kept =
            feeds.kept ∙ ap (λ k. kept_with_bytes k (taken_from_piece old call.piece)) took.kept
            ∙ sym (now-append bytes (taken_from_piece old call.piece))
            ∙ ap (λ l. kept_of_bytes (bytes ++ l)) (sym same);
        intake = feeds.intake ∙ took.intake;
      };
      lines =
          said-append bytes (taken_in call) ∙ ap (λ l. said bytes ++ told (kept_of_bytes bytes) l) same
          ∙ ap (λ k. said bytes ++ told k (taken_from_piece old call.piece)) (sym took.kept) ∙ ap (λ l. said bytes ++ l) (sym feeds.shown);
    }

-- calls one after another
pub record TakesAll (bytes : List ℕ) (calls : List Call) (lines : List ToldLine) (new : Holding) : Type 0 where
  pub took : Took (bytes ++ flat_map taken_in calls) new
  pub said_is : said (bytes ++ flat_map taken_in calls) ≡ said bytes ++ lines

-- what calls leave
takes_all : (bytes : List ℕ) (old new : Holding) (calls : List Call) (lines : List ToldLine) → Took bytes old → Calls old calls lines new
    → TakesAll bytes calls lines new
takes_all bytes old new [] lines took run =
    let P : Holding → Type 0 = λ h. Took bytes h in
    let Q : List ℕ → Type 0 = λ l. Took l new in
    record {
      took = subst Q (sym (append-nil bytes)) (subst P (sym run.1) took);
      said_is = ap said (append-nil bytes) ∙ sym (append-nil (said bytes)) ∙ ap (λ l. said bytes ++ l) (sym run.0);
    }
takes_all bytes old new (call ∷ calls) lines took (mid, rest, feeds, split, run) =
    let one = takes bytes old mid call took feeds in
    let others = takes_all (bytes ++ taken_in call) mid new calls rest one.took run in
    let joined = append_assoc bytes (taken_in call) (flat_map taken_in calls) in
    let Q : List ℕ → Type 0 = λ l. Took l new in
    record {
      took = subst Q joined others.took;
      said_is =
          ap said (sym joined) ∙ others.said_is ∙ ap (λ l. l ++ rest) one.lines ∙ append_assoc (said bytes) (some_told mid.shown) rest
          ∙ ap (λ l. said bytes ++ l) (sym split);
    }

-- calls take the first bytes of a piece, and leave the rest
taken_of_piece : (piece left : List ℕ) (calls : List Call) → TakesFront piece calls left → piece ≡ flat_map taken_in calls ++ left
taken_of_piece piece left [] is = is
taken_of_piece piece left (call ∷ calls) (same, rest) =
    let n = call.fed.taken in
    sym (take-append-drop n piece) ∙ ap (λ l. take n piece ++ l) (taken_of_piece (drop n piece) left calls rest)
    ∙ sym (append_assoc (take n piece) (flat_map taken_in calls) left)
    ∙ ap (λ p. (take n p ++ flat_map taken_in calls) ++ left) (sym same)

-- calls that take a piece whole take the piece
whole : (piece : List ℕ) (calls : List Call) → TakesWhole piece calls → flat_map taken_in calls ≡ piece
whole piece calls taken = sym (taken_of_piece piece [] calls taken ∙ append-nil (flat_map taken_in calls))

-- the end of all bytes
pub record Ends (bytes : List ℕ) (new : Holding) : Type 0 where
  pub lines : trace_of bytes ≡ said bytes ++ some_told new.shown
  pub counts : new.kept.counts ≡ counts_of (trace_of bytes)

-- the end counts what it tells
counts_kept : (bytes : List ℕ) → (kept_at_end (kept_of_bytes bytes)).counts
    ≡ counts_with (kept_of_bytes bytes).counts (told_at_end (kept_of_bytes bytes))
counts_kept bytes = by (is_begun (kept_of_bytes bytes).line)
  where
    by : (c : Bool) → (cond c (line_ended (kept_of_bytes bytes)) (kept_of_bytes bytes)).counts
        ≡ counts_with (kept_of_bytes bytes).counts (cond c (line_told
        (kept_of_bytes bytes)) None)
    by true = refl
    by false = refl

-- what is counted of the bytes so far
counts_now : (bytes : List ℕ) → (kept_of_bytes bytes).counts ≡ counts_of (said bytes)
unfolding kept_of_bytes
counts_now bytes = refl

-- the counts at the end are those of the whole trace
pub counts-end : (bytes : List ℕ) → (kept_at_end (kept_of_bytes bytes)).counts ≡ counts_of (trace_of bytes)
counts-end bytes =
    counts_kept bytes ∙ ap (λ c. counts_with c (told_at_end (kept_of_bytes bytes))) (counts_now bytes) ∙ sym (counts-at_end bytes)

-- what the end leaves
ends : (bytes : List ℕ) (old new : Holding) (ended : Bool) → Took bytes old → Finishes old ended new → Ends bytes new
ends bytes old new ended took finishes =
    let shown : new.shown ≡ told_at_end (kept_of_bytes bytes) =
    finishes.shown ∙ ap (λ s. told_by_intake s old.kept) took.intake ∙ ap told_at_end took.kept in
    let kept : new.kept ≡ kept_at_end (kept_of_bytes bytes) =
    finishes.kept ∙ ap (λ s. kept_by_intake s old.kept) took.intake ∙ ap kept_at_end took.kept in
    record {
      lines = trace_of-end bytes ∙ ap (λ o. said bytes ++ some_told o) (sym shown);
      counts =
          ap (λ k. k.counts) kept ∙ counts-end bytes;
    }

-- pieces one after another, and the end
pub record EndsAll (bytes : List ℕ) (pieces : List (List ℕ)) (lines : List ToldLine) (new : Holding) : Type 0 where
  pub lines_are : trace_of (bytes ++ concat pieces) ≡ said bytes ++ lines
  pub counts : new.kept.counts ≡ counts_of (trace_of (bytes ++ concat pieces))

-- what all pieces and the end leave
ends_all : (bytes : List ℕ) (old new : Holding) (pieces : List (List ℕ)) (lines : List ToldLine) → Took bytes old
    → Decodes old pieces lines new
    → EndsAll bytes pieces lines new
ends_all bytes old new [] lines took (ended, finishes, shown) =
    let end = ends bytes old new ended took finishes in
    record {
      lines_are = ap trace_of (append-nil bytes) ∙ end.lines ∙ ap (λ l. said bytes ++ l) (sym shown);
      counts = end.counts ∙ ap (λ l. counts_of (trace_of l)) (sym (append-nil bytes));
    }
ends_all bytes old new (piece ∷ pieces) lines took (calls, mid, front, rest, run, taken, split, decodes) =
    let all = takes_all bytes old mid calls front took run in
    let same : bytes ++ flat_map taken_in calls ≡ bytes ++ piece = ap (λ l. bytes ++ l) (whole piece calls taken) in
    let P : List ℕ → Type 0 = λ l. Took l mid in
    let others = ends_all (bytes ++ piece) mid new pieces rest (subst P same all.took) decodes in
    let joined = append_assoc bytes piece (concat pieces) in
    record {
      lines_are =
          ap trace_of (sym joined) ∙ others.lines_are ∙ ap (λ l. said l ++ rest) (sym same) ∙ ap (λ l. l ++ rest) all.said_is
          ∙ append_assoc (said bytes) front rest ∙ ap (λ l. said bytes ++ l) (sym split);
      counts = others.counts ∙ ap (λ l. counts_of (trace_of l)) joined;
    }

-- pieces up to a call that is refused: what was taken of them
pub record StopsAt (bytes : List ℕ) (pieces : List (List ℕ)) (lines : List ToldLine) : Type 0 where
  pub taken : List ℕ
  pub more : List ℕ
  pub split : bytes ++ concat pieces ≡ taken ++ more
  pub lines_are : said taken ≡ said bytes ++ lines

-- what a refused call leaves
stops : (bytes : List ℕ) (old new : Holding) (pieces : List (List ℕ)) (lines : List ToldLine) → Took bytes old → Stops old pieces lines new
    → StopsAt bytes pieces lines
stops bytes old new [] lines took (none, fault, fails) =
    record { taken = bytes; more = []; split = refl; lines_are = sym (ap (λ l. said bytes ++ l) none ∙ append-nil (said bytes)) }
stops bytes old new (piece ∷ pieces) lines took (calls, left, mid, front, rest, run, taken, split, inl (none, fault, fails)) =
    let all = takes_all bytes old mid calls front took run in
    let n = flat_map taken_in calls in
    record {
      taken = bytes ++ n;
      more = left ++ concat pieces;
      split =
          ap (λ p. bytes ++ (p ++ concat pieces)) (taken_of_piece piece left calls taken)
          ∙ ap (λ l. bytes ++ l) (append_assoc n left (concat pieces)) ∙ sym (append_assoc bytes n (left ++ concat pieces));
      lines_are = all.said_is ∙ ap (λ l. said bytes ++ l) (sym (split ∙ ap (λ l. front ++ l) none ∙ append-nil front));
    }
stops bytes old new (piece ∷ pieces) lines took (calls, left, mid, front, rest, run, taken, split, inr (none, later)) =
    let all = takes_all bytes old mid calls front took run in
    let P : List ℕ → Type 0 = λ l. TakesFront piece calls l in
    let same : bytes ++ flat_map taken_in calls ≡ bytes ++ piece = ap (λ l. bytes ++ l) (whole piece calls (subst P none taken)) in
    let Q : List ℕ → Type 0 = λ l. Took l mid in
    let others = stops (bytes ++ piece) mid new pieces rest (subst Q same all.took) later in
    record {
      taken = others.taken;
      more = others.more;
      split = sym (append_assoc bytes piece (concat pieces)) ∙ others.split;
      lines_are =
          others.lines_are ∙ ap (λ l. said l ++ rest) (sym same) ∙ ap (λ l. l ++ rest) all.said_is
          ∙ append_assoc (said bytes) front rest ∙ ap (λ l. said bytes ++ l) (sym split);
    }

-- ---- from a fresh decoder

-- no bytes say nothing
said_none : said [] ≡ []
unfolding said
said_none = refl

-- a fresh decoder took no byte
fresh : (old : Holding) → IsFresh old → Took [] old
fresh old is = record { kept = is.kept; intake = is.intake }

-- the lines shown are those of the pieces joined
pub decoded_lines : (old new : Holding) (pieces : List (List ℕ)) (lines : List ToldLine) → IsFresh old → Decodes old pieces lines new
    → lines ≡ trace_of (concat pieces)
decoded_lines old new pieces lines is decodes =
    sym ((ends_all [] old new pieces lines (fresh old is) decodes).lines_are ∙ ap (λ l. l ++ lines) said_none)

-- the counts are those of the lines of the pieces joined
pub decoded_counts : (old new : Holding) (pieces : List (List ℕ)) (lines : List ToldLine) → IsFresh old → Decodes old pieces lines new
    → new.kept.counts ≡ counts_of (trace_of (concat pieces))
decoded_counts old new pieces lines is decodes = (ends_all [] old new pieces lines (fresh old is) decodes).counts

-- the lines shown are those that ended in what was taken
pub called_lines : (old new : Holding) (calls : List Call) (lines : List ToldLine) → IsFresh old → Calls old calls lines new
    → lines ≡ said (flat_map taken_in calls)
called_lines old new calls lines is run =
    sym ((takes_all [] old new calls lines (fresh old is) run).said_is ∙ ap (λ l. l ++ lines) said_none)

-- what is kept is a look back over what was taken
pub called_kept : (old new : Holding) (calls : List Call) (lines : List ToldLine) → IsFresh old → Calls old calls lines new
    → new.kept ≡ kept_of_bytes (flat_map taken_in calls)
called_kept old new calls lines is run = (takes_all [] old new calls lines (fresh old is) run).took.kept

-- the lines that ended are the first ones of the whole
pub said_front : (bytes more : List ℕ) → (rest : List ToldLine) × (trace_of (bytes ++ more) ≡ said bytes ++ rest)
said_front bytes more =
    let later = told (kept_of_bytes bytes) more in
    let last = some_told (told_at_end (kept_of_bytes (bytes ++ more))) in
    (later ++ last, trace_of-end (bytes ++ more) ∙ ap (λ l. l ++ last) (said-append bytes more) ∙ append_assoc (said bytes) later last)

-- the lines shown up to a refused call are the first that the pieces have
pub stopped_lines : (old new : Holding) (pieces : List (List ℕ)) (lines : List ToldLine) → IsFresh old → Stops old pieces lines new
    → (rest : List ToldLine) × (trace_of (concat pieces) ≡ lines ++ rest)
stopped_lines old new pieces lines is run =
    let at = stops [] old new pieces lines (fresh old is) run in
    let (rest, front) = said_front at.taken at.more in
    let shown : said at.taken ≡ lines = at.lines_are ∙ ap (λ l. l ++ lines) said_none in
    (rest, ap trace_of at.split ∙ front ∙ ap (λ l. l ++ rest) shown)

-- ---- the total

-- one line more among those of a kind
count-cons : (p : ToldLine → Bool) (line : ToldLine) (lines : List ToldLine) → count_by p (line ∷ lines)
    ≡ cond (p line) 1 0 + count_by p lines
count-cons p line lines = sum_by-cons (λ x. cond (p x) 1 0) line lines

-- a line is of one kind
one_kind : (line : ToldLine) → cond (is_line_accepted line) 1 0 + cond (is_faulty line) 1 0 + cond (is_bad line) 1 0 ≡ 1
one_kind (number, Accepted addr message answer) = refl
one_kind (number, Faulty addr read fault) = refl
one_kind (number, BadSyntax) = refl
one_kind (number, BadHex) = refl

-- each line is counted once
pub total : (lines : List ToldLine) → lines_in (counts_of lines) ≡ length lines
unfolding counts_of
total [] = refl
total (line ∷ lines) =
    let rest = total lines in
    let accepted = count-cons is_line_accepted line lines in
    let faults = count-cons is_faulty line lines in
    let bad = count-cons is_bad line lines in
    let one = one_kind line in
    omega arith
