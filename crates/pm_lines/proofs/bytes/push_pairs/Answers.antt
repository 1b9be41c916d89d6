use Rattle.std.proofs.Common.{◌∙◌, ◌-◌, ◌<◌, ◌++◌, ◌∷◌, [], ap, arith, append_assoc, drop, length, length-append, refl, sym, take}
use Rattle.pm_lines.specs.Pairs.{paired_bytes}
use Rattle.pm_lines.specs.Lemmas.Paired.{pair_taken}
use Rattle.pm_lines.specs.Lemmas.Writing.{on_err}
use Rattle.pm_lines.proofs.bytes.push_pairs.Goals as goal

pub returns-in_err-push-in-len2-up-clause-some : goal.returns-in_err-push-in-len2-up-clause-some
returns-in_err-push-in-len2-up-clause-some c =
    let (paired, behind) =
    pair_taken c.pairs.rest.now _ c.in-Some-pair_of.byte c.in-len2-up.len_at_least refl (sym c.pair_of.ensures ∙ c.in-Some-pair_of.is) in
    let (more, kept) = c.pairs.invariant.kept in
    let before = c.args.bytes.now.items in
    let some : 0 < length (paired_bytes c.args.digits.now) =
    omega (
      arith,
      ap length c.pairs.invariant.all,
      ap length kept,
      ap length paired,
      length-append c.pairs.bytes.items (paired_bytes c.pairs.rest.now),
      length-append before (paired_bytes c.args.digits.now),
      length-append before more,
    ) in
    on_err c.from_residual-in_err-push-in-len2-up.result _ some

pub pairs-preserved-in_default-rest-2 : goal.pairs-preserved-in_default-rest-2
pairs-preserved-in_default-rest-2 c =
    let rest = c.pairs.rest.now in
    let left = take (length rest - 2) (drop 2 rest) in
    let byte = c.in-Some-pair_of.byte in
    let (paired, behind) = pair_taken rest left byte c.in-len2-up.len_at_least refl (sym c.pair_of.ensures ∙ c.in-Some-pair_of.is) in
    let (more, kept) = c.pairs.invariant.kept in
    let pushed = c.in_ok-push-in-len2-up.ensures.items in
    let bytes = c.pairs.bytes.items in
    record {
      all = rw pushed (append_assoc bytes (byte ∷ []) (paired_bytes left) ∙ ap (λ p. bytes ++ p) (sym paired) ∙ c.pairs.invariant.all);
      behind = sym behind ∙ c.pairs.invariant.behind;
      kept = (more ++ byte ∷ [], pushed ∙ ap (λ t. t ++ byte ∷ []) kept ∙ append_assoc c.args.bytes.now.items more (byte ∷ []));
    }
