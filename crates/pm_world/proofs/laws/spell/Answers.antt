use Rattle.std.proofs.Common.{arith, lit<, ◌≡◌, inl, inr, ℕ, ◌<◌, ◌^◌, List, get_or, length, map, sym, subst, below_more}
use Rattle.std.proofs.Math.ListN.{get_or-map}
use Rattle.std.proofs.lemmas.Bool.{cases_lt}
use Rattle.std.proofs.lemmas.List.{get_or_past, length-map}
use Rattle.pm_table.specs.declared.reg.Reg.{Reg}
use Rattle.pm_device.specs.declared.output_start.OutputStart.{OutputStart}
use Rattle.pm_device.specs.Start.{no_start, register_start}
use Rattle.pm_world.proofs.laws.spell.Goals as goal

-- the word of a place, where that of its start has two bytes
none : (register : Reg) → register_start register no_start ≡ 0
none register = grind arith

-- the list of a register's start words has one of two bytes at a place where the output's start has one
word-short : (register : Reg) (starts : List OutputStart) (place : ℕ) → register_start register (get_or starts place no_start) < 2 ^ 16 →
    get_or (map (register_start register) starts) place 0 < 2 ^ 16
word-short register starts place short =
    subst (λ d. get_or (map (register_start register) starts) place d < 2 ^ 16) (none register)
    (subst (λ n. n < 2 ^ 16) (sym (get_or-map (register_start register) starts place no_start)) short)

pub loop-start-preserved : goal.loop-start-preserved
loop-start-preserved c = record {
  modes = below_more _ _ c.loop-start.invariant.modes
      (subst (λ n. n < 2 ^ 8) (sym (get_or-map (λ (start : OutputStart). start.mode) c.args.c.starts c.loop-start.start-index no_start))
      c.spell_byte.ensures);
  words = λ register. below_more _ _ (c.loop-start.invariant.words register)
      (word-short register c.args.c.starts c.loop-start.start-index (c.spell_words.ensures register));
}

pub returns-clause-short : goal.returns-clause-short
returns-clause-short c = λ output register below. elim (cases_lt output c.loop-start.start-index) [
  | inl inside ↦ c.loop-start.invariant.words register output inside
  | inr past ↦
      let long : length (map (register_start register) c.args.c.starts) ≡ length c.args.c.starts =
      length-map c.args.c.starts (register_start register) in
      let past_all : get_or (map (register_start register) c.args.c.starts) output 0 ≡ 0 =
      get_or_past (map (register_start register) c.args.c.starts) output 0 (omega (arith, c.loop-start-test.false)) in
      subst (λ n. n < 2 ^ 16) (sym past_all) (lit< tt)
]
