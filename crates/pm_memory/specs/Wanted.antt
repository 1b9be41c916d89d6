-- The words that a plan wants, as plain numbers, and what they mean. Any number but 0 says that a word is wanted, so
-- that no wish is lost. This project's own choice.
use Rattle.std.specs.Prelude.{ℕ, ◌==◌, if◌then◌else◌, Option, Some, None}
use Rattle.pm_rail.specs.declared.wanted.Wanted.{Wanted}
use Rattle.pm_rail.specs.Registers.{Wants, wants_of}
use Rattle.pm_memory.specs.declared.wanted_image.WantedImage.{WantedImage}
use Rattle.pm_memory.specs.declared.wanted_image.WishImage.{WishImage}

-- the word that is wanted of a register
abbrev pub wish_meant : WishImage → Option ℕ
wish_meant i = if i.has == 0 then None else Some i.word

-- those of each register of an output
abbrev pub wanted_meant : WantedImage → Wanted
wanted_meant i = record {
  command = wish_meant i.command;
  max = wish_meant i.max;
  margin_high = wish_meant i.margin_high;
  margin_low = wish_meant i.margin_low;
  min = wish_meant i.min;
}

abbrev pub wants_meant : WantedImage → Wants
wants_meant i = wants_of (wanted_meant i)

-- how they are written
abbrev pub wish_image : Option ℕ → WishImage
wish_image None = record { has = 0; word = 0 }
wish_image (Some word) = record { has = 1; word = word }

abbrev pub wanted_image : Wanted → WantedImage
wanted_image w = record {
  command = wish_image w.command;
  max = wish_image w.max;
  margin_high = wish_image w.margin_high;
  margin_low = wish_image w.margin_low;
  min = wish_image w.min;
}
